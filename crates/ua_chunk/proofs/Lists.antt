-- Lists after one more element, and filters.
use Rattle.std.proofs.Common.{◌≡◌, ℕ, ◌+◌, Bool, true, false, cond, ◌||◌, List, [], ◌∷◌, ◌++◌, refl, sym, ◌∙◌, ap, map, length, append-nil, length-append}
use Rattle.std.proofs.lemmas.Bool.{or_parts, cond-false}
use Rattle.std.proofs.lemmas.List.Folds.{list_any-append, concat-append}
use Rattle.std.specs.List.{concat, list_any, filter}
use Rattle.ua_chunk.specs.Gathered.{after_last}
use Rattle.ua_chunk.specs.Pending.{without}

-- one of two holds, and not the first
pub left_any : (a b : Bool) → (a || b) ≡ true → a ≡ false → b ≡ true
left_any true b h e = absurd cc
left_any false b h e = h

pub any_push : {X : Type 0} (p : X → Bool) (xs : List X) (y : X) → list_any p (xs ++ y ∷ []) ≡ (list_any p xs || (p y || false))
any_push p xs y = list_any-append p xs (y ∷ [])

filter_push_step : {X : Type 0} (b c : Bool) (x y : X) (f g : List X) → g ≡ f ++ cond c (y ∷ []) [] → cond b (x ∷ g) g ≡ cond b (x ∷ f) f ++ cond c (y ∷ []) []
filter_push_step true c x y f g e = ap (λ t. x ∷ t) e
filter_push_step false c x y f g e = e

pub filter_push : {X : Type 0} (p : X → Bool) (xs : List X) (y : X) → filter p (xs ++ y ∷ []) ≡ filter p xs ++ cond (p y) (y ∷ []) []
filter_push p [] y = refl
filter_push p (x ∷ xs) y = filter_push_step (p x) (p y) x y (filter p xs) (filter p (xs ++ y ∷ [])) (filter_push p xs y)

pub filter_append : {X : Type 0} (p : X → Bool) (xs ys : List X) → filter p (xs ++ ys) ≡ filter p xs ++ filter p ys
filter_append p [] ys = refl
filter_append p (x ∷ xs) ys = filter_one (p x) x (filter p xs) (filter p ys) (filter p (xs ++ ys)) (filter_append p xs ys)
  where
    filter_one : {X : Type 0} (b : Bool) (x : X) (f g h : List X) → h ≡ f ++ g → cond b (x ∷ h) h ≡ cond b (x ∷ f) f ++ g
    filter_one true x f g h e = ap (λ t. x ∷ t) e
    filter_one false x f g h e = e

after_one : {X : Type 0} (b : Bool) (y : X) → cond (b || false) [] (y ∷ []) ≡ cond b [] (y ∷ [])
after_one true y = refl
after_one false y = refl

after_push_step : {X : Type 0} (px any py : Bool) (x y : X) (xs al more : List X) → more ≡ cond py [] (al ++ y ∷ [])
    → cond (px || (any || (py || false))) more (x ∷ (xs ++ y ∷ [])) ≡ cond py [] (cond (px || any) al (x ∷ xs) ++ y ∷ [])
after_push_step true any py x y xs al more e = e
after_push_step false true py x y xs al more e = e
after_push_step false false true x y xs al more e = e
after_push_step false false false x y xs al more e = refl

pub after_last_push : {X : Type 0} (p : X → Bool) (xs : List X) (y : X) → after_last p (xs ++ y ∷ []) ≡ cond (p y) [] (after_last p xs ++ y ∷ [])
after_last_push p [] y = after_one (p y) y
after_last_push p (x ∷ xs) y =
    ap (λ t. cond (p x || t) (after_last p (xs ++ y ∷ [])) (x ∷ (xs ++ y ∷ []))) (any_push p xs y)
    ∙ after_push_step (p x) (list_any p xs) (p y) x y xs (after_last p xs) (after_last p (xs ++ y ∷ [])) (after_last_push p xs y)

pub without_none : {X : Type 0} (p : X → Bool) (xs : List X) → list_any p xs ≡ false → without p xs ≡ xs
without_none p [] h = refl
without_none p (x ∷ xs) h =
    let parts = or_parts (p x) (list_any p xs) h in
    cond-false (p x) xs (x ∷ without p xs) parts.0 ∙ ap (λ t. x ∷ t) (without_none p xs parts.1)

-- where nothing stands after the last that passes, but there are elements, one passes
pub ended : {X : Type 0} (p : X → Bool) (xs : List X) → after_last p xs ≡ [] → list_any p xs ≡ false → xs ≡ []
ended p [] e h = refl
ended p (x ∷ xs) e h = sym (cond-false (list_any p (x ∷ xs)) (after_last p xs) (x ∷ xs) h) ∙ e

some_step : {X : Type 0} (b any : Bool) (x : X) (f : List X) → (b || any) ≡ true → (any ≡ true → f ≡ [] → ⊥) → cond b (x ∷ f) f ≡ [] → ⊥
some_step true any x f h g e = absurd cc
some_step false any x f h g e = g h e

pub filter_some : {X : Type 0} (p : X → Bool) (xs : List X) → list_any p xs ≡ true → filter p xs ≡ [] → ⊥
filter_some p [] h e = absurd cc
filter_some p (x ∷ xs) h e = some_step (p x) (list_any p xs) x (filter p xs) h (filter_some p xs) e

-- ---- maps

pub map_push : {X Y : Type 0} (f : X → Y) (xs ys : List X) → map f (xs ++ ys) ≡ map f xs ++ map f ys
map_push f [] ys = refl
map_push f (x ∷ xs) ys = ap (λ t. f x ∷ t) (map_push f xs ys)

pub map_same : {X Y : Type 0} (p : X → Bool) (f g : X → Y) (xs : List X) → ((x : X) → p x ≡ false → f x ≡ g x) → list_any p xs ≡ false → map f xs ≡ map g xs
map_same p f g [] h e = refl
map_same p f g (x ∷ xs) h e =
    let parts = or_parts (p x) (list_any p xs) e in
    ap (λ y. y ∷ map f xs) (h x parts.0) ∙ ap (λ t. g x ∷ t) (map_same p f g xs h parts.1)

-- ---- parts

pub length_part : (parts : List (List ℕ)) (part : List ℕ) → length (concat (parts ++ part ∷ [])) ≡ length (concat parts) + length part
length_part parts part =
    ap length (concat-append parts (part ∷ []) ∙ ap (λ (t : List ℕ). concat parts ++ t) (append-nil part)) ∙ length-append (concat parts) part

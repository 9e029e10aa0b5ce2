-- Merged lists, seen by request ids.
use Rattle.std.proofs.Common.{◌≡◌, ℕ, Bool, true, false, cond, eqb, Some, None, List, [], ◌∷◌, ◌++◌, refl, ◌∙◌, ap, subst, map}
use Rattle.std.proofs.lemmas.Bool.{or_parts, or_from, and_parts, and_from, cond-true, cond-false, eqb-true, false_from_ne_true}
use Rattle.std.specs.List.{list_any, list_all, filter}
use Rattle.ua_chunk.specs.declared.chunk.Chunk.{Chunk}
use Rattle.ua_chunk.specs.Gathered.{is_of}
use Rattle.ua_chunk.specs.Merge.{Part, part_of, Sent, more_part, last_part, parts_of, sent_under, parts_under, IsMerge, Interleaves, Merges, HaveOwnIds}
use Rattle.ua_chunk.specs.Merge.Interleaves.{none, left, right}
use Rattle.ua_chunk.proofs.Lists.{filter_some}

-- the part has this request id
abbrev is_part_of : ℕ → Part → Bool
is_part_of id p = eqb p.request id

parts_filtered : (id : ℕ) (cs : List Chunk) → map part_of (filter (is_of id) cs) ≡ filter (is_part_of id) (map part_of cs)
parts_filtered id [] = refl
parts_filtered id (c ∷ cs) = filtered_one (eqb c.request id) c (filter (is_of id) cs) (filter (is_part_of id) (map part_of cs)) (parts_filtered id cs)
  where
    filtered_one : (b : Bool) (c : Chunk) (f : List Chunk) (g : List Part) → map part_of f ≡ g → map part_of (cond b (c ∷ f) f) ≡ cond b (part_of c ∷ g) g
    filtered_one true c f g e = ap (λ t. part_of c ∷ t) e
    filtered_one false c f g e = e

filter_left : {X : Type 0} (p : X → Bool) {xs ys zs : List X} → Interleaves xs ys zs → list_all p xs ≡ true → list_any p ys ≡ false → filter p zs ≡ xs
filter_left p none h e = refl
filter_left p (left {x = x} {xs = xs} {zs = zs} i) h e =
    let parts = and_parts (p x) (list_all p xs) h in
    cond-true (p x) (x ∷ filter p zs) (filter p zs) parts.0 ∙ ap (λ t. x ∷ t) (filter_left p i parts.1 e)
filter_left p (right {y = y} {ys = ys} {zs = zs} i) h e =
    let parts = or_parts (p y) (list_any p ys) e in
    cond-false (p y) (y ∷ filter p zs) (filter p zs) parts.0 ∙ filter_left p i h parts.1

right_step : {X : Type 0} (b : Bool) (y : X) (f g : List X) → f ≡ g → cond b (y ∷ f) f ≡ cond b (y ∷ g) g
right_step true y f g e = ap (λ t. y ∷ t) e
right_step false y f g e = e

filter_right : {X : Type 0} (p : X → Bool) {xs ys zs : List X} → Interleaves xs ys zs → list_any p xs ≡ false → filter p zs ≡ filter p ys
filter_right p none h = refl
filter_right p (left {x = x} {xs = xs} {zs = zs} i) h =
    let parts = or_parts (p x) (list_any p xs) h in
    cond-false (p x) (x ∷ filter p zs) (filter p zs) parts.0 ∙ filter_right p i parts.1
filter_right p (right {y = y} {ys = ys} {zs = zs} i) h = right_step (p y) y (filter p zs) (filter p ys) (filter_right p i h)

all_parts : (r id : ℕ) (ps : List (List ℕ)) (z : Part) → eqb r id ≡ true → eqb z.request id ≡ true → list_all (is_part_of id) (map (more_part r) ps ++ z ∷ [])
    ≡ true
all_parts r id [] z e f = and_from (eqb z.request id) true f refl
all_parts r id (p ∷ ps) z e f = and_from (eqb r id) (list_all (is_part_of id) (map (more_part r) ps ++ z ∷ [])) e (all_parts r id ps z e f)

no_parts : (r id : ℕ) (ps : List (List ℕ)) (z : Part) → eqb r id ≡ false → eqb z.request id ≡ false → list_any (is_part_of id) (map (more_part r) ps ++ z ∷ [])
    ≡ false
no_parts r id [] z e f = or_from (eqb z.request id) false f refl
no_parts r id (p ∷ ps) z e f = or_from (eqb r id) (list_any (is_part_of id) (map (more_part r) ps ++ z ∷ [])) e (no_parts r id ps z e f)

empty_any : {X : Type 0} (p : X → Bool) (xs : List X) → filter p xs ≡ [] → list_any p xs ≡ false
empty_any p xs e = false_from_ne_true (list_any p xs) (λ h. filter_some p xs h e)

one_message : (b : Bool) (id : ℕ) (m : Sent) (ms : List Sent) (ys zs : List Part) → eqb m.request id ≡ b → sent_under m.request ms ≡ None
    → filter (is_part_of id) ys ≡ parts_under (sent_under id ms) → Interleaves (parts_of m) ys zs
    → filter (is_part_of id) zs ≡ parts_under (cond b (Some m) (sent_under id ms))
one_message true id m ms ys zs e own rest i =
    filter_left (is_part_of id) i (all_parts m.request id m.pieces (last_part m) e e)
    (empty_any (is_part_of id) ys (rest ∙ ap parts_under (subst (λ (k : ℕ). sent_under k ms ≡ None) (eqb-true m.request id e) own)))
one_message false id m ms ys zs e own rest i =
    filter_right (is_part_of id) i (no_parts m.request id m.pieces (last_part m) e e) ∙ rest

merged_id : (id : ℕ) (ms : List Sent) (zs : List Part) → HaveOwnIds ms → Merges (map parts_of ms) zs
    → filter (is_part_of id) zs ≡ parts_under (sent_under id ms)
merged_id id [] zs own merge = ap (filter (is_part_of id)) merge
merged_id id (m ∷ ms) zs own merge = one_message (eqb m.request id) id m ms merge.0 zs refl own.0 (merged_id id ms merge.0 own.1 merge.1) merge.2

-- a merge of messages under ids of their own has the parts of each under its id
pub merge_by_id : (ms : List Sent) (cs : List Chunk) → HaveOwnIds ms → Merges (map parts_of ms) (map part_of cs) → IsMerge ms cs
merge_by_id ms cs own merge id = parts_filtered id cs ∙ merged_id id ms (map part_of cs) own merge

-- Facts of options and tests, and that the readers which formats are made of are exact.
use Rattle.std.specs.Prelude.{◌≡◌, ℕ, List, [], ◌∷◌, ◌++◌, Bool, true, false, ◌&&◌, cond, IsTrue, Option, Some, None}
use Rattle.std.proofs.Common.{refl, sym, ◌∙◌, ap, subst, append_assoc}
use Rattle.ua_wire.specs.Exact.{Begins, Exact, ◌>>=◌, Never, never_read, IsOnly, only_read, Follows}
use Rattle.ua_wire.specs.Exact.{then_read, Joined, pair_read, Image, image_read, Passing, such_read}

-- ---- options and tests

pub bind_some : {A B : Type 0} (r : Option A) (f : A → Option B) (y : B) → (r >>= f) ≡ Some y → (x : A) × (r ≡ Some x) × (f x ≡ Some y)
bind_some None f y e = absurd cc
bind_some (Some x) f y e = (x, refl, e)

pub some_is : {A : Type 0} (x y : A) → ◌≡◌ {A = Option A} (Some x) (Some y) → x ≡ y
some_is x y e = cc

pub both_true : (a b : Bool) → IsTrue (a && b) → IsTrue a × IsTrue b
both_true true b h = (refl, h)
both_true false b h = absurd cc

pub not_false : {P : Type 0} → false ≡ true → P
not_false e = absurd cc

pub guard_some : {A : Type 0} (test : Bool) (o : Option A) (y : A) → cond test o None ≡ Some y → IsTrue test × (o ≡ Some y)
guard_some true o y e = (refl, e)
guard_some false o y e = absurd cc

pub guard_true : {A : Type 0} (test : Bool) (o : Option A) → IsTrue test → cond test o None ≡ o
guard_true true o h = refl
guard_true false o h = absurd cc

pub append_empty : (a b : List ℕ) → [] ≡ a ++ b → a ≡ []
append_empty [] b e = refl
append_empty (x ∷ a) b e = absurd cc

-- ---- nothing, and one value without octets

pub exact_never : {A : Type 0} → Exact {A = A} Never never_read
exact_never = record { sound = λ octets v rest e. absurd cc; complete = λ v front rest h. absurd h }

only_sound : {A : Type 0} (x : A) (octets : List ℕ) (v : A) (rest : List ℕ) → ◌≡◌ {A = Option (A × List ℕ)} (Some (x, octets)) (Some (v, rest))
    → Begins (IsOnly x) octets v rest
only_sound {A = A} x octets v rest e =
    let same = some_is (x, octets) (v, rest) e in
    record { front = []; parts = ap (λ (u : A × List ℕ). u.1) same; encoded = (sym (ap (λ (u : A × List ℕ). u.0) same), refl) }

only_complete : {A : Type 0} (x v : A) (front rest : List ℕ) → IsOnly x v front → ◌≡◌ {A = Option (A × List ℕ)} (Some (x, front ++ rest)) (Some (v, rest))
only_complete {A = A} x v front rest h = ap (λ (t : List ℕ). Some (x, t ++ rest)) h.1 ∙ ap (λ (u : A). Some (u, rest)) (sym h.0)

pub exact_only : {A : Type 0} (x : A) → Exact (IsOnly x) (only_read x)
exact_only x = record { sound = only_sound x; complete = only_complete x }

-- ---- the same relation in other words

pub exact_same : {A : Type 0} (p q : A → List ℕ → Type 0) (read : List ℕ → Option (A × List ℕ)) → ((v : A) (b : List ℕ) → p v b → q v b)
    → ((v : A) (b : List ℕ) → q v b → p v b) → Exact p read → Exact q read
exact_same p q read there back e = record {
  sound = λ octets v rest h. let s = e.sound octets v rest h in record { front = s.front; parts = s.parts; encoded = there v s.front s.encoded };
  complete = λ v front rest h. e.complete v front rest (back v front h);
}

-- ---- of two readers, the one that a test chooses

pub exact_chosen : {A : Type 0} (test : Bool) (p : A → List ℕ → Type 0) (r s : List ℕ → Option (A × List ℕ)) → (test ≡ true → Exact p r)
    → (test ≡ false → Exact p s) → Exact p (λ octets. cond test (r octets) (s octets))
exact_chosen true p r s one other = one refl
exact_chosen false p r s one other = other refl

-- ---- one behind the other, the second by what the first is

two_fronts : (octets front middle back rest : List ℕ) → octets ≡ front ++ middle → middle ≡ back ++ rest → octets ≡ (front ++ back) ++ rest
two_fronts octets front middle back rest one two = one ∙ ap (λ (t : List ℕ). front ++ t) two ∙ sym (append_assoc front back rest)

follows_begins : {A B : Type 0} (p : A → List ℕ → Type 0) (q : A → B → List ℕ → Type 0) (octets middle rest : List ℕ) (head : A) (v : B)
    → Begins p octets head middle → Begins (q head) middle v rest → Begins (Follows p q) octets v rest
follows_begins p q octets middle rest head v first second = record {
  front = first.front ++ second.front;
  parts = two_fronts octets first.front middle second.front rest first.parts second.parts;
  encoded = record { head = head; front = first.front; back = second.front; parts = refl; head_encoded = first.encoded; rest_encoded = second.encoded };
}

bind_sound : {A B : Type 0} (p : A → List ℕ → Type 0) (r : List ℕ → Option (A × List ℕ)) (q : A → B → List ℕ → Type 0) (s : A → List ℕ → Option (B × List ℕ))
    → Exact p r → ((x : A) → Exact (q x) (s x))
    → (octets : List ℕ) (v : B) (rest : List ℕ) → then_read r s octets ≡ Some (v, rest) → Begins (Follows p q) octets v rest
bind_sound p r q s f g octets v rest e =
    let found = bind_some (r octets) (λ x. s x.0 x.1) (v, rest) e in
    follows_begins p q octets found.0.1 rest found.0.0 v (f.sound octets found.0.0 found.0.1 found.1) ((g found.0.0).sound found.0.1 v rest found.2)

bind_complete : {A B : Type 0} (p : A → List ℕ → Type 0) (r : List ℕ → Option (A × List ℕ)) (q : A → B → List ℕ → Type 0) (s : A → List ℕ → Option (B × List ℕ))
    → Exact p r → ((x : A) → Exact (q x) (s x))
    → (v : B) (front rest : List ℕ) → Follows p q v front → then_read r s (front ++ rest) ≡ Some (v, rest)
bind_complete p r q s f g v front rest h =
    let e : front ++ rest ≡ h.front ++ (h.back ++ rest) = ap (λ (t : List ℕ). t ++ rest) h.parts ∙ append_assoc h.front h.back rest in
    ap (then_read r s) e ∙ ap (λ o. o >>= λ x. s x.0 x.1) (f.complete h.head h.front (h.back ++ rest) h.head_encoded)
    ∙ (g h.head).complete v h.back rest h.rest_encoded

pub exact_bind : {A B : Type 0} (p : A → List ℕ → Type 0) (r : List ℕ → Option (A × List ℕ)) (q : A → B → List ℕ → Type 0) (s : A → List ℕ
    → Option (B × List ℕ)) → Exact p r → ((x : A) → Exact (q x) (s x)) → Exact (Follows p q) (then_read r s)
exact_bind p r q s f g = record { sound = bind_sound p r q s f g; complete = bind_complete p r q s f g }

-- ---- one behind the other

joined_begins : {A B : Type 0} (p : A → List ℕ → Type 0) (q : B → List ℕ → Type 0) (octets middle rest : List ℕ) (v : A) (w : B) → Begins p octets v middle
    → Begins q middle w rest → Begins (Joined p q) octets (v, w) rest
joined_begins p q octets middle rest v w first second = record {
  front = first.front ++ second.front;
  parts = two_fronts octets first.front middle second.front rest first.parts second.parts;
  encoded = record { front = first.front; back = second.front; parts = refl; first_encoded = first.encoded; second_encoded = second.encoded };
}

pair_sound : {A B : Type 0} (p : A → List ℕ → Type 0) (r : List ℕ → Option (A × List ℕ)) (q : B → List ℕ → Type 0) (s : List ℕ → Option (B × List ℕ))
    → Exact p r → Exact q s
    → (octets : List ℕ) (v : A × B) (rest : List ℕ) → pair_read r s octets ≡ Some (v, rest) → Begins (Joined p q) octets v rest
pair_sound {A = A} {B = B} p r q s f g octets v rest e =
    let one = bind_some (r octets) (λ x. s x.1 >>= λ y. Some ((x.0, y.0), y.1)) (v, rest) e in
    let two = bind_some (s one.0.1) (λ y. Some ((one.0.0, y.0), y.1)) (v, rest) one.2 in
    subst (λ (u : (A × B) × List ℕ). Begins (Joined p q) octets u.0 u.1) (some_is ((one.0.0, two.0.0), two.0.1) (v, rest) two.2)
    (joined_begins p q octets one.0.1 two.0.1 one.0.0 two.0.0 (f.sound octets one.0.0 one.0.1 one.1) (g.sound one.0.1 two.0.0 two.0.1 two.1))

pair_complete : {A B : Type 0} (p : A → List ℕ → Type 0) (r : List ℕ → Option (A × List ℕ)) (q : B → List ℕ → Type 0) (s : List ℕ → Option (B × List ℕ))
    → Exact p r → Exact q s
    → (v : A × B) (front rest : List ℕ) → Joined p q v front → pair_read r s (front ++ rest) ≡ Some (v, rest)
pair_complete p r q s f g v front rest h =
    let e : front ++ rest ≡ h.front ++ (h.back ++ rest) = ap (λ (t : List ℕ). t ++ rest) h.parts ∙ append_assoc h.front h.back rest in
    ap (pair_read r s) e
    ∙ ap (λ o. o >>= λ x. s x.1 >>= λ y. Some ((x.0, y.0), y.1)) (f.complete v.0 h.front (h.back ++ rest) h.first_encoded)
    ∙ ap (λ o. o >>= λ y. Some ((v.0, y.0), y.1)) (g.complete v.1 h.back rest h.second_encoded)

pub exact_pair : {A B : Type 0} (p : A → List ℕ → Type 0) (r : List ℕ → Option (A × List ℕ)) (q : B → List ℕ → Type 0) (s : List ℕ → Option (B × List ℕ))
    → Exact p r → Exact q s → Exact (Joined p q) (pair_read r s)
exact_pair p r q s f g = record { sound = pair_sound p r q s f g; complete = pair_complete p r q s f g }

-- ---- the same encodings for other values

image_sound : {A B : Type 0} (make : A → B) (p : A → List ℕ → Type 0) (r : List ℕ → Option (A × List ℕ)) → Exact p r → (octets : List ℕ) (v : B) (rest : List ℕ)
    → image_read make r octets ≡ Some (v, rest) → Begins (Image make p) octets v rest
image_sound {A = A} {B = B} make p r f octets v rest e =
    let one = bind_some (r octets) (λ x. Some (make x.0, x.1)) (v, rest) e in
    let first = f.sound octets one.0.0 one.0.1 one.1 in
    let same = some_is (make one.0.0, one.0.1) (v, rest) one.2 in
    let made : Begins (Image make p) octets (make one.0.0) one.0.1 =
    record { front = first.front; parts = first.parts; encoded = record { of = one.0.0; is = refl; encoded = first.encoded } } in
    subst (λ (u : B × List ℕ). Begins (Image make p) octets u.0 u.1) same made

image_complete : {A B : Type 0} (make : A → B) (p : A → List ℕ → Type 0) (r : List ℕ → Option (A × List ℕ)) → Exact p r → (v : B) (front rest : List ℕ)
    → Image make p v front → image_read make r (front ++ rest) ≡ Some (v, rest)
image_complete make p r f v front rest h =
    ap (λ o. o >>= λ x. Some (make x.0, x.1)) (f.complete h.of front rest h.encoded) ∙ ap (λ u. Some (u, rest)) (sym h.is)

pub exact_image : {A B : Type 0} (make : A → B) (p : A → List ℕ → Type 0) (r : List ℕ → Option (A × List ℕ)) → Exact p r
    → Exact (Image make p) (image_read make r)
exact_image make p r f = record { sound = image_sound make p r f; complete = image_complete make p r f }

-- ---- those values alone that pass a test

such_sound : {A : Type 0} (test : A → Bool) (p : A → List ℕ → Type 0) (r : List ℕ → Option (A × List ℕ)) → Exact p r → (octets : List ℕ) (v : A) (rest : List ℕ)
    → such_read test r octets ≡ Some (v, rest) → Begins (Passing test p) octets v rest
such_sound {A = A} test p r f octets v rest e =
    let one = bind_some (r octets) (λ x. cond (test x.0) (Some x) None) (v, rest) e in
    let passed = guard_some (test one.0.0) (Some one.0) (v, rest) one.2 in
    let first = f.sound octets one.0.0 one.0.1 one.1 in
    let same = some_is one.0 (v, rest) passed.1 in
    let made : Begins (Passing test p) octets one.0.0 one.0.1 = record { front = first.front; parts = first.parts; encoded = (passed.0, first.encoded) } in
    subst (λ (u : A × List ℕ). Begins (Passing test p) octets u.0 u.1) same made

such_complete : {A : Type 0} (test : A → Bool) (p : A → List ℕ → Type 0) (r : List ℕ → Option (A × List ℕ)) → Exact p r → (v : A) (front rest : List ℕ)
    → Passing test p v front → such_read test r (front ++ rest) ≡ Some (v, rest)
such_complete test p r f v front rest h =
    ap (λ o. o >>= λ x. cond (test x.0) (Some x) None) (f.complete v front rest h.1) ∙ guard_true (test v) (Some (v, rest)) h.0

pub exact_such : {A : Type 0} (test : A → Bool) (p : A → List ℕ → Type 0) (r : List ℕ → Option (A × List ℕ)) → Exact p r
    → Exact (Passing test p) (such_read test r)
exact_such test p r f = record { sound = such_sound test p r f; complete = such_complete test p r f }

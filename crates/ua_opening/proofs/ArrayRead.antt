-- The reader of arrays is exact.
use Rattle.std.specs.Prelude.{◌≡◌, ℕ, zero, suc, ◌<◌, ◌≤◌, ◌^◌, List, [], ◌∷◌, ◌++◌, Bool, true, false, cond, length, nat_lt, Option, Some, None}
use Rattle.std.proofs.Common.{refl, sym, ◌∙◌, ap, subst, arith, append_assoc, append-nil}
use Rattle.std.proofs.lemmas.Bool.{ltb-false, ltb-true}
use Rattle.ua_builtin.specs.Counted.{first_negative}
use Rattle.ua_builtin.specs.Exact.{Begins, Exact, ◌>>=◌, IsOnly, Follows, Image, image_read}
use Rattle.ua_builtin.specs.Number.{IsNumber, number_at, number_octets}
use Rattle.ua_wire.proofs.Readers.{bind_some, some_is, exact_same, exact_image, exact_only, exact_bind}
use Rattle.ua_wire.proofs.NumbersRead.{exact_number}
use Rattle.ua_opening.specs.Array.{EachEncoded, items_at, EncodesArray, array_behind_count, array_at}

-- ---- values, one behind the other

-- encodings of n values
abbrev pub AreItems : {A : Type 0} → (A → List ℕ → Type 0) → ℕ → List A → List ℕ → Type 0
AreItems encodes n v b = (length v ≡ n) × EachEncoded encodes v b

items_begin : {A : Type 0} (p : A → List ℕ → Type 0) (n : ℕ) (octets middle rest : List ℕ) (x : A) (xs : List A) → Begins p octets x middle
    → Begins (AreItems p n) middle xs rest → Begins (AreItems p (suc n)) octets (x ∷ xs) rest
items_begin p n octets middle rest x xs first second =
    let len = second.encoded.0 in
    record {
      front = first.front ++ second.front;
      parts = first.parts ∙ ap (λ (t : List ℕ). first.front ++ t) second.parts ∙ sym (append_assoc first.front second.front rest);
      encoded = (omega (arith, len), (first.front, second.front, refl, first.encoded, second.encoded.1));
    }

items_sound : {A : Type 0} (p : A → List ℕ → Type 0) (r : List ℕ → Option (A × List ℕ)) → Exact p r → (n : ℕ) (octets : List ℕ) (v : List A) (rest : List ℕ)
    → items_at r n octets ≡ Some (v, rest) → Begins (AreItems p n) octets v rest
unfolding items_at
items_sound {A = A} p r f zero octets v rest e =
    let same = some_is ([], octets) (v, rest) e in
    let made : Begins (AreItems p 0) octets [] octets = record { front = []; parts = refl; encoded = (refl, refl) } in
    subst (λ (u : List A × List ℕ). Begins (AreItems p 0) octets u.0 u.1) same made
items_sound {A = A} p r f (suc n) octets v rest e =
    let one = bind_some (r octets) (λ x. items_at r n x.1 >>= λ xs. Some (x.0 ∷ xs.0, xs.1)) (v, rest) e in
    let more = bind_some (items_at r n one.0.1) (λ xs. Some (one.0.0 ∷ xs.0, xs.1)) (v, rest) one.2 in
    let same = some_is (one.0.0 ∷ more.0.0, more.0.1) (v, rest) more.2 in
    subst (λ (u : List A × List ℕ). Begins (AreItems p (suc n)) octets u.0 u.1) same
    (items_begin p n octets one.0.1 more.0.1 one.0.0 more.0.0 (f.sound octets one.0.0 one.0.1 one.1) (items_sound p r f n one.0.1 more.0.0 more.0.1 more.1))

items_complete : {A : Type 0} (p : A → List ℕ → Type 0) (r : List ℕ → Option (A × List ℕ)) → Exact p r → (n : ℕ) (v : List A) (front rest : List ℕ)
    → AreItems p n v front → items_at r n (front ++ rest) ≡ Some (v, rest)
unfolding items_at
items_complete p r f zero [] front rest h = ap (λ (t : List ℕ). Some ([], t ++ rest)) h.1
items_complete p r f zero (x ∷ v) front rest h = let len = h.0 in absurd (omega (arith, len))
items_complete p r f (suc n) [] front rest h = let len = h.0 in absurd (omega (arith, len))
items_complete p r f (suc n) (x ∷ v) front rest h =
    let len = h.0 in
    let each = h.1 in
    let e : front ++ rest ≡ each.0 ++ (each.1 ++ rest) = ap (λ (t : List ℕ). t ++ rest) each.2 ∙ append_assoc each.0 each.1 rest in
    ap (λ (t : List ℕ). r t >>= λ y. items_at r n y.1 >>= λ ys. Some (y.0 ∷ ys.0, ys.1)) e
    ∙ ap (λ o. o >>= λ y. items_at r n y.1 >>= λ ys. Some (y.0 ∷ ys.0, ys.1)) (f.complete x each.0 (each.1 ++ rest) each.3)
    ∙ ap (λ o. o >>= λ ys. Some (x ∷ ys.0, ys.1)) (items_complete p r f n v each.1 rest (omega (arith, len), each.4))

pub exact_items : {A : Type 0} (p : A → List ℕ → Type 0) (r : List ℕ → Option (A × List ℕ)) → Exact p r → (n : ℕ) → Exact (AreItems p n) (items_at r n)
exact_items p r f n = record { sound = items_sound p r f n; complete = items_complete p r f n }

-- ---- the array

-- what stands behind a count
abbrev BehindCount : {A : Type 0} → (A → List ℕ → Type 0) → ℕ → Option (List A) → List ℕ → Type 0
BehindCount p n None b = (first_negative ≤ n) × (b ≡ [])
BehindCount p n (Some v) b = (n < first_negative) × AreItems p n v b

some_behind : {A : Type 0} (p : A → List ℕ → Type 0) (n : ℕ) → n < first_negative → (v : Option (List A)) (b : List ℕ) → Image Some (AreItems p n) v b
    → BehindCount p n v b
some_behind {A = A} p n small v b h = subst (λ (x : Option (List A)). BehindCount p n x b) (sym h.is) (small, h.encoded)

behind_some : {A : Type 0} (p : A → List ℕ → Type 0) (n : ℕ) → n < first_negative → (v : Option (List A)) (b : List ℕ) → BehindCount p n v b
    → Image Some (AreItems p n) v b
behind_some p n small None b h = absurd (omega (arith, h.0))
behind_some p n small (Some v) b h = record { of = v; is = refl; encoded = h.1 }

null_behind : {A : Type 0} (p : A → List ℕ → Type 0) (n : ℕ) → first_negative ≤ n → (v : Option (List A)) (b : List ℕ) → IsOnly None v b → BehindCount p n v b
null_behind {A = A} p n large v b h = subst (λ (x : Option (List A)). BehindCount p n x b) (sym h.0) (large, h.1)

behind_null : {A : Type 0} (p : A → List ℕ → Type 0) (n : ℕ) → first_negative ≤ n → (v : Option (List A)) (b : List ℕ) → BehindCount p n v b → IsOnly None v b
behind_null p n large None b h = (refl, h.1)
behind_null p n large (Some v) b h = absurd (omega (arith, h.0))

exact_behind_at : {A : Type 0} (p : A → List ℕ → Type 0) (r : List ℕ → Option (A × List ℕ)) → Exact p r → (n : ℕ) (small : Bool)
    → nat_lt n first_negative ≡ small
    → Exact (BehindCount p n) (λ octets. cond small (image_read Some (items_at r n) octets) (Some (None, octets)))
exact_behind_at p r f n true e =
    let small : n < first_negative = ltb-true n first_negative e in
    exact_same (Image Some (AreItems p n)) (BehindCount p n) (image_read Some (items_at r n)) (some_behind p n small) (behind_some p n small)
    (exact_image Some (AreItems p n) (items_at r n) (exact_items p r f n))
exact_behind_at p r f n false e =
    let large : first_negative ≤ n = ltb-false n first_negative e in
    exact_same (IsOnly None) (BehindCount p n) (λ octets. Some (None, octets)) (null_behind p n large) (behind_null p n large) (exact_only None)

array_there : {A : Type 0} (p : A → List ℕ → Type 0) (v : Option (List A)) (b : List ℕ) → Follows (IsNumber 4) (BehindCount p) v b → EncodesArray p v b
array_there p None b h =
    let whole : b ≡ h.front = h.parts ∙ ap (λ (t : List ℕ). h.front ++ t) h.rest_encoded.1 ∙ append-nil h.front in
    (h.head, h.rest_encoded.0, (h.head_encoded.0, whole ∙ h.head_encoded.1))
array_there p (Some v) b h =
    let len : length v ≡ h.head = h.rest_encoded.1.0 in (
      h.back,
      subst (λ (n : ℕ). n < first_negative) (sym len) h.rest_encoded.0,
      h.parts ∙ ap (λ (t : List ℕ). t ++ h.back) (h.head_encoded.1 ∙ ap (number_octets 4) (sym len)),
      h.rest_encoded.1.1,
    )

array_back : {A : Type 0} (p : A → List ℕ → Type 0) (v : Option (List A)) (b : List ℕ) → EncodesArray p v b → Follows (IsNumber 4) (BehindCount p) v b
array_back p None b h = record { head = h.0; front = b; back = []; parts = sym (append-nil b); head_encoded = h.2; rest_encoded = (h.1, refl) }
array_back p (Some v) b h =
    let small : length v < first_negative = h.1 in
    let fits : length v < 256 ^ 4 = omega arith in
    record { head = length v; front = number_octets 4 (length v); back = h.0; parts = h.2; head_encoded = (fits, refl); rest_encoded = (h.1, (refl, h.3)) }

pub exact_array : {A : Type 0} (p : A → List ℕ → Type 0) (r : List ℕ → Option (A × List ℕ)) → Exact p r → Exact (EncodesArray p) (array_at r)
exact_array p r f =
    exact_same (Follows (IsNumber 4) (BehindCount p)) (EncodesArray p) (array_at r) (array_there p) (array_back p)
    (exact_bind (IsNumber 4) (number_at 4) (BehindCount p) (array_behind_count r) (exact_number 4)
    (λ n. exact_behind_at p r f n (nat_lt n first_negative) refl))

-- What is printed of a value, and that it does not denote the value.
use Rattle.std.proofs.Common.{◌≡◌, ◌≢◌, ◌⊎◌, inl, inr, ℕ, zero, suc, ◌<◌, Bool, true, false, cond, List, [], ◌∷◌, ◌++◌}
use Rattle.std.proofs.Common.{length, get_or, nat_eq, Option, None, Some, refl, sym, ◌∙◌, ap, subst, arith, IsTrue, IsFalse}
use Rattle.std.specs.Str.{IsUtf8}
use Rattle.ua_nodes.specs.TypeName.{type_denoted}
use Rattle.ua_texts.specs.Plain.{IsPlainTyped}
use Rattle.ua_texts.specs.PlainLeaf.{Either}
use Rattle.ua_texts.specs.Shown.{unwritable}
use Rattle.ua_texts.specs.Values.{typed_text}
use Rattle.ua_variant.specs.Data.{VariantData}
use Rattle.ua_variant.specs.Canonical.{variant_canonical}
use Rattle.ua_variant.specs.Encodable.{variant_encodable}
use Rattle.ua_variant.specs.Formats.{variant_format}
use Rattle.ua_variant.specs.View.{variant_of}
use Rattle.ua_variant.specs.declared.values.Variant.{Variant}
use Rattle.ua_c.specs.Spelled.{HasNoSpace, IsBack, IsNotBack, IsSpelled, IsSpellingOf}
use Rattle.ua_c.specs.Status.{no_memory, bad_text}
use Rattle.ua_c.specs.Texts.{HasNoValueBy, IsEncodingOf, IsNoEncoding, IsNoValue, IsValueBy, denoted_by}
use Rattle.ua_c.specs.declared.bad_text.BadText.{BadText}

-- ---- the first space

-- a text without a space has no two parts
pub no_parts : (text kind rest : List ℕ) → HasNoSpace text → text ≡ kind ++ 32 ∷ rest → ⊥
no_parts text [] rest free e = subst HasNoSpace e free 0 (omega arith) refl
no_parts text (k ∷ kind) rest free e = no_parts (kind ++ 32 ∷ rest) kind rest (λ i less. subst HasNoSpace e free (suc i) (omega (arith, less))) refl

-- a text has one first space
pub parts_once : (kind rest named behind : List ℕ) → HasNoSpace kind → HasNoSpace named → kind ++ 32 ∷ rest ≡ named ++ 32 ∷ behind
    → (named ≡ kind) × (behind ≡ rest)
parts_once [] rest [] behind free other e = (refl, sym (tail_of e))
  where
    tail_of : {x : ℕ} {xs ys : List ℕ} → x ∷ xs ≡ x ∷ ys → xs ≡ ys
    tail_of p = cc
parts_once [] rest (n ∷ named) behind free other e = absurd (other 0 (omega arith) (head_of e))
  where
    head_of : {x y : ℕ} {xs ys : List ℕ} → x ∷ xs ≡ y ∷ ys → y ≡ x
    head_of p = cc
parts_once (k ∷ kind) rest [] behind free other e = absurd (free 0 (omega arith) (head_of e))
  where
    head_of : {x y : ℕ} {xs ys : List ℕ} → x ∷ xs ≡ y ∷ ys → x ≡ y
    head_of p = cc
parts_once (k ∷ kind) rest (n ∷ named) behind free other e =
    let more = parts_once kind rest named behind (λ i less. free (suc i) (omega (arith, less))) (λ i less. other (suc i) (omega (arith, less))) (tail_of e) in
    (λ j. head_of e j ∷ more.0 j, more.1)
  where
    head_of : {x y : ℕ} {xs ys : List ℕ} → x ∷ xs ≡ y ∷ ys → y ≡ x
    head_of p = cc

    tail_of : {x y : ℕ} {xs ys : List ℕ} → x ∷ xs ≡ y ∷ ys → xs ≡ ys
    tail_of p = cc

-- ---- what does not denote the value

-- a type and a text that denote no value
none_by : (plain : Bool) (kind text : List ℕ) (bad : BadText) → HasNoValueBy plain kind text bad → (bad.status ≡ no_memory → ⊥) → (value : Variant)
    → IsValueBy plain kind text value → ⊥
none_by plain kind text bad (inl it) other value is = by it.2.1
  where
    by : (¬ (IsUtf8 kind)) ⊎ (type_denoted kind ≡ None) → ⊥
    by (inl not) = not is.kind_utf8
    by (inr none) = apart (sym none ∙ is.type_is)
      where
        apart : {A : Type 0} {x : A} → ◌≡◌ {A = Option A} None (Some x) → ⊥
        apart e = absurd cc
none_by plain kind text bad (inr it) other value is = by it.2
  where
    apart : {A : Type 0} {x : A} → ◌≡◌ {A = Option A} None (Some x) → ⊥
    apart e = absurd cc

    same : {A : Type 0} {x y : A} → ◌≡◌ {A = Option A} (Some x) (Some y) → x ≡ y
    same e = cc

    by : IsNoValue plain kind text bad.status → ⊥
    by (inl memory) = other memory
    by (inr (e, inl not)) = not is.text_utf8
    by (inr (e, inr d)) =
        let one : (d.number, d.array) ≡ (is.number, is.array) = same (sym d.type_is ∙ is.type_is) in
        apart (sym d.none ∙ ap (λ (t : ℕ × Bool). denoted_by plain t.0 t.1 text) one ∙ is.value_is)

pub not_named : (plain : Bool) (kind text canonical : List ℕ) (bad : BadText) → HasNoValueBy plain kind text bad → (bad.status ≡ no_memory → ⊥)
    → ¬ (IsBack plain kind text canonical)
not_named plain kind text canonical bad it other b = none_by plain kind text bad it other b.value b.is

-- a type and a text denote one value
one_value : (plain : Bool) (kind text : List ℕ) (a b : Variant) → IsValueBy plain kind text a → IsValueBy plain kind text b → variant_of a ≡ variant_of b
one_value plain kind text a b p q =
    let one : (p.number, p.array) ≡ (q.number, q.array) = same (sym p.type_is ∙ q.type_is) in
    same (sym p.value_is ∙ ap (λ (t : ℕ × Bool). denoted_by plain t.0 t.1 text) one ∙ q.value_is)
  where
    same : {A : Type 0} {x y : A} → ◌≡◌ {A = Option A} (Some x) (Some y) → x ≡ y
    same e = cc

canonical_by : (a b : Variant) → variant_of a ≡ variant_of b → variant_format.canonical a ≡ variant_format.canonical b
unfolding variant_format
canonical_by a b e = ap variant_canonical e

encodable_by : (a b : Variant) → variant_of a ≡ variant_of b → variant_format.encodable a ≡ variant_format.encodable b
unfolding variant_format
encodable_by a b e = ap variant_encodable e

pub not_same : (plain : Bool) (kind text canonical octets : List ℕ) (value : Variant) → IsValueBy plain kind text value → IsEncodingOf value octets
    → (octets ≡ canonical → ⊥) → ¬ (IsBack plain kind text canonical)
not_same plain kind text canonical octets value is are other b =
    other (are.1 ∙ canonical_by value b.value (one_value plain kind text value b.value is b.is) ∙ sym b.are.1)

pub not_encoded : (plain : Bool) (kind text canonical : List ℕ) (status : ℕ) (value : Variant) → IsValueBy plain kind text value → IsNoEncoding value status
    → (status ≡ no_memory → ⊥) → ¬ (IsBack plain kind text canonical)
not_encoded plain kind text canonical status value is (inl memory) other b = other memory
not_encoded plain kind text canonical status value is (inr it) other b =
    apart (sym it.1 ∙ encodable_by value b.value (one_value plain kind text value b.value is b.is) ∙ b.are.0)
  where
    apart : false ≡ true → ⊥
    apart e = absurd cc

-- ---- what is printed

-- a text with no space is no spelling
pub without_space : (plain : Bool) (v : VariantData) (text canonical : List ℕ) → IsSpelled plain v text → HasNoSpace text → IsNotBack plain v canonical
without_space plain v text canonical printed free = record { text = text; printed = printed; not = λ n s. no_parts text s.kind s.rest free s.parts }

-- nor is one whose parts at the first space do not denote the value
pub not_parts : (plain : Bool) (v : VariantData) (text kind rest canonical : List ℕ) → IsSpelled plain v text → text ≡ kind ++ 32 ∷ rest → HasNoSpace kind
    → ¬ (IsBack plain kind rest canonical)
    → IsNotBack plain v canonical
not_parts plain v text kind rest canonical printed parts free other =
    record {
      text = text;
      printed = printed;
      not = λ n s. let one = parts_once kind rest s.kind s.rest free s.first (sym parts ∙ s.parts) in
          other (subst (λ (k : List ℕ). IsBack plain k rest canonical) one.0 (subst (λ (r : List ℕ). IsBack plain s.kind r canonical) one.1 s.back));
    }

-- a value that cannot be encoded is printed without a space
pub not_written : (plain : Bool) (value : Variant) (canonical : List ℕ) → variant_format.encodable value ≡ false → IsNotBack plain (variant_of value) canonical
unfolding variant_format
not_written plain value canonical e = without_space plain (variant_of value) unwritable canonical (by plain) (spaces unwritable refl)
  where
    by : (p : Bool) → IsSpelled p (variant_of value) unwritable
    by true = subst (λ (t : Bool). Either t (IsPlainTyped false false (variant_of value) unwritable) (unwritable ≡ unwritable)) (sym e) refl
    by false = sym (ap (λ (t : Bool). cond t (typed_text (variant_of value)) unwritable) e)

    free : List ℕ → Bool
    free [] = true
    free (c ∷ cs) = cond (nat_eq c 32) false (free cs)

    spaces : (cs : List ℕ) → free cs ≡ true → HasNoSpace cs
    spaces [] f i less = absurd (omega (arith, less))
    spaces (c ∷ cs) f zero less = λ is. absurd (apart (sym (ap (λ (n : ℕ). cond (nat_eq n 32) false (free cs)) is) ∙ f))
      where
        apart : false ≡ true → ⊥
        apart p = absurd cc
    spaces (c ∷ cs) f (suc i) less = spaces cs (more (nat_eq c 32) f) i (omega (arith, less))
      where
        more : (t : Bool) → cond t false (free cs) ≡ true → free cs ≡ true
        more true p = absurd cc
        more false p = p

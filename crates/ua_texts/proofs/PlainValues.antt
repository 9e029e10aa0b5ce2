-- Values with all that they hold, as people write them, part by part.
use Rattle.std.proofs.Common.{◌≡◌, ℕ, ℤ, zero, suc, ◌<◌, ◌≤◌, Bool, true, List, [], ◌∷◌, ◌++◌, length, map, get_or, Option, Some}
use Rattle.std.proofs.Common.{None, Result, Ok, Err, is_ok, if◌then◌else◌, codes, refl, sym, subst, ap, ◌∙◌, arith, append_assoc}
use Rattle.ua_variant.specs.Data.{ScalarData, VariantData, null, DataValueData, valued, variant}
use Rattle.ua_variant.specs.Encodable.{kind_of_scalar}
use Rattle.ua_variant.specs.Measure.{scalar_count, scalars_count}
use Rattle.ua_variant.specs.View.{data_fields_of, data_value_of, many_of, row, scalar_of, value_within, variant_of}
use Rattle.ua_variant.specs.declared.values.DataValue.{DataValue}
use Rattle.ua_variant.specs.declared.values.Scalar.{Scalar}
use Rattle.ua_variant.specs.declared.values.Variant.{Variant}
use Rattle.ua_variant.specs.declared.values.Variant.TheVariants.{Many, One}
use Rattle.ua_texts.specs.Plain.{IsPlainDataValue, IsPlainFields, IsPlainItems, IsPlainScalar, IsPlainTyped, array_type_text}
use Rattle.ua_texts.specs.PlainLeaf.{Adds}
use Rattle.ua_texts.specs.Values.{type_name}
use Rattle.ua_texts.proofs.PlainAdds.{adds_as, adds_behind, adds_if}

-- ---- a scalar behind its type

pub one_added : {E : Type 0} (r : Result (Unit {0}) E) (names within : Bool) (value : Variant) (s : Scalar) (old first mid new : List ℕ) → value ≡ One s
    → first ≡ old ++ type_name (kind_of_scalar (scalar_of s)) → mid ≡ first ++ codes " " → Adds r mid new (IsPlainScalar names within (scalar_of s))
    → Adds r old new (IsPlainTyped names within (variant_of value))
one_added r names within value s old first mid new is e f h =
    let kind = type_name (kind_of_scalar (scalar_of s)) in
    let front : mid ≡ old ++ (kind ++ codes " ") = f ∙ ap (λ (t : List ℕ). t ++ codes " ") e ∙ append_assoc old kind (codes " ") in
    adds_behind r old mid new (kind ++ codes " ") (IsPlainScalar names within (scalar_of s)) (IsPlainTyped names within (variant_of value)) front
    (λ text k. subst (λ (v : Variant). IsPlainTyped names within (variant_of v) ((kind ++ codes " ") ++ text)) (sym is)
    (text, append_assoc kind (codes " ") text, k)) h

-- ---- an array behind its type

-- the elements of an array stand within it anyway
same_within : (names within : Bool) (k : ℕ) (items : Option (List ScalarData)) (ds : List ℤ) (text : List ℕ) → IsPlainTyped names true (many_of k items ds) text
    → IsPlainTyped names within (many_of k items ds) text
same_within names within k None ds text h = h
same_within names within k (Some ss) ds text h = h

pub many_added : {E : Type 0} (r : Result (Unit {0}) E) (names within : Bool) (value : Variant) (k : ℕ) (items : Option (List ScalarData)) (ds : List ℤ)
    (old new : List ℕ) → value ≡ Many k items ds
    → Adds r old new (IsPlainTyped names true (many_of k items ds)) → Adds r old new (IsPlainTyped names within (variant_of value))
many_added r names within value k items ds old new is h =
    adds_as r old new (IsPlainTyped names true (many_of k items ds)) (IsPlainTyped names within (variant_of value))
    (λ text j. subst (λ (v : Variant). IsPlainTyped names within (variant_of v) text) (sym is) (same_within names within k items ds text j)) h

pub items_added : {E : Type 0} (r : Result (Unit {0}) E) (names : Bool) (k : ℕ) (items : Option (List ScalarData)) (ss : List ScalarData) (ds : List ℤ)
    (old first mid new : List ℕ) → items ≡ Some ss
    → first ≡ old ++ array_type_text k ds → mid ≡ first ++ codes " " → Adds r mid new (IsPlainItems names ss)
    → Adds r old new (IsPlainTyped names true (many_of k items ds))
items_added r names k items ss ds old first mid new is e f h =
    let kind = array_type_text k ds in
    let front : mid ≡ old ++ (kind ++ codes " ") = f ∙ ap (λ (t : List ℕ). t ++ codes " ") e ∙ append_assoc old kind (codes " ") in
    adds_behind r old mid new (kind ++ codes " ") (IsPlainItems names ss) (IsPlainTyped names true (many_of k items ds)) front
    (λ text j. subst (λ (o : Option (List ScalarData)). IsPlainTyped names true (many_of k o ds) ((kind ++ codes " ") ++ text)) (sym is)
    (j.0, append_assoc kind (codes " ") text ∙ ap (λ (t : List ℕ). kind ++ (codes " " ++ t)) j.1, j.2)) h

pub absent_added : {E : Type 0} (r : Result (Unit {0}) E) (names : Bool) (k : ℕ) (items : Option (List ScalarData)) (ds : List ℤ) (old mid new : List ℕ)
    → items ≡ None
    → mid ≡ old ++ array_type_text k ds → new ≡ (if is_ok r then mid ++ codes " null" else mid) → Adds r old new (IsPlainTyped names true (many_of k items ds))
absent_added r names k items ds old mid new is e f =
    adds_behind r old mid new (array_type_text k ds) (λ t. t ≡ codes " null") (IsPlainTyped names true (many_of k items ds)) e
    (λ text j. subst (λ (o : Option (List ScalarData)). IsPlainTyped names true (many_of k o ds) (array_type_text k ds ++ text)) (sym is)
    (ap (λ (t : List ℕ). array_type_text k ds ++ t) j))
    (adds_if r mid new (codes " null") (λ t. t ≡ codes " null") f refl)

-- an element counts no more than the row
count_within : (ss : List Scalar) (i : ℕ) (d : Scalar) → i < length ss → scalar_count (scalar_of (get_or ss i d)) ≤ scalars_count (row (map scalar_of ss))
count_within [] i d h = absurd (omega arith)
count_within (s ∷ ss) zero d h = omega arith
count_within (s ∷ ss) (suc i) d h = omega (arith, count_within ss i d (omega arith))

pub count_below : (ss : List Scalar) (i : ℕ) (s : Scalar) → i < length ss → s ≡ get_or ss i s
    → scalar_count (scalar_of s) ≤ scalars_count (row (map scalar_of ss))
count_below ss i s h is = subst (λ (x : Scalar). scalar_count (scalar_of x) ≤ scalars_count (row (map scalar_of ss))) (sym is) (count_within ss i s h)

-- ---- values within brackets

pub null_added : {E : Type 0} (r : Result (Unit {0}) E) (names : Bool) (v : VariantData) (old new : List ℕ) → null ≡ v
    → new ≡ (if is_ok r then old ++ codes "(Null)" else old)
    → Adds r old new (IsPlainScalar names true (variant v))
null_added r names v old new h e =
    adds_if r old new (codes "(Null)") (IsPlainScalar names true (variant v)) e
    (subst (λ (w : VariantData). IsPlainScalar names true (variant w) (codes "(Null)")) h (codes "Null", refl, refl))

joined : (old a v c f e first second third fourth new : List ℕ) → first ≡ old ++ a → second ≡ first ++ v → third ≡ second ++ c → fourth ≡ third ++ f
    → new ≡ fourth ++ e
    → new ≡ old ++ (a ++ (v ++ (c ++ (f ++ e))))
joined old a v c f e first second third fourth new h i j k l =
    l ∙ ap (λ (t : List ℕ). t ++ e) k ∙ append_assoc third f e ∙ ap (λ (t : List ℕ). t ++ (f ++ e)) j ∙ append_assoc second c (f ++ e)
    ∙ ap (λ (t : List ℕ). t ++ (c ++ (f ++ e))) i ∙ append_assoc first v (c ++ (f ++ e)) ∙ ap (λ (t : List ℕ). t ++ (v ++ (c ++ (f ++ e)))) h
    ∙ append_assoc old a (v ++ (c ++ (f ++ e)))

-- a DataValue with a value
pub valued_added : {E : Type 0} (r : Result (Unit {0}) E) (names : Bool) (d : DataValue) (whole : DataValueData) (held v : VariantData)
    (old first second third fourth new : List ℕ)
    → data_value_of d ≡ whole → d.value ≡ Some held → v ≡ held → first ≡ old ++ codes "{ value ("
    → ((text : List ℕ) × (second ≡ first ++ text) × IsPlainTyped names true v text)
    → third ≡ second ++ codes ")" → ((text : List ℕ) × (fourth ≡ third ++ text) × IsPlainFields names (data_fields_of d) text)
    → new ≡ (if is_ok r then fourth ++ codes " }" else fourth)
    → Adds r old new (IsPlainDataValue names whole)
valued_added (Err x) names d whole held v old first second third fourth new e is same h i j k l = tt
valued_added (Ok u) names d whole held v old first second third fourth new e is same h i j k l =
    let made : valued v (data_fields_of d) ≡ whole = ap (λ (w : VariantData). valued w (data_fields_of d)) same
    ∙ ap (λ o. value_within o (data_fields_of d)) (sym is) ∙ e in
    let text = codes "{ value (" ++ (i.0 ++ (codes ")" ++ (k.0 ++ codes " }"))) in (
      text,
      joined old (codes "{ value (") i.0 (codes ")") k.0 (codes " }") first second third fourth new h i.1 j k.1 l,
      subst (λ (w : DataValueData). IsPlainDataValue names w text) made (i.0, k.0, refl, i.2, k.2),
    )

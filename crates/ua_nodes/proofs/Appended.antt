-- What is written for an item of a Read, part by part.
use Rattle.std.proofs.Common.{◌≡◌, ◌⊎◌, inl, inr, ℕ, zero, suc, ◌+◌, ◌≤◌, List, [], ◌∷◌, ◌++◌, take, length, length-append, true}
use Rattle.std.proofs.Common.{nat_eq, Option, None, Result, Ok, option_map, refl, sym, ap, ◌∙◌, arith}
use Rattle.std.specs.List.{flat_map}
use Rattle.ua_builtin.specs.Reasons.{first_reason}
use Rattle.ua_builtin.specs.declared.date_time.DateTime.{DateTime}
use Rattle.ua_builtin.specs.declared.status_code.StatusCode.{StatusCode}
use Rattle.ua_structures.specs.declared.attribute.ReadValueId.{ReadValueId}
use Rattle.ua_variant.specs.Data.{valued}
use Rattle.ua_nodes.specs.Attribute.{attribute_of, attribute_value}
use Rattle.ua_nodes.specs.Range.{asked_range}
use Rattle.ua_nodes.specs.Read.{judged, read_item_reasons, stamps_of, value_read, with_stamps, read_by}
use Rattle.ua_nodes.specs.Within.{IsWithin, NonePassBefore, Passes, with_octets_of_first}
use Rattle.ua_nodes.specs.declared.attribute.Attribute.{Attribute}
use Rattle.ua_nodes.specs.declared.node.Variable.{Variable}
use Rattle.ua_nodes.specs.declared.range.IndexRange.{IndexRange}
use Rattle.ua_nodes.specs.declared.stamps.Stamps.{Stamps}
use Rattle.ua_nodes.proofs.Judged.{judged_ok}

-- ---- whole values

-- an item that is granted, for the Value and without a range
pub whole_is : (item : ReadValueId) (v : Variable) (a : Attribute) (stamps : Stamps) (moment : DateTime) → item.attribute_id ≡ 13
    → ◌≡◌ {A = Result (Attribute × Option IndexRange) StatusCode}
    (judged (first_reason (read_item_reasons v item)) (attribute_of item.attribute_id) (asked_range item.index_range)) (Ok (a, None))
    → read_by (first_reason (read_item_reasons v item)) v item stamps moment ≡ valued v.value (stamps_of v true stamps moment)
whole_is item v a stamps moment value granted =
    let free = judged_ok (first_reason (read_item_reasons v item)) (attribute_of item.attribute_id) (asked_range item.index_range) a None (sym granted) in
    sym (ap (λ (o : Option StatusCode). read_by o v item stamps moment) free.0)
    ∙ sym (ap (λ (r : Option IndexRange). with_stamps (option_map (λ b. value_read item.node_id v b r) (attribute_of item.attribute_id))
    (stamps_of v (nat_eq item.attribute_id 13) stamps moment)) free.2)
    ∙ ap (λ (n : ℕ). with_stamps (option_map (λ b. attribute_value item.node_id v b) (attribute_of n)) (stamps_of v (nat_eq n 13) stamps moment)) value

-- ---- what is given up

fewer : (f : ReadValueId → List ℕ) (n : ℕ) (items : List ReadValueId) → length (flat_map f (take n items)) ≤ length (flat_map f items)
fewer f zero items = omega arith
fewer f (suc n) [] = omega arith
fewer f (suc n) (item ∷ items) =
    let rest : length (flat_map f (take n items)) ≤ length (flat_map f items) = fewer f n items in
    let some : length (f item ++ flat_map f (take n items)) ≡ length (f item) + length (flat_map f (take n items)) =
    length-append (f item) (flat_map f (take n items)) in
    let all : length (f item ++ flat_map f items) ≡ length (f item) + length (flat_map f items) = length-append (f item) (flat_map f items) in
    omega (arith, rest, some, all)

-- where it stands after so many: the limit was not passed before
pub record SoFar (most : Option ℕ) (f : ReadValueId → List ℕ) (items : List ReadValueId) (old : List ℕ) (n : ℕ) (out : List ℕ) : Type 0 where
  pub are : out ≡ with_octets_of_first f items old n
  pub first : NonePassBefore most f items old n

-- all that is to be added was, or the limit is passed, by no more than the whole
pub whole_or_past : (most : Option ℕ) (f : ReadValueId → List ℕ) (items : List ReadValueId) (old out : List ℕ) → IsWithin most f items old out
    → (out ≡ old ++ flat_map f items) ⊎ (Passes most (length out) × (length out ≤ length (old ++ flat_map f items)))
whole_or_past most f items old out w = elim w.ends [
  | inl all ↦ inl (w.are ∙ ap (λ (xs : List ReadValueId). old ++ flat_map f xs) (take_all w.count items (omega (arith, all))))
  | inr passes ↦
      let count : length out ≡ length (old ++ flat_map f (take w.count items)) = ap length w.are in
      let some : length (old ++ flat_map f (take w.count items)) ≡ length old + length (flat_map f (take w.count items)) =
      length-append old (flat_map f (take w.count items)) in
      let all : length (old ++ flat_map f items) ≡ length old + length (flat_map f items) = length-append old (flat_map f items) in
      let rest : length (flat_map f (take w.count items)) ≤ length (flat_map f items) = fewer f w.count items in
      inr (passes, omega (arith, count, some, all, rest))
]
  where
    take_all : (n : ℕ) (xs : List ReadValueId) → length xs ≤ n → take n xs ≡ xs
    take_all zero [] h = refl
    take_all zero (x ∷ xs) h = absurd (omega (arith, h))
    take_all (suc n) [] h = refl
    take_all (suc n) (x ∷ xs) h = ap (λ (ys : List ReadValueId). x ∷ ys) (take_all n xs (omega (arith, h)))

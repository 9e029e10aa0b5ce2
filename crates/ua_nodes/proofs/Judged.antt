-- What an item of a Read is judged to be.
use Rattle.std.proofs.Common.{◌≡◌, not, if◌then◌else◌, Option, Some, None, Result, Ok, Err, refl, ap}
use Rattle.ua_builtin.specs.declared.status_code.StatusCode.{StatusCode}
use Rattle.ua_nodes.specs.declared.attribute.Attribute.{Attribute}
use Rattle.ua_nodes.specs.declared.node.Variable.{Variable}
use Rattle.ua_nodes.specs.declared.range.IndexRange.{IndexRange}
use Rattle.ua_structures.specs.declared.attribute.ReadValueId.{ReadValueId}
use Rattle.ua_builtin.specs.Reasons.{first_reason}
use Rattle.ua_nodes.specs.Attribute.{attribute_of}
use Rattle.ua_nodes.specs.Range.{asked_range}
use Rattle.std.specs.Option.{is_some}
use Rattle.ua_nodes.specs.Status.{bad_attribute_id_invalid}
use Rattle.ua_nodes.specs.Read.{judged, read_item_reasons}

pub judged_ok : (o : Option StatusCode) (a : Option Attribute) (r : Option IndexRange) (b : Attribute) (q : Option IndexRange)
    → ◌≡◌ {A = Result (Attribute × Option IndexRange) StatusCode} (Ok (b, q)) (judged o a r) → (None ≡ o) × (Some b ≡ a) × (q ≡ r)
judged_ok None None r b q e = absurd cc
judged_ok None (Some a) r b q e =
    let same : ◌≡◌ {A = Attribute × Option IndexRange} (b, q) (a, r) = cc in
    let one : Attribute → Option Attribute = λ x. Some x in
    (refl, ap (λ (x : Attribute × Option IndexRange). one x.0) same, ap (λ (x : Attribute × Option IndexRange). x.1) same)
judged_ok (Some c) a r b q e = absurd cc

judged_some : (o : Option StatusCode) (b : Attribute) (r : Option IndexRange) (code : StatusCode)
    → ◌≡◌ {A = Result (Attribute × Option IndexRange) StatusCode} (Err code) (judged o (Some b) r) → Some code ≡ o
judged_some None b r code e = absurd cc
judged_some (Some c) b r code e = cc

refused_first : (a : Option Attribute) (rest : Option StatusCode) (r : Option IndexRange) (code : StatusCode)
    → ◌≡◌ {A = Result (Attribute × Option IndexRange) StatusCode} (Err code) (judged (if not (is_some a) then Some bad_attribute_id_invalid else rest) a r)
    → Some code ≡ (if not (is_some a) then Some bad_attribute_id_invalid else rest)
refused_first None rest r code e = cc
refused_first (Some b) rest r code e = judged_some rest b r code e

-- a refusal is the first reason: where there is no such attribute, that it is none
pub judged_err : (v : Variable) (item : ReadValueId) (code : StatusCode)
    → ◌≡◌ {A = Result (Attribute × Option IndexRange) StatusCode} (Err code)
    (judged (first_reason (read_item_reasons v item)) (attribute_of item.attribute_id) (asked_range item.index_range))
    → Some code ≡ first_reason (read_item_reasons v item)
judged_err v item code e = refused_first (attribute_of item.attribute_id) _ (asked_range item.index_range) code e

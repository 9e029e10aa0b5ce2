use Rattle.std.proofs.Common.{rules, ◌≡◌, Option, None, Result, Ok, sym, ap, ◌∙◌, nat_eq}
use Rattle.std.specs.Prelude.{option_map}
use Rattle.ua_builtin.specs.Reasons.{first_reason}
use Rattle.ua_builtin.specs.declared.status_code.StatusCode.{StatusCode}
use Rattle.ua_variant.specs.Data.{VariantData, valued}
use Rattle.ua_nodes.specs.Attribute.{attribute_of}
use Rattle.ua_nodes.specs.Range.{asked_range}
use Rattle.ua_nodes.specs.Read.{judged, read_by, read_item_reasons, stamps_of, value_read, with_stamps}
use Rattle.ua_nodes.specs.declared.attribute.Attribute.{Attribute}
use Rattle.ua_nodes.specs.declared.range.IndexRange.{IndexRange}
use Rattle.ua_nodes.proofs.Appended.{whole_is}
use Rattle.ua_nodes.proofs.Judged.{judged_err, judged_ok}
use Rattle.ua_nodes.proofs.node.Variable.answer_beside.Goals as goal

pub returns-in-Err-clause-made : goal.returns-in-Err-clause-made
returns-in-Err-clause-made c =
    let v = c.args.self.now in
    let item = c.args.item.now in
    c.refused.ensures
    ∙ ap (λ (o : Option StatusCode). read_by o v item c.args.stamps c.args.moment) (judged_err v item c.in-Err.code (sym c.in-Err.is ∙ c.judge_read.ensures))

pub returns-then-is_none-clause-whole : goal.returns-then-is_none-clause-whole
returns-then-is_none-clause-whole c = λ none.
    let v = c.args.self.now in
    let item = c.args.item.now in
    let value : item.attribute_id ≡ 13 = search rules in
    let granted : ◌≡◌ {A = Result (Attribute × Option IndexRange) StatusCode}
    (judged (first_reason (read_item_reasons v item)) (attribute_of item.attribute_id) (asked_range item.index_range)) (Ok (c.in-Ok.asked.0, None)) =
    search rules in
    whole_is item v c.in-Ok.asked.0 c.args.stamps c.args.moment value granted

pub returns-clause-made : goal.returns-clause-made
returns-clause-made c =
    let v = c.args.self.now in
    let item = c.args.item.now in
    let ok = judged_ok (first_reason (read_item_reasons v item)) (attribute_of item.attribute_id) (asked_range item.index_range) c.in-Ok.asked.0 c.in-Ok.asked.1
    (sym c.in-Ok.is ∙ c.judge_read.ensures) in
    let value = c.new-value.ensures ∙ c.in_ok-value_read.ensures ∙ ap (value_read item.node_id v c.in-Ok.asked.0) ok.2 in
    c.stamped.ensures
    ∙ ap (λ (x : VariantData). valued x (stamps_of v (nat_eq item.attribute_id 13) c.args.stamps c.args.moment)) value
    ∙ ap (λ (a : Option Attribute). with_stamps (option_map (λ b. value_read item.node_id v b (asked_range item.index_range)) a)
    (stamps_of v (nat_eq item.attribute_id 13) c.args.stamps c.args.moment)) ok.1
    ∙ ap (λ (o : Option StatusCode). read_by o v item c.args.stamps c.args.moment) ok.0

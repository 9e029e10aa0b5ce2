use Rattle.std.proofs.Common.{rules, ◌≡◌, true, Option, Some, refl, sym, ap, ◌∙◌}
use Rattle.ua_builtin.specs.Reasons.{first_reason}
use Rattle.ua_variant.specs.Data.{valued}
use Rattle.ua_variant.specs.Encodable.{data_value_encodable}
use Rattle.ua_variant.specs.Formats.{data_value_format}
use Rattle.ua_variant.specs.View.{data_value_of}
use Rattle.ua_nodes.specs.Read.{read_answer, read_by, read_item_reasons, stamps_of}
use Rattle.ua_nodes.specs.Status.{bad_node_id_unknown}
use Rattle.ua_nodes.specs.Table.{node_at}
use Rattle.ua_nodes.specs.declared.node.Variable.{Variable}
use Rattle.ua_nodes.proofs.SoundRead.{code_fits, read_sound}
use Rattle.ua_nodes.proofs.table.NodeTable.append_item.Goals as goal

pub append-requires : goal.append-requires
unfolding data_value_format
append-requires c = ap data_value_encodable c.refused.ensures ∙ code_fits bad_node_id_unknown refl

pub append-requires-in-Some-2 : goal.append-requires-in-Some-2
unfolding data_value_format
append-requires-in-Some-2 c =
    let item = c.args.item.now in
    let there : node_at c.args.self.now item.node_id ≡ Some c.in-Some.variable.now = search rules in
    let made : data_value_of c.in-Some-2.answer ≡ read_answer (Some c.in-Some.variable.now) item c.args.stamps c.args.moment = search rules in
    ap data_value_encodable (made ∙ ap (λ (o : Option Variable). read_answer o item c.args.stamps c.args.moment) (sym there))
    ∙ read_sound c.args.self.now item c.args.stamps c.args.moment c.moment_is_encodable.ensures c.requires.sound

pub append_value-requires : goal.append_value-requires
append_value-requires c =
    let item = c.args.item.now in
    let v = c.in-Some.variable.now in
    let there : node_at c.args.self.now item.node_id ≡ Some v = search rules in
    let whole : read_by (first_reason (read_item_reasons v item)) v item c.args.stamps c.args.moment
    ≡ valued v.value (stamps_of v true c.args.stamps c.args.moment) =
    search rules in
    ap data_value_encodable (sym (ap (λ (o : Option Variable). read_answer o item c.args.stamps c.args.moment) there ∙ whole))
    ∙ read_sound c.args.self.now item c.args.stamps c.args.moment c.moment_is_encodable.ensures c.requires.sound

pub append_value-requires-in-None : goal.append_value-requires-in-None
append_value-requires-in-None c =
    let item = c.args.item.now in
    let there : node_at c.args.self.now item.node_id ≡ Some c.in-Some.variable.now = search rules in
    ap data_value_encodable
    (sym (ap (λ (o : Option Variable). read_answer o item c.args.stamps c.args.moment) there ∙ c.in_ok-answer.ensures.whole c.in-None.is))
    ∙ read_sound c.args.self.now item c.args.stamps c.args.moment c.moment_is_encodable.ensures c.requires.sound

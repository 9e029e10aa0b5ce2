use Rattle.std.proofs.Common.{◌≡◌, true, Option, Some, Result, Ok, Err, IfOk, refl, sym, ap, ◌∙◌}
use Rattle.ua_variant.specs.Data.{DataValueData}
use Rattle.ua_variant.specs.Encodable.{data_value_encodable}
use Rattle.ua_variant.specs.View.{data_value_of}
use Rattle.ua_variant.specs.declared.values.DataValue.{DataValue}
use Rattle.ua_nodes.specs.declared.node.Variable.{Variable}
use Rattle.ua_nodes.specs.Read.{read_answer}
use Rattle.ua_nodes.specs.Table.{node_at}
use Rattle.ua_nodes.proofs.SoundRead.{code_fits, read_sound}
use Rattle.ua_nodes.proofs.table.NodeTable.read_item.Goals as goal

-- an answer that can be written
can_write : {E : Type 0} (r : Result DataValue E) (answer : DataValueData) → data_value_encodable answer ≡ true → IfOk r (λ d. data_value_of d ≡ answer)
    → IfOk r (λ d. data_value_encodable (data_value_of d) ≡ true)
can_write (Ok d) answer h e = ap data_value_encodable e ∙ h
can_write (Err x) answer h e = tt

pub returns-in-Some-clause-encodable : goal.returns-in-Some-clause-encodable
returns-in-Some-clause-encodable c = λ sound.
    let item = c.args.item.now in
    let fits = read_sound c.args.self.now item c.args.stamps c.args.moment c.moment_is_encodable.ensures sound in
    let there : node_at c.args.self.now item.node_id ≡ Some c.in-Some.variable.now = sym c.in-Some.ensures in
    can_write c.read.result (read_answer (Some c.in-Some.variable.now) item c.args.stamps c.args.moment)
    (ap (λ (o : Option Variable). data_value_encodable (read_answer o item c.args.stamps c.args.moment)) (sym there) ∙ fits) c.read.ensures

pub returns-in-None-clause-encodable : goal.returns-in-None-clause-encodable
returns-in-None-clause-encodable c = λ sound. ap data_value_encodable c.refused.ensures ∙ code_fits _ refl

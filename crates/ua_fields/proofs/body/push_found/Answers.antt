use Rattle.std.proofs.Common.{Ok, ap, ◌∙◌}
use Rattle.ua_fields.specs.Messages.{AreMessageLines}
use Rattle.ua_fields.proofs.Found.{found_added, is_found, none_added}
use Rattle.ua_fields.proofs.body.push_found.Goals as goal

pub returns-in-Ok-Some : goal.returns-in-Ok-Some
returns-in-Ok-Some g c there h =
    found_added {A = g.row.T.Denot} (λ value. AreMessageLines c.args.style (g.T.Lines.tree value)) c.in-Ok-Some.value there c.push_message.result _ _
    (is_found {A = g.row.T.Denot} c.args.found _ there (c.in-Ok-Some.is ∙ ap Ok c.in-Ok-Some.field-0-is) h) c.push_message.ensures

pub returns-in-Ok-None : goal.returns-in-Ok-None
returns-in-Ok-None g c there h =
    none_added {A = g.row.T.Denot} (λ value. AreMessageLines c.args.style (g.T.Lines.tree value)) there _
    (is_found {A = g.row.T.Denot} c.args.found _ there (c.in-Ok-None.is ∙ ap Ok c.in-Ok-None.field-0-is) h)

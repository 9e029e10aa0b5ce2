use Rattle.std.proofs.Common.{◌∙◌}
use Rattle.ua_serving.proofs.Storing.{lines_alone}
use Rattle.ua_serving.proofs.stored.stored_lines.Goals as goal

pub returns : goal.returns
returns c = lines_alone c.args.plain _ _ _ _ c.new-text.ensures.bytes (c.deref.ensures.value ∙ c.in_ok-items.ensures) c.in_ok-push_lines.ensures

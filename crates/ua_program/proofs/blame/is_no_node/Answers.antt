use Rattle.std.proofs.lemmas.Bool.{not-true}
use Rattle.ua_program.proofs.blame.is_no_node.Goals as goal

pub returns : goal.returns
returns c = λ none. c.in_ok-names_node.ensures (not-true c.in_ok-names_node.field-0 none)

use Rattle.std.proofs.Common.{List, ℕ, ◌++◌, ◌∙◌, ap, append-nil, refl, string_bytes}
use Rattle.ua_pair.specs.Lines.{aborted_line}
use Rattle.ua_pair.proofs.delivered.push_delivered.Goals as goal

pub returns : goal.returns
returns c = λ more none. (
  aborted_line c.args.options.now.names c.in-Aborted.request c.in-Aborted.code,
  ap (λ (t : List ℕ). string_bytes c.push_aborted_line.new.lines ++ t) none ∙ append-nil _ ∙ c.in_ok-push_aborted_line-in-Aborted.ensures,
  rw c.in-Aborted.is refl,
)

pub returns-in-Whole : goal.returns-in-Whole
returns-in-Whole c = rw c.in-Whole.is c.in_ok-pending-in-Whole.ensures

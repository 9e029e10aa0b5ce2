use Rattle.std.proofs.Common.{List, ℕ, ◌++◌, ◌∙◌, ap, arith}
use Rattle.ua_opening.proofs.NumberWritten.{number_written}
use Rattle.ua_opening.proofs.message.append_number.Goals as goal

pub returns-clause-ok : goal.returns-clause-ok
returns-clause-ok c = c.in_ok-extend_from_slice.ensures.items
    ∙ ap (λ (t : List ℕ). c.args.out.now.items ++ t) (number_written c.args.number (omega arith) (omega arith))

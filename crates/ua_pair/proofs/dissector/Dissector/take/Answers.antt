use Rattle.std.proofs.Common.{string_bytes, sym, ◌∙◌}
use Rattle.ua_pair.proofs.Dissections.{takes_tells}
use Rattle.ua_pair.proofs.Refusing.{says_no_more}
use Rattle.ua_pair.proofs.dissector.Dissector.take.Goals as goal

pub returns-else-is_err-clause-told : goal.returns-else-is_err-clause-told
returns-else-is_err-clause-told c = takes_tells c.take_all-taken.result c.args.self.now c.take_all-taken.new.self c.args.piece.now _ _
    c.take_all-taken.ensures.takes

pub returns-then-is_refused-clause-told : goal.returns-then-is_refused-clause-told
returns-then-is_refused-clause-told c = λ options octets told s.
    says_no_more c.args.self.now options octets told c.args.piece.now (string_bytes c.args.out.now) (sym c.is_refused.ensures ∙ c.if-is_refused.true) s

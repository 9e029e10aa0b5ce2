use Rattle.std.proofs.Common.{refl}
use Rattle.ua_program.proofs.PrintedSides.{behind_is, ends_side}
use Rattle.ua_program.proofs.judge.Printer.print_last.Goals as goal

pub returns : goal.returns
returns c = λ options octets told s.
    ends_side options octets told c.args.self.now.front.now _ _ _ _ c.new-lines.ensures.bytes s.are (c.in_ok-finish.ensures.last options octets told s)
    (behind_is _ _ c.args.self.now.front.now c.args.self.now.front.now _ _ c.in_ok-push_behind.ensures refl c.as_str.ensures.value)

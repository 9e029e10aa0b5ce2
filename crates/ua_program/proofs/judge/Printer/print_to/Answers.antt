use Rattle.std.proofs.Common.{refl, arith, take}
use Rattle.ua_program.proofs.PrintedSides.{behind_is, piece_parts, prints_nothing, prints_side}
use Rattle.ua_program.proofs.judge.Printer.print_to.Goals as goal

pub returns-then-self-end : goal.returns-then-self-end
returns-then-self-end c = λ options front s.
    let is = c.min-end.ensures in
    let all = c.if-self-end.true in
    prints_nothing c.args.self.now options front c.args.octets.now c.args.place _ (omega (arith, is, all)) s

pub returns : goal.returns
returns c = λ options front s.
    let is = c.min-end.ensures in
    prints_side c.args.self.now _ options front c.args.octets.now _ c.args.place c.min-end.result _ _ _ _ s c.min-end.ensures c.if-self-end.false
    (piece_parts c.args.octets.now c.args.self.now.at c.min-end.result c.if-self-end.false (omega (arith, is))) refl s.front_is c.new-lines.ensures.bytes
    (c.in_ok-take.ensures.told options (take c.args.self.now.at c.args.octets.now) s.told s.stands)
    (behind_is _ _ front c.args.self.now.front.now _ _ c.in_ok-push_behind.ensures s.front_is c.as_str.ensures.value)

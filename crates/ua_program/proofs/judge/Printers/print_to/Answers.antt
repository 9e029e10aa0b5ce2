use Rattle.std.specs.Prelude.{codes}
use Rattle.ua_fields.specs.declared.side.Side.TheVariants.{Client, Server}
use Rattle.ua_program.specs.Judges.{printed_options}
use Rattle.ua_program.proofs.PrintedSides.{prints_mark, side_within}
use Rattle.ua_program.proofs.judge.Printers.print_to.Goals as goal

pub returns : goal.returns
returns c = λ asked s.
    prints_mark c.args.self.now _ asked c.args.turns.now.up.items c.args.turns.now.down.items c.args.mark _ _ _
    (side_within c.args.self.now.server c.print_to.new.self (printed_options asked Server) (codes "< ") c.as_slice.result.now c.args.turns.now.down.items
    c.args.mark.down _ _ c.as_slice.ensures.value
    (c.in_ok-print_to.ensures (printed_options asked Server) (codes "< ")) s.server)
    (side_within c.args.self.now.client c.print_to-2.new.self (printed_options asked Client) (codes "> ") c.as_slice-2.result.now c.args.turns.now.up.items
    c.args.mark.up _ _ c.as_slice-2.ensures.value
    (c.in_ok-print_to-2.ensures (printed_options asked Client) (codes "> ")) s.client)

use Rattle.std.specs.Prelude.{codes}
use Rattle.ua_fields.specs.declared.side.Side.TheVariants.{Client, Server}
use Rattle.ua_program.specs.Judges.{printed_options}
use Rattle.ua_program.proofs.PrintedSides.{adds_last, last_side}
use Rattle.ua_program.proofs.judge.Printers.print_last.Goals as goal

pub returns : goal.returns
returns c = λ asked up down s.
    adds_last asked up down _ _ _
    (last_side c.args.self.now.server (printed_options asked Server) (codes "< ") down _ _ s.stand.server s.server_all
    (c.in_ok-print_last.ensures (printed_options asked Server) down s.stand.server.told))
    (last_side c.args.self.now.client (printed_options asked Client) (codes "> ") up _ _ s.stand.client s.client_all
    (c.in_ok-print_last-2.ensures (printed_options asked Client) up s.stand.client.told))

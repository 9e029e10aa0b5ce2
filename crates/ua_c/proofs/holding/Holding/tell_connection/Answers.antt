use Rattle.std.proofs.Common.{refl}
use Rattle.ua_c.proofs.Items.{tells_written}
use Rattle.ua_c.proofs.holding.Holding.tell_connection.Goals as goal
use Rattle.ua_c.specs.declared.holding.Machine.TheVariants as machine

-- where the handle holds nodes
pub returns : goal.returns
returns c =
    λ waiting. tells_written (record { machine = machine.Connection c.args.served.now; waiting = waiting })
    (record { machine = machine.Connection (record { connection = c.args.served.now.connection; written = c.tell_next.new.left }); waiting = waiting })
    c.args.self.now
    c.args.buffer.now c.tell_next.new.buffer c.tell_next.result c.args.served.now c.in-Nodes.shared c.tell_next.new.left refl c.in-Nodes.is refl
    c.tell_next.ensures

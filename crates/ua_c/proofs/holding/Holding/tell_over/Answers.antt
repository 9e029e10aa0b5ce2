use Rattle.ua_c.proofs.Items.{tells_held}
use Rattle.ua_c.proofs.holding.Holding.tell_over.Goals as goal
use Rattle.ua_c.specs.declared.holding.Machine.TheVariants as machine

-- where the first handle holds a connection
pub returns : goal.returns
returns c =
    tells_held c.args.self.now (record { machine = machine.Connection c.tell_connection.new.served; waiting = c.args.self.now.waiting }) c.args.nodes.now
    c.args.buffer.now c.tell_connection.new.buffer
    c.tell_connection.result c.in-Connection.served c.in-Connection.is (c.tell_connection.ensures c.args.self.now.waiting)

use Rattle.ua_c.proofs.Connected.{steps_held}
use Rattle.ua_c.proofs.holding.Holding.step_over.Goals as goal
use Rattle.ua_c.specs.declared.holding.Machine.TheVariants as machine

-- where the first handle holds a connection
pub returns : goal.returns
returns c =
    steps_held c.args.self.now (record { machine = machine.Connection c.step_connection.new.served; waiting = c.step_connection.new.waiting }) c.args.nodes.now
    c.step_connection.new.self
    c.args.piece.now c.args.moment c.step_connection.result c.in-Connection.served c.in-Connection.is c.step_connection.ensures

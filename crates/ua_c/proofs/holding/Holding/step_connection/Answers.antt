use Rattle.ua_c.proofs.Connected.{steps_nodes}
use Rattle.ua_c.proofs.holding.Holding.step_connection.Goals as goal
use Rattle.ua_c.specs.declared.holding.Machine.TheVariants as machine

-- where the handle holds nodes
pub returns : goal.returns
returns c =
    steps_nodes (record { machine = machine.Connection c.args.served.now; waiting = c.args.waiting.now })
    (record { machine = machine.Connection c.step.new.served; waiting = c.step.new.waiting })
    c.args.self.now (record { machine = machine.Nodes c.step.new.self; waiting = c.args.self.now.waiting }) c.args.piece.now c.args.moment c.step.result
    c.in-Nodes.shared c.in-Nodes.is (c.step.ensures c.args.self.now.waiting)

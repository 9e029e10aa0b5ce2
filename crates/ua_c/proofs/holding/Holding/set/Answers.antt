use Rattle.std.proofs.Common.{refl}
use Rattle.ua_c.proofs.Indexed.{sets_node}
use Rattle.ua_c.proofs.holding.Holding.set.Goals as goal

-- the nodes that are held
pub returns : goal.returns
returns c = sets_node c.args.self.now _ c.args.index c.args.octets.now c.args.given.now _ c.in-Nodes.shared c.set.new.self c.in-Nodes.is refl c.set.ensures

use Rattle.std.proofs.Common.{sym, rules}
use Rattle.ua_c.proofs.Gotten.{encodes_at_index, gets_none, only_memory}
use Rattle.ua_c.specs.Readings.{node_at_index}
use Rattle.ua_c.proofs.shared.SharedNodes.get.Goals as goal

-- where the value of the node was not encoded: memory was refused
pub returns-in-Err : goal.returns-in-Err
returns-in-Err c =
    let node = c.in-Some.node.now in
    let at = sym c.in-Some.ensures.node in
    gets_none (node_at_index c.args.self.now c.args.index) node c.args.buffer.now c.args.buffer.now 0 c.nothing.result c.in-Err.status at
    (only_memory c.get.result.now node.value c.in-Err.status c.get.ensures (encodes_at_index c.args.self.now c.args.index node c.in-Some.ensures.sound at)
    c.in-Err.ensures.fault)
    (search rules)

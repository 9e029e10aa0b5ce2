-- The fields are appended in order.
use Rattle.ua_wire.proofs.Appends.{more_then, pair_more}
use Rattle.ua_builtin.specs.Format.{flat}
use Rattle.ua_builtin.specs.NodeId.{node_id}
use Rattle.ua_structures.specs.Attribute.{write_value}
use Rattle.ua_structures.proofs.attribute_wire.WriteValueWire.append.Goals as goal

pub returns-clause-ok : goal.returns-clause-ok
unfolding write_value
returns-clause-ok c =
    pair_more c.append_two-2.result c.args.out.now.items _ _ ((flat node_id).canonical c.args.self.now.node_id) _ _ c.in_ok-append_two.ensures.ok
    c.append_two-2.ensures.ok

pub returns-clause-err : goal.returns-clause-err
returns-clause-err c =
    let r = c.append_two-2.result in
    more_then r c.args.out.now.items _ _ _ c.in_ok-append_two.ensures.ok
    c.append_two-2.ensures.err

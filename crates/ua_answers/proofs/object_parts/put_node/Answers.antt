use Rattle.ua_answers.specs.ObjectParts.{node_members}
use Rattle.ua_answers.proofs.Tokens.{object_whole, one_last, put_one}
use Rattle.ua_answers.proofs.object_parts.put_node.Goals as goal

pub returns : goal.returns
returns c =
    object_whole c.end_object.result c.args.line.now c.begin_object.new.self c.put_node_members.new.line c.end_object.new.self (node_members c.args.node.now)
    (put_one c.in_ok-begin_object.ensures) c.in_ok-put_node_members.ensures (one_last c.end_object.ensures)

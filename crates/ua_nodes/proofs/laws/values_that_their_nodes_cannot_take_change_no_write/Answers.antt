use Rattle.std.proofs.Common.{subst}
use Rattle.std.specs.List.{IsDistinct}
use Rattle.std.specs.Map.{keys_of}
use Rattle.ua_nodes.proofs.ThinnedWithin.{after_limited-thinned, limited_answers-thinned}
use Rattle.ua_nodes.proofs.laws.values_that_their_nodes_cannot_take_change_no_write.Goals as goal
use Rattle.ua_nodes.specs.Table.{Nodes, same_id}

pub returns-clause-answers : goal.returns-clause-answers
returns-clause-answers c = limited_answers-thinned c.args.table.now

pub returns-clause-nodes : goal.returns-clause-nodes
returns-clause-nodes c =
    after_limited-thinned c.args.table.now (subst (λ (nodes : Nodes). IsDistinct same_id (keys_of nodes)) c.table.view_is c.len-count.ensures.unique)

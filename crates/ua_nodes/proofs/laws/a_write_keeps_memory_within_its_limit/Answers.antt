use Rattle.std.proofs.Common.{subst}
use Rattle.std.specs.List.{IsDistinct}
use Rattle.std.specs.Map.{keys_of}
use Rattle.ua_nodes.proofs.LimitKept.{kept_within}
use Rattle.ua_nodes.proofs.laws.a_write_keeps_memory_within_its_limit.Goals as goal
use Rattle.ua_nodes.specs.Table.{Nodes, same_id}

pub returns : goal.returns
returns c = λ most items moment.
    kept_within most items moment c.args.table.now (subst (λ (nodes : Nodes). IsDistinct same_id (keys_of nodes)) c.table.view_is c.len-count.ensures.unique)

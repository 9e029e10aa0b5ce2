use Rattle.std.proofs.Common.{◌≡◌, take}
use Rattle.ua_session.specs.Question.{items_of_question}
use Rattle.ua_session.proofs.question.read_items.Given as goal

-- the items of the nodes so far
abbrev pub invariant-loop-node : goal.invariant-loop-node
invariant-loop-node l = l.items.items ≡ items_of_question l.attribute l.range (take l.node-index l.nodes)

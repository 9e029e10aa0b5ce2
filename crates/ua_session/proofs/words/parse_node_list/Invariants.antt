use Rattle.std.proofs.Common.{take}
use Rattle.ua_session.specs.Words.{AreNodes}
use Rattle.ua_session.proofs.words.parse_node_list.Given as goal

-- the NodeIds that the texts so far name
abbrev pub invariant-loop-text : goal.invariant-loop-text
invariant-loop-text l = AreNodes (λ text. text.now) (take l.text-index l.texts) l.nodes.items

use Rattle.std.proofs.Common.{◌≡◌, map, length}
use Rattle.ua_nodes.proofs.Pieces.{pieces}
use denote.Text.{Utf8}
use denote.Shadow.{shadow}
use Rattle.ua_nodes.specs.ValueText.{leaves_denoted, elements, in_front}
use Rattle.ua_variant.specs.Data.{leaf}
use Rattle.ua_nodes.proofs.value.parse_items.Given as goal

-- what all elements denote: the values so far, in front of what the rest denotes
abbrev pub invariant-elements : goal.invariant-elements
invariant-elements g l = shadow (Utf8 l.rest)
    × (leaves_denoted g.T.Leaf.kind (elements l.fn.text) ≡ in_front (map leaf (map g.T.Leaf.as_leaf l.items.items))
    (leaves_denoted g.T.Leaf.kind (pieces 44 l.rest)))

abbrev pub decreases-elements : goal.decreases-elements
decreases-elements g l = length l.rest

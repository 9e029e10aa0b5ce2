use Rattle.std.proofs.Common.{map, take}
use Rattle.ua_variant.specs.Data.{leaf}
use Rattle.ua_variant.specs.Packed.{packed_leaves}
use Rattle.ua_variant.specs.View.{row}
use Rattle.ua_answers.specs.PlainJson.{AreJson}
use Rattle.ua_answers.proofs.PlainTokens.{EachJson}
use Rattle.ua_answers.proofs.plain_object.put_plain_packed.Given as goal

-- the elements so far were put
abbrev pub invariant-loop-index : goal.invariant-loop-index
invariant-loop-index l = EachJson l.fn.line l.line (AreJson l.names (row (take l.index (map leaf (packed_leaves l.packed)))))

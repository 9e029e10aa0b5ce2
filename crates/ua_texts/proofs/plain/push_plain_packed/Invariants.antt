use Rattle.std.proofs.Common.{string_bytes, map, take}
use Rattle.ua_variant.specs.Data.{leaf}
use Rattle.ua_variant.specs.Packed.{packed_leaves}
use Rattle.ua_texts.proofs.PlainRows.{Added}
use Rattle.ua_texts.proofs.plain.push_plain_packed.Given as goal

-- the elements so far were added
abbrev pub invariant-loop-index : goal.invariant-loop-index
invariant-loop-index l = Added l.names (take l.index (map leaf (packed_leaves l.packed))) (string_bytes l.fn.out) (string_bytes l.out)

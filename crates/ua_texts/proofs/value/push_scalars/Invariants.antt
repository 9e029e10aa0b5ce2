use Rattle.std.proofs.Common.{◌≡◌, ◌++◌, string_bytes, map, take}
use Rattle.ua_variant.specs.View.{scalar_of}
use Rattle.ua_texts.specs.Values.{items_text}
use Rattle.ua_texts.proofs.value.push_scalars.Given as goal

-- the elements so far were added
abbrev pub invariant-loop-index : goal.invariant-loop-index
invariant-loop-index l = string_bytes l.out ≡ string_bytes l.fn.out ++ items_text (take l.index (map scalar_of l.scalars))

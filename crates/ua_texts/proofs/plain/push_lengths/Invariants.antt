use Rattle.std.proofs.Common.{◌≡◌, ◌++◌, string_bytes, take}
use Rattle.std.specs.List.{flat_map}
use Rattle.ua_texts.specs.Plain.{length_text}
use Rattle.ua_texts.proofs.plain.push_lengths.Given as goal

-- the lengths so far were added
abbrev pub invariant-loop-length : goal.invariant-loop-length
invariant-loop-length l = string_bytes l.out ≡ string_bytes l.fn.out ++ flat_map length_text (take l.length-index l.lengths)

use Rattle.std.proofs.Common.{◌≡◌, ◌++◌, string_bytes}
use Rattle.std.specs.List.{flat_map}
use Rattle.ua_texts.specs.Marks.{marked_char}
use Rattle.ua_texts.proofs.marks.push_marked.Given as goal

-- the characters so far were added
abbrev pub invariant-loop-c : goal.invariant-loop-c
invariant-loop-c l = string_bytes l.out ≡ string_bytes l.fn.out ++ flat_map (marked_char l.marks) l.yielded

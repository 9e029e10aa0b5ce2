use Rattle.std.proofs.Common.{◌≡◌, ◌++◌, length, map, nat_eq, string_bytes, take}
use Rattle.std.specs.List.{slice_split}
use Rattle.ua_answers.specs.PlainRead.{exact_element}
use Rattle.ua_texts.specs.Values.{parted}
use Rattle.ua_answers.proofs.plain_read.push_exact_elements.Given as goal

-- the elements so far were added
abbrev pub invariant-loop-element : goal.invariant-loop-element
invariant-loop-element l =
    (l.index ≡ length l.yielded)
    × (string_bytes l.out ≡ string_bytes l.fn.out ++ parted (map (exact_element l.kind) (take l.index (slice_split (λ b. nat_eq b 44) l.text))))

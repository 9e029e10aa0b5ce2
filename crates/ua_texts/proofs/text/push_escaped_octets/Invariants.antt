use Rattle.std.proofs.Common.{◌≡◌, ◌++◌, string_bytes, take}
use Rattle.std.specs.List.{flat_map}
use Rattle.ua_texts.specs.Shown.{escaped_octet}
use Rattle.ua_texts.proofs.text.push_escaped_octets.Given as goal

-- the octets so far were added
abbrev pub invariant-loop-octet : goal.invariant-loop-octet
invariant-loop-octet l = string_bytes l.out ≡ string_bytes l.fn.out ++ flat_map escaped_octet (take l.octet-index l.octets)

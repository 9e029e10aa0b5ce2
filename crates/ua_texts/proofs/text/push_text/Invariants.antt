use Rattle.std.proofs.Common.{◌≡◌, ◌++◌, string_bytes, encode_utf8_all}
use Rattle.ua_texts.specs.Shown.{shown}
use Rattle.ua_texts.proofs.text.push_text.Given as goal

abbrev pub invariant-loop-c : goal.invariant-loop-c
invariant-loop-c l = string_bytes l.out ≡ string_bytes l.fn.out ++ shown (encode_utf8_all l.yielded)

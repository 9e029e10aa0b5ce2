use Rattle.std.proofs.Common.{IsTrue, take}
use Rattle.std.specs.List.{All}
use Rattle.ua_texts.specs.Shown.{IsPlainOctet}
use Rattle.ua_texts.proofs.text.is_plain.Given as goal

-- where no byte so far was another, all of them are plain
abbrev pub invariant-loop-octet : goal.invariant-loop-octet
invariant-loop-octet l = IsTrue l.plain → All IsPlainOctet (take l.octet-index l.octet-items)

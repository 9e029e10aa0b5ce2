use Rattle.std.proofs.Common.{length, ◌-◌, string_bytes}
use Rattle.ua_pair.proofs.Dissections.{SoFar}
use Rattle.ua_pair.proofs.dissector.Dissector.push_piece.Given as goal

abbrev pub invariant-loop-lines : goal.invariant-loop-lines
invariant-loop-lines l = SoFar l.fn.self l.self l.piece l.at (string_bytes l.fn.text) (string_bytes l.text)

abbrev pub decreases-loop-lines : goal.decreases-loop-lines
decreases-loop-lines l = length l.piece - l.at

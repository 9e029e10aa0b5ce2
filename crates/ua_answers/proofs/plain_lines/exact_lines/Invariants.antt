use Rattle.std.proofs.Common.{◌≡◌, string_bytes}
use Rattle.std.specs.List.{flat_map}
use Rattle.std.specs.Str.Lines.{strip_carriage_return}
use Rattle.ua_answers.specs.PlainLines.{exact_line}
use Rattle.ua_answers.proofs.plain_lines.exact_lines.Given as goal

-- the lines so far were added
abbrev pub invariant-loop-line : goal.invariant-loop-line
invariant-loop-line l = string_bytes l.exact ≡ flat_map (λ line. exact_line (strip_carriage_return line.now)) l.yielded

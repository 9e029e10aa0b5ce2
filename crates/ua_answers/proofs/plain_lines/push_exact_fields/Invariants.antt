use Rattle.std.proofs.Common.{◌≡◌, ◌++◌, length, string_bytes}
use denote.Text.{Utf8}
use denote.Shadow.{shadow}
use Rattle.ua_nodes.proofs.Pieces.{pieces}
use Rattle.ua_answers.specs.PlainLines.{exact_fields}
use Rattle.ua_answers.proofs.ExactLines.{last_text}
use Rattle.ua_answers.proofs.plain_lines.push_exact_fields.Given as goal

-- the fields so far were added, and the others are still to be
abbrev pub invariant-fields : goal.invariant-fields
invariant-fields l = shadow (Utf8 l.kind) × shadow (Utf8 l.rest)
    × (string_bytes l.fn.out ++ exact_fields l.fn.line ≡ string_bytes l.out ++ last_text l.kind (pieces 9 l.rest))

abbrev pub decreases-fields : goal.decreases-fields
decreases-fields l = length l.rest

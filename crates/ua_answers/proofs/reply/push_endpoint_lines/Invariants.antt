use Rattle.std.proofs.Common.{◌≡◌, ◌++◌, string_bytes, take}
use Rattle.std.specs.List.{flat_map}
use Rattle.ua_answers.specs.Answers.{endpoint_line}
use Rattle.ua_answers.proofs.reply.push_endpoint_lines.Given as goal

-- the lines so far were added
abbrev pub invariant-loop-endpoint : goal.invariant-loop-endpoint
invariant-loop-endpoint l = string_bytes l.out ≡ string_bytes l.fn.out ++ flat_map (endpoint_line l.style) (take l.endpoint-index l.endpoints)

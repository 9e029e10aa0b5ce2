use Rattle.std.proofs.Common.{◌≡◌}
use Rattle.ua_channel.specs.ClientTokens.{from_last}
use Rattle.ua_channel.proofs.client.talking.release_before.Given as goal

abbrev pub invariant-loop-tokens : goal.invariant-loop-tokens
invariant-loop-tokens l = from_last l.token l.tokens.items ≡ from_last l.token l.fn.tokens.items

abbrev pub decreases-loop-tokens : goal.decreases-loop-tokens
decreases-loop-tokens l = goal.left-loop-tokens l

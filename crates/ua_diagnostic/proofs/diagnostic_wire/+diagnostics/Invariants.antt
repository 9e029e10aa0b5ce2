use Rattle.std.proofs.Common.{◌+◌, ◌*◌}
use Rattle.ua_diagnostic.proofs.diagnostic_wire.+diagnostics.Given as goal

abbrev pub decreases-read_diagnostic : goal.decreases-read_diagnostic
decreases-read_diagnostic g l = 4 * l.depth + 0

abbrev pub decreases-read_level : goal.decreases-read_level
decreases-read_level g l = 4 * l.depth + 3

abbrev pub decreases-read_inner : goal.decreases-read_inner
decreases-read_inner g l = 4 * l.depth + 1

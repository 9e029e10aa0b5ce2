use Rattle.std.proofs.Common.{◌+◌, ◌*◌}
use Rattle.ua_diagnostic.proofs.diagnostic_wire.+skipped_diagnostics.Given as goal

abbrev pub decreases-skip_diagnostic : goal.decreases-skip_diagnostic
decreases-skip_diagnostic g l = 4 * l.depth + 0

abbrev pub decreases-skip_level : goal.decreases-skip_level
decreases-skip_level g l = 4 * l.depth + 3

abbrev pub decreases-skip_inner : goal.decreases-skip_inner
decreases-skip_inner g l = 4 * l.depth + 1

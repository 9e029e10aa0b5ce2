use Rattle.std.proofs.Common.{◌+◌, ◌*◌}
use Rattle.ua_diagnostic.specs.Diagnostic.{diagnostic_depth}
use Rattle.ua_diagnostic.specs.View.{diagnostic_of}
use Rattle.ua_texts.proofs.plain_diagnostic.+plain_diagnostics.Given as goal

abbrev pub decreases-push_plain_diagnostic : goal.decreases-push_plain_diagnostic
decreases-push_plain_diagnostic l = 2 * diagnostic_depth l.value.now + 1

abbrev pub decreases-push_diagnostic : goal.decreases-push_diagnostic
decreases-push_diagnostic l = 2 * diagnostic_depth (diagnostic_of l.value.now)

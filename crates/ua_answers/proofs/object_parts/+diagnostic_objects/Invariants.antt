use Rattle.std.proofs.Common.{◌+◌, ◌*◌}
use Rattle.ua_diagnostic.specs.Diagnostic.{diagnostic_depth}
use Rattle.ua_diagnostic.specs.View.{diagnostic_of}
use Rattle.ua_answers.proofs.object_parts.+diagnostic_objects.Given as goal

abbrev pub decreases-put_diagnostic : goal.decreases-put_diagnostic
decreases-put_diagnostic l = 2 * diagnostic_depth l.value.now + 1

abbrev pub decreases-put_fields : goal.decreases-put_fields
decreases-put_fields l = 2 * diagnostic_depth (diagnostic_of l.value.now)

use Rattle.ua_wire.specs.Exact.{image_read, skipped}
use Rattle.ua_diagnostic.specs.Diagnostic.{diagnostic_at}
use Rattle.ua_diagnostic.specs.Formats.{diagnostic_format}
use Rattle.ua_diagnostic.specs.View.{diagnostic_value}
use Rattle.ua_diagnostic.proofs.Skipped.{skipped_image, gives_on}
use Rattle.ua_diagnostic.proofs.diagnostic_wire.DiagnosticInfoSkip.skip_value.Goals as goal

pub returns-clause-exact : goal.returns-clause-exact
unfolding diagnostic_format
returns-clause-exact g c =
    gives_on (skipped (image_read diagnostic_value (diagnostic_at c.args.depth))) (skipped (diagnostic_at c.args.depth)) (g.S.Source.octets c.args.src.now)
    (g.S.Source.octets c.args.src.now) (g.S.Source.octets c.skip_diagnostic.new.src) c.skip_diagnostic.result
    (skipped_image diagnostic_value (diagnostic_at c.args.depth) (g.S.Source.octets c.args.src.now)) c.skip_diagnostic.ensures.exact

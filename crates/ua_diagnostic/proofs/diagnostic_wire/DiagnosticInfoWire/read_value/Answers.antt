use Rattle.ua_diagnostic.specs.View.{diagnostic_of}
use Rattle.ua_diagnostic.specs.View.{diagnostic_value}
use Rattle.ua_diagnostic.proofs.Viewed.{diagnostic_value_of}
use Rattle.ua_diagnostic.specs.Diagnostic.{diagnostic_at}
use Rattle.ua_diagnostic.specs.Formats.{diagnostic_format}
use Rattle.ua_diagnostic.proofs.DiagnosticsLawful.{gives_made}
use Rattle.ua_diagnostic.proofs.diagnostic_wire.DiagnosticInfoWire.read_value.Goals as goal

pub returns-clause-exact : goal.returns-clause-exact
unfolding diagnostic_format
returns-clause-exact g c =
    gives_made diagnostic_of diagnostic_value (diagnostic_at c.args.depth) diagnostic_value_of (g.S.Source.octets c.args.src.now)
    (g.S.Source.octets c.read_diagnostic.new.src) c.read_diagnostic.result c.read_diagnostic.ensures.exact

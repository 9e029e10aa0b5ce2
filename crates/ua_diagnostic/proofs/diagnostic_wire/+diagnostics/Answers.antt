use Rattle.std.proofs.Common.{◌-◌, arith}
use Rattle.ua_diagnostic.specs.View.{diagnostic_of}
use Rattle.ua_diagnostic.specs.Diagnostic.{diagnostic_at, diagnostic_step}
use Rattle.ua_diagnostic.proofs.DiagnosticsRead.{diagnostic_none, diagnostic_level}
use Rattle.ua_diagnostic.proofs.Extents.{gives_same}
use Rattle.ua_diagnostic.proofs.diagnostic_wire.+diagnostics.Goals as goal

pub read_diagnostic-returns-then-depth-eq0-clause-exact : goal.read_diagnostic-returns-then-depth-eq0-clause-exact
read_diagnostic-returns-then-depth-eq0-clause-exact g t c = diagnostic_none c.args.depth (g.S.Source.octets c.args.src.now) c.if-depth-eq0.true

pub read_diagnostic-returns-clause-exact : goal.read_diagnostic-returns-clause-exact
read_diagnostic-returns-clause-exact g t c =
    gives_same diagnostic_of (diagnostic_at c.args.depth) (diagnostic_step (diagnostic_at (c.args.depth - 1))) (g.S.Source.octets c.args.src.now)
    (g.S.Source.octets c.read_level.new.src) c.read_level.result (diagnostic_level c.args.depth (g.S.Source.octets c.args.src.now) (omega arith))
    c.read_level.ensures.exact

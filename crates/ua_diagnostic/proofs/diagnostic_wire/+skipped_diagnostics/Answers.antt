use Rattle.std.proofs.Common.{◌-◌, ap, arith}
use Rattle.ua_wire.specs.Exact.{skipped}
use Rattle.ua_diagnostic.specs.Diagnostic.{diagnostic_at, diagnostic_step}
use Rattle.ua_diagnostic.proofs.DiagnosticsRead.{diagnostic_none, diagnostic_level}
use Rattle.ua_diagnostic.proofs.Skipped.{rest, gives_on}
use Rattle.ua_diagnostic.proofs.diagnostic_wire.+skipped_diagnostics.Goals as goal

pub skip_diagnostic-returns-then-depth-eq0-clause-exact : goal.skip_diagnostic-returns-then-depth-eq0-clause-exact
skip_diagnostic-returns-then-depth-eq0-clause-exact g t c = ap rest (diagnostic_none c.args.depth (g.S.Source.octets c.args.src.now) c.if-depth-eq0.true)

pub skip_diagnostic-returns-clause-exact : goal.skip_diagnostic-returns-clause-exact
skip_diagnostic-returns-clause-exact g t c =
    gives_on (skipped (diagnostic_at c.args.depth)) (skipped (diagnostic_step (diagnostic_at (c.args.depth - 1)))) (g.S.Source.octets c.args.src.now)
    (g.S.Source.octets c.args.src.now) (g.S.Source.octets c.skip_level.new.src) c.skip_level.result
    (ap rest (diagnostic_level c.args.depth (g.S.Source.octets c.args.src.now) (omega arith))) c.skip_level.ensures.exact

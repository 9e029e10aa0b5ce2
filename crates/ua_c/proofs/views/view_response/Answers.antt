use Rattle.std.proofs.Common.{Global, Vec}
use Rattle.std.proofs.lemmas.Result.{err_from_is_err_and}
use Rattle.ua_c.specs.Views.{AreViewsOf}
use Rattle.ua_c.specs.declared.readings.UaReading.{UaReading}
use Rattle.ua_c.proofs.Replied.{array_fault, diagnostics_fault, header_fault, reply_seen}
use Rattle.ua_c.proofs.views.view_response.Goals as goal

-- no header was read
pub returns-in_err-header : goal.returns-in_err-header
returns-in_err-header c =
    let p = err_from_is_err_and c.from_residual.result c.from_residual.ensures.1 in
    record {
      sees = rw (p.1, p.2) (header_fault {X = Vec UaReading Global} (λ readings m. AreViewsOf c.args.body.now m.results readings.items) c.args.source.now
          c.read_value.new.src c.read_value.new.src
          c.in_err-header.field-0.0 c.in_err-header.ensures.exact);
    }

-- no results were read
pub returns-in_err-readings : goal.returns-in_err-readings
returns-in_err-readings c =
    let p = err_from_is_err_and c.from_residual-in_err-readings.result c.from_residual-in_err-readings.ensures.1 in
    record {
      sees = rw (p.1, p.2) (array_fault {X = Vec UaReading Global} {Y = Vec UaReading Global} (λ readings ds. AreViewsOf c.args.body.now ds readings.items)
          (λ readings m. AreViewsOf c.args.body.now m.results readings.items)
          c.args.source.now c.read_value.new.src c.view_array.new.source c.view_array.new.source c.in_ok-header.header c.in_err-readings.field-0.0
          c.in_ok-header.ensures.exact c.in_err-readings.ensures.sees);
    }

-- no DiagnosticInfos were read
pub returns-in_err-diagnostics : goal.returns-in_err-diagnostics
returns-in_err-diagnostics c =
    let p = err_from_is_err_and c.from_residual-in_err-diagnostics.result c.from_residual-in_err-diagnostics.ensures.1 in
    record {
      sees = rw (p.1, p.2) (diagnostics_fault {X = Vec UaReading Global} (λ readings m. AreViewsOf c.args.body.now m.results readings.items)
          (λ ds. AreViewsOf c.args.body.now ds c.in_ok-readings.readings.items)
          c.args.source.now c.read_value.new.src c.view_array.new.source c.read_value-2.new.src c.read_value-2.new.src c.in_ok-header.header
          c.in_err-diagnostics.field-0.0 c.in_ok-header.ensures.exact
          c.in_ok-readings.ensures.sees c.in_err-diagnostics.ensures.exact);
    }

-- all of it was
pub returns : goal.returns
returns c = record {
  sees = reply_seen {X = Vec UaReading Global} (λ readings. readings.items) c.args.body.now c.args.source.now c.read_value.new.src c.view_array.new.source
      c.read_value-2.new.src c.in_ok-header.header
      c.in_ok-diagnostics.diagnostics c.in_ok-readings.readings c.in_ok-header.ensures.exact c.in_ok-readings.ensures.sees c.in_ok-diagnostics.ensures.exact;
}

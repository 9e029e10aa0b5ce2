use Rattle.std.proofs.lemmas.Result.{err_from_is_err_and}
use Rattle.ua_opening.proofs.ItemsSkipped.{goes_on, is_done, fault_ends}
use Rattle.ua_opening.proofs.array.skip_items.Goals as goal

pub returns-in_err-skip_value-clause-exact : goal.returns-in_err-skip_value-clause-exact
returns-in_err-skip_value-clause-exact g c =
    let p = err_from_is_err_and c.from_residual.result c.from_residual.ensures.1 in
    rw (p.1, p.2) (fault_ends (g.T.Wire.format.decode c.args.depth) c.in_err-skip_value.field-0.0 c.args.count c.loop.counter (g.S.Source.octets c.args.src.now)
    (g.S.Source.octets c.loop.src) (g.S.Source.octets c.skip_value.new.src) c.loop-test.true c.in_err-skip_value.ensures.exact c.loop.invariant.so_far)

pub loop-preserved : goal.loop-preserved
loop-preserved g c = record {
  so_far = goes_on (g.T.Wire.format.decode c.args.depth) c.args.count c.loop.counter (g.S.Source.octets c.loop.src) (g.S.Source.octets c.skip_value.new.src) _
      c.loop-test.true c.in_ok-skip_value.ensures.exact c.loop.invariant.so_far;
  behind = λ start h. c.in_ok-skip_value.ensures.behind start (c.loop.invariant.behind start h);
}

pub returns-clause-exact : goal.returns-clause-exact
returns-clause-exact g c = is_done (g.T.Wire.format.decode c.args.depth) c.args.count c.loop.counter (g.S.Source.octets c.loop.src) _ c.loop-test.false
    c.loop.invariant.so_far

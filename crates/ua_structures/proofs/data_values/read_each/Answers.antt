use Rattle.std.proofs.Common.{Vec, Global}
use Rattle.std.proofs.lemmas.Result.{err_from_is_err_and}
use Rattle.ua_variant.specs.Formats.{data_value_format}
use Rattle.ua_variant.specs.declared.values.DataValue.{DataValue}
use Rattle.ua_opening.proofs.ItemsRead.{goes_on_behind, is_done, fault_ends, fault_behind}
use Rattle.ua_structures.proofs.data_values.read_each.Goals as goal

pub returns-in_err-read_onto-clause-exact : goal.returns-in_err-read_onto-clause-exact
returns-in_err-read_onto-clause-exact g c =
    let p = err_from_is_err_and c.from_residual.result c.from_residual.ensures.1 in
    let read = data_value_format.decode c.args.depth in
    let old = g.S.Source.octets c.loop.src in
    let new = g.S.Source.octets c.read_onto.new.src in
    rw (p.1, p.2) (fault_ends (λ (v : Vec DataValue Global). v.items) read c.in_err-read_onto.field-0.0 c.loop.items.items c.args.count c.loop.counter
    (g.S.Source.octets c.args.src.now) old new c.loop-test.true
    (fault_behind read c.loop.items.items c.read_onto.new.items.items c.in_err-read_onto.field-0.0 old new c.in_err-read_onto.ensures.exact)
    c.loop.invariant.so_far)

pub loop-preserved : goal.loop-preserved
loop-preserved g c = record {
  so_far = goes_on_behind (data_value_format.decode c.args.depth) c.loop.items.items c.read_onto.new.items.items c.args.count c.loop.counter
      (g.S.Source.octets c.loop.src) (g.S.Source.octets c.read_onto.new.src) _ c.loop-test.true c.in_ok-read_onto.ensures.exact c.loop.invariant.so_far;
  behind = λ start h. c.in_ok-read_onto.ensures.behind start (c.loop.invariant.behind start h);
}

pub returns-clause-exact : goal.returns-clause-exact
returns-clause-exact g c = is_done (data_value_format.decode c.args.depth) c.loop.items.items c.args.count c.loop.counter (g.S.Source.octets c.loop.src) _
    c.loop-test.false c.loop.invariant.so_far

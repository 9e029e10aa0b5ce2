use Rattle.std.proofs.Common.{Vec, Global}
use Rattle.std.proofs.lemmas.Result.{err_from_is_err_and}
use Rattle.ua_builtin.specs.Exact.{image_read}
use Rattle.ua_opening.specs.Array.{items_at}
use Rattle.ua_structures.specs.Attribute.{write_value}
use Rattle.ua_structures.specs.Thin.{thinned}
use Rattle.ua_structures.specs.declared.attribute.WriteValue.{WriteValue}
use Rattle.ua_opening.proofs.ItemsRead.{goes_on_behind, is_done, fault_behind, fault_ends}
use Rattle.ua_structures.proofs.thin.read_items.Goals as goal

pub returns-in_err-read_onto-clause-exact : goal.returns-in_err-read_onto-clause-exact
returns-in_err-read_onto-clause-exact g c =
    let p = err_from_is_err_and c.from_residual-in_err-read_onto.result c.from_residual-in_err-read_onto.ensures.1 in
    let read = image_read (thinned (g.T.TakesTypes.takes c.args.types.now)) (write_value.decode c.args.depth) in
    let old = g.S.Source.octets c.loop.src in
    let new = g.S.Source.octets c.read_onto.new.src in
    rw (p.1, p.2) (fault_ends (λ (v : Vec WriteValue Global). v.items) read c.in_err-read_onto.field-0.0 c.loop.items.items c.args.count c.loop.counter
    (g.S.Source.octets c.args.src.now) old new c.loop-test.true
    (fault_behind read c.loop.items.items c.read_onto.new.items.items c.in_err-read_onto.field-0.0 old new c.in_err-read_onto.ensures.exact)
    c.loop.invariant.so_far)

pub loop-preserved : goal.loop-preserved
loop-preserved g c =
    let read = image_read (thinned (g.T.TakesTypes.takes c.args.types.now)) (write_value.decode c.args.depth) in
    record {
      so_far = goes_on_behind read c.loop.items.items c.read_onto.new.items.items c.args.count c.loop.counter
          (g.S.Source.octets c.loop.src) (g.S.Source.octets c.read_onto.new.src) _ c.loop-test.true c.in_ok-read_onto.ensures.exact c.loop.invariant.so_far;
      behind = λ start h. c.in_ok-read_onto.ensures.behind start (c.loop.invariant.behind start h);
    }

pub returns-clause-exact : goal.returns-clause-exact
returns-clause-exact g c =
    let read = image_read (thinned (g.T.TakesTypes.takes c.args.types.now)) (write_value.decode c.args.depth) in
    is_done read c.loop.items.items c.args.count c.loop.counter (g.S.Source.octets c.loop.src) (items_at read c.args.count (g.S.Source.octets c.args.src.now))
    c.loop-test.false c.loop.invariant.so_far

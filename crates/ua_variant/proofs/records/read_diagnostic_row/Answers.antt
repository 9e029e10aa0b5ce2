use Rattle.std.proofs.Common.{◌-◌, ◌++◌, ◌∷◌, [], List, map, ap, ◌∙◌, arith}
use Rattle.std.proofs.lemmas.Result.{err_from_is_err_and}
use Rattle.ua_variant.specs.Data.{ScalarData}
use Rattle.ua_variant.specs.Decoding.{scalars_at}
use Rattle.ua_variant.specs.View.{row, scalar_of}
use Rattle.ua_variant.specs.declared.values.Scalar.{Scalar}
use Rattle.ua_variant.proofs.BlocksRead.{element_stops}
use Rattle.ua_variant.proofs.Loops.{row_so_far, row_done}
use Rattle.ua_variant.proofs.records.read_diagnostic_row.Goals as goal

pub returns-in_err-item-clause-exact : goal.returns-in_err-item-clause-exact
returns-in_err-item-clause-exact g c =
    let fault = err_from_is_err_and c.from_residual-in_err-item.result c.from_residual-in_err-item.ensures.1 in
    rw (fault.1, fault.2) (element_stops (λ (ss : List ScalarData). row ss) (scalars_at c.args.depth 25) c.loop.items.items c.args.count c.loop.counter
    (g.S.Source.octets c.args.src.now) (g.S.Source.octets c.loop.src) (g.S.Source.octets c.read_boxed_diagnostic.new.src) c.in_err-item.field-0.0
    (omega arith) c.in_err-item.ensures.exact c.loop.invariant.so_far)

pub loop-preserved : goal.loop-preserved
loop-preserved g c = record {
  so_far = row_so_far (scalars_at c.args.depth 25) c.loop.items.items c.in_ok-item.item c.args.count c.loop.counter (g.S.Source.octets c.args.src.now)
      (g.S.Source.octets c.loop.src) (g.S.Source.octets c.read_boxed_diagnostic.new.src) (omega arith) (c.push_reserved.ensures.items
      ∙ ap (λ (xs : List Scalar). xs ++ c.in_ok-item.item ∷ []) c.make_room.ensures.items) c.in_ok-item.ensures.exact c.loop.invariant.so_far;
  behind = λ start h. c.in_ok-item.ensures.behind start (c.loop.invariant.behind start h);
}

pub returns-clause-exact : goal.returns-clause-exact
returns-clause-exact g c =
    row_done (scalars_at c.args.depth 25) (map scalar_of c.loop.items.items) c.args.count (c.args.count - c.loop.counter) (g.S.Source.octets c.args.src.now)
    (g.S.Source.octets c.loop.src) c.loop.invariant.so_far (omega arith) c.new.ensures

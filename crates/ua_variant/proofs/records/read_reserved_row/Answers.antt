use Rattle.std.proofs.Common.{◌-◌, ◌++◌, ◌∷◌, [], List, map, ap, ◌∙◌, arith, refl}
use Rattle.std.proofs.lemmas.Result.{err_from_is_err_and}
use Rattle.ua_variant.specs.Blocks.{leaf_row_at}
use Rattle.ua_variant.specs.View.{scalar_of}
use Rattle.ua_variant.specs.declared.values.Scalar.{Scalar}
use Rattle.ua_variant.proofs.BlocksRead.{leaves_at, records_stop}
use Rattle.ua_variant.proofs.Loops.{row_so_far, row_done}
use Rattle.ua_variant.proofs.records.read_reserved_row.Goals as goal

pub returns-in_err-item-clause-exact : goal.returns-in_err-item-clause-exact
returns-in_err-item-clause-exact g c =
    let fault = err_from_is_err_and c.from_residual-in_err-item.result c.from_residual-in_err-item.ensures.1 in
    rw (fault.1, fault.2) (records_stop c.args.kind c.loop.items.items c.args.count c.loop.counter (g.S.Source.octets c.args.src.now)
    (g.S.Source.octets c.loop.src) (g.S.Source.octets c.read_reserved.new.src) c.in_err-item.field-0.0 (omega arith) c.in_err-item.ensures.exact
    c.loop.invariant.so_far)

pub loop-preserved : goal.loop-preserved
loop-preserved g c = record {
  so_far = row_so_far (leaves_at c.args.kind) c.loop.items.items c.in_ok-item.item c.args.count c.loop.counter (g.S.Source.octets c.args.src.now)
      (g.S.Source.octets c.loop.src) (g.S.Source.octets c.read_reserved.new.src) (omega arith) (c.push_reserved.ensures.items
      ∙ ap (λ (xs : List Scalar). xs ++ c.in_ok-item.item ∷ []) c.make_room.ensures.items) c.in_ok-item.ensures.exact c.loop.invariant.so_far;
  behind = λ start h. c.in_ok-item.ensures.behind start (c.loop.invariant.behind start h);
}

pub returns-clause-exact : goal.returns-clause-exact
unfolding leaf_row_at
returns-clause-exact g c =
    row_done (leaves_at c.args.kind) (map scalar_of c.loop.items.items) c.args.count (c.args.count - c.loop.counter) (g.S.Source.octets c.args.src.now)
    (g.S.Source.octets c.loop.src) c.loop.invariant.so_far (omega arith) refl

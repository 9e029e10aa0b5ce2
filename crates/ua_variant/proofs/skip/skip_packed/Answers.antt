use Rattle.std.proofs.Common.{map, arith}
use Rattle.std.proofs.lemmas.Result.{err_from_is_err_and}
use Rattle.ua_variant.specs.Data.{leaf}
use Rattle.ua_variant.specs.Packed.{packed_leaves}
use Rattle.ua_variant.specs.View.{row}
use Rattle.ua_variant.specs.declared.packed.Packed.{Packed}
use Rattle.ua_variant.proofs.BlocksRead.{leaves_at}
use Rattle.ua_variant.proofs.RowsSkipped.{part_goes_on, part_fault, row_is_passed}
use Rattle.ua_variant.proofs.skip.skip_packed.Goals as goal

pub returns-in_err-read_packed-clause-exact : goal.returns-in_err-read_packed-clause-exact
returns-in_err-read_packed-clause-exact g c =
    let fault = err_from_is_err_and c.from_residual.result c.from_residual.ensures.1 in
    rw (fault.1, fault.2) (part_fault (λ (q : Packed). row (map leaf (packed_leaves q))) (leaves_at c.args.kind) c.in_err-read_packed.field-0.0
    c.min-part.result c.loop-left.left c.args.count (g.S.Source.octets c.args.src.now) (g.S.Source.octets c.loop-left.src)
    (g.S.Source.octets c.read_packed.new.src) (omega arith) c.in_err-read_packed.ensures.exact c.loop-left.invariant.so_far)

pub loop-left-preserved : goal.loop-left-preserved
loop-left-preserved g c = record {
  so_far = part_goes_on (leaves_at c.args.kind) c.min-part.result c.loop-left.left _ (g.S.Source.octets c.loop-left.src)
      (g.S.Source.octets c.read_packed.new.src) _ (omega arith) c.in_ok-read_packed.ensures.exact c.loop-left.invariant.so_far;
  behind = λ start h. c.in_ok-read_packed.ensures.behind start (c.loop-left.invariant.behind start h);
}

pub returns-clause-exact : goal.returns-clause-exact
returns-clause-exact g c = row_is_passed (leaves_at c.args.kind) c.loop-left.left (g.S.Source.octets c.loop-left.src) _
    (omega arith) c.loop-left.invariant.so_far

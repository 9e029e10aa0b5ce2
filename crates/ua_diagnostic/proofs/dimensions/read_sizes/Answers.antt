use Rattle.std.proofs.Common.{arith, rules, w32, ℤ, FitsSigned, Vec, Global}
use Rattle.std.proofs.lemmas.Int.{to_z-of_z}
use Rattle.std.proofs.lemmas.Result.{err_from_is_err_and}
use Rattle.ua_diagnostic.proofs.Extents.{sizes_short, sizes_so_far, sizes_fault}
use Rattle.ua_diagnostic.proofs.dimensions.read_sizes.Goals as goal

pub returns-then-left-count-clause-exact : goal.returns-then-left-count-clause-exact
returns-then-left-count-clause-exact g c = sizes_short c.args.count (g.S.Source.octets c.args.src.now) (omega arith)

pub returns-in_err-size-clause-exact : goal.returns-in_err-size-clause-exact
returns-in_err-size-clause-exact g c =
    let p = err_from_is_err_and c.from_residual-in_err-size.result c.from_residual-in_err-size.ensures.1 in
    rw (p.1, p.2) (sizes_fault (λ (v : Vec ℤ Global). v.items) c.in_err-size.field-0.0 c.loop.sizes.items c.args.count c.loop.counter
    (g.S.Source.octets c.args.src.now) (g.S.Source.octets c.loop.src) (g.S.Source.octets c.read_size.new.src) c.loop-test.true c.in_err-size.ensures.exact
    c.loop.invariant.so_far)

pub loop-preserved : goal.loop-preserved
loop-preserved g c =
    let fits : FitsSigned w32 c.in_ok-size.size = search rules in
    record {
      so_far = sizes_so_far c.loop.sizes.items c.in_ok-size.size c.args.count c.loop.counter (g.S.Source.octets c.args.src.now) (g.S.Source.octets c.loop.src)
          (g.S.Source.octets c.read_size.new.src) (omega arith) c.in_ok-push.ensures.items (to_z-of_z w32 c.in_ok-size.size fits) c.in_ok-size.ensures.exact
          c.loop.invariant.so_far;
      behind = λ start h. c.in_ok-size.ensures.behind start (c.loop.invariant.behind start h);
    }

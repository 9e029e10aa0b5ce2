use Rattle.std.proofs.Common.{◌*◌, min, arith, rules, w32, ap, ◌∙◌, FitsSigned}
use Rattle.std.specs.Int.RustNames.{unsigned_abs}
use Rattle.std.proofs.lemmas.Int.{to_z-of_z}
use Rattle.std.proofs.lemmas.Result.{err_from_is_err_and}
use Rattle.ua_diagnostic.proofs.Products.{product_goes_on, product_fault, product_ends}
use Rattle.ua_diagnostic.proofs.dimensions.skip_sizes.Goals as goal

pub returns-in_err-size-clause-exact : goal.returns-in_err-size-clause-exact
returns-in_err-size-clause-exact g c =
    let p = err_from_is_err_and c.from_residual.result c.from_residual.ensures.1 in
    rw (p.1, p.2) (product_fault c.in_err-size.field-0.0 c.loop.all c.args.count c.loop.counter (g.S.Source.octets c.args.src.now)
    (g.S.Source.octets c.loop.src) (g.S.Source.octets c.read_size.new.src) c.loop-test.true c.in_err-size.ensures.exact c.loop.invariant.so_far)

pub loop-preserved : goal.loop-preserved
loop-preserved g c =
    let fits : FitsSigned w32 c.in_ok-size.size = search rules in
    record {
      so_far = product_goes_on c.loop.all _ c.in_ok-size.size c.args.count c.loop.counter (g.S.Source.octets c.loop.src) (g.S.Source.octets c.read_size.new.src)
          _ (omega arith) (c.saturating_mul-all.ensures ∙ ap (λ n. min (c.loop.all * n) 18446744073709551615) (c.from.ensures ∙ c.unsigned_abs.ensures.value
          ∙ ap unsigned_abs (to_z-of_z w32 c.in_ok-size.size fits))) c.in_ok-size.ensures.exact c.loop.invariant.so_far;
      within = omega (arith, c.saturating_mul-all.ensures);
      behind = λ start h. c.in_ok-size.ensures.behind start (c.loop.invariant.behind start h);
    }

pub returns-clause-exact : goal.returns-clause-exact
returns-clause-exact g c = product_ends c.loop.all c.args.count c.loop.counter (g.S.Source.octets c.loop.src) _ c.loop.invariant.within c.loop-test.false
    c.loop.invariant.so_far

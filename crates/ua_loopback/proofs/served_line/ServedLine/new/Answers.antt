use Rattle.std.proofs.Common.{[], arith, refl, sym}
use Rattle.ua_loopback.specs.Times.{time_at, times_of}
use Rattle.ua_loopback.specs.declared.stage.Stage.TheVariants.{Going}
use Rattle.ua_loopback.proofs.Stepped.{keeps_first, kept_as}
use Rattle.ua_loopback.proofs.served_line.ServedLine.new.Goals as goal

pub invariant_of-result : goal.invariant_of-result
invariant_of-result g c =
    let b = g.W.Began.beginning in
    let s = c.args.server in (
      kept_as b c.new.result s.services (times_of c.new-2.result) [] [] 0 Going c.new-3.result.items c.new-4.result.items Going
          (keeps_first b c.new.result s.limits s.channel_id s.services (time_at s.moment s.later.items) (times_of c.new-2.result) c.requires
          (λ n. sym (c.new-2.ensures n)) (c.new.ensures.stands s.services) c.new.ensures.limits c.new.ensures.channel)
          c.new-3.ensures.items c.new-4.ensures.items refl,
      λ some. absurd (omega (arith, some)),
    )

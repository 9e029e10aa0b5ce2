use Rattle.std.proofs.Common.{rules, ◌≡◌, ◌+◌, ◌++◌, ◌∙◌, List, ap, refl, subst, take, ℕ}
use Rattle.ua_loopback.specs.Kept.{Keeps}
use Rattle.ua_loopback.specs.Times.{times_in, times_of}
use Rattle.ua_loopback.specs.declared.stage.Stage.{Stage}
use Rattle.ua_loopback.specs.declared.stage.Stage.TheVariants.{Going, Ended}
use Rattle.ua_loopback.proofs.Stepped.{keeps_ended, keeps_on, kept_more, takes_some}
use Rattle.ua_loopback.proofs.served_line.ServedLine.take.Goals as goal

pub invariant_of-self-in-Some : goal.invariant_of-self-in-Some
invariant_of-self-in-Some g c =
    let i = c.self.inside in
    let b = g.W.Began.beginning in
    let step = c.in-Ok.step in
    let times = times_of i.clock in
    let going : i.stage ≡ Going = search rules in
    let k : Keeps b i.server i.services times i.up.items i.down.items i.read Going =
    subst (λ (s : Stage). Keeps b i.server i.services times i.up.items i.down.items i.read s) going c.self.invariant.0 in (
      kept_more b c.step.new.self c.step.new.services times (i.up.items ++ take step.taken c.args.piece.now) i.down.items step.out.items i.read
          (Ended c.in-Some.end) c.add_both.new.up.items c.add_both.new.down.items c.deref.result.now (Ended c.in-Some.end)
          (keeps_ended b i.server c.step.new.self i.services c.step.new.services c.moment-moment.result times i.up.items i.down.items c.args.piece.now i.read
          step k c.moment-moment.ensures c.in-Ok.ensures.now c.in-Ok.ensures.limits c.in-Ok.ensures.channel c.in-Some.end c.in-Some.is)
          c.in-Ok-add_both.ensures.up c.in-Ok-add_both.ensures.down c.deref.ensures.value refl,
      λ some. tt,
    )

pub invariant_of-self-in-None : goal.invariant_of-self-in-None
invariant_of-self-in-None g c =
    let i = c.self.inside in
    let b = g.W.Began.beginning in
    let step = c.in-Ok.step in
    let times = times_of i.clock in
    let later = times_of c.note.new.self in
    let going : i.stage ≡ Going = search rules in
    let k : Keeps b i.server i.services times i.up.items i.down.items i.read Going =
    subst (λ (s : Stage). Keeps b i.server i.services times i.up.items i.down.items i.read s) going c.self.invariant.0 in (
      kept_more b c.step.new.self c.step.new.services later (i.up.items ++ take step.taken c.args.piece.now) i.down.items step.out.items i.read Going
          c.add_both.new.up.items c.add_both.new.down.items c.deref.result.now i.stage
          (keeps_on b i.server c.step.new.self i.services c.step.new.services c.moment-moment.result times i.up.items i.down.items c.args.piece.now i.read
          step k c.moment-moment.ensures c.in-Ok.ensures.now c.in-Ok.ensures.limits c.in-Ok.ensures.channel c.in-None.is later
          (λ m. c.note.ensures m ∙ ap (λ (o : List ℕ). times (times_in o + m)) c.deref-in-None.ensures.value))
          c.in-Ok-add_both.ensures.up c.in-Ok-add_both.ensures.down c.deref.ensures.value going,
      c.self.invariant.1,
    )

pub returns-clause-some : goal.returns-clause-some
returns-clause-some g c =
    let i = c.self.inside in
    let b = g.W.Began.beginning in
    let step = c.in-Ok.step in
    let times = times_of i.clock in
    let going : i.stage ≡ Going = search rules in
    let k : Keeps b i.server i.services times i.up.items i.down.items i.read Going =
    subst (λ (s : Stage). Keeps b i.server i.services times i.up.items i.down.items i.read s) going c.self.invariant.0 in
    λ some.
    takes_some b i.server c.step.new.self i.services c.step.new.services c.moment-moment.result times i.up.items i.down.items c.args.piece.now i.read step k
    c.moment-moment.ensures c.in-Ok.ensures.now c.in-Ok.ensures.limits c.in-Ok.ensures.channel c.in-Ok.ensures.progress some

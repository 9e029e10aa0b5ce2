use Rattle.std.proofs.Common.{ℕ, subst, sym}
use Rattle.ua_poll.specs.Rounds.{Tells}
use Rattle.ua_poll.proofs.Telling.{goes_both, goes_on, goes_told}
use Rattle.ua_poll.proofs.serving.Watched.round.Goals as goal

pub returns-then-not-take_in-clause-goes : goal.returns-then-not-take_in-clause-goes
returns-then-not-take_in-clause-goes g c = λ es first s.
    goes_told g.E.Endings.notes g.E.Application.acts es first c.args.services.now _ _ _ _ _ _ c.take_in.ensures.told
    (c.take_in.ensures.stand es first c.args.services.now s)

pub returns-in-Err-clause-goes : goal.returns-in-Err-clause-goes
returns-in-Err-clause-goes g c = λ es first s.
    let told = subst (λ (n : ℕ). Tells g.E.Endings.notes g.E.Application.acts c.args.self.now.over n c.args.endings.now c.take_in.new.endings)
    (sym c.wait.ensures.same.0)
    c.take_in.ensures.told in
    goes_told g.E.Endings.notes g.E.Application.acts es first c.args.services.now _ _ _ _ _ _ told
    (c.wait.ensures.stand es first c.args.services.now (c.take_in.ensures.stand es first c.args.services.now s))

pub returns-then-release-clause-goes : goal.returns-then-release-clause-goes
returns-then-release-clause-goes g c = λ es first s.
    let told = subst (λ (n : ℕ). Tells g.E.Endings.notes g.E.Application.acts c.args.self.now.over n c.args.endings.now c.take_in.new.endings)
    (sym c.wait.ensures.same.0)
    c.take_in.ensures.told in
    goes_both g.E.Endings.notes g.E.Application.acts es first _ _ _ _ _ _ _ _ _ _
    (goes_told g.E.Endings.notes g.E.Application.acts es first c.args.services.now _ _ _ _ _ _ told
    (c.wait.ensures.stand es first c.args.services.now (c.take_in.ensures.stand es first c.args.services.now s)))
    (λ all t. goes_both g.E.Endings.notes g.E.Application.acts all first _ _ _ _ _ _ _ _ _ _
    (goes_on g.E.Endings.notes g.E.Application.acts all first c.wait.new.self.over _ _ _ _ (c.go_round.ensures.stand all first t))
    (λ more u. goes_told g.E.Endings.notes g.E.Application.acts more first c.go_round.new.services _ _ _ _ _ _ c.release.ensures.told
    (c.release.ensures.stand more first c.go_round.new.services u)))

pub returns-else-release-clause-goes : goal.returns-else-release-clause-goes
returns-else-release-clause-goes g c = λ es first s.
    let told = subst (λ (n : ℕ). Tells g.E.Endings.notes g.E.Application.acts c.args.self.now.over n c.args.endings.now c.take_in.new.endings)
    (sym c.wait.ensures.same.0)
    c.take_in.ensures.told in
    goes_both g.E.Endings.notes g.E.Application.acts es first _ _ _ _ _ _ _ _ _ _
    (goes_told g.E.Endings.notes g.E.Application.acts es first c.args.services.now _ _ _ _ _ _ told
    (c.wait.ensures.stand es first c.args.services.now (c.take_in.ensures.stand es first c.args.services.now s)))
    (λ all t. goes_both g.E.Endings.notes g.E.Application.acts all first _ _ _ _ _ _ _ _ _ _
    (goes_on g.E.Endings.notes g.E.Application.acts all first c.wait.new.self.over _ _ _ _ (c.go_round.ensures.stand all first t))
    (λ more u. goes_told g.E.Endings.notes g.E.Application.acts more first c.go_round.new.services _ _ _ _ _ _ c.release.ensures.told
    (c.release.ensures.stand more first c.go_round.new.services u)))

pub returns-then-not-goes_on-clause-goes : goal.returns-then-not-goes_on-clause-goes
returns-then-not-goes_on-clause-goes g c = λ es first s.
    let told = subst (λ (n : ℕ). Tells g.E.Endings.notes g.E.Application.acts c.args.self.now.over n c.args.endings.now c.take_in.new.endings)
    (sym c.wait.ensures.same.0)
    c.take_in.ensures.told in
    goes_both g.E.Endings.notes g.E.Application.acts es first _ _ _ _ _ _ _ _ _ _
    (goes_told g.E.Endings.notes g.E.Application.acts es first c.args.services.now _ _ _ _ _ _ told
    (c.wait.ensures.stand es first c.args.services.now (c.take_in.ensures.stand es first c.args.services.now s)))
    (λ all t. goes_on g.E.Endings.notes g.E.Application.acts all first c.wait.new.self.over _ _ _ _ (c.go_round.ensures.stand all first t))

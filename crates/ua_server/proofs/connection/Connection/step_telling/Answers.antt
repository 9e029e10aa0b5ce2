use Rattle.std.specs.Prelude.{◌≡◌, Option}
use Rattle.std.specs.Map.{keys_of}
use Rattle.std.proofs.Common.{sym, ◌∙◌, ap, subst}
use Rattle.ua_server.specs.Now.{StepNow}
use Rattle.ua_server.specs.Served.{channel_in, channel_at, session_at, session_in, with_own_session}
use Rattle.ua_server.specs.State.{State, with_session}
use Rattle.ua_server.specs.declared.session.Session.{Session}
use Rattle.ua_server.proofs.Sharings.{step_among}
use Rattle.ua_server.proofs.connection.Connection.step_telling.Goals as goal

pub returns-clause-among : goal.returns-clause-among
returns-clause-among c = λ channels k octets es first s.
    let x = channel_at c.args.self.now in
    let y = channel_in c.step_telling-step.new.self in
    let mine = with_own_session c.args.self.now c.args.services.now in
    let left = c.step_telling-step.new.services in
    let before : c.swap_session.new.self ≡ mine = c.swap_session.ensures.services in
    let after : with_session c.swap_session-2.new.self (session_in c.swap_session-2.new.slot) ≡ left =
    ap (λ (s : State). with_session s (session_in c.swap_session-2.new.slot)) c.swap_session-2.ensures.services
    ∙ ap (λ (o : Option Session). with_session left o) c.swap_session-2.ensures.slot in
    step_among channels k x y (session_at c.args.self.now) (session_in c.swap_session-2.new.slot) c.args.moment c.args.piece.now octets es first
    c.args.services.now c.swap_session-2.new.self c.step_telling-step.result s c.step_telling-step.ensures.channel
    (ap (λ (n : State). n.session) c.swap_session-2.ensures.services ∙ c.swap_session.ensures.slot)
    (λ told g. subst (λ (n : State). StepNow x c.args.moment c.args.piece.now c.step_telling-step.result y octets told mine n) (sym after)
    (subst (λ (n : State). StepNow x c.args.moment c.args.piece.now c.step_telling-step.result y octets told n left) before
    (c.step_telling-step.ensures.now octets told g)))

pub returns-clause-ids : goal.returns-clause-ids
returns-clause-ids c =
    ap (λ (s : State). keys_of s.nodes) c.swap_session-2.ensures.services
    ∙ (c.step_telling-step.ensures.ids ∙ ap (λ (s : State). keys_of s.nodes) c.swap_session.ensures.services)

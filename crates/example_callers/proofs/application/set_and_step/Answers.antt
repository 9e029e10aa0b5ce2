use Rattle.std.proofs.Common.{◌++◌, ◌∷◌, [], List, ℕ, Ok, subst}
use Rattle.ua_channel.specs.ServerStands.{Goes}
use Rattle.ua_channel.specs.ServerTold.{Told}
use Rattle.ua_nodes.specs.Set.{after_set}
use Rattle.ua_server.specs.History.{Became, told_in}
use Rattle.ua_server.specs.Now.{StepNow}
use Rattle.ua_server.specs.Served.{channel_at, with_own_session}
use Rattle.ua_server.specs.State.{State}
use Rattle.example_callers.proofs.application.set_and_step.Goals as goal

pub returns-in-Ok-step-clause-history : goal.returns-in-Ok-step-clause-history
returns-in-Ok-step-clause-history c =
    let law = c.a_history_goes_on_by_changes_and_steps.ensures in
    let x = channel_at c.args.connection.now in
    let y = channel_at c.step.new.self in
    let nodes = after_set c.args.sensor.now c.args.reading c.args.services.now.nodes in
    let steps =
    subst (λ (s : State). (octets : List ℕ) (told : List Told) → Goes x octets told → StepNow x c.args.moment c.args.piece.now (Ok c.in-Ok-step.step) y octets
    told (with_own_session c.args.connection.now s) (with_own_session c.step.new.self c.step.new.services)) c.set.ensures.state c.in-Ok-step.ensures.now in
    λ octets hs first stands.
    let more = hs ++ Became nodes c.args.services.now.made ∷ [] in
    let set = law.became x octets hs first (with_own_session c.args.connection.now c.args.services.now) nodes c.args.services.now.made stands in
    law.steps x y c.args.moment c.args.piece.now octets more first _ _ (Ok c.in-Ok-step.step) set c.step.ensures.channel
    (steps octets (told_in more) set.goes)

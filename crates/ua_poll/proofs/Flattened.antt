-- What serving told, without the states of the server.
use Rattle.std.proofs.Common.{◌≡◌, ℕ, List, [], ◌∷◌, Option, None, Some, Result, Ok, Err, refl, sym, subst, ◌∙◌, arith}
use Rattle.ua_concurrent.specs.Acts.{Act, Acted, Stepping, TellsStep, Told, events_at, own_id, stored_in}
use Rattle.ua_poll.specs.News.{Acts, News, Over, Missed, TellsOfAll, count_over, notes_of}
use Rattle.ua_poll.specs.Serving.{AreEnded, Event, Ended, EventsLead, Passed, ServesAtOnce, Stepped, count_ended}
use Rattle.ua_poll.specs.declared.serving.PollFault.{PollFault}
use Rattle.ua_server.specs.Happening.{Leads}
use Rattle.ua_server.specs.Sharing.{Changed, SharedState, course_at, opened, shared_by, shared_over}
use Rattle.ua_server.specs.State.{State, with_nodes}
use Rattle.ua_server.specs.declared.step.Step.{Step}

module _ {E : Type 0} (notes : E → News → E → Type 0) (acts : E → Act → E → Type 0) where
  told_step : (p : SharedState) (s : Stepping) (step : Option Step) (x y z : E) (news : List News) → TellsStep acts p s step x y
      → Leads (notes_of notes acts) y news z → (more : List News) × Leads (notes_of notes acts) x more z × (count_over more ≡ count_over news)
  told_step p s None x y z news told rest = (news, subst (λ (w : E). Leads (notes_of notes acts) w news z) (sym told) rest, refl)
  told_step p s (Some step) x y z news told rest =
      (Acts (Told s.number step (stored_in (course_at p s.number).state s.said)) ∷ news, (y, told.2, rest), refl)

  told_led : (p : SharedState) (events : List Event) (x z : E) → EventsLead notes acts p x events z
      → (news : List News) × Leads (notes_of notes acts) x news z × (count_over news ≡ count_ended events)
  told_led p [] x z led = ([], led, refl)
  told_led p (Stepped s ∷ events) x z led =
      let rest = told_led (shared_over own_id p (events_at s)) events led.0 z led.2 in
      let told = told_step (shared_by own_id p (Changed s.nodes)) s s.step led.1.mid led.0 z rest.0 led.1.told rest.1 in
      (Acts (Acted p.state (with_nodes p.state s.nodes) s.moment) ∷ told.0, (led.1.mid, led.1.acted, told.1), told.2 ∙ rest.2)
  told_led p (Ended number outcome ∷ events) x z led =
      let rest = told_led p events led.0 z led.2 in
      (Over number outcome ∷ rest.0, (led.0, led.1, rest.1), let same = rest.2 in omega (arith, same))
  told_led p (Passed why ∷ events) x z led = let rest = told_led p events led.0 z led.2 in (Missed why ∷ rest.0, (led.0, led.1, rest.1), rest.2)

  pub told_of_all : {T : Type 0} (total : ℕ) (result : Result T PollFault) (before now : State × E) → ServesAtOnce notes acts total result before now
      → TellsOfAll (notes_of notes acts) total result before.1 now.1
  told_of_all {T = T} total result before now s = by result s.over
    where
      told : (news : List News) × Leads (notes_of notes acts) before.1 news now.1 × (count_over news ≡ count_ended s.events)
      told = told_led (opened before.0) s.events before.1 now.1 s.led

      by : (r : Result T PollFault) → AreEnded total r (count_ended s.events) → TellsOfAll (notes_of notes acts) total r before.1 now.1
      by (Ok value) ended = record { news = told.0; leads = told.1; count_is = told.2 ∙ ended }
      by (Err fault) ended = (count_ended s.events, ended, record { news = told.0; leads = told.1; count_is = told.2 })

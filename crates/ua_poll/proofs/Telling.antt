-- What is told, and done, in several parts.
use Rattle.std.proofs.Common.{◌≡◌, ◌+◌, ℕ, List, [], ◌∷◌, ◌++◌, map, Option, Result, Err, refl, sym, ap, subst, ◌∙◌, append-nil, arith}
use Rattle.ua_concurrent.specs.Acts.{Act, ActsOver, Stepping, events_at, events_in, own_id}
use Rattle.ua_concurrent.specs.Standing.{GoOn, StandTogether}
use Rattle.ua_concurrent.specs.Talk.{Talk}
use Rattle.ua_concurrent.specs.declared.outcome.Failure.{Failure}
use Rattle.ua_concurrent.proofs.Acting.{behind_both, shared_both}
use Rattle.ua_poll.specs.News.{News, Over, Missed}
use Rattle.ua_poll.specs.Rounds.{Goes, Tells, seen_of}
use Rattle.ua_poll.specs.Serving.{AreEnded, Event, Ended, EventsLead, Passed, ServesAtOnce, Stepped, count_ended, steps_among}
use Rattle.ua_poll.specs.declared.endings.NotTaken.{NotTaken}
use Rattle.ua_poll.specs.declared.polled_socket.PolledSocket.{PolledSocket}
use Rattle.ua_poll.specs.declared.serving.PollFault.{PollFault}
use Rattle.ua_server.specs.Sharing.{SharedEvent, SharedState, opened, shared_over}
use Rattle.ua_server.specs.State.{State}
use Rattle.ua_server.specs.declared.step.End.{End}

count_both : (a b : List Event) → count_ended (a ++ b) ≡ count_ended a + count_ended b
count_both [] b = omega arith
count_both (Stepped s ∷ a) b = count_both a b
count_both (Ended number outcome ∷ a) b = let rest = count_both a b in omega (arith, rest)
count_both (Passed why ∷ a) b = count_both a b

steps_both : (a b : List Event) → steps_among (a ++ b) ≡ steps_among a ++ steps_among b
steps_both [] b = refl
steps_both (Stepped s ∷ a) b = ap (λ (steps : List Stepping). s ∷ steps) (steps_both a b)
steps_both (Ended number outcome ∷ a) b = steps_both a b
steps_both (Passed why ∷ a) b = steps_both a b

steps_of : (steps : List Stepping) → steps_among (map Stepped steps) ≡ steps
steps_of [] = refl
steps_of (s ∷ steps) = ap (λ (all : List Stepping). s ∷ all) (steps_of steps)

count_of : (steps : List Stepping) → count_ended (map Stepped steps) ≡ 0
count_of [] = refl
count_of (s ∷ steps) = count_of steps

module _ {E : Type 0} (notes : E → News → E → Type 0) (acts : E → Act → E → Type 0) where
  led_both : (p : SharedState) (a b : List Event) (x y z : E) → EventsLead notes acts p x a y
      → EventsLead notes acts (shared_over own_id p (events_in (steps_among a))) y b z → EventsLead notes acts p x (a ++ b) z
  led_both p [] b x y z first then = subst (λ (s : E). EventsLead notes acts p s b z) (sym first) then
  led_both p (Stepped s ∷ a) b x y z first then = (
    first.0,
    first.1,
    led_both (shared_over own_id p (events_at s)) a b first.0 y z first.2
        (subst (λ (q : SharedState). EventsLead notes acts q y b z) (shared_both p (events_at s) (events_in (steps_among a))) then),
  )
  led_both p (Ended number outcome ∷ a) b x y z first then = (first.0, first.1, led_both p a b first.0 y z first.2 then)
  led_both p (Passed why ∷ a) b x y z first then = (first.0, first.1, led_both p a b first.0 y z first.2 then)

  led_steps : (p : SharedState) (steps : List Stepping) (x y : E) → ActsOver acts p x steps y → EventsLead notes acts p x (map Stepped steps) y
  led_steps p [] x y led = led
  led_steps p (s ∷ steps) x y led = (led.0, led.1, led_steps (shared_over own_id p (events_at s)) steps led.0 y led.2)

  -- ---- without a step

  -- nothing was told
  pub tells_none : (count : ℕ) (x : E) → Tells notes acts count count x x
  tells_none count x = record { events = []; led = λ p. refl; still = refl; count_is = omega arith }

  -- this was told, and then that
  pub tells_both : (i j k : ℕ) (x y z : E) → Tells notes acts i j x y → Tells notes acts j k y z → Tells notes acts i k x z
  tells_both i j k x y z a b = record {
    events = a.events ++ b.events;
    led = λ p. led_both p a.events b.events x y z (a.led p) (b.led (shared_over own_id p (events_in (steps_among a.events))));
    still = steps_both a.events b.events ∙ ap (λ (s : List Stepping). s ++ steps_among b.events) a.still ∙ b.still;
    count_is = let both = count_both a.events b.events in let first = a.count_is in let then = b.count_is in omega (arith, both, first, then);
  }

  pub tells_over : (number : ℕ) (outcome : Result End Failure) (i j : ℕ) (x y : E) → notes x (Over number outcome) y → j ≡ i + 1 → Tells notes acts i j x y
  tells_over number outcome i j x y n more =
      record { events = Ended number outcome ∷ []; led = λ p. (y, n, refl); still = refl; count_is = omega (arith, more) }

  pub tells_missed : (why : NotTaken) (i : ℕ) (x y : E) → notes x (Missed why) y → Tells notes acts i i x y
  tells_missed why i x y n = record { events = Passed why ∷ []; led = λ p. (y, n, refl); still = refl; count_is = omega arith }

  -- ---- with steps

  stand_as : (es all : List SharedEvent) (first now : State) (last : ℕ) (places : List (Option (Talk PolledSocket))) → es ≡ all
      → StandTogether seen_of es first now last places → StandTogether seen_of all first now last places
  stand_as es all first now last places same s = subst (λ (x : List SharedEvent). StandTogether seen_of x first now last places) same s

  -- nothing was stepped
  pub goes_told : (es : List SharedEvent) (first now : State) (i j : ℕ) (x y : E) (last : ℕ) (places : List (Option (Talk PolledSocket)))
      → Tells notes acts i j x y → StandTogether seen_of es first now last places → Goes notes acts es first i j x (now, y) last places
  goes_told es first now i j x y last places t s = record {
    events = t.events;
    led = t.led (shared_over own_id (opened first) es);
    stand = stand_as es (es ++ events_in (steps_among t.events)) first now last places
        (sym (append-nil es) ∙ ap (λ (steps : List Stepping). es ++ events_in steps) (sym t.still)) s;
    count_is = t.count_is;
  }

  -- nothing but steps
  pub goes_on : (es : List SharedEvent) (first : State) (i : ℕ) (x : E) (now : State × E) (last : ℕ) (places : List (Option (Talk PolledSocket)))
      → GoOn seen_of acts es first x now last places → Goes notes acts es first i i x now last places
  goes_on es first i x now last places g = record {
    events = map Stepped g.steps;
    led = led_steps (shared_over own_id (opened first) es) g.steps x now.1 g.acted;
    stand = stand_as (es ++ events_in g.steps) (es ++ events_in (steps_among (map Stepped g.steps))) first now.0 last places
        (ap (λ (steps : List Stepping). es ++ events_in steps) (sym (steps_of g.steps))) g.stand;
    count_is = let none = count_of g.steps in omega (arith, none);
  }

  -- one after the other
  pub goes_both : (es : List SharedEvent) (first : State) (i j k : ℕ) (x : E) (mid now : State × E) (last last' : ℕ)
      (a b : List (Option (Talk PolledSocket))) → Goes notes acts es first i j x mid last a
      → ((all : List SharedEvent) → StandTogether seen_of all first mid.0 last a → Goes notes acts all first j k mid.1 now last' b)
      → Goes notes acts es first i k x now last' b
  goes_both es first i j k x mid now last last' a b f then =
      let g = then (es ++ events_in (steps_among f.events)) f.stand in
      record {
        events = f.events ++ g.events;
        led = led_both (shared_over own_id (opened first) es) f.events g.events x mid.1 now.1 f.led
            (subst (λ (q : SharedState). EventsLead notes acts q mid.1 g.events now.1)
            (shared_both (opened first) es (events_in (steps_among f.events))) g.led);
        stand = stand_as ((es ++ events_in (steps_among f.events)) ++ events_in (steps_among g.events))
            (es ++ events_in (steps_among (f.events ++ g.events))) first now.0 last' b
            (behind_both es (steps_among f.events) (steps_among g.events)
            ∙ ap (λ (steps : List Stepping). es ++ events_in steps) (sym (steps_both f.events g.events))) g.stand;
        count_is = let both = count_both f.events g.events in let one = f.count_is in let two = g.count_is in omega (arith, both, one, two);
      }

  -- ---- from the first connection on

  pub served_none : {T : Type 0} (total : ℕ) (fault : PollFault) (state : State) (x : E)
      → ServesAtOnce {T = T} notes acts total (Err fault) (state, x) (state, x)
  served_none total fault state x = record { events = []; led = refl; left = refl; over = omega arith }

  pub served : {T : Type 0} (total count : ℕ) (result : Result T PollFault) (first : State) (x : E) (now : State × E) (last : ℕ)
      (places : List (Option (Talk PolledSocket))) → AreEnded total result count → Goes notes acts [] first 0 count x now last places
      → ServesAtOnce notes acts total result (first, x) now
  served total count result first x now last places ended g = record {
    events = g.events;
    led = g.led;
    left = g.stand.state_is;
    over = let is : count ≡ count_ended g.events = (let c = g.count_is in omega (arith, c)) in
        subst (λ (n : ℕ). AreEnded total result n) is ended;
  }

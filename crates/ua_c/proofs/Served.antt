-- What a server does for C.
use Rattle.std.proofs.Common.{◌≡◌, ◌<◌, ℕ, List, [], length, Result, refl, sym, subst}
use Rattle.ua_builtin.specs.declared.date_time.DateTime.{DateTime}
use Rattle.ua_server.specs.declared.step.Step.{Step}
use Rattle.ua_server.specs.declared.step.StepFault.{StepFault}
use Rattle.ua_server.specs.State.{begun}
use Rattle.ua_c.specs.Handled.{OfServer, WhereNone}
use Rattle.ua_c.specs.Serving.{HoldsFresh, NextMachine, Shows, StepsAs, StepsMachine, StepsServer, status_report}
use Rattle.ua_c.specs.Status.{ok}
use Rattle.ua_c.specs.declared.holding.Holding.{Holding}
use Rattle.ua_c.specs.declared.holding.Machine.TheVariants as machine
use Rattle.ua_c.specs.declared.report.Report.{Report}
use Rattle.ua_c.specs.declared.station.Station.{Station}

-- an answer of a server, of which C is told what it is
pub steps_server : (old : Station) (new : Holding) (piece : List ℕ) (moment : DateTime) (report : Report) (answer : Result Step StepFault) (station : Station)
    → StepsAs old.server old.services piece moment answer station.server station.services → station.limits ≡ old.limits → new.machine ≡ machine.Server station
    → Shows answer report [] new.waiting → StepsServer old new piece moment report
steps_server old new piece moment report answer station steps limits machine_is shown = record {
  answer = answer;
  station = station;
  machine_is = machine_is;
  steps = steps;
  limits_is = limits;
  shown = shown;
}

-- what a step does with what a handle holds, where it holds a server and nothing waits
pub steps_machine : (old new : Holding) (piece : List ℕ) (moment : DateTime) (report : Report) (before left : Station) (answer : Result Step StepFault)
    → old.machine ≡ machine.Server before → (0 < length old.waiting → ⊥) → StepsAs before.server before.services piece moment answer left.server left.services
    → left.limits ≡ before.limits
    → new.machine ≡ machine.Server left → Shows answer report old.waiting new.waiting → StepsMachine old new piece moment report
steps_machine old new piece moment report before left answer is none steps limits machine_is shown =
    subst (λ m.
    OfServer m old new (λ why. report ≡ status_report why)
    (λ station. WhereNone old new (λ why. report ≡ status_report why) (StepsServer station new piece moment report))) (sym is) (
      (λ some. absurd (none some)),
      (λ e. steps_server before new piece moment report answer left steps limits machine_is (subst (λ w. Shows answer report w new.waiting) e shown)),
    )

-- the next connection
pub next_machine : (old new : Holding) (channel : ℕ) (before : Station) → old.machine ≡ machine.Server before
    → HoldsFresh before.limits channel (begun before.services) new
    → NextMachine old new channel 0
next_machine old new channel before is fresh =
    subst (λ m. OfServer m old new (λ why. 0 ≡ why) (λ station. (0 ≡ ok) × HoldsFresh station.limits channel (begun station.services) new)) (sym is)
    (refl, fresh)

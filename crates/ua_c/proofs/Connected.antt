-- What nodes, and connections over them, do for C.
use Rattle.std.proofs.Common.{◌≡◌, ◌<◌, ℕ, List, [], length, Option, Result, IsTrue, sym, subst, ap, inl, arith}
use Rattle.ua_builtin.specs.declared.date_time.DateTime.{DateTime}
use Rattle.ua_frame.specs.declared.limits.Limits.{Limits}
use Rattle.ua_server.specs.declared.step.Step.{Step}
use Rattle.ua_server.specs.declared.step.StepFault.{StepFault}
use Rattle.ua_structures.specs.declared.attribute.WriteValue.{WriteValue}
use Rattle.ua_wire.specs.Counted.{text}
use Rattle.ua_c.specs.Connecting.{IsNewConnection, MakesConnection, SaysOnly, StepsConnection, StepsConnectionAs, StepsShared, stored_after}
use Rattle.ua_c.specs.Handled.{OfNodes, OfShared, WhereNone}
use Rattle.ua_c.specs.Limits.{AreEnough, AreThese}
use Rattle.ua_c.specs.Making.{Seats}
use Rattle.ua_c.specs.Serving.{Shows, status_report}
use Rattle.ua_c.specs.Shared.{IsAbout, IsShared, MakesNodes}
use Rattle.ua_c.specs.Status.{fetch_first, other_handle}
use Rattle.ua_c.specs.Telling.{untold_in}
use Rattle.ua_c.specs.Texts.{IsString, IsStringOf}
use Rattle.ua_c.specs.declared.holding.Holding.{Holding}
use Rattle.ua_c.specs.declared.holding.Machine.TheVariants as machine
use Rattle.ua_c.specs.declared.limits.UaLimits.{UaLimits}
use Rattle.ua_c.specs.declared.report.Report.{Report}
use Rattle.ua_c.specs.declared.untold.ServedConnection.{ServedConnection}
use Rattle.ua_c.specs.declared.shared.SharedNodes.{SharedNodes}

-- a connection was made
pub connection_made : (limits : UaLimits) (channel : ℕ) (old new : Option Holding) (status : ℕ) (these : Limits) (served : ServedConnection)
    → AreEnough limits → AreThese limits these → IsNewConnection these channel served.connection → untold_in served.written ≡ []
    → Seats (machine.Connection served) old new status
    → MakesConnection limits channel old new status
connection_made limits channel old new status these served enough are made none seated = inl (record {
  these = these;
  served = served;
  enough = enough;
  are_these = are;
  made = made;
  none = none;
  seated = seated;
})

-- what a step does with what two handles hold, where they hold a connection and nodes, and nothing waits
pub steps_shared : (old new before after : Holding) (piece : List ℕ) (moment : DateTime) (report : Report) (was is : ServedConnection)
    (shared left : SharedNodes) (answer : Result Step StepFault) (written : List WriteValue)
    → old.machine ≡ machine.Connection was → before.machine ≡ machine.Nodes shared → (0 < length old.waiting → ⊥)
    → StepsConnectionAs was.connection shared.services piece moment answer written is.connection left.services
    → new.machine ≡ machine.Connection is → after ≡ record { machine = machine.Nodes left; waiting = before.waiting }
    → Shows answer report old.waiting new.waiting
    → untold_in is.written ≡ stored_after answer written (untold_in was.written) → StepsShared old new before after piece moment report
steps_shared old new before after piece moment report was is shared left answer written was_is shared_is none steps machine_is after_is shown stored =
    subst (λ m. OfShared m before.machine (SaysOnly report before after other_handle × (new ≡ old))
    (λ c s. WhereNone old new (SaysOnly report before after) (StepsConnection c s new before after piece moment report))) (sym was_is)
    (subst (λ m. OfNodes m (SaysOnly report before after other_handle × (new ≡ old))
    (λ s. WhereNone old new (SaysOnly report before after) (StepsConnection was s new before after piece moment report))) (sym shared_is) (
      (λ some. absurd (none some)),
      (λ e. record {
        answer = answer;
        written = written;
        served = is;
        left = left;
        machine_is = machine_is;
        nodes_are = after_is;
        steps = steps;
        shown = subst (λ w. Shows answer report w new.waiting) e shown;
        stored = stored;
      }),
    ))

-- octets that a String is
is_string : (octets : List ℕ) (value : Option (List ℕ)) → IsStringOf octets value → IsString octets
is_string octets value s = record { utf8 = s.utf8; writable = subst (λ (t : Option (List ℕ)). IsTrue (text.encodable t)) s.is s.writable }

-- what a server says of itself, of three Strings
pub about_made : (url application_uri name : List ℕ) (most : ℕ) (u a n : Option (List ℕ)) → IsStringOf url u → IsStringOf application_uri a → IsStringOf name n
    → IsAbout url application_uri name most (record { url = u; application_uri = a; name = n; message_limit = most })
about_made url application_uri name most u a n is_url is_uri is_name = record {
  is = λ i. record { url = is_url.is i; application_uri = is_uri.is i; name = is_name.is i; message_limit = most };
  is_url = is_string url u is_url;
  is_application_uri = is_string application_uri a is_uri;
  is_name = is_string name n is_name;
}

-- nodes were made
pub nodes_made : (file url application_uri name : List ℕ) (most : ℕ) (old new : Option Holding) (line reason status : ℕ) (shared : SharedNodes)
    → IsShared file url application_uri name most shared → line ≡ 0 → reason ≡ 0 → Seats (machine.Nodes shared) old new status
    → MakesNodes file url application_uri name most old new line reason status
nodes_made file url application_uri name most old new line reason status shared made no_line no_reason seated = inl (record {
  shared = shared;
  made = made;
  no_line = no_line;
  no_reason = no_reason;
  seated = seated;
})

-- what it does where octets wait
pub steps_waiting : (old new before after : Holding) (piece : List ℕ) (moment : DateTime) (report : Report) (was : ServedConnection) (shared : SharedNodes)
    → old.machine ≡ machine.Connection was → before.machine ≡ machine.Nodes shared
    → 0 < length old.waiting → new ≡ old → after ≡ before → report ≡ status_report fetch_first → StepsShared old new before after piece moment report
steps_waiting old new before after piece moment report was shared was_is shared_is some same kept told =
    subst (λ m. OfShared m before.machine (SaysOnly report before after other_handle × (new ≡ old))
    (λ c s. WhereNone old new (SaysOnly report before after) (StepsConnection c s new before after piece moment report))) (sym was_is)
    (subst (λ m. OfNodes m (SaysOnly report before after other_handle × (new ≡ old))
    (λ s. WhereNone old new (SaysOnly report before after) (StepsConnection was s new before after piece moment report))) (sym shared_is) (
      (λ _. ((told, kept), same)),
      (λ e. absurd (omega (arith, some, ap length e))),
    ))

-- what it does with a handle that holds this connection
pub steps_held : (old new before after : Holding) (piece : List ℕ) (moment : DateTime) (report : Report) (was : ServedConnection)
    → old.machine ≡ machine.Connection was
    → StepsShared (record { machine = machine.Connection was; waiting = old.waiting }) new before after piece moment report
    → StepsShared old new before after piece moment report
steps_held old new before after piece moment report was is steps =
    subst (λ m. StepsShared (record { machine = m; waiting = old.waiting }) new before after piece moment report) (sym is) steps

-- what it does with a handle that holds these nodes
pub steps_nodes : (old new before after : Holding) (piece : List ℕ) (moment : DateTime) (report : Report) (shared : SharedNodes)
    → before.machine ≡ machine.Nodes shared
    → StepsShared old new (record { machine = machine.Nodes shared; waiting = before.waiting }) after piece moment report
    → StepsShared old new before after piece moment report
steps_nodes old new before after piece moment report shared is steps =
    subst (λ m. StepsShared old new (record { machine = m; waiting = before.waiting }) after piece moment report) (sym is) steps

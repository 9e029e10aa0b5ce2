-- What is told of a client that ran over a line to a server in its own process.
use Rattle.std.proofs.Common.{◌≡◌, ℕ, ◌<◌, ◌≤◌, List, [], ◌++◌, Option, Some, Result, Ok, Err, length, map, refl, sym, ◌∙◌, ap, subst}
use Rattle.std.specs.Prelude.{IfErr, OnOk}
use Rattle.ua_builtin.specs.declared.date_time.DateTime.{DateTime}
use Rattle.ua_frame.specs.Agreement.{url_length}
use Rattle.ua_frame.specs.Run.{End, Going, Over, Stopped}
use Rattle.ua_frame.specs.declared.limits.Limits.{Limits}
use Rattle.ua_channel.specs.Line.{Traffic}
use Rattle.ua_channel.specs.ServerTold.{Told}
use Rattle.ua_channel_laws.specs.ServerReads.{ServerCloses}
use Rattle.ua_services.specs.declared.request.Request.{Request}
use Rattle.ua_server.specs.Sound.{IsSoundState}
use Rattle.ua_server.specs.State.{State}
use Rattle.ua_server.specs.declared.step.End.TheVariants as ending
use Rattle.ua_client.specs.Client.{closing_at}
use Rattle.ua_client.specs.Hearing.{failures_behind, most_reads}
use Rattle.ua_client.specs.declared.fault.ClientFault.{ClientFault}
use Rattle.ua_client.specs.declared.reply.Reply.{Reply}
use Rattle.ua_loopback.specs.Accepted.{AreAcceptedUnder, FirstRefusedUnder, IsTurnFault, acknowledged}
use Rattle.ua_loopback.specs.Beginning.{Beginning}
use Rattle.ua_loopback.specs.Course.{Converses, opening_octets}
use Rattle.ua_loopback.specs.Faults.{BehindRefused, FailsAtStage, FailsBehind}
use Rattle.ua_loopback.specs.Kept.{EndsAtStage, IsOver, LeavesAtStage, Served, traffic_of}
use Rattle.ua_loopback.specs.Replies.{replies_to_turns, turns_state}
use Rattle.ua_loopback.specs.Says.{end_by, services_after, server_output, state_told}
use Rattle.ua_loopback.specs.Sends.{conversation_octets}
use Rattle.ua_loopback.specs.Talking.{IsLineTo, StopsOver}
use Rattle.ua_loopback.specs.Turns.{conversation_told, opening_told, turns_told}
use Rattle.ua_loopback.specs.declared.stage.Stage.{Stage}
use Rattle.ua_loopback.specs.declared.stage.Stage.TheVariants as stage
use Rattle.ua_loopback.specs.inside.Talking.{CanOpenTo, HaveMisanswers, Talked, WentBefore, outcome_at}
use Rattle.ua_loopback.proofs.Courses.{behind_refused, closed_by, conversed, line_begins}
use Rattle.ua_loopback.proofs.Failing.{fails_on, ok_told, reason_told}
use Rattle.ua_loopback.proofs.Replying.{state_closed}
use Rattle.ua_loopback.proofs.Saying.{end_is, left_by_run}

-- ---- what is known of it

-- what a client says that may open over this line: whatever server it leads to
abbrev pub SaysOver : Beginning → Limits → Option (List ℕ) → DateTime → Served → (Beginning → Type 0) → Type 0
SaysOver begun limits url moment old P = (b : Beginning) → CanOpenTo b limits url moment → IsLineTo b [] [] (Some (traffic_of begun old)) → P b

-- what it was to do, and at which server; the line before it and after it; how many turns it took,
-- the replies and its outcome; and what is told of that: the outcome, the connection, the octets
-- each way, and the services
pub record Ran : Type 0 where
  pub begun : Beginning
  pub limits : Limits
  pub channel : ℕ
  pub services : State
  pub url : Option (List ℕ)
  pub moment : DateTime
  pub times : ℕ → DateTime
  pub turns : List (Option (List Request))
  pub old : Served
  pub new : Served
  pub taken : ℕ
  pub replies : List Reply
  pub outcome : Result (Unit {0}) ClientFault
  pub told : Result (Unit {0}) ClientFault
  pub far : Stage
  pub up : List ℕ
  pub down : List ℕ
  pub left : State
  -- the server begins as the caller says, with sound services, and both can open; the line is new
  pub begun_is : begun ≡ record { limits = limits; channel = channel; first = services; moments = times }
  pub able : CanOpenTo (record { limits = limits; channel = channel; first = services; moments = times }) limits url moment
  pub sound : IsSoundState services
  pub none : old.up ≡ []
  pub nothing_read : old.read ≡ 0
  pub no_failure : old.failures ≡ 0
  -- what the client says
  pub talked : OnOk outcome
      (SaysOver begun limits url moment old (λ b. Talked b limits url moment turns (Some (traffic_of begun old)) (Some (traffic_of begun new)) replies))
  pub refused : IfErr outcome (λ f. IsTurnFault f
      → SaysOver begun limits url moment old (λ b. FirstRefusedUnder (acknowledged b.limits limits url) turns taken f))
  pub before : IfErr outcome (λ f. IsTurnFault f
      → SaysOver begun limits url moment old (λ b.
      WentBefore b limits url moment turns taken (Some (traffic_of begun old)) (Some (traffic_of begun new)) replies))
  pub fails : IfErr outcome (λ f. SaysOver begun limits url moment old (λ b. url_length url ≤ 4095 → FailsBehind (HaveMisanswers b.first b.moments 1 turns) f))
  pub stops : IfErr outcome (λ f.
      SaysOver begun limits url moment old (λ b. url_length url ≤ 4095 → StopsOver f b [] (Some (traffic_of begun old)) (Some (traffic_of begun new))))
  pub failed : new.failures ≡ failures_behind old.failures outcome
  -- and what the line says
  pub told_is : told ≡ outcome_at far outcome
  pub far_is : far ≡ new.stage
  pub over : 0 < new.failures → IsOver far
  pub up_is : up ≡ new.up
  pub down_is : down ≡ server_output begun new.up
  pub leaves : LeavesAtStage new.stage begun new.up left
  pub ends : EndsAtStage new.stage begun new.up
  pub few : length (server_output begun new.up) < most_reads

-- ---- how the server saw it end

ends_closed : (b : Beginning) (s : Stage) (up : List ℕ) → EndsAtStage s b up → end_by b up ≡ Over → s ≡ stage.Ended ending.Closed
ends_closed b stage.Going up e over = let no : ◌≡◌ {A = End ℕ} Going Over = sym e ∙ over in absurd cc
ends_closed b (stage.Ended ending.Closed) up e over = refl
ends_closed b (stage.Ended (ending.Refused code)) up e over = let no : ◌≡◌ {A = End ℕ} (Stopped code.code) Over = sym e ∙ over in absurd cc
ends_closed b (stage.Ended ending.NoClose) up e over = absurd e
ends_closed b (stage.Ended ending.Cut) up e over = absurd e
ends_closed b stage.Broken up e over = let no : ◌≡◌ {A = End ℕ} Going Over = sym e ∙ over in absurd cc

-- ---- what follows of what a client came to

ok_then : (r : Result (Unit {0}) ClientFault) (X Y : Type 0) → (X → Y) → OnOk r X → OnOk r Y
ok_then (Ok done) X Y by x = by x
ok_then (Err f) X Y by x = tt

reason_then : (r : Result (Unit {0}) ClientFault) (P Q : ClientFault → Type 0) → ((f : ClientFault) → P f → Q f)
    → IfErr r (λ f. IsTurnFault f → P f) → IfErr r (λ f. IsTurnFault f → Q f)
reason_then (Ok done) P Q by p = tt
reason_then (Err f) P Q by p = λ reason. by f (p reason)

-- ---- what is told

module _ (q : Ran) where
  -- the server, as the caller says that it begins
  abbrev server : Beginning
  server = record { limits = q.limits; channel = q.channel; first = q.services; moments = q.times }

  abbrev was : Option Traffic
  was = Some (traffic_of q.begun q.old)

  abbrev now : Option Traffic
  now = Some (traffic_of q.begun q.new)

  can : CanOpenTo q.begun q.limits q.url q.moment
  can = subst (λ (d : Beginning). CanOpenTo d q.limits q.url q.moment) (sym q.begun_is) q.able

  line : IsLineTo q.begun [] [] was
  line = line_begins q.begun q.old q.none q.nothing_read

  ends_there : EndsAtStage q.far q.begun q.new.up
  ends_there = subst (λ (s : Stage). EndsAtStage s q.begun q.new.up) (sym q.far_is) q.ends

  pub told_ends : EndsAtStage q.far q.begun q.up
  told_ends = subst (λ (u : List ℕ). EndsAtStage q.far q.begun u) (sym q.up_is) ends_there

  pub told_services : LeavesAtStage q.far q.begun q.up q.left
  told_services =
      subst (λ (u : List ℕ). LeavesAtStage q.far q.begun u q.left) (sym q.up_is)
      (subst (λ (s : Stage). LeavesAtStage s q.begun q.new.up q.left) (sym q.far_is) q.leaves)

  -- ---- where it did all

  module _ (t : Talked q.begun q.limits q.url q.moment q.turns was now q.replies) where
    did_converse : Converses q.limits q.url q.moment q.turns q.up q.down q.replies
    did_converse =
        subst (λ (u : List ℕ). Converses q.limits q.url q.moment q.turns u q.down q.replies) (sym q.up_is)
        (subst (λ (d : List ℕ). Converses q.limits q.url q.moment q.turns q.new.up d q.replies) (sym q.down_is)
        (conversed q.begun q.limits q.url q.moment q.turns q.old q.new q.replies q.none t))

    did_send : q.up ≡ conversation_octets q.limits q.limits q.url q.channel q.moment q.turns
    did_send =
        q.up_is
        ∙ (t.carried.written
        ∙ (ap (λ (o : List ℕ). o ++ (opening_octets q.limits q.url q.moment ++ (t.sent ++ closing_at t.last q.moment))) q.none
        ∙ (t.up_is ∙ ap (λ (d : Beginning). conversation_octets d.limits q.limits q.url d.channel q.moment q.turns) q.begun_is)))

    did_close_there : ServerCloses q.begun.limits q.begun.channel q.up (conversation_told q.begun.limits q.limits q.url q.turns)
    did_close_there =
        subst (λ (u : List ℕ). ServerCloses q.begun.limits q.begun.channel u (conversation_told q.begun.limits q.limits q.url q.turns)) (sym q.up_is)
        (closed_by q.begun q.limits q.url q.moment q.turns q.old q.new q.replies q.none t)

    did_close : ServerCloses q.limits q.channel q.up (conversation_told q.limits q.limits q.url q.turns)
    did_close = subst (λ (d : Beginning). ServerCloses d.limits d.channel q.up (conversation_told d.limits q.limits q.url q.turns)) q.begun_is did_close_there

    did_end : q.far ≡ stage.Ended ending.Closed
    did_end = ends_closed q.begun q.far q.up told_ends (end_is q.begun q.up did_close_there.frames [] Over did_close_there.run)

    did_leave : q.left ≡ services_after q.begun q.up
    did_leave = subst (λ (s : Stage). LeavesAtStage s q.begun q.up q.left) did_end told_services

    -- the state that all of it leaves
    did_leave_all : q.left ≡ turns_state q.services q.times 1 q.turns
    did_leave_all =
        did_leave
        ∙ (left_by_run q.begun q.up did_close_there.frames [] Over did_close_there.run
        ∙ (ap (λ (ts : List Told). state_told q.begun ts) did_close_there.told_is
        ∙ (state_closed q.begun (opening_told q.begun.limits q.limits q.url ++ turns_told 1 2 q.turns)
        ∙ (t.state_is ∙ ap (λ (d : Beginning). turns_state d.first d.moments 1 q.turns) q.begun_is))))

    did_reply : map (λ (r : Reply). Some r) q.replies ≡ replies_to_turns server q.limits q.url q.services 1 1 q.turns
    did_reply = t.replied ∙ ap (λ (d : Beginning). replies_to_turns d q.limits q.url d.first 1 1 q.turns) q.begun_is

    did_accept : AreAcceptedUnder (acknowledged q.limits q.limits q.url) q.turns
    did_accept = subst (λ (d : Beginning). AreAcceptedUnder (acknowledged d.limits q.limits q.url) q.turns) q.begun_is t.accepted

  -- what holds where it did all is told so
  told_so : (X : Type 0) → (Talked q.begun q.limits q.url q.moment q.turns was now q.replies → X) → OnOk q.told X
  told_so X by =
      ok_told q.far q.outcome q.told X q.told_is
      (ok_then q.outcome (SaysOver q.begun q.limits q.url q.moment q.old (λ b. Talked b q.limits q.url q.moment q.turns was now q.replies)) X
      (λ t. by (t q.begun can line)) q.talked)

  pub told_converses : OnOk q.told (Converses q.limits q.url q.moment q.turns q.up q.down q.replies)
  told_converses = told_so _ did_converse

  pub told_heard : OnOk q.told (ServerCloses q.limits q.channel q.up (conversation_told q.limits q.limits q.url q.turns))
  told_heard = told_so _ did_close

  pub told_closed : OnOk q.told (q.far ≡ stage.Ended ending.Closed)
  told_closed = told_so _ did_end

  pub told_left : OnOk q.told (q.left ≡ services_after q.begun q.up)
  told_left = told_so _ did_leave

  pub told_sent : OnOk q.told (q.up ≡ conversation_octets q.limits q.limits q.url q.channel q.moment q.turns)
  told_sent = told_so _ did_send

  pub told_replied : OnOk q.told (map (λ (r : Reply). Some r) q.replies ≡ replies_to_turns server q.limits q.url q.services 1 1 q.turns)
  told_replied = told_so _ did_reply

  pub told_state : OnOk q.told (q.left ≡ turns_state q.services q.times 1 q.turns)
  told_state = told_so _ did_leave_all

  pub told_accepted : OnOk q.told (AreAcceptedUnder (acknowledged q.limits q.limits q.url) q.turns)
  told_accepted = told_so _ did_accept

  -- ---- where it did not

  -- a reason against a turn is told as it is, with what follows of it
  reason_so : (P Q : ClientFault → Type 0) → ((f : ClientFault) → P f → Q f)
      → IfErr q.outcome (λ f. IsTurnFault f → P f) → IfErr q.told (λ f. IsTurnFault f → Q f)
  reason_so P Q by p = reason_told q.far q.outcome q.told Q q.told_is (reason_then q.outcome P Q by p)

  pub told_refused : IfErr q.told (λ f. IsTurnFault f → FirstRefusedUnder (acknowledged q.limits q.limits q.url) q.turns q.taken f)
  told_refused =
      reason_so (λ f. SaysOver q.begun q.limits q.url q.moment q.old (λ b. FirstRefusedUnder (acknowledged b.limits q.limits q.url) q.turns q.taken f))
      (λ f. FirstRefusedUnder (acknowledged q.limits q.limits q.url) q.turns q.taken f)
      (λ f h. subst (λ (d : Beginning). FirstRefusedUnder (acknowledged d.limits q.limits q.url) q.turns q.taken f) q.begun_is (h q.begun can line)) q.refused

  went_before : WentBefore q.begun q.limits q.url q.moment q.turns q.taken was now q.replies
      → BehindRefused server q.limits q.url q.moment q.turns q.taken q.up q.replies
  went_before w =
      subst (λ (u : List ℕ). BehindRefused server q.limits q.url q.moment q.turns q.taken u q.replies) (sym q.up_is)
      (subst (λ (d : Beginning). BehindRefused d q.limits q.url q.moment q.turns q.taken q.new.up q.replies) q.begun_is
      (behind_refused q.begun q.limits q.url q.moment q.turns q.taken q.old q.new q.replies q.none w))

  pub told_before : IfErr q.told (λ f. IsTurnFault f → BehindRefused server q.limits q.url q.moment q.turns q.taken q.up q.replies)
  told_before =
      reason_so (λ f. SaysOver q.begun q.limits q.url q.moment q.old (λ b. WentBefore b q.limits q.url q.moment q.turns q.taken was now q.replies))
      (λ f. BehindRefused server q.limits q.url q.moment q.turns q.taken q.up q.replies) (λ f h. went_before (h q.begun can line)) q.before

  pub told_fails : IfErr q.told (λ f. url_length q.url ≤ 4095 → FailsAtStage q.far f)
  told_fails =
      fails_on q.outcome q.told q.far q.begun q.limits q.channel q.services q.url q.moment q.times q.turns q.taken q.old q.new q.replies q.told_is
      q.begun_is q.able q.sound q.none q.nothing_read q.no_failure q.failed q.over ends_there q.few q.fails q.stops q.before

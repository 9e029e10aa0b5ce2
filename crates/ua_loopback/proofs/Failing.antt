-- Why a client fails at a server in its own process: memory was refused, or there is a reason against a turn.
use Rattle.std.proofs.Common.{◌≡◌, ℕ, ◌<◌, ◌≤◌, Bool, true, List, [], ◌++◌, Option, Some, Result, Ok, Err, length, refl, sym, ◌∙◌, ap, subst, arith}
use Rattle.std.specs.Prelude.{IfErr, OnOk, cond}
use Rattle.ua_builtin.specs.declared.date_time.DateTime.{DateTime}
use Rattle.ua_frame.specs.Agreement.{url_length}
use Rattle.ua_frame.specs.Run.{End, Going, Over, Stopped}
use Rattle.ua_frame.specs.declared.limits.Limits.{Limits}
use Rattle.ua_channel.specs.Line.{one_more}
use Rattle.ua_services.specs.declared.request.Request.{Request}
use Rattle.ua_server.specs.Sound.{IsSoundState}
use Rattle.ua_server.specs.State.{State}
use Rattle.ua_server.specs.declared.step.End.TheVariants as ending
use Rattle.ua_client.specs.Hearing.{failures_behind, is_line_fault, most_reads}
use Rattle.ua_client.specs.declared.fault.ClientFault.{ClientFault}
use Rattle.ua_client.specs.declared.fault.ClientFault.TheVariants as fault
use Rattle.ua_client.specs.declared.reply.Reply.{Reply}
use Rattle.ua_loopback.specs.Accepted.{IsTurnFault}
use Rattle.ua_loopback.specs.Beginning.{Beginning}
use Rattle.ua_loopback.specs.Faults.{FailsAtStage, FailsBehind, StopsAfter}
use Rattle.ua_loopback.specs.Kept.{EndsAtStage, IsOver, Served, traffic_of}
use Rattle.ua_loopback.specs.Says.{end_by, server_output}
use Rattle.ua_loopback.specs.Talking.{IsLineTo, StopsOver}
use Rattle.ua_loopback.specs.declared.stage.Stage.{Stage}
use Rattle.ua_loopback.specs.declared.stage.Stage.TheVariants as stage
use Rattle.ua_loopback.specs.inside.Talking.{CanOpenTo, HaveMisanswers, WentBefore, broken_fault, fault_at_stage, outcome_at}
use Rattle.ua_loopback.proofs.Courses.{line_begins, waits_refused}
use Rattle.ua_loopback.proofs.Sounds.{turns_answered}

-- a connection that is over, and waits, is broken
broken_if : (far : Stage) (b : Beginning) (up : List ℕ) → end_by b up ≡ Going → EndsAtStage far b up → IsOver far → far ≡ stage.Broken
broken_if stage.Going b up goes ends over = absurd over
broken_if (stage.Ended ending.Closed) b up goes ends over = let no : ◌≡◌ {A = End ℕ} Over Going = sym ends ∙ goes in absurd cc
broken_if (stage.Ended (ending.Refused code)) b up goes ends over = let no : ◌≡◌ {A = End ℕ} (Stopped code.code) Going = sym ends ∙ goes in absurd cc
broken_if (stage.Ended ending.NoClose) b up goes ends over = absurd ends
broken_if (stage.Ended ending.Cut) b up goes ends over = absurd ends
broken_if stage.Broken b up goes ends over = refl

-- ---- what is told

-- what is no reason against a turn is told as it is
as_it_is : (far : Stage) (f : ClientFault) → broken_fault f ≡ f → fault_at_stage far f ≡ f
as_it_is stage.Going f same = refl
as_it_is (stage.Ended end) f same = refl
as_it_is stage.Broken f same = same

told_so : (far : Stage) (f : ClientFault) → broken_fault f ≡ f → FailsAtStage far f → FailsAtStage far (fault_at_stage far f)
told_so far f same fails = subst (FailsAtStage far) (sym (as_it_is far f same)) fails

-- a reason against a turn is told where the connection waits and goes on; over a broken line that memory was refused
told_turn : (far : Stage) (f : ClientFault) (b : Beginning) (up : List ℕ) → end_by b up ≡ Going → EndsAtStage far b up → FailsAtStage stage.Going f
    → broken_fault f ≡ fault.OutOfMemory → FailsAtStage far (fault_at_stage far f)
told_turn stage.Going f b up goes ends going broken = going
told_turn (stage.Ended ending.Closed) f b up goes ends going broken = let no : ◌≡◌ {A = End ℕ} Over Going = sym ends ∙ goes in absurd cc
told_turn (stage.Ended (ending.Refused code)) f b up goes ends going broken = let no : ◌≡◌ {A = End ℕ} (Stopped code.code) Going = sym ends ∙ goes in absurd cc
told_turn (stage.Ended ending.NoClose) f b up goes ends going broken = absurd ends
told_turn (stage.Ended ending.Cut) f b up goes ends going broken = absurd ends
told_turn stage.Broken f b up goes ends going broken = subst (FailsAtStage stage.Broken) (sym broken) tt

-- at such a server every fault is want of memory, or a reason against a turn
fails_at : (M : Type 0) (far : Stage) (f : ClientFault) (b : Beginning) (up : List ℕ) → (M → ⊥) → FailsBehind M f → StopsAfter f b up
    → (IsTurnFault f → end_by b up ≡ Going) → EndsAtStage far b up → (is_line_fault f ≡ true → IsOver far) → length (server_output b up) < most_reads
    → FailsAtStage far (fault_at_stage far f)
fails_at M far fault.Read b up none h stops waits ends over few = told_so far fault.Read refl (broken_if far b up (stops.read refl) ends (over refl))
fails_at M far fault.Write b up none h stops waits ends over few = told_so far fault.Write refl (broken_if far b up (stops.write refl) ends (over refl))
fails_at M far fault.TooLong b up none h stops waits ends over few = let many = stops.long refl in absurd (omega (arith, many, few))
fails_at M far fault.UnknownResponse b up none h stops waits ends over few = absurd (none h)
fails_at M far fault.OutOfMemory b up none h stops waits ends over few = told_so far fault.OutOfMemory refl tt
fails_at M far fault.NotWritable b up none h stops waits ends over few = told_turn far fault.NotWritable b up (waits tt) ends refl refl
fails_at M far fault.Exhausted b up none h stops waits ends over few = told_turn far fault.Exhausted b up (waits tt) ends refl refl
fails_at M far fault.TooLarge b up none h stops waits ends over few = told_turn far fault.TooLarge b up (waits tt) ends refl refl
fails_at M far fault.TooManyTokens b up none h stops waits ends over few = told_turn far fault.TooManyTokens b up (waits tt) ends refl refl
fails_at M far (fault.Peer code) b up none h stops waits ends over few = absurd h
fails_at M far (fault.Refused code) b up none h stops waits ends over few = absurd h
fails_at M far (fault.Service code) b up none h stops waits ends over few = absurd h
fails_at M far fault.Ended b up none h stops waits ends over few = absurd h
fails_at M far fault.Closed b up none h stops waits ends over few = absurd h

-- a failure of the line is one more than none
some_failures : (f : ClientFault) (old new : ℕ) → old ≡ 0 → new ≡ failures_behind {A = Unit {0}} old (Err f) → is_line_fault f ≡ true → 0 < new
some_failures f old new none is line =
    let one : new ≡ 1 = is ∙ (ap (λ (n : ℕ). failures_behind {A = Unit {0}} n (Err f)) none ∙ ap (λ (t : Bool). cond t (one_more 0) 0) line) in
    omega (arith, one)

pub fails_on : (r told : Result (Unit {0}) ClientFault) (far : Stage) (b : Beginning) (limits : Limits) (channel : ℕ) (services : State) (url : Option (List ℕ))
    (moment : DateTime) (times : ℕ → DateTime) (turns : List (Option (List Request))) (place : ℕ) (old new : Served) (replies : List Reply)
    → told ≡ outcome_at far r → b ≡ record { limits = limits; channel = channel; first = services; moments = times }
    → CanOpenTo (record { limits = limits; channel = channel; first = services; moments = times }) limits url moment → IsSoundState services
    → old.up ≡ [] → old.read ≡ 0 → old.failures ≡ 0 → new.failures ≡ failures_behind old.failures r → (0 < new.failures → IsOver far) → EndsAtStage far b new.up
    → length (server_output b new.up) < most_reads
    → IfErr r (λ f. (b' : Beginning) → CanOpenTo b' limits url moment → IsLineTo b' [] [] (Some (traffic_of b old)) → url_length url ≤ 4095
    → FailsBehind (HaveMisanswers b'.first b'.moments 1 turns) f)
    → IfErr r (λ f. (b' : Beginning) → CanOpenTo b' limits url moment → IsLineTo b' [] [] (Some (traffic_of b old)) → url_length url ≤ 4095
    → StopsOver f b' [] (Some (traffic_of b old)) (Some (traffic_of b new)))
    → IfErr r (λ f. IsTurnFault f → (b' : Beginning) → CanOpenTo b' limits url moment → IsLineTo b' [] [] (Some (traffic_of b old))
    → WentBefore b' limits url moment turns place (Some (traffic_of b old)) (Some (traffic_of b new)) replies)
    → IfErr told (λ f. url_length url ≤ 4095 → FailsAtStage far f)
fails_on (Ok found) told far b limits channel services url moment times turns place old new replies told_is is able sound none nothing_read no_failure failed
    over
    ends few t u before =
    subst (λ (r : Result (Unit {0}) ClientFault). IfErr r (λ f. url_length url ≤ 4095 → FailsAtStage far f)) (sym told_is) tt
fails_on (Err f) told far b limits channel services url moment times turns place old new replies told_is is able sound none nothing_read no_failure failed over
    ends
    few t u before =
    subst (λ (r : Result (Unit {0}) ClientFault). IfErr r (λ g. url_length url ≤ 4095 → FailsAtStage far g)) (sym told_is) (λ short.
    let begun : Beginning = record { limits = limits; channel = channel; first = services; moments = times } in
    let can : CanOpenTo b limits url moment = subst (λ (d : Beginning). CanOpenTo d limits url moment) (sym is) able in
    let line : IsLineTo b [] [] (Some (traffic_of b old)) = line_begins b old none nothing_read in
    let stops = u b can line short in
    let up_is : stops.0 ≡ new.up = ap (λ (o : List ℕ). o ++ stops.0) (sym none) ∙ sym stops.1 in
    let sound_first : IsSoundState b.first = subst (λ (d : Beginning). IsSoundState d.first) (sym is) sound in
    let waits : IsTurnFault f → end_by b new.up ≡ Going = λ reason. waits_refused b limits url moment turns place old new replies none
    (before reason b can line) in
    fails_at (HaveMisanswers b.first b.moments 1 turns) far f b new.up (turns_answered b.first b.moments 1 turns sound_first can.answered) (t b can line short)
    (subst (StopsAfter f b) up_is stops.2) waits ends (λ line_failed. over (some_failures f old.failures new.failures no_failure failed line_failed)) few)

-- ---- what holds of what the client came to, and what is told of it

pub ok_told : (far : Stage) (r told : Result (Unit {0}) ClientFault) (X : Type 0) → told ≡ outcome_at far r → OnOk r X → OnOk told X
ok_told far (Ok done) told X told_is x = subst (λ (o : Result (Unit {0}) ClientFault). OnOk o X) (sym told_is) x
ok_told far (Err f) told X told_is x = subst (λ (o : Result (Unit {0}) ClientFault). OnOk o X) (sym told_is) tt

-- a reason against a turn that is told is the one that the client came to
same_reason : (far : Stage) (f : ClientFault) → IsTurnFault (fault_at_stage far f) → f ≡ fault_at_stage far f
same_reason stage.Going f reason = refl
same_reason (stage.Ended end) f reason = refl
same_reason stage.Broken fault.NotWritable reason = absurd reason
same_reason stage.Broken fault.Exhausted reason = absurd reason
same_reason stage.Broken fault.TooLarge reason = absurd reason
same_reason stage.Broken fault.TooManyTokens reason = absurd reason
same_reason stage.Broken fault.Read reason = refl
same_reason stage.Broken fault.Write reason = refl
same_reason stage.Broken fault.OutOfMemory reason = refl
same_reason stage.Broken fault.TooLong reason = refl
same_reason stage.Broken fault.UnknownResponse reason = refl
same_reason stage.Broken fault.Ended reason = refl
same_reason stage.Broken fault.Closed reason = refl
same_reason stage.Broken (fault.Peer code) reason = refl
same_reason stage.Broken (fault.Refused code) reason = refl
same_reason stage.Broken (fault.Service code) reason = refl

pub reason_told : (far : Stage) (r told : Result (Unit {0}) ClientFault) (P : ClientFault → Type 0) → told ≡ outcome_at far r
    → IfErr r (λ f. IsTurnFault f → P f) → IfErr told (λ f. IsTurnFault f → P f)
reason_told far (Ok done) told P told_is p = subst (λ (o : Result (Unit {0}) ClientFault). IfErr o (λ g. IsTurnFault g → P g)) (sym told_is) tt
reason_told far (Err f) told P told_is p =
    subst (λ (o : Result (Unit {0}) ClientFault). IfErr o (λ g. IsTurnFault g → P g)) (sym told_is)
    (λ reason. let same = same_reason far f reason in subst P same (p (subst IsTurnFault (sym same) reason)))

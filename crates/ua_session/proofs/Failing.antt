-- How often a line fails in a conversation.
use Rattle.std.proofs.Common.{◌≡◌, ◌⊎◌, ◌∙◌, ◌-◌, Some, None, inl, inr, ap, refl, sym, subst, ℕ, ℤ, Bool, true, false, cond, List, Option, Result, Ok, Err}
use Rattle.std.specs.Prelude.{MatchResult}
use Rattle.ua_builtin.specs.declared.date_time.DateTime.{DateTime}
use Rattle.ua_builtin.specs.declared.node_id.NodeId.{NodeId}
use Rattle.ua_channel.specs.Line.{one_more}
use Rattle.ua_client.specs.Client.{IsLeft, IsReady, ends_client}
use Rattle.ua_client.specs.Hearing.{failures_behind, is_line_fault}
use Rattle.ua_client.specs.declared.client.Client.{Client}
use Rattle.ua_client.specs.declared.fault.ClientFault.{ClientFault}
use Rattle.ua_client.specs.declared.fault.ClientFault.TheVariants as client
use Rattle.ua_client.specs.declared.reply.Reply.{Reply}
use Rattle.ua_frame.specs.declared.limits.Limits.{Limits}
use Rattle.ua_services.specs.declared.request.Request.{Request}
use Rattle.ua_answers.specs.declared.style.EndpointStyle.{EndpointStyle}
use Rattle.ua_answers.specs.declared.style.AnswerStyle.{AnswerStyle}
use Rattle.ua_session.specs.Endpoints.{AsksEndpoints}
use Rattle.ua_session.specs.Line.{LineFailedConversing, LineState}
use Rattle.ua_session.specs.Policy.{ChoosesBy}
use Rattle.ua_session.specs.Printed.{IsOutput}
use Rattle.ua_session.specs.Question.{PrintsAnswers}
use Rattle.ua_session.specs.Replies.{Expects, IsRefusedBy, IsUnprinted, PrintsEndpoints}
use Rattle.ua_session.specs.Session.{AsksByPolicy, AsksInSession, AsksUnder, EndsUnbegun, FindsPolicy, handle_unbegun}
use Rattle.ua_session.specs.Steps.{AsksRequest, BeginsSessionBy, CallsClient, ClosesClient, OpensServer, first_fault_of, told, told_session}
use Rattle.ua_session.specs.Told.{of_client}
use Rattle.ua_client.specs.Session.{session_alone}
use Rattle.ua_client.specs.declared.fault.SessionFault.{SessionFault}
use Rattle.ua_session.specs.declared.fault.NotBegun.{NotBegun}
use Rattle.ua_session.specs.declared.fault.QuestionFault.{QuestionFault}
use Rattle.ua_session.specs.declared.fault.QuestionFault.TheVariants.{Connection, NoMemory, NoPolicy, Output, Service}
use Rattle.ua_session.specs.declared.policy.TokenPolicy.{TokenPolicy}
use Rattle.ua_session.specs.declared.policy.TokenPolicy.TheVariants.{Auto, Named}
use Rattle.ua_session.specs.declared.question.Question.{Question}
use Rattle.ua_session.specs.declared.verdict.Verdict.{Verdict}

-- ---- what is told

-- a fault of the line is told
abbrev is_of_line : QuestionFault → Bool
is_of_line (Connection f) = is_line_fault f
is_of_line other = false

abbrev tells_line : {A : Type 0} → Result A QuestionFault → Bool
tells_line (Ok found) = false
tells_line (Err f) = is_of_line f

-- a fault is told
abbrev IsFault : {A : Type 0} → Result A QuestionFault → Type 0
IsFault (Ok found) = ⊥
IsFault (Err f) = Unit {0}

told_line : (f : ClientFault) → is_of_line (of_client f) ≡ is_line_fault f
told_line client.Read = refl
told_line other = refl

-- a client is done after a fault of the line
line_ends : (f : ClientFault) → is_line_fault f ≡ true → ends_client f ≡ true
line_ends client.Read h = refl
line_ends client.Write h = refl
line_ends other h = absurd cc

-- ---- a stage of a conversation, from a client that is done or not to one that is done or not

-- none failed
record NoneFails {A : Type 0} (n m : ℕ) (result : Result A QuestionFault) : Type 0 where
  same : m ≡ n
  untold : tells_line result ≡ false

-- one failed, and the client is done
record OneFails {A : Type 0} (e : Bool) (n m : ℕ) (result : Result A QuestionFault) : Type 0 where
  more : m ≡ one_more n
  done : e ≡ true
  fault : IsFault result

abbrev Fails : {A : Type 0} → Bool → ℕ → ℕ → Result A QuestionFault → Type 0
Fails e n m result = NoneFails n m result ⊎ OneFails e n m result

record Stage {A : Type 0} (d e : Bool) (n m : ℕ) (result : Result A QuestionFault) : Type 0 where
  ready : d ≡ false → Fails e n m result
  done : d ≡ true → (e ≡ true) × NoneFails n m result

-- ---- what is made of a result

-- a second result tells no fault of the line where the first tells none, and a fault where the first does
abbrev Hands : {A B : Type 0} → Result A QuestionFault → Result B QuestionFault → Type 0
Hands called result = (tells_line called ≡ false → tells_line result ≡ false) × (IsFault called → IsFault result)

same_hands : (A : Type 0) {B : Type 0} (f : QuestionFault) (result : Result B QuestionFault) → result ≡ Err f → Hands {A = A} (Err f) result
same_hands A {B} f result is = subst (λ (r : Result B QuestionFault). Hands {A = A} (Err f) r) (sym is) (λ h. h, λ h. h)

none_handed : {A B : Type 0} {n m : ℕ} (called : Result A QuestionFault) (result : Result B QuestionFault) → Hands called result → NoneFails n m called
    → NoneFails n m result
none_handed called result hands none = record { same = none.same; untold = hands.0 none.untold }

fails_handed : {A B : Type 0} {e : Bool} {n m : ℕ} (called : Result A QuestionFault) (result : Result B QuestionFault) → Hands called result
    → Fails e n m called → Fails e n m result
fails_handed called result hands (inl none) = inl (none_handed called result hands none)
fails_handed called result hands (inr one) = inr (record { more = one.more; done = one.done; fault = hands.1 one.fault })

handed : {A B : Type 0} {d e : Bool} {n m : ℕ} (called : Result A QuestionFault) (result : Result B QuestionFault) → Hands called result → Stage d e n m called
    → Stage d e n m result
handed called result hands stage = record {
  ready = λ r. fails_handed called result hands (stage.ready r);
  done = λ d. ((stage.done d).0, none_handed called result hands (stage.done d).1);
}

-- ---- one stage behind another

-- a result is made of two: it tells no fault of the line where neither does, and a fault where one of them does
abbrev Joins : {A B C : Type 0} → Result A QuestionFault → Result B QuestionFault → Result C QuestionFault → Type 0
Joins one two result = (tells_line one ≡ false → tells_line two ≡ false → tells_line result ≡ false) × (IsFault one → IsFault result)
    × (IsFault two → IsFault result)

-- the second where the first found something
found_joins : {A B : Type 0} (found : A) (result : Result B QuestionFault) → Joins (Ok found) result result
found_joins found result = (λ g h. h, λ f. absurd f, λ f. f)

-- the first fault
first_joins : {A : Type 0} (one : Result A QuestionFault) (two : Result (Unit {0}) QuestionFault) → Joins one two (first_fault_of one two)
first_joins (Ok found) (Ok done) = (λ g h. refl, λ f. f, λ f. f)
first_joins (Ok found) (Err f) = (λ g h. h, λ x. absurd x, λ x. x)
first_joins (Err (Output e)) two = (λ g h. refl, λ x. tt, λ x. tt)
first_joins (Err f) (Ok done) = (λ g h. g, λ x. x, λ x. absurd x)
first_joins (Err f) (Err NoMemory) = (λ g h. refl, λ x. tt, λ x. tt)
first_joins (Err f) (Err other) = (λ g h. g, λ x. x, λ x. x)

none_joined : {A B C : Type 0} {n m k : ℕ} (one : Result A QuestionFault) (two : Result B QuestionFault) (result : Result C QuestionFault)
    → Joins one two result → NoneFails n m one → NoneFails m k two → NoneFails n k result
none_joined one two result joins first second = record { same = second.same ∙ first.same; untold = joins.0 first.untold second.untold }

-- behind a stage in which none failed
behind_none : {A B C : Type 0} {c : Bool} {n m k : ℕ} (one : Result A QuestionFault) (two : Result B QuestionFault) (result : Result C QuestionFault)
    → Joins one two result → NoneFails n m one → Fails c m k two → Fails c n k result
behind_none one two result joins first (inl second) = inl (none_joined one two result joins first second)
behind_none one two result joins first (inr second) =
    inr (record { more = second.more ∙ ap one_more first.same; done = second.done; fault = joins.2 second.fault })

-- from a client that is done, or not, to one that is done or not
next_none : {A B C : Type 0} (b c : Bool) {n m k : ℕ} (one : Result A QuestionFault) (two : Result B QuestionFault) (result : Result C QuestionFault)
    → Joins one two result → NoneFails n m one → Stage b c m k two → Fails c n k result
next_none false c one two result joins first second = behind_none one two result joins first (second.ready refl)
next_none true c one two result joins first second = inl (none_joined one two result joins first (second.done refl).1)

next_fails : {A B C : Type 0} (b c : Bool) {n m k : ℕ} (one : Result A QuestionFault) (two : Result B QuestionFault) (result : Result C QuestionFault)
    → Joins one two result → Fails b n m one → Stage b c m k two → Fails c n k result
next_fails b c one two result joins (inl first) second = next_none b c one two result joins first second
next_fails b c one two result joins (inr first) second = inr (record {
  more = (second.done first.done).1.same ∙ first.more;
  done = (second.done first.done).0;
  fault = joins.1 first.fault;
})

joined : {A B C : Type 0} (a b c : Bool) {n m k : ℕ} (one : Result A QuestionFault) (two : Result B QuestionFault) (result : Result C QuestionFault)
    → Joins one two result → Stage a b n m one → Stage b c m k two → Stage a c n k result
joined a b c one two result joins first second = record {
  ready = λ r. next_fails b c one two result joins (first.ready r) second;
  done = λ d. let it = first.done d in ((second.done it.0).0, none_joined one two result joins it.1 (second.done it.0).1);
}

-- a stage in which nothing was done
idle : {A : Type 0} {d e : Bool} {n m : ℕ} (result : Result A QuestionFault) → e ≡ d → m ≡ n → tells_line result ≡ false → Stage d e n m result
idle result same none untold =
    record { ready = λ r. inl (record { same = none; untold = untold }); done = λ d. (same ∙ d, record { same = none; untold = untold }) }

-- ---- a call of a client

fault_fails : {A : Type 0} (f : ClientFault) (b e : Bool) {n m : ℕ} → is_line_fault f ≡ b → (is_line_fault f ≡ true → e ≡ true) → m ≡ cond b (one_more n) n
    → Fails {A = A} e n m (Err (of_client f))
fault_fails f false e is left count = inl (record { same = count; untold = told_line f ∙ is })
fault_fails f true e is left count = inr (record { more = count; done = left is; fault = tt })

answer_fails : {A : Type 0} (answer : Result A ClientFault) (e : Bool) {n m : ℕ} → ((f : ClientFault) → answer ≡ Err f → is_line_fault f ≡ true → e ≡ true)
    → m ≡ failures_behind n answer → Fails e n m (told answer)
answer_fails (Ok found) e left count = inl (record { same = count; untold = refl })
answer_fails (Err f) e left count = fault_fails f (is_line_fault f) e refl (left f refl) count

-- a client that answered a fault of the line is done
left_done : {A : Type 0} (answer : Result A ClientFault) (x : Client) → IsLeft answer x → (f : ClientFault) → answer ≡ Err f → is_line_fault f ≡ true
    → x.is_done ≡ true
left_done {A} answer x left f is line = subst (λ (r : Result A ClientFault). IsLeft r x) is left ∙ line_ends f line

-- what was told of a client that was done
closed_untold : {A : Type 0} (answer : Result A ClientFault) (result : Result A QuestionFault) → result ≡ told answer → answer ≡ Err client.Closed
    → tells_line result ≡ false
closed_untold answer result is closed = ap tells_line (is ∙ ap told closed)

call_stage : {A : Type 0} {Does : Result A ClientFault → Type 0} {old new : Client} {before after : LineState} (result : Result A QuestionFault)
    → CallsClient Does old new before after result → Stage old.is_done new.is_done before.failures after.failures result
call_stage {A} {Does} {old} {new} {before} {after} result call = record {
  ready = λ r. subst (λ (q : Result A QuestionFault). Fails new.is_done before.failures after.failures q) (sym call.told_is)
      (answer_fails call.answer new.is_done (left_done call.answer new (call.does r).1) call.fails);
  done = λ d.
      let stays = call.stays d in (
        ap (λ (x : Client). x.is_done) stays.1
            ∙ d,
        record { same = ap (λ (s : LineState). s.failures) stays.2; untold = closed_untold call.answer result call.told_is stays.0 },
      );
}

asks_stage : {request : Request} {old new : Client} {before after : LineState} (result : Result Reply QuestionFault)
    → AsksRequest request old new before after result
    → Stage old.is_done new.is_done before.failures after.failures result
asks_stage result (inl nothing) = idle result (ap (λ (x : Client). x.is_done) nothing.1) (ap (λ (s : LineState). s.failures) nothing.2)
    (ap tells_line nothing.0)
asks_stage result (inr call) = call_stage result call

-- ---- what is made of a reply

refused_untold : (P : Type 0) (reply : Reply) (f : QuestionFault) → IsRefusedBy P reply f → is_of_line f ≡ false
refused_untold P reply (Service code) h = refl
refused_untold P reply (Connection client.UnknownResponse) h = refl
refused_untold P reply (Connection other) h = absurd h
refused_untold P reply NoPolicy h = refl
refused_untold P reply (Output e) h = refl
refused_untold P reply NoMemory h = refl

output_untold : (f : QuestionFault) → IsOutput f → is_of_line f ≡ false
output_untold (Output e) h = refl
output_untold (Service code) h = refl
output_untold (Connection f) h = absurd h
output_untold NoPolicy h = refl
output_untold NoMemory h = refl

unprinted_untold : {O : Type 0} (AreLines : List ℕ → Type 0) (P : Type 0) (reply : Reply) (had have : O) (f : QuestionFault)
    → IsUnprinted AreLines P reply had have f → is_of_line f ≡ false
unprinted_untold AreLines P reply had have f (inl refused) = refused_untold P reply f refused.1
unprinted_untold AreLines P reply had have f (inr written) = output_untold f written.0

expects_hands : (called : Result Reply QuestionFault) (result : Result (Unit {0}) QuestionFault) → Expects called result → Hands called result
expects_hands (Ok reply) (Ok done) h = (λ u. refl, λ f. f)
expects_hands (Ok reply) (Err (Service code)) h = (λ u. refl, λ f. tt)
expects_hands (Ok reply) (Err (Connection f)) h = absurd h
expects_hands (Ok reply) (Err NoPolicy) h = absurd h
expects_hands (Ok reply) (Err (Output e)) h = absurd h
expects_hands (Ok reply) (Err NoMemory) h = absurd h
expects_hands (Err f) result h = same_hands Reply f result h

endpoints_hands : {O : Type 0} (contents : O → Option (List ℕ)) (style : EndpointStyle) (had have : O) (called : Result Reply QuestionFault)
    (result : Result (Unit {0}) QuestionFault) → PrintsEndpoints contents style had have called result → Hands called result
endpoints_hands contents style had have (Ok reply) (Ok done) h = (λ u. refl, λ f. f)
endpoints_hands contents style had have (Ok reply) (Err f) h = (λ u. unprinted_untold _ _ reply had have f h, λ f. tt)
endpoints_hands contents style had have (Err f) result h = same_hands Reply f result h.1

answers_hands : {O : Type 0} (contents : O → Option (List ℕ)) (style : AnswerStyle) (question : Question) (had have : O) (called : Result Reply QuestionFault)
    (result : Result Verdict QuestionFault) → PrintsAnswers contents style question had have called result → Hands called result
answers_hands contents style question had have (Ok reply) (Ok verdict) h = (λ u. refl, λ f. f)
answers_hands contents style question had have (Ok reply) (Err f) h = (λ u. unprinted_untold _ _ reply had have f h, λ f. tt)
answers_hands contents style question had have (Err f) result h = same_hands Reply f result h.1

chooses_hands : (called : Result Reply QuestionFault) (result : Result (Option (List ℕ)) QuestionFault) → ChoosesBy called result → Hands called result
chooses_hands (Ok reply) (Ok id) h = (λ u. refl, λ f. f)
chooses_hands (Ok reply) (Err NoPolicy) h = (λ u. refl, λ f. tt)
chooses_hands (Ok reply) (Err (Service code)) h = (λ u. refl, λ f. tt)
chooses_hands (Ok reply) (Err (Connection f)) h = (λ u. refused_untold _ reply (Connection f) h, λ f. tt)
chooses_hands (Ok reply) (Err (Output e)) h = absurd h
chooses_hands (Ok reply) (Err NoMemory) h = (λ u. refl, λ f. tt)
chooses_hands (Err f) result h = same_hands Reply f result h

-- ---- a session

under_stage : {M O : Type 0} {gives : M → ℤ → M → Type 0} {contents : O → Option (List ℕ)} {style : AnswerStyle} {question : Question} {token : NodeId}
    {handle : ℕ} {first last : M} {old new : Client} {before after : LineState} {had have : O} (result : Result Verdict QuestionFault)
    → AsksUnder gives contents style question token handle first last old new before after had have result
    → Stage old.is_done new.is_done before.failures after.failures result
under_stage {contents = contents} {style = style} {question = question} {old = old} {new = new} {before = before} {after = after} {had = had} {have = have}
    result under =
    subst (λ (r : Result Verdict QuestionFault). Stage old.is_done new.is_done before.failures after.failures r) (sym under.result_is)
    (joined old.is_done under.asked.is_done new.is_done under.printed under.ended (first_fault_of under.printed under.ended)
    (first_joins under.printed under.ended)
    (handed under.called under.printed (answers_hands contents style question had have under.called under.printed under.prints)
    (asks_stage under.called under.asks))
    (handed under.ends.called under.ended (expects_hands under.ends.called under.ended under.ends.expects) (call_stage under.ends.called under.ends.calls)))

-- what was done behind a stage, by what that found; behind a fault nothing was
stage_behind : {A B : Type 0} (d e c : Bool) {n m k : ℕ} (one : Result A QuestionFault) (result : Result B QuestionFault) (P : A → Type 0) (Q : QuestionFault
    → Type 0) → MatchResult one P Q
    → ((x : A) → P x → Stage e c m k result) → ((f : QuestionFault) → Q f → (result ≡ Err f) × (c ≡ e) × (k ≡ m)) → Stage d e n m one → Stage d c n k result
stage_behind d e c (Ok x) result P Q h found fault stage = joined d e c (Ok x) result result (found_joins x result) stage (found x h)
stage_behind {A} d e c (Err f) result P Q h found fault stage =
    let it = fault f h in
    rw (it.1, it.2) (handed (Err f) result (same_hands A f result it.0) stage)

-- a result without the token
abbrev alone : Result NodeId NotBegun → Result NodeId QuestionFault
alone (Ok token) = Ok token
alone (Err refused) = Err refused.fault

alone_told : (answer : Result NodeId SessionFault) → alone (told_session answer) ≡ told (session_alone answer)
alone_told (Ok token) = refl
alone_told (Err refused) = refl

begins_stage : {policy_id : Option (List ℕ)} {moment : DateTime} {old new : Client} {before after : LineState} (result : Result NodeId NotBegun)
    → BeginsSessionBy policy_id moment old new before after result → Stage old.is_done new.is_done before.failures after.failures (alone result)
begins_stage {old = old} {new = new} {before = before} {after = after} result begins =
    call_stage {Does = λ answer. Unit {0}} {old = old} {new = new} {before = before} {after = after} (alone result) (record {
      answer = session_alone begins.answer;
      does = λ r. (tt, (begins.does r).1);
      stays = λ d. let s = begins.stays d in (ap session_alone s.0, s.1, s.2);
      fails = begins.fails;
      told_is = ap alone begins.told_is ∙ alone_told begins.answer;
    })

-- the end of a session that was not begun
unbegun_stage : {M : Type 0} (gives : M → ℤ → M → Type 0) (token : Option NodeId) (handle : ℕ) (first last : M) (old new : Client) (before after : LineState)
    (d : Bool) (n : ℕ) (fault : QuestionFault)
    → EndsUnbegun gives token handle first last old new before after → Stage {A = NodeId} d old.is_done n before.failures (Err fault)
    → Stage {A = Verdict} d new.is_done n after.failures (Err fault)
unbegun_stage gives None handle first last old new before after d n fault h stage =
    let done : new.is_done ≡ old.is_done = ap (λ (x : Client). x.is_done) h.1 in
    let count : after.failures ≡ before.failures = ap (λ (s : LineState). s.failures) h.2 in
    let tells : Hands {A = NodeId} {B = Verdict} (Err fault) (Err fault) = (λ g. g, λ x. x) in
    rw (done, count) (handed {A = NodeId} {B = Verdict} (Err fault) (Err fault) tells stage)
unbegun_stage gives (Some token) handle first last old new before after d n fault h stage =
    joined {A = NodeId} d old.is_done new.is_done (Err fault) h.ended (Err fault) (λ g k. g, λ x. tt, λ x. tt) stage
    (handed h.ends.called h.ended (expects_hands h.ends.called h.ended h.ends.expects) (call_stage h.ends.called h.ends.calls))

session_stage : {M O : Type 0} {gives : M → ℤ → M → Type 0} {contents : O → Option (List ℕ)} {style : AnswerStyle} {question : Question}
    {policy_id : Option (List ℕ)} {handle : ℕ} {first last : M} {old new : Client} {before after : LineState} {had have : O}
    (result : Result Verdict QuestionFault)
    → AsksInSession gives contents style question policy_id handle first last old new before after had have result
    → Stage old.is_done new.is_done before.failures after.failures result
session_stage {gives = gives} {contents = contents} {style = style} {question = question} {handle = handle} {last = last} {old = old} {new = new}
    {before = before} {after = after} {had = had} {have = have} result asks =
    begun_stage asks.begun asks.further (begins_stage asks.begun asks.begins)
  where
    begun_stage : (begun : Result NodeId NotBegun)
        → MatchResult begun
        (λ token. AsksUnder gives contents style question token handle asks.behind last asks.client new asks.once_begun after had have result)
        (λ refused. (result ≡ Err refused.fault) × (have ≡ had) × EndsUnbegun gives refused.token (handle_unbegun handle refused.fault) asks.behind last
        asks.client new asks.once_begun after)
        → Stage old.is_done asks.client.is_done before.failures asks.once_begun.failures (alone begun)
        → Stage old.is_done new.is_done before.failures after.failures result
    begun_stage (Ok token) under stage = joined old.is_done asks.client.is_done new.is_done (Ok token) result result (found_joins token result) stage
        (under_stage result under)
    begun_stage (Err refused) h stage =
        subst (λ (r : Result Verdict QuestionFault). Stage old.is_done new.is_done before.failures after.failures r) (sym h.0)
        (unbegun_stage gives refused.token (handle_unbegun handle refused.fault) asks.behind last asks.client new asks.once_begun after old.is_done
        before.failures refused.fault h.2 stage)

-- ---- a conversation

finds_stage : {M : Type 0} (gives : M → ℤ → M → Type 0) (url : Option (List ℕ)) (policy : TokenPolicy) (first last : M) (old new : Client)
    (before after : LineState) (found : Result (Option (List ℕ)) QuestionFault)
    → FindsPolicy gives url policy first last old new before after found → Stage old.is_done new.is_done before.failures after.failures found
finds_stage gives url (Named id) first last old new before after found h =
    idle found (ap (λ (x : Client). x.is_done) h.2) (ap (λ (s : LineState). s.failures) h.3) (named_untold found h.0)
  where
    named_untold : (r : Result (Option (List ℕ)) QuestionFault) → (r ≡ Ok id) ⊎ (r ≡ Err NoMemory) → tells_line r ≡ false
    named_untold r (inl is) = ap tells_line is
    named_untold r (inr is) = ap tells_line is
finds_stage gives url Auto first last old new before after found asks = handed asks.called found (chooses_hands asks.called found asks.chooses)
    (asks_stage asks.called asks.asks)

policy_stage : {M O : Type 0} {gives : M → ℤ → M → Type 0} {contents : O → Option (List ℕ)} {url : Option (List ℕ)} {policy : TokenPolicy} {style : AnswerStyle}
    {question : Question} {first last : M} {old new : Client} {before after : LineState} {had have : O} (result : Result Verdict QuestionFault)
    → AsksByPolicy gives contents url policy style question first last old new before after had have result
    → Stage old.is_done new.is_done before.failures after.failures result
policy_stage {gives = gives} {url = url} {policy = policy} {first = first} {old = old} {new = new} {before = before} result asks =
    stage_behind old.is_done asks.client.is_done new.is_done asks.found result _ _ asks.further
    (λ policy_id within. session_stage result within)
    (λ f h. (h.0, ap (λ (x : Client). x.is_done) h.2, ap (λ (s : LineState). s.failures) h.3))
    (finds_stage gives url policy first asks.behind old asks.client before asks.once_found asks.found asks.finds)

endpoints_stage : {M O : Type 0} {gives : M → ℤ → M → Type 0} {contents : O → Option (List ℕ)} {url : Option (List ℕ)} {style : EndpointStyle} {first last : M}
    {old new : Client} {before after : LineState} {had have : O} (result : Result (Unit {0}) QuestionFault)
    → AsksEndpoints gives contents url style first last old new before after had have result
    → Stage old.is_done new.is_done before.failures after.failures result
endpoints_stage {contents = contents} {style = style} {had = had} {have = have} result asks =
    handed asks.called result (endpoints_hands contents style had have asks.called result asks.prints) (asks_stage asks.called asks.asks)

-- behind it a client is done
closes_stage : {moment : DateTime} {x : Client} {before after : LineState} (result : Result (Unit {0}) QuestionFault)
    → ClosesClient moment x before after result → Stage x.is_done true before.failures after.failures result
closes_stage {x = x} {before = before} {after = after} result closes = record {
  ready = λ r. subst (λ (q : Result (Unit {0}) QuestionFault). Fails true before.failures after.failures q) (sym closes.told_is)
      (answer_fails closes.answer true (λ f is line. refl) closes.fails);
  done = λ d.
      let stays = closes.stays d in
      (refl, record { same = ap (λ (s : LineState). s.failures) stays.1; untold = closed_untold closes.answer result closes.told_is stays.0 });
}

-- ---- the count

other_fails : {A : Type 0} {e : Bool} {n m : ℕ} (result : Result A QuestionFault) → Fails e n m result → (m ≡ n) ⊎ (m ≡ one_more n)
other_fails result (inl none) = inl none.same
other_fails result (inr one) = inr one.more

line_fails : {A : Type 0} {e : Bool} {n m : ℕ} (result : Result A QuestionFault) → tells_line result ≡ true → Fails e n m result → m ≡ one_more n
line_fails result tells (inl none) = let untold = none.untold in absurd cc
line_fails result tells (inr one) = one.more

found_fails : {A : Type 0} {e : Bool} {n m : ℕ} (found : A) → Fails e n m (Ok found) → m ≡ n
found_fails found (inl none) = none.same
found_fails found (inr one) = absurd one.fault

fails_failed : {A : Type 0} {e : Bool} {n m : ℕ} (result : Result A QuestionFault) → Fails e n m result → LineFailedConversing n result m
fails_failed (Ok found) h = found_fails found h
fails_failed (Err (Connection client.Read)) h = line_fails (Err (Connection client.Read)) refl h
fails_failed (Err (Connection client.Write)) h = line_fails (Err (Connection client.Write)) refl h
fails_failed (Err other) h = other_fails (Err other) h

-- a client was opened, did this, and was closed
run_failed : {A : Type 0} (opened : Client) (e : Bool) {n m k : ℕ} (printed : Result A QuestionFault) (closed : Result (Unit {0}) QuestionFault)
    (result : Result A QuestionFault) → IsReady opened → result ≡ first_fault_of printed closed
    → Stage opened.is_done e n m printed → Stage e true m k closed → LineFailedConversing n result k
run_failed {A} opened e {n} {m} {k} printed closed result ready is first second =
    subst (λ (r : Result A QuestionFault). LineFailedConversing n r k) (sym is)
    (fails_failed (first_fault_of printed closed)
    ((joined opened.is_done e true printed closed (first_fault_of printed closed) (first_joins printed closed) first second).ready ready))

-- ---- the opening

opens_fails : {limits : Limits} {url : Option (List ℕ)} {moment : DateTime} {before after : LineState} (result : Result Client QuestionFault)
    → OpensServer limits url moment before after result → Fails true before.failures after.failures result
opens_fails result (inl nothing) = inl (record { same = ap (λ (s : LineState). s.failures) nothing.1; untold = ap tells_line nothing.0 })
opens_fails {before = before} {after = after} result (inr opens) =
    subst (λ (r : Result Client QuestionFault). Fails true before.failures after.failures r) (sym opens.told_is)
    (answer_fails opens.answer true (λ f is line. refl) opens.fails)

-- ---- all of it

pub endpoints_failed : {M O : Type 0} (gives : M → ℤ → M → Type 0) (contents : O → Option (List ℕ)) (limits : Limits) (url : Option (List ℕ))
    (opened_at closed_at : DateTime) (style : EndpointStyle) (first last : M) (opened asked : Client) (before once answered after : LineState) (had have : O)
    (printed closed result : Result (Unit {0}) QuestionFault)
    → OpensServer limits url opened_at before once (Ok opened) → IsReady opened
    → AsksEndpoints gives contents url style first last opened asked once answered had have printed → ClosesClient closed_at asked answered after closed
    → result ≡ first_fault_of printed closed
    → LineFailedConversing before.failures result after.failures
endpoints_failed gives contents limits url opened_at closed_at style first last opened asked before once answered after had have printed closed result opens
    ready asks closes is =
    subst (λ (n : ℕ). LineFailedConversing n result after.failures) (found_fails opened (opens_fails (Ok opened) opens))
    (run_failed opened asked.is_done printed closed result ready is (endpoints_stage printed asks) (closes_stage closed closes))

pub question_failed : {M O : Type 0} (gives : M → ℤ → M → Type 0) (contents : O → Option (List ℕ)) (limits : Limits) (url : Option (List ℕ))
    (opened_at closed_at : DateTime) (policy : TokenPolicy) (style : AnswerStyle) (question : Question) (first last : M) (opened asked : Client)
    (before once answered after : LineState) (had have : O)
    (printed : Result Verdict QuestionFault) (closed : Result (Unit {0}) QuestionFault) (result : Result Verdict QuestionFault)
    → OpensServer limits url opened_at before once (Ok opened) → IsReady opened
    → AsksByPolicy gives contents url policy style question first last opened asked once answered had have printed
    → ClosesClient closed_at asked answered after closed → result ≡ first_fault_of printed closed
    → LineFailedConversing before.failures result after.failures
question_failed gives contents limits url opened_at closed_at policy style question first last opened asked before once answered after had have printed closed
    result opens ready asks closes is =
    subst (λ (n : ℕ). LineFailedConversing n result after.failures) (found_fails opened (opens_fails (Ok opened) opens))
    (run_failed opened asked.is_done printed closed result ready is (policy_stage printed asks) (closes_stage closed closes))

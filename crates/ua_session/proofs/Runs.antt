-- What conversations come to, and what they add to a text.
use Rattle.std.proofs.Common.{◌≡◌, ◌⊎◌, inl, inr, ℕ, ℤ, List, [], ◌∷◌, Option, Result, Ok, Err, sym, subst}
use Rattle.std.specs.Prelude.{MatchResult, IfErr, OnOk}
use Rattle.ua_builtin.specs.declared.date_time.DateTime.{DateTime}
use Rattle.ua_builtin.specs.declared.node_id.NodeId.{NodeId}
use Rattle.ua_client.specs.declared.client.Client.{Client}
use Rattle.ua_client.specs.declared.reply.Reply.{Reply}
use Rattle.ua_answers.specs.Answers.{write_lines}
use Rattle.ua_answers.specs.Replies.{endpoint_lines}
use Rattle.ua_answers.specs.declared.style.EndpointStyle.{EndpointStyle}
use Rattle.ua_answers.specs.declared.style.AnswerStyle.{AnswerStyle}
use Rattle.ua_session.specs.Line.{LineState}
use Rattle.ua_session.specs.Printed.{AreAnswerLines, AreEndpointLines, HasAdded, IsOutput, LeavesLines, OfEndpoints, OfRead, OfWrite}
use Rattle.ua_session.specs.Question.{AnswersQuestion, PrintsAnswers}
use Rattle.ua_session.specs.Replies.{IsUnprinted, PrintsEndpoints}
use Rattle.ua_session.specs.Session.{AsksByPolicy, AsksInSession, AsksUnder, EndsSession}
use Rattle.ua_session.specs.Steps.{first_fault_of}
use Rattle.ua_session.specs.declared.fault.QuestionFault.{QuestionFault}
use Rattle.ua_session.specs.declared.fault.QuestionFault.TheVariants.{Connection, NoMemory, NoPolicy, Output, Service}
use Rattle.ua_session.specs.declared.policy.TokenPolicy.{TokenPolicy}
use Rattle.ua_session.specs.declared.question.Question.{Question}
use Rattle.ua_session.specs.declared.question.Question.TheVariants.{Read, Write}
use Rattle.ua_session.specs.declared.verdict.Verdict.{Verdict}

abbrev Done : Type 0
Done = Result (Unit {0}) QuestionFault

-- the session of a token is ended by a request with the same RequestHandle
pub ends_by : (token : NodeId) (handle same : ℕ) (moment : DateTime) (old new : Client) (before after : LineState) (result : Done) → handle ≡ same
    → EndsSession token handle moment old new before after result → EndsSession token same moment old new before after result
ends_by token handle same moment old new before after result is ends = subst (λ (h : ℕ). EndsSession token h moment old new before after result) is ends

-- a question is asked under the token of a session whose first call has the same request id
pub under_by : {M O : Type 0} (gives : M → ℤ → M → Type 0) (contents : O → Option (List ℕ)) (style : AnswerStyle) (question : Question) (token : NodeId)
    (handle same : ℕ) (first last : M) (old new : Client) (before after : LineState) (had have : O) (result : Result Verdict QuestionFault) → handle ≡ same
    → AsksUnder gives contents style question token handle first last old new before after had have result
    → AsksUnder gives contents style question token same first last old new before after had have result
under_by gives contents style question token handle same first last old new before after had have result is asks =
    subst (λ (h : ℕ). AsksUnder gives contents style question token h first last old new before after had have result) is asks

-- a question is asked in a session whose first call has the same request id
pub asks_by : {M O : Type 0} (gives : M → ℤ → M → Type 0) (contents : O → Option (List ℕ)) (style : AnswerStyle) (question : Question)
    (policy_id : Option (List ℕ)) (handle same : ℕ) (first last : M) (old new : Client) (before after : LineState) (had have : O)
    (result : Result Verdict QuestionFault) → handle ≡ same
    → AsksInSession gives contents style question policy_id handle first last old new before after had have result
    → AsksInSession gives contents style question policy_id same first last old new before after had have result
asks_by gives contents style question policy_id handle same first last old new before after had have result is asks =
    subst (λ (h : ℕ). AsksInSession gives contents style question policy_id h first last old new before after had have result) is asks

-- ---- what is written

-- what was written behind a result: such lines, and what a fault leaves
abbrev Prints : {A O : Type 0} → (O → Option (List ℕ)) → (List ℕ → Type 0) → Result A QuestionFault → O → O → Type 0
Prints contents AreLines (Ok found) had have = HasAdded AreLines (contents had) (contents have)
Prints contents AreLines (Err fault) had have = LeavesLines contents AreLines fault had have

pub prints_left : {A O : Type 0} (contents : O → Option (List ℕ)) (AreLines : List ℕ → Type 0) (result : Result A QuestionFault) (had have : O)
    → Prints contents AreLines result had have → IfErr result (λ fault. LeavesLines contents AreLines fault had have)
prints_left contents AreLines (Ok found) had have h = tt
prints_left contents AreLines (Err fault) had have h = h

pub prints_answered : {A O : Type 0} (contents : O → Option (List ℕ)) (AreLines : List ℕ → Type 0) (result : Result A QuestionFault) (had have : O)
    → Prints contents AreLines result had have → OnOk result (HasAdded AreLines (contents had) (contents have))
prints_answered contents AreLines (Ok found) had have h = h
prints_answered contents AreLines (Err fault) had have h = tt

-- what a fault leaves that is not the writer's
memory_left : {O : Type 0} (contents : O → Option (List ℕ)) (AreLines : List ℕ → Type 0) (fault : QuestionFault) (had have : O) → (IsOutput fault → ⊥)
    → LeavesLines contents AreLines fault had have → LeavesLines contents AreLines NoMemory had have
memory_left contents AreLines fault had have not (inl output) = absurd (not output)
memory_left contents AreLines fault had have not (inr left) = inr left

-- what was written behind one result was written behind the first fault of this one and another
first_prints : {A O : Type 0} (contents : O → Option (List ℕ)) (AreLines : List ℕ → Type 0) (printed : Result A QuestionFault) (closed : Done)
    (result : Result A QuestionFault) (had have : O) → Prints contents AreLines printed had have
    → result ≡ first_fault_of printed closed → Prints contents AreLines result had have
first_prints {A} contents AreLines (Ok found) (Ok closed) result had have adds is = subst (λ (r : Result A QuestionFault). Prints contents AreLines r had have)
    (sym is) adds
first_prints {A} contents AreLines (Ok found) (Err fault) result had have adds is = subst (λ (r : Result A QuestionFault). Prints contents AreLines r had have)
    (sym is) (inr (inr adds))
first_prints {A} contents AreLines (Err (Output e)) closed result had have adds is = subst (λ (r : Result A QuestionFault). Prints contents AreLines r had have)
    (sym is) adds
first_prints {A} contents AreLines (Err fault) (Ok closed) result had have adds is = subst (λ (r : Result A QuestionFault). Prints contents AreLines r had have)
    (sym is) adds
first_prints {A} contents AreLines (Err (Service c)) (Err NoMemory) result had have adds is =
    subst (λ (r : Result A QuestionFault). Prints contents AreLines r had have) (sym is) (memory_left contents AreLines (Service c) had have (λ x. x) adds)
first_prints {A} contents AreLines (Err (Connection f)) (Err NoMemory) result had have adds is =
    subst (λ (r : Result A QuestionFault). Prints contents AreLines r had have) (sym is) (memory_left contents AreLines (Connection f) had have (λ x. x) adds)
first_prints {A} contents AreLines (Err NoPolicy) (Err NoMemory) result had have adds is =
    subst (λ (r : Result A QuestionFault). Prints contents AreLines r had have) (sym is) (memory_left contents AreLines NoPolicy had have (λ x. x) adds)
first_prints {A} contents AreLines (Err NoMemory) (Err NoMemory) result had have adds is =
    subst (λ (r : Result A QuestionFault). Prints contents AreLines r had have) (sym is) adds
first_prints {A} contents AreLines (Err fault) (Err other) result had have adds is = subst (λ (r : Result A QuestionFault). Prints contents AreLines r had have)
    (sym is) adds

-- nothing was written
none_prints : {A O : Type 0} (contents : O → Option (List ℕ)) (AreLines : List ℕ → Type 0) (fault : QuestionFault) (result : Result A QuestionFault)
    (had have : O) → result ≡ Err fault → have ≡ had → Prints contents AreLines result had have
none_prints {A} contents AreLines fault result had have is same = subst (λ (r : Result A QuestionFault). Prints contents AreLines r had have) (sym is)
    (inr (inl same))

-- a reply that was not printed
unprinted_left : {O : Type 0} (contents : O → Option (List ℕ)) (AreLines Told : List ℕ → Type 0) (P : Type 0) (reply : Reply) (had have : O)
    (fault : QuestionFault) → IsUnprinted Told P reply had have fault → LeavesLines contents AreLines fault had have
unprinted_left contents AreLines Told P reply had have fault (inl refused) = inr (inl refused.0)
unprinted_left contents AreLines Told P reply had have fault (inr written) = inl written.0

-- ---- of endpoints

pub endpoints_print : {O : Type 0} (contents : O → Option (List ℕ)) (style : EndpointStyle) (called : Result Reply QuestionFault) (result : Done) (had have : O)
    → PrintsEndpoints contents style had have called result → Prints contents (AreEndpointLines style) result had have
endpoints_print contents style (Ok reply) (Ok done) had have h =
    record { text = h.text; is = subst (λ t. AreEndpointLines style t) (sym h.is.added) (OfEndpoints h.is.each); added = h.added }
endpoints_print contents style (Ok reply) (Err fault) had have h = unprinted_left contents (AreEndpointLines style) _ _ reply had have fault h
endpoints_print contents style (Err fault) result had have h = none_prints contents (AreEndpointLines style) fault result had have h.1 h.0

pub endpoints_left : {O : Type 0} (contents : O → Option (List ℕ)) (style : EndpointStyle) (called : Result Reply QuestionFault) (printed closed result : Done)
    (had have : O) → PrintsEndpoints contents style had have called printed
    → result ≡ first_fault_of printed closed → IfErr result (λ fault. LeavesLines contents (AreEndpointLines style) fault had have)
endpoints_left contents style called printed closed result had have prints is =
    prints_left contents (AreEndpointLines style) result had have
    (first_prints contents (AreEndpointLines style) printed closed result had have (endpoints_print contents style called printed had have prints) is)

pub endpoints_answer : {O : Type 0} (contents : O → Option (List ℕ)) (style : EndpointStyle) (called : Result Reply QuestionFault)
    (printed closed result : Done) (had have : O) → PrintsEndpoints contents style had have called printed
    → result ≡ first_fault_of printed closed → OnOk result (HasAdded (AreEndpointLines style) (contents had) (contents have))
endpoints_answer contents style called printed closed result had have prints is =
    prints_answered contents (AreEndpointLines style) result had have
    (first_prints contents (AreEndpointLines style) printed closed result had have (endpoints_print contents style called printed had have prints) is)

-- ---- of a question

answer_lines : (style : AnswerStyle) (question : Question) (reply : Reply) (text : List ℕ) → AnswersQuestion style question reply [] text
    → AreAnswerLines style text
answer_lines style (Read nodes attribute part) reply text h = subst (λ t. AreAnswerLines style t) (sym h.added) (OfRead nodes.items h.each h.lines h.many h.are)
answer_lines style (Write node value) reply text h = subst (λ t. AreAnswerLines style t) (sym h.added) (OfWrite (node ∷ []) h.each h.many)

pub answers_print : {O : Type 0} (contents : O → Option (List ℕ)) (style : AnswerStyle) (question : Question) (called : Result Reply QuestionFault)
    (result : Result Verdict QuestionFault) (had have : O) → PrintsAnswers contents style question had have called result
    → Prints contents (AreAnswerLines style) result had have
answers_print contents style question (Ok reply) (Ok verdict) had have h =
    record { text = h.0.text; is = answer_lines style question reply h.0.text h.0.is; added = h.0.added }
answers_print contents style question (Ok reply) (Err fault) had have h = unprinted_left contents (AreAnswerLines style) _ _ reply had have fault h
answers_print contents style question (Err fault) result had have h = none_prints contents (AreAnswerLines style) fault result had have h.1 h.0

-- whatever a result is, this holds
by_result : {A E : Type 0} (r : Result A E) (P : A → Type 0) (Q : E → Type 0) (R : Type 0) → MatchResult r P Q → ((x : A) → P x → R)
    → ((fault : E) → Q fault → R) → R
by_result (Ok x) P Q R h p q = p x h
by_result (Err fault) P Q R h p q = q fault h

session_prints : {M O : Type 0} (gives : M → ℤ → M → Type 0) (contents : O → Option (List ℕ)) (style : AnswerStyle) (question : Question)
    (policy_id : Option (List ℕ)) (handle : ℕ) (first last : M) (old new : Client) (before after : LineState) (had have : O)
    (result : Result Verdict QuestionFault)
    → AsksInSession gives contents style question policy_id handle first last old new before after had have result
    → Prints contents (AreAnswerLines style) result had have
session_prints gives contents style question policy_id handle first last old new before after had have result asks =
    by_result asks.begun _ _ (Prints contents (AreAnswerLines style) result had have) asks.further
    (λ token under. first_prints contents (AreAnswerLines style) under.printed under.ended result had have
    (answers_print contents style question under.called under.printed had have under.prints) under.result_is)
    (λ refused h. none_prints contents (AreAnswerLines style) refused.fault result had have h.0 h.1)

policy_prints : {M O : Type 0} (gives : M → ℤ → M → Type 0) (contents : O → Option (List ℕ)) (url : Option (List ℕ)) (policy : TokenPolicy)
    (style : AnswerStyle) (question : Question) (first last : M) (old new : Client) (before after : LineState) (had have : O)
    (result : Result Verdict QuestionFault)
    → AsksByPolicy gives contents url policy style question first last old new before after had have result
    → Prints contents (AreAnswerLines style) result had have
policy_prints gives contents url policy style question first last old new before after had have result asks =
    by_result asks.found _ _ (Prints contents (AreAnswerLines style) result had have) asks.further
    (λ policy_id within. session_prints gives contents style question policy_id _ asks.behind last asks.client new asks.once_found after had have result within)
    (λ fault h. none_prints contents (AreAnswerLines style) fault result had have h.0 h.4)

pub question_left : {M O : Type 0} (gives : M → ℤ → M → Type 0) (contents : O → Option (List ℕ)) (url : Option (List ℕ)) (policy : TokenPolicy)
    (style : AnswerStyle) (question : Question) (first last : M) (old new : Client) (before after : LineState) (had have : O)
    (printed : Result Verdict QuestionFault) (closed : Done) (result : Result Verdict QuestionFault)
    → AsksByPolicy gives contents url policy style question first last old new before after had have printed → result ≡ first_fault_of printed closed
    → IfErr result (λ fault. LeavesLines contents (AreAnswerLines style) fault had have)
question_left gives contents url policy style question first last old new before after had have printed closed result asks is =
    prints_left contents (AreAnswerLines style) result had have
    (first_prints contents (AreAnswerLines style) printed closed result had have
    (policy_prints gives contents url policy style question first last old new before after had have printed asks) is)

pub question_answers : {M O : Type 0} (gives : M → ℤ → M → Type 0) (contents : O → Option (List ℕ)) (url : Option (List ℕ)) (policy : TokenPolicy)
    (style : AnswerStyle) (question : Question) (first last : M) (old new : Client) (before after : LineState) (had have : O)
    (printed : Result Verdict QuestionFault) (closed : Done) (result : Result Verdict QuestionFault)
    → AsksByPolicy gives contents url policy style question first last old new before after had have printed → result ≡ first_fault_of printed closed
    → OnOk result (HasAdded (AreAnswerLines style) (contents had) (contents have))
question_answers gives contents url policy style question first last old new before after had have printed closed result asks is =
    prints_answered contents (AreAnswerLines style) result had have
    (first_prints contents (AreAnswerLines style) printed closed result had have
    (policy_prints gives contents url policy style question first last old new before after had have printed asks) is)

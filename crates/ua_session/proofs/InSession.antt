-- What a session comes to that is kept for one question after the other.
use Rattle.std.proofs.Common.{◌≡◌, ◌⊎◌, inl, inr, ℕ, ℤ, List, Option, Some, None, Result, Ok, Err, sym, subst}
use Rattle.std.specs.Prelude.{IfErr, OnOk}
use Rattle.ua_builtin.specs.declared.node_id.NodeId.{NodeId}
use Rattle.ua_client.specs.declared.client.Client.{Client}
use Rattle.ua_client.specs.declared.reply.Reply.{Reply}
use Rattle.ua_answers.specs.declared.style.EndpointStyle.{EndpointStyle}
use Rattle.ua_answers.specs.declared.style.AnswerStyle.{AnswerStyle}
use Rattle.ua_session.specs.InSession.{BeginsNamed}
use Rattle.ua_session.specs.Line.{LineState}
use Rattle.ua_session.specs.Printed.{AreAnswerLines, AreEndpointLines, HasAdded, LeavesLines}
use Rattle.ua_session.specs.Question.{PrintsAnswers}
use Rattle.ua_session.specs.Replies.{PrintsEndpoints}
use Rattle.ua_session.specs.declared.fault.QuestionFault.{QuestionFault}
use Rattle.ua_session.specs.declared.question.Question.{Question}
use Rattle.ua_session.specs.declared.verdict.Verdict.{Verdict}
use Rattle.ua_session.proofs.Runs.{answers_print, endpoints_print, prints_answered, prints_left}

-- a session is begun whose first call has the same request id
pub begins_by : {M : Type 0} (gives : M → ℤ → M → Type 0) (policy_id : Option (List ℕ)) (handle same : ℕ) (first last : M) (old new : Client)
    (before after : LineState) (result : Result NodeId QuestionFault) → handle ≡ same
    → BeginsNamed gives policy_id handle first last old new before after result → BeginsNamed gives policy_id same first last old new before after result
begins_by gives policy_id handle same first last old new before after result is begins =
    subst (λ (h : ℕ). BeginsNamed gives policy_id h first last old new before after result) is begins

-- ---- what is written

pub question_written : {O : Type 0} (contents : O → Option (List ℕ)) (style : AnswerStyle) (question : Question) (called : Result Reply QuestionFault)
    (result : Result Verdict QuestionFault) (had have : O) → PrintsAnswers contents style question had have called result
    → OnOk result (HasAdded (AreAnswerLines style) (contents had) (contents have))
question_written contents style question called result had have prints = prints_answered contents (AreAnswerLines style) result had have
    (answers_print contents style question called result had have prints)

pub question_leaves : {O : Type 0} (contents : O → Option (List ℕ)) (style : AnswerStyle) (question : Question) (called : Result Reply QuestionFault)
    (result : Result Verdict QuestionFault) (had have : O) → PrintsAnswers contents style question had have called result
    → IfErr result (λ fault. LeavesLines contents (AreAnswerLines style) fault had have)
question_leaves contents style question called result had have prints = prints_left contents (AreAnswerLines style) result had have
    (answers_print contents style question called result had have prints)

pub endpoints_written : {O : Type 0} (contents : O → Option (List ℕ)) (style : EndpointStyle) (called : Result Reply QuestionFault)
    (result : Result (Unit {0}) QuestionFault) (had have : O) → PrintsEndpoints contents style had have called result
    → OnOk result (HasAdded (AreEndpointLines style) (contents had) (contents have))
endpoints_written contents style called result had have prints = prints_answered contents (AreEndpointLines style) result had have
    (endpoints_print contents style called result had have prints)

pub endpoints_leave : {O : Type 0} (contents : O → Option (List ℕ)) (style : EndpointStyle) (called : Result Reply QuestionFault)
    (result : Result (Unit {0}) QuestionFault) (had have : O) → PrintsEndpoints contents style had have called result
    → IfErr result (λ fault. LeavesLines contents (AreEndpointLines style) fault had have)
endpoints_leave contents style called result had have prints = prints_left contents (AreEndpointLines style) result had have
    (endpoints_print contents style called result had have prints)

-- What is written of a reply.
use Rattle.std.proofs.Common.{◌≡◌, inr, List, [], ℕ, Option, Result, Ok, Err, sym, ap, subst}
use Rattle.std.specs.Prelude.{IfErr, OnOk}
use Rattle.std.specs.Io.KnownBytes.{Appends}
use Rattle.ua_client.specs.declared.reply.Reply.{Reply}
use Rattle.ua_client.specs.declared.reply.Reply.TheVariants.{Response as Responds, Aborted}
use Rattle.ua_services.specs.declared.response.Response.{Response}
use Rattle.ua_answers.specs.Replies.{AreEndpoints, endpoints_in}
use Rattle.ua_answers.specs.declared.style.EndpointStyle.{EndpointStyle}
use Rattle.ua_answers.specs.declared.style.AnswerStyle.{AnswerStyle}
use Rattle.ua_session.specs.Printed.{IsOutput}
use Rattle.ua_session.specs.Question.{AnswersQuestion, PrintsAnswers, verdict_of}
use Rattle.ua_session.specs.Replies.{GivesResponse, PrintsEndpoints}
use Rattle.ua_session.specs.declared.fault.QuestionFault.{QuestionFault}
use Rattle.ua_session.specs.declared.question.Question.{Question}
use Rattle.ua_session.specs.declared.verdict.Verdict.{Verdict}

-- a reply that gave a response is that response
pub as_response : (called : Result Reply QuestionFault) (response : Response) → GivesResponse called (Ok response) → called ≡ Ok (Responds response)
as_response (Ok (Responds m)) response gives =
    let same : response ≡ m = cc in
    ap (λ (r : Response). Ok (Responds r)) (sym same)
as_response (Ok (Aborted code)) response gives = absurd cc
as_response (Err fault) response gives = absurd cc

-- the lines of endpoints were to be written
pub endpoints_written : {O : Type 0} (contents : O → Option (List ℕ)) (style : EndpointStyle) (had have : O) (called : Result Reply QuestionFault)
    (response : Response) (empty text shown : List ℕ) (result : Result (Unit {0}) QuestionFault) → GivesResponse called (Ok response)
    → empty ≡ [] → shown ≡ text → AreEndpoints style (endpoints_in response) empty text → OnOk result (Appends (contents had) (contents have) shown)
    → IfErr result IsOutput → PrintsEndpoints contents style had have called result
endpoints_written contents style had have called response empty text shown result gives none same are written failed =
    subst (λ (c : Result Reply QuestionFault). PrintsEndpoints contents style had have c result) (sym (as_response called response gives))
    (by_result result written failed)
  where
    lines : AreEndpoints style (endpoints_in response) [] shown
    lines = subst (λ (t : List ℕ). AreEndpoints style (endpoints_in response) [] t) (sym same)
        (subst (λ (t : List ℕ). AreEndpoints style (endpoints_in response) t text) none are)

    by_result : (r : Result (Unit {0}) QuestionFault) → OnOk r (Appends (contents had) (contents have) shown) → IfErr r IsOutput
        → PrintsEndpoints contents style had have (Ok (Responds response)) r
    by_result (Ok done) added failed = record { text = shown; is = lines; added = added }
    by_result (Err fault) added failed = inr (failed, (shown, lines))

-- the lines of answers were written
pub answers_written : {O : Type 0} (contents : O → Option (List ℕ)) (style : AnswerStyle) (question : Question) (had have : O)
    (called : Result Reply QuestionFault) (response : Response) (empty text shown : List ℕ) (verdict : Verdict) → GivesResponse called (Ok response)
    → empty ≡ [] → shown ≡ text → AnswersQuestion style question (Responds response) empty text → Appends (contents had) (contents have) shown
    → verdict ≡ verdict_of (Responds response) → PrintsAnswers contents style question had have called (Ok verdict)
answers_written contents style question had have called response empty text shown verdict gives none same are added is =
    subst (λ (c : Result Reply QuestionFault). PrintsAnswers contents style question had have c (Ok verdict)) (sym (as_response called response gives))
    (record { text = shown; is = lines; added = added }, is)
  where
    lines : AnswersQuestion style question (Responds response) [] shown
    lines = subst (λ (t : List ℕ). AnswersQuestion style question (Responds response) [] t) (sym same)
        (subst (λ (t : List ℕ). AnswersQuestion style question (Responds response) t text) none are)

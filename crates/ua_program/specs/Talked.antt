-- What is requested of a server in the session of `ua ask`, and what is printed of it.
use Rattle.std.specs.Prelude.{◌≡◌, ◌⊎◌, ℕ, ℤ, pos, Bool, true, false, List, Option, Result, Ok, Err, MatchResult, OnOk}
use Rattle.ua_builtin.specs.declared.date_time.DateTime.{DateTime}
use Rattle.ua_session.specs.InSession.{AsksEndpointsIn, AsksQuestion, RenewsToken}
use Rattle.ua_session.specs.Line.{LineState}
use Rattle.ua_session.specs.Printed.{AreAnswerLines, AreEndpointLines, HasAdded, IsOutput}
use Rattle.ua_session.specs.declared.fault.QuestionFault.{QuestionFault}
use Rattle.ua_session.specs.declared.question.Question.{Question}
use Rattle.ua_session.specs.declared.verdict.Verdict.{Verdict}
use Rattle.ua_session.specs.declared.verdict.Verdict.TheVariants.{AllGood, SomeBad}
use Rattle.ua_answers.specs.declared.style.AnswerStyle.{AnswerStyle}
use Rattle.ua_answers.specs.declared.style.EndpointStyle.{EndpointStyle}
use Rattle.ua_program.specs.Lifetime.{is_due}
use Rattle.ua_program.specs.declared.asking.TalkFault.{TalkFault}
use Rattle.ua_program.specs.declared.asking.TalkFault.TheVariants as fault
use Rattle.ua_program.specs.declared.line_task.LineTask.{LineTask}
use Rattle.ua_program.specs.declared.line_task.LineTask.TheVariants as task
use Rattle.ua_program.specs.declared.talk.Talk.{Talk}

-- ---- the token

-- ticks as a count: those of a time before 1601 are 0
abbrev pub ticks_of : ℤ → ℕ
ticks_of (pos n) = n
ticks_of other = 0

-- the token was renewed at this time
pub record RenewsTalk (moment : DateTime) (old new : Talk) (before after : LineState) (result : Result (Unit {0}) QuestionFault) : Type 0 where
  pub renews : RenewsToken moment old.session new.session before after result
  pub noted : OnOk result (new.renewed_at ≡ ticks_of moment.ticks)
  pub style : new.style ≡ old.style
  pub verdict : new.verdict ≡ old.verdict

-- the token, which has this lifetime, was renewed at this time if it was due, and else nothing was
-- done
abbrev pub RenewsIfDue : ℕ → DateTime → Talk → Talk → LineState → LineState → Result (Unit {0}) QuestionFault → Type 0
RenewsIfDue lifetime moment old new before after result =
    ((is_due (ticks_of moment.ticks) old.renewed_at lifetime ≡ true) × RenewsTalk moment old new before after result)
    ⊎ ((is_due (ticks_of moment.ticks) old.renewed_at lifetime ≡ false) × (new ≡ old) × (after ≡ before) × (result ≡ Ok tt))

-- ---- questions

-- the verdict on several answers
abbrev pub worse : Verdict → Verdict → Verdict
worse old SomeBad = SomeBad
worse old AllGood = old

-- what is kept of the outcome of a question
abbrev pub IsNoted : Result Verdict QuestionFault → Verdict → Verdict → Result (Unit {0}) QuestionFault → Type 0
IsNoted (Ok verdict) old new result = (result ≡ Ok tt) × (new ≡ worse old verdict)
IsNoted (Err fault) old new result = (result ≡ Err fault) × (new ≡ old)

-- a question was asked at this time, and the reply printed
pub record AsksNow {O : Type 0} (contents : O → Option (List ℕ)) (question : Question) (moment : DateTime) (old new : Talk) (before after : LineState)
    (had have : O) (result : Result (Unit {0}) QuestionFault) : Type 0 where
  pub asked : Result Verdict QuestionFault
  pub asks : AsksQuestion contents old.style question moment old.session new.session before after had have asked
  pub noted : IsNoted asked old.verdict new.verdict result
  pub style : new.style ≡ old.style
  pub renewed : new.renewed_at ≡ old.renewed_at

-- how endpoints are printed beside answers in this style
abbrev pub beside : AnswerStyle → EndpointStyle
beside style = record { policies = false; json = style.lines.json }

-- the endpoints were asked for at this time, and the reply printed
pub record ListsNow {O : Type 0} (contents : O → Option (List ℕ)) (moment : DateTime) (old new : Talk) (before after : LineState) (had have : O)
    (result : Result (Unit {0}) QuestionFault) : Type 0 where
  pub asks : AsksEndpointsIn contents (beside old.style) moment old.session new.session before after had have result
  pub style : new.style ≡ old.style
  pub verdict : new.verdict ≡ old.verdict
  pub renewed : new.renewed_at ≡ old.renewed_at

-- the token was renewed first if it was due, and then something done; if that failed it is told,
-- and nothing was written
pub record RenewsFirst {O : Type 0} (lifetime : ℕ) (moment : DateTime) (old new : Talk) (before after : LineState) (had have : O)
    (result : Result (Unit {0}) QuestionFault) (Does : Talk → LineState → Type 0) : Type 0 where
  pub renewed : Result (Unit {0}) QuestionFault
  pub between : Talk
  pub once : LineState
  pub renews : RenewsIfDue lifetime moment old between before once renewed
  pub further : MatchResult renewed (λ done. Does between once)
      (λ fault. (result ≡ Err fault) × (new ≡ between) × (after ≡ once) × (have ≡ had))

-- ---- a line

-- what was done of a line that requests this: at most one call, before it a renewal if one was due
abbrev pub Performs : {O : Type 0} → (O → Option (List ℕ)) → ℕ → LineTask → DateTime → Talk → Talk → LineState → LineState → O → O
    → Result (Unit {0}) QuestionFault → Type 0
Performs contents lifetime (task.Ask question) moment old new before after had have result =
    RenewsFirst lifetime moment old new before after had have result (λ between once. AsksNow contents question moment between new once after had have result)
Performs contents lifetime task.Endpoints moment old new before after had have result =
    RenewsFirst lifetime moment old new before after had have result (λ between once. ListsNow contents moment between new once after had have result)
Performs contents lifetime task.Renew moment old new before after had have result = RenewsTalk moment old new before after result × (have ≡ had)
Performs contents lifetime task.Nothing moment old new before after had have result = (result ≡ Ok tt) × (new ≡ old) × (after ≡ before) × (have ≡ had)
Performs contents lifetime (task.Sleep time) moment old new before after had have result = (result ≡ Ok tt) × (new ≡ old) × (after ≡ before) × (have ≡ had)

-- ---- what is printed

-- the lines of an answer: of a Read or a Write, or of the endpoints
abbrev pub AreTalkLines : AnswerStyle → List ℕ → Type 0
AreTalkLines style text = AreAnswerLines style text ⊎ AreEndpointLines (beside style) text

-- a writer that had the old bytes then has after them the lines of answers, one answer after the
-- other
pub data HasTalked (style : AnswerStyle) (old : Option (List ℕ)) : Option (List ℕ) → Type 0 where
  Nothing : HasTalked style old old
  Another : (mid new : Option (List ℕ)) → HasTalked style old mid → HasAdded (AreTalkLines style) mid new → HasTalked style old new

-- the same in some style
pub record HasTalkedSome (old new : Option (List ℕ)) : Type 0 where
  pub style : AnswerStyle
  pub talked : HasTalked style old new

-- a session ended since the writer failed
abbrev pub IsWriters : TalkFault → Type 0
IsWriters (fault.Asking told) = IsOutput told
IsWriters (fault.Task told) = ⊥

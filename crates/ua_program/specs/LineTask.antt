-- What the lines of `ua ask` request.
use Rattle.std.specs.Prelude.{◌≡◌, ◌≢◌, ◌≤◌, ◌⊎◌, ℕ, List, [], ◌∷◌, ◌++◌, Result, Ok, Err, codes}
use Rattle.std.specs.Str.Lines.{strip_carriage_return}
use Rattle.ua_nodes.specs.NodeFile.{fields}
use Rattle.ua_report.specs.declared.loop_fault.LoopFault.{LoopFault}
use Rattle.ua_report.specs.declared.loop_fault.LoopFault.TheVariants as loop_fault
use Rattle.ua_session.specs.declared.question.Question.{Question}
use Rattle.ua_session.specs.declared.question.Question.TheVariants as question
use Rattle.ua_program.specs.ScriptFaults.{Unread}
use Rattle.ua_answers.specs.Script.{AsksFor}
use Rattle.ua_answers.specs.declared.script.ScriptLine.{ScriptLine}
use Rattle.ua_answers.specs.declared.script.Step.{Step}
use Rattle.ua_answers.specs.declared.script.Step.TheVariants.{Read, Write, Renew}
use Rattle.ua_words.specs.Words.{WritesNumber}
use Rattle.ua_program.specs.declared.line_task.LineTask.{LineTask}
use Rattle.ua_program.specs.declared.line_task.LineTask.TheVariants as task

-- ---- words that a script of `ua loop` does not have

-- the words are those of a line, without its end: LF, or CR and LF, or neither in the last one
pub record IsBare (line words : List ℕ) : Type 0 where
  pub body : List ℕ
  pub end : (line ≡ body ++ 10 ∷ []) ⊎ ((line ≡ body) × ((front : List ℕ) → line ≢ front ++ 10 ∷ []))
  pub is : words ≡ strip_carriage_return body

-- the words of a line are such
abbrev pub HasWords : (List ℕ → Type 0) → List ℕ → Type 0
HasWords are line = (words : List ℕ) × IsBare line words × are words

-- `sleep`, and the text of a time after a tab
abbrev pub IsSleep : List ℕ → List ℕ → Type 0
IsSleep words time = fields words ≡ codes "sleep" ∷ fields time

-- such words, whose time is that of a pause in milliseconds
pub record IsSleepOf (milliseconds : ℕ) (words : List ℕ) : Type 0 where
  pub time : List ℕ
  pub sleeps : IsSleep words time
  pub is : WritesNumber time milliseconds

-- such words, whose time is none from 1 to 4294967295
pub record IsBadSleep (words : List ℕ) : Type 0 where
  pub time : List ℕ
  pub sleeps : IsSleep words time
  pub bad : (number : ℕ) → WritesNumber time number → number ≤ 4294967295 → ⊥

-- what the text of a time is parsed as: a pause of so many milliseconds; that the one line is bad
-- where it is none
abbrev pub IsPause : List ℕ → Result LineTask LoopFault → Type 0
IsPause time (Ok (task.Sleep milliseconds)) = WritesNumber time milliseconds
IsPause time (Ok other) = ⊥
IsPause time (Err fault) = (fault ≡ loop_fault.ScriptLine 1) × ((number : ℕ) → WritesNumber time number → number ≤ 4294967295 → ⊥)

-- what such words are parsed as: the endpoints, or a pause
abbrev pub GivesOwn : List ℕ → Result LineTask LoopFault → Type 0
GivesOwn words (Ok task.Endpoints) = words ≡ codes "endpoints"
GivesOwn words (Ok (task.Sleep milliseconds)) = IsSleepOf milliseconds words
GivesOwn words (Ok other) = ⊥
GivesOwn words (Err fault) = (fault ≡ loop_fault.ScriptLine 1) × IsBadSleep words

-- ---- steps of a script

-- the question of a step: what `ua read` asks of the Value of one node, or `ua write`
abbrev pub IsQuestionOf : Step → Question → Type 0
IsQuestionOf (Read node range) (question.Read nodes attribute part) = (nodes.items ≡ node ∷ []) × (attribute ≡ 13) × (part ≡ range)
IsQuestionOf (Read node range) (question.Write to what) = ⊥
IsQuestionOf (Write node value) (question.Read nodes attribute part) = ⊥
IsQuestionOf (Write node value) (question.Write to what) = (to ≡ node) × (what ≡ value)
IsQuestionOf Renew other = ⊥

-- the task of a step
abbrev pub IsTaskOf : Step → LineTask → Type 0
IsTaskOf step (task.Ask question) = IsQuestionOf step question
IsTaskOf step task.Renew = step ≡ Renew
IsTaskOf step other = ⊥

-- the task is that of the last step that a text requests; a text of one line requests one at most
pub record RequestsStep (line : List ℕ) (found : LineTask) : Type 0 where
  pub before : List ScriptLine
  pub last : ScriptLine
  pub asked : AsksFor line (before ++ last ∷ [])
  pub is : IsTaskOf last.step found

-- ---- a line

-- what a line requests: nothing, as a comment; the endpoints; a pause; or a step of a script
abbrev pub Requests : List ℕ → LineTask → Type 0
Requests line task.Nothing = AsksFor line []
Requests line task.Endpoints = IsBare line (codes "endpoints")
Requests line (task.Sleep milliseconds) = HasWords (IsSleepOf milliseconds) line
Requests line task.Renew = RequestsStep line task.Renew
Requests line (task.Ask question) = RequestsStep line (task.Ask question)

-- why a line is refused: as a script it has a bad line, or it is a pause whose time is bad; or an
-- allocation failed
abbrev pub RefusesTaskLine : List ℕ → LoopFault → Type 0
RefusesTaskLine line fault = Unread line fault ⊎ ((fault ≡ loop_fault.ScriptLine 1) × HasWords IsBadSleep line) ⊎ (fault ≡ loop_fault.NoMemory)

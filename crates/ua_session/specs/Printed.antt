-- What a run writes.
use Rattle.std.specs.Prelude.{◌≡◌, ◌⊎◌, ℕ, List, length, Option}
use Rattle.std.specs.Io.KnownBytes.{Appends}
use Rattle.ua_builtin.specs.declared.node_id.NodeId.{NodeId}
use Rattle.ua_builtin.specs.declared.status_code.StatusCode.{StatusCode}
use Rattle.ua_structures.specs.declared.discovery.EndpointDescription.{EndpointDescription}
use Rattle.ua_answers.specs.Answers.{write_lines}
use Rattle.ua_answers.specs.PlainAnswers.{AreReads}
use Rattle.ua_answers.specs.Replies.{endpoint_lines}
use Rattle.ua_answers.specs.declared.style.EndpointStyle.{EndpointStyle}
use Rattle.ua_answers.specs.declared.style.AnswerStyle.{AnswerStyle}
use Rattle.ua_session.specs.declared.fault.QuestionFault.{QuestionFault}
use Rattle.ua_session.specs.declared.fault.QuestionFault.TheVariants.{Output}
use Rattle.ua_variant.specs.declared.values.DataValue.{DataValue}

-- the lines of answers in a style: of a Read of nodes, or of a Write to nodes
pub data AreAnswerLines (style : AnswerStyle) : List ℕ → Type 0 where
  OfRead : (nodes : List NodeId) (answers : List DataValue) (text : List ℕ) → length answers ≡ length nodes → AreReads style nodes answers text
      → AreAnswerLines style text
  OfWrite : (nodes : List NodeId) (answers : List StatusCode) → length answers ≡ length nodes → AreAnswerLines style (write_lines style.lines nodes answers)

-- the lines of endpoints in a style
pub data AreEndpointLines (style : EndpointStyle) : List ℕ → Type 0 where
  OfEndpoints : (list : Option (List EndpointDescription)) → AreEndpointLines style (endpoint_lines style list)

-- a writer that had the old bytes then has after them a text with this property
pub record HasAdded (Is : List ℕ → Type 0) (old new : Option (List ℕ)) : Type 0 where
  pub text : List ℕ
  pub is : Is text
  pub added : Appends old new text

-- the writer failed
abbrev pub IsOutput : QuestionFault → Type 0
IsOutput (Output error) = Unit {0}
IsOutput other = ⊥

-- what a fault leaves of a writer: it failed itself; otherwise it is unchanged, or such lines were
-- written
abbrev pub LeavesLines : {O : Type 0} → (O → Option (List ℕ)) → (List ℕ → Type 0) → QuestionFault → O → O → Type 0
LeavesLines contents AreLines fault had have = IsOutput fault ⊎ ((have ≡ had) ⊎ HasAdded AreLines (contents had) (contents have))

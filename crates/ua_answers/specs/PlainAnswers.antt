-- The lines of answers to a Read, with values and times for people to read.
use Rattle.std.specs.Prelude.{◌≡◌, ℕ, Bool, true, false, List, [], ◌∷◌, ◌++◌, Option, Some, None, codes}
use Rattle.ua_builtin.specs.declared.date_time.DateTime.{DateTime}
use Rattle.ua_builtin.specs.declared.node_id.NodeId.{NodeId}
use Rattle.ua_variant.specs.Data.{VariantData}
use Rattle.ua_variant.specs.declared.values.DataValue.{DataValue}
use Rattle.ua_answers.specs.Answers.{read_lines, status_text}
use Rattle.ua_texts.specs.Names.{number_of}
use Rattle.ua_texts.specs.Plain.{IsPlainVariant}
use Rattle.ua_answers.specs.PlainJson.{IsPlainJson}
use Rattle.ua_texts.specs.PlainLeaf.{Either, IsPlainMoment}
use Rattle.ua_answers.specs.declared.style.AnswerStyle.{AnswerStyle}
use Rattle.ua_answers.specs.declared.style.LineStyle.{LineStyle}

-- ---- one answer

-- a value after a space, if there is one
abbrev pub IsPlainValuePart : Bool → Option VariantData → List ℕ → Type 0
IsPlainValuePart names None text = text ≡ []
IsPlainValuePart names (Some v) text = (value : List ℕ) × (text ≡ codes " " ++ value) × IsPlainVariant names v value

-- a timestamp, or `none`
abbrev pub IsPlainTime : Option DateTime → List ℕ → Type 0
IsPlainTime None text = text ≡ codes "none"
IsPlainTime (Some moment) text = IsPlainMoment moment text

-- the timestamps of an answer, the source's and the server's
pub record ArePlainTimes (answer : DataValue) (text : List ℕ) : Type 0 where
  pub source : List ℕ
  pub server : List ℕ
  pub is : text ≡ codes " source " ++ (source ++ (codes " server " ++ server))
  pub of_source : IsPlainTime answer.source_timestamp source
  pub of_server : IsPlainTime answer.server_timestamp server

-- the timestamps, if they are wanted
abbrev pub IsPlainTimesPart : Bool → DataValue → List ℕ → Type 0
IsPlainTimesPart true answer text = ArePlainTimes answer text
IsPlainTimesPart false answer text = text ≡ []

-- the answer to an item of a Read: NODE CODE TYPE VALUE, or NODE CODE if there is no value; if
-- names are wanted, NAME after CODE and after StatusCodes in VALUE; if timestamps are wanted,
-- `source TIME server TIME` at the end
pub record IsPlainLine (style : LineStyle) (node : NodeId) (answer : DataValue) (text : List ℕ) : Type 0 where
  pub value : List ℕ
  pub times : List ℕ
  pub is : text ≡ status_text style.names node (number_of answer.status) ++ (value ++ (times ++ codes "\n"))
  pub of_value : IsPlainValuePart style.names answer.value value
  pub of_times : IsPlainTimesPart style.times answer times

-- the same as an object of JSON, if this is wanted
abbrev pub IsPlainRead : LineStyle → NodeId → DataValue → List ℕ → Type 0
IsPlainRead style node answer text = Either style.json (IsPlainJson style node answer text) (IsPlainLine style node answer text)

-- ---- several answers

-- a text has one part for each pair of two lists, in order, up to the end of the shorter list
abbrev pub ArePairs : {A B : Type 0} → (A → B → List ℕ → Type 0) → List A → List B → List ℕ → Type 0
ArePairs Is [] ys text = text ≡ []
ArePairs Is (x ∷ xs) [] text = text ≡ []
ArePairs Is (x ∷ xs) (y ∷ ys) text = (first : List ℕ) × (rest : List ℕ) × (text ≡ first ++ rest) × Is x y first × ArePairs Is xs ys rest

-- the answers to the items of a Read of these nodes
abbrev pub ArePlainReads : LineStyle → List NodeId → List DataValue → List ℕ → Type 0
ArePlainReads style nodes answers text = ArePairs (IsPlainRead style) nodes answers text

-- the same, or if this is not wanted the lines of `read_lines`
abbrev pub AreReads : AnswerStyle → List NodeId → List DataValue → List ℕ → Type 0
AreReads style nodes answers text = Either style.plain (ArePlainReads style.lines nodes answers text) (text ≡ read_lines style.lines nodes answers)

-- Questions in a session, and what is printed of the answers.
use Rattle.std.specs.Prelude.{◌≡◌, ◌≢◌, ℕ, cond, List, [], ◌∷◌, map, length, Option, Some, None, Result, Ok, Err}
use Rattle.ua_builtin.specs.declared.date_time.DateTime.{DateTime}
use Rattle.ua_builtin.specs.declared.node_id.NodeId.{NodeId}
use Rattle.ua_builtin.specs.declared.status_code.StatusCode.{StatusCode}
use Rattle.ua_client.specs.declared.reply.Reply.{Reply}
use Rattle.ua_client.specs.declared.reply.Reply.TheVariants.{Response as Responds, Aborted}
use Rattle.ua_services.specs.SessionRequests.{attribute_of_node, read, value_alone, write}
use Rattle.ua_services.specs.declared.request.Request.{Request}
use Rattle.ua_structures.specs.Plain.{value_for_node}
use Rattle.ua_structures.specs.declared.attribute.ReadValueId.{ReadValueId}
use Rattle.ua_structures.specs.declared.attribute.WriteValue.{WriteValue}
use Rattle.ua_answers.specs.Answers.{write_lines}
use Rattle.ua_answers.specs.PlainAnswers.{AreReads}
use Rattle.ua_answers.specs.PlainReplies.{HaveLines}
use Rattle.ua_answers.specs.Replies.{AreAnswers, statuses_in, values_in}
use Rattle.ua_answers.specs.declared.style.AnswerStyle.{AnswerStyle}
use Rattle.ua_variant.specs.View.{variant_of}
use Rattle.ua_variant.specs.declared.values.DataValue.{DataValue}
use Rattle.ua_variant.specs.declared.values.Variant.{Variant}
use Rattle.ua_session.specs.Printed.{HasAdded}
use Rattle.ua_session.specs.Replies.{IsUnprinted, is_bad_response}
use Rattle.ua_session.specs.declared.fault.QuestionFault.{QuestionFault}
use Rattle.ua_session.specs.declared.question.Question.{Question}
use Rattle.ua_session.specs.declared.question.Question.TheVariants.{Read, Write}
use Rattle.ua_session.specs.declared.verdict.Verdict.{Verdict}
use Rattle.ua_session.specs.declared.verdict.Verdict.TheVariants.{AllGood, SomeBad}

-- ---- what is asked

-- the items of a Read of an attribute of nodes, or of a part of it
abbrev pub items_of_question : ℕ → Option (List ℕ) → List NodeId → List ReadValueId
items_of_question attribute part nodes = map (λ (node : NodeId). attribute_of_node node attribute part) nodes

-- the item of a Write that sets the Value of a node, without status and timestamps
abbrev pub item_for : NodeId → Variant → WriteValue
item_for node value = value_for_node node (value_alone (variant_of value))

-- the request that asks a question
abbrev pub request_of_question : Question → NodeId → DateTime → ℕ → Request
request_of_question (Read nodes attribute part) token moment handle = read token moment handle (items_of_question attribute part nodes.items)
request_of_question (Write node value) token moment handle = write token moment handle (item_for node value ∷ [])

-- ---- what is printed

-- the results of a Read in a reply
abbrev pub values_of : Reply → Option (List DataValue)
values_of (Responds m) = values_in m
values_of (Aborted code) = None

-- the results of a Write in a reply
abbrev pub statuses_of : Reply → Option (List StatusCode)
statuses_of (Responds m) = statuses_in m
statuses_of (Aborted code) = None

-- a reply has as many results as a question has items, and their lines were appended, in this style
abbrev pub AnswersQuestion : AnswerStyle → Question → Reply → List ℕ → List ℕ → Type 0
AnswersQuestion style (Read nodes attribute part) reply had have = HaveLines (values_of reply) (length nodes.items) (AreReads style nodes.items) had have
AnswersQuestion style (Write node value) reply had have = AreAnswers (statuses_of reply) 1 (write_lines style.lines (node ∷ [])) had have

-- a reply has no such results, or another number of them
abbrev pub AnswersNothing : Question → Reply → Type 0
AnswersNothing (Read nodes attribute part) reply = (each : List DataValue) → values_of reply ≡ Some each → length each ≢ length nodes.items
AnswersNothing (Write node value) reply = (each : List StatusCode) → statuses_of reply ≡ Some each → length each ≢ 1

-- the verdict on a reply to a Read or a Write: whether it has a bad code, its own or that of a
-- result
abbrev pub verdict_of : Reply → Verdict
verdict_of (Responds m) = cond (is_bad_response m) SomeBad AllGood
verdict_of (Aborted code) = AllGood

-- the lines of the answers in a reply are written, in this style, or why not is told
abbrev pub PrintsAnswers : {O : Type 0} → (O → Option (List ℕ)) → AnswerStyle → Question → O → O → Result Reply QuestionFault → Result Verdict QuestionFault
    → Type 0
PrintsAnswers contents style question had have (Ok reply) (Ok verdict) = HasAdded (AnswersQuestion style question reply []) (contents had) (contents have)
    × (verdict ≡ verdict_of reply)
PrintsAnswers contents style question had have (Ok reply) (Err fault) = IsUnprinted (AnswersQuestion style question reply []) (AnswersNothing question reply)
    reply had have fault
PrintsAnswers contents style question had have (Err fault) result = (have ≡ had) × (result ≡ Err fault)

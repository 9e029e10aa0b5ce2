-- How a fault of a layer below is told.
use Rattle.ua_builtin.specs.declared.fault.TextFault.{TextFault}
use Rattle.ua_builtin.specs.declared.fault.TextFault.TheVariants as text
use Rattle.ua_client.specs.declared.fault.ClientFault.{ClientFault}
use Rattle.ua_client.specs.declared.fault.ClientFault.TheVariants as client
use Rattle.ua_nodes.specs.declared.fault.ValueFault.{ValueFault}
use Rattle.ua_nodes.specs.declared.fault.ValueFault.TheVariants as value
use Rattle.ua_answers.specs.declared.fault.AnswerFault.{AnswerFault}
use Rattle.ua_answers.specs.declared.fault.AnswerFault.TheVariants as answer
use Rattle.ua_session.specs.declared.fault.QuestionFault.{QuestionFault}
use Rattle.ua_session.specs.declared.fault.QuestionFault.TheVariants.{Service, Connection, NoMemory}
use Rattle.ua_session.specs.declared.fault.WordFault.{WordFault}
use Rattle.ua_session.specs.declared.fault.WordFault.TheVariants as word

-- a fault of a client: a service that failed is told as that, and OutOfMemory as that
abbrev pub of_client : ClientFault → QuestionFault
of_client (client.Service code) = Service code
of_client client.OutOfMemory = NoMemory
of_client other = Connection other

-- an answer that is not printed: the service failed, or the reply does not answer the question
abbrev pub of_answer : AnswerFault → QuestionFault
of_answer (answer.Service code) = Service code
of_answer answer.Unknown = Connection client.UnknownResponse
of_answer answer.OutOfMemory = NoMemory

-- a text that was not parsed as a NodeId: it names none, or an allocation failed
abbrev pub of_text : TextFault → WordFault
of_text text.NotNodeId = word.BadNode
of_text text.OutOfMemory = word.NoMemory

-- a text that was not parsed as a value: it denotes none, or an allocation failed
abbrev pub of_value : ValueFault → WordFault
of_value value.NotValue = word.BadValue
of_value value.OutOfMemory = word.NoMemory

-- What is printed of the replies to a script.
use Rattle.std.specs.Prelude.{◌≡◌, ◌⊎◌, ℕ, Bool, true, false, length, List, [], ◌∷◌, ◌++◌, map, Option, Some, None, Result, Ok, Err, codes}
use Rattle.std.specs.Fmt.{decimal}
use Rattle.std.specs.List.{filter_map, list_any}
use Rattle.ua_builtin.specs.declared.node_id.NodeId.{NodeId}
use Rattle.ua_builtin.specs.declared.status_code.StatusCode.{StatusCode}
use Rattle.ua_exchange.specs.Exchanged.{down_octets}
use Rattle.ua_exchange.specs.Programs.{begun_over}
use Rattle.ua_exchange.specs.Replies.{turns_replies}
use Rattle.ua_exchange.specs.Turns.{up_octets}
use Rattle.ua_client.specs.declared.reply.Reply.{Reply}
use Rattle.ua_client.specs.declared.reply.Reply.TheVariants.{Response as Responds, Aborted}
use Rattle.ua_program.specs.Script.{script_moment, script_turns}
use Rattle.ua_report.specs.declared.loop_fault.LoopFault.{LoopFault}
use Rattle.ua_report.specs.declared.loop_fault.LoopFault.TheVariants.{Service, UnknownResponse, NoMemory}
use Rattle.ua_nodes.specs.Table.{Nodes}
use Rattle.ua_server.specs.declared.step.End.{End}
use Rattle.ua_server.specs.declared.step.End.TheVariants.{Closed, NoClose, Cut, Refused}
use Rattle.ua_services.specs.declared.response.Response.{Response}
use Rattle.ua_answers.specs.Answers.{read_line, write_line}
use Rattle.ua_texts.specs.Names.{named_code}
use Rattle.ua_answers.specs.PlainAnswers.{IsPlainRead}
use Rattle.ua_texts.specs.PlainLeaf.{Either}
use Rattle.ua_answers.specs.Replies.{fault_in, statuses_in, values_in}
use Rattle.ua_session.specs.Replies.{is_bad_response}
use Rattle.ua_answers.specs.Styles.{plain}
use Rattle.ua_answers.specs.declared.script.ScriptLine.{ScriptLine}
use Rattle.ua_answers.specs.declared.script.Step.{Step}
use Rattle.ua_answers.specs.declared.script.Step.TheVariants.{Read, Write, Renew}
use Rattle.ua_variant.specs.declared.values.DataValue.{DataValue}

-- ---- what is told: a text, or the answer to a Read

pub data ToldOfScript : Type 0 where
  -- this text
  said : List ℕ → ToldOfScript
  -- the line of an answer to the Read of a node
  answer : NodeId → DataValue → ToldOfScript

-- the text of what is told, with the names of StatusCodes if they are wanted
abbrev pub told_text : Bool → ToldOfScript → List ℕ
told_text names (said t) = t
told_text names (answer node value) = read_line (plain names) node value

-- the same, or with values in the human-readable form if this is wanted
abbrev pub IsToldText : Bool → Bool → ToldOfScript → List ℕ → Type 0
IsToldText people names (said t) shown = shown ≡ t
IsToldText people names (answer node value) shown = Either people (IsPlainRead (plain names) node value shown) (shown ≡ read_line (plain names) node value)

-- ---- one reply: what is told of it, with the names of StatusCodes if wanted, or why nothing is

-- the line of the one result of a Read of a node
abbrev pub read_told : Bool → NodeId → Option (List DataValue) → Result ToldOfScript LoopFault
read_told names node None = Err UnknownResponse
read_told names node (Some []) = Err UnknownResponse
read_told names node (Some (value ∷ [])) = Ok (answer node value)
read_told names node (Some (value ∷ (other ∷ others))) = Err UnknownResponse

-- the line of the one result of a Write to a node
abbrev pub write_told : Bool → NodeId → Option (List StatusCode) → Result ToldOfScript LoopFault
write_told names node None = Err UnknownResponse
write_told names node (Some []) = Err UnknownResponse
write_told names node (Some (status ∷ [])) = Ok (said (write_line (plain names) node status))
write_told names node (Some (status ∷ (other ∷ others))) = Err UnknownResponse

-- the code of a ServiceFault, if there is one
abbrev pub unless_failed : Option StatusCode → Result ToldOfScript LoopFault → Result ToldOfScript LoopFault
unless_failed None told = told
unless_failed (Some code) told = Err (Service code)

-- of a response to a step, or to a request that begins or ends the session, of which nothing is
-- printed; a renewal makes no request
abbrev pub response_told : Bool → Option Step → Response → Result ToldOfScript LoopFault
response_told names None response = unless_failed (fault_in response) (Ok (said []))
response_told names (Some (Read node range)) response = unless_failed (fault_in response) (read_told names node (values_in response))
response_told names (Some (Write node value)) response = unless_failed (fault_in response) (write_told names node (statuses_in response))
response_told names (Some Renew) response = Err UnknownResponse

-- of a reply, if there is one: the server may have aborted it
abbrev pub reply_told : Bool → Option Step → Option Reply → Result ToldOfScript LoopFault
reply_told names step None = Err UnknownResponse
reply_told names step (Some (Responds response)) = response_told names step response
reply_told names step (Some (Aborted code)) = Err (Service code)

-- ---- all replies

-- the step, if it makes a request: all but renewals do
abbrev pub asking_step : Step → Option Step
asking_step (Read node range) = Some (Read node range)
asking_step (Write node value) = Some (Write node value)
asking_step Renew = None

-- the steps of lines that make requests, in their order
abbrev pub steps_asked : List ScriptLine → List Step
steps_asked lines = filter_map (λ line. asking_step line.step) lines

-- what the requests after ActivateSession are for: the steps of the lines in their order, and the
-- end of the session
abbrev pub asked_behind : List ScriptLine → List (Option Step)
asked_behind lines = map Some (steps_asked lines) ++ None ∷ []

-- what all requests of a script are for
abbrev pub asked_for : List ScriptLine → List (Option Step)
asked_for lines = None ∷ (None ∷ asked_behind lines)

-- what is told of replies, each by what its request is for
abbrev pub replies_told : Bool → List (Option Step) → List (Option Reply) → List (Result ToldOfScript LoopFault)
replies_told names [] replies = []
replies_told names (step ∷ steps) [] = reply_told names step None ∷ replies_told names steps []
replies_told names (step ∷ steps) (reply ∷ replies) = reply_told names step reply ∷ replies_told names steps replies

-- ---- bad codes

-- a reply has a bad code, its own or that of a result; one that the server aborted has none
abbrev pub is_bad_reply : Reply → Bool
is_bad_reply (Responds response) = is_bad_response response
is_bad_reply (Aborted code) = false

-- the same of a reply, if there is one
abbrev pub is_bad_told : Option Reply → Bool
is_bad_told None = false
is_bad_told (Some reply) = is_bad_reply reply

-- any reply to a script that is run over these nodes has a bad code
abbrev pub script_has_bad : Nodes → List ScriptLine → Bool
script_has_bad nodes lines = list_any is_bad_told (turns_replies (begun_over nodes) script_moment (script_turns lines))

-- ---- how a connection ended

abbrev pub end_text : Bool → End → List ℕ
end_text names Closed = codes "Closed"
end_text names NoClose = codes "NoClose"
end_text names Cut = codes "Cut"
end_text names (Refused status) = codes "Refused " ++ named_code names status.code

-- the last line: the client-to-server and the server-to-client bytes in number, and how the
-- connection ended
unfoldable pub totals_line : Bool → ℕ → ℕ → End → List ℕ
totals_line names up down end = (codes "up " ++ (decimal up ++ (codes " down " ++ (decimal down ++ codes " end ")))) ++ (end_text names end ++ codes "\n")

-- ---- a whole script

-- the texts before the first fault
abbrev pub text_of : Bool → List (Result ToldOfScript LoopFault) → List ℕ
text_of names [] = []
text_of names (Ok told ∷ rest) = told_text names told ++ text_of names rest
text_of names (Err fault ∷ rest) = []

-- the same, with values in the human-readable form
abbrev pub IsPlainTextOf : Bool → List (Result ToldOfScript LoopFault) → List ℕ → Type 0
IsPlainTextOf names [] shown = shown ≡ []
IsPlainTextOf names (Ok told ∷ rest) shown = (first : List ℕ) × (others : List ℕ) × (shown ≡ first ++ others) × IsToldText true names told first
    × IsPlainTextOf names rest others
IsPlainTextOf names (Err fault ∷ rest) shown = shown ≡ []

-- the one or the other
abbrev pub IsTextOf : Bool → Bool → List (Result ToldOfScript LoopFault) → List ℕ → Type 0
IsTextOf people names told shown = Either people (IsPlainTextOf names told shown) (shown ≡ text_of names told)

-- the first fault, if there is one
abbrev pub told_fault : List (Result ToldOfScript LoopFault) → Option LoopFault
told_fault [] = None
told_fault (Ok told ∷ rest) = told_fault rest
told_fault (Err fault ∷ rest) = Some fault

-- the number of bytes each way, and how the connection ended
abbrev pub script_totals : Bool → Nodes → List ScriptLine → List ℕ
script_totals names nodes lines = totals_line names (length (up_octets script_moment (script_turns lines)))
    (length (down_octets nodes script_moment (script_turns lines))) Closed

-- what is told of a script that is run over these nodes: of the reply to each request in order, and
-- after them the number of bytes each way
abbrev pub script_told : Bool → Nodes → List ScriptLine → List (Result ToldOfScript LoopFault)
script_told names nodes lines =
    replies_told names (asked_for lines) (turns_replies (begun_over nodes) script_moment (script_turns lines)) ++ Ok (said (script_totals names nodes lines))
    ∷ []

-- the text is what is printed of a script, with names or without, with values and times in the
-- human-readable form or not
pub record AreLoopLines (people names : Bool) (shown : List ℕ) : Type 0 where
  pub nodes : Nodes
  pub lines : List ScriptLine
  pub is : IsTextOf people names (script_told names nodes lines) shown

-- ---- what a call adds to a text

-- the text of what is told was appended; or nothing was, and the fault is the one that is told, or
-- an allocation failed
abbrev pub AddsTold : Bool → Bool → Result ToldOfScript LoopFault → Result (Unit {0}) LoopFault → List ℕ → List ℕ → Type 0
AddsTold people names told (Ok done) had have = (line : ToldOfScript) × (shown : List ℕ) × (told ≡ Ok line) × (have ≡ had ++ shown)
    × IsToldText people names line shown
AddsTold people names told (Err fault) had have = (fault ≡ NoMemory) ⊎ ((told ≡ Err fault) × (have ≡ had))

-- the texts before the first fault were appended
abbrev pub AddsTexts : Bool → Bool → List (Result ToldOfScript LoopFault) → List ℕ → List ℕ → Type 0
AddsTexts people names told had have = (shown : List ℕ) × (have ≡ had ++ shown) × IsTextOf people names told shown

-- the same, and that fault was returned, or an allocation failed
abbrev pub AddsAll : Bool → Bool → List (Result ToldOfScript LoopFault) → Result (Unit {0}) LoopFault → List ℕ → List ℕ → Type 0
AddsAll people names told (Ok done) had have = (told_fault told ≡ None) × AddsTexts people names told had have
AddsAll people names told (Err fault) had have = (fault ≡ NoMemory) ⊎ ((told_fault told ≡ Some fault) × AddsTexts people names told had have)

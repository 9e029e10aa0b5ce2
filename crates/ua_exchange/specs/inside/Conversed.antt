-- What an exchange needs of the outcome of a `Client` and a `Server` in one process.
use Rattle.std.specs.Prelude.{◌≡◌, ◌≤◌, ℕ, List, map, Option, Some, OnOk, IfErr}
use Rattle.ua_builtin.specs.declared.date_time.DateTime.{DateTime}
use Rattle.ua_frame.specs.Agreement.{url_length}
use Rattle.ua_frame.specs.declared.limits.Limits.{Limits}
use Rattle.ua_channel_laws.specs.ServerReads.{ServerCloses}
use Rattle.ua_server.specs.State.{State}
use Rattle.ua_server.specs.declared.step.End.TheVariants.{Closed}
use Rattle.ua_client.specs.declared.reply.Reply.{Reply}
use Rattle.ua_loopback.specs.Accepted as judged
use Rattle.ua_loopback.specs.Beginning.{Beginning}
use Rattle.ua_loopback.specs.Faults.{FailsAtStage}
use Rattle.ua_loopback.specs.Replies.{replies_to_turns, turns_state}
use Rattle.ua_loopback.specs.Says.{server_output}
use Rattle.ua_loopback.specs.Sends.{conversation_octets}
use Rattle.ua_loopback.specs.Turns.{conversation_told}
use Rattle.ua_loopback.specs.declared.conversation.ConversationLog.{ConversationLog}
use Rattle.ua_loopback.specs.declared.stage.Stage.TheVariants.{Ended}
use Rattle.ua_exchange.specs.Programs.{channel, program_limits, url}
use Rattle.ua_exchange.specs.Turns.{served_turns}
use Rattle.ua_exchange.specs.declared.turn.Turn.{Turn}

-- how the server begins, with these limits, over services in this state
abbrev pub beginning_by : Limits → State → DateTime → Beginning
beginning_by limits first moment = record { limits = limits; channel = channel; first = first; moments = λ (n : ℕ). moment }

-- what an exchange needs of the clauses of `converse` for the transcript of these operations, of
-- both ends with these limits, for this address, over services in this state
pub record ConversesBy (limits : Limits) (address : Option (List ℕ)) (first : State) (moment : DateTime) (turns : List Turn)
    (t : ConversationLog) : Type 0 where
  pub down : t.down.items ≡ server_output (beginning_by limits first moment) t.up.items
  pub closed : OnOk t.outcome (t.stage ≡ Ended Closed)
  pub sent : OnOk t.outcome (t.up.items ≡ conversation_octets limits limits address channel moment (served_turns turns))
  pub heard : OnOk t.outcome (ServerCloses limits channel t.up.items (conversation_told limits limits address (served_turns turns)))
  pub replied : OnOk t.outcome (map (λ (r : Reply). Some r) t.replies.items ≡ replies_to_turns (beginning_by limits first moment) limits address first 1 1
      (served_turns turns))
  pub state : OnOk t.outcome (t.services ≡ turns_state first (λ (n : ℕ). moment) 1 (served_turns turns))
  pub accepted : OnOk t.outcome (judged.AreAcceptedUnder (judged.acknowledged limits limits address) (served_turns turns))
  pub refused : IfErr t.outcome (λ fault. judged.IsTurnFault fault
      → judged.FirstRefusedUnder (judged.acknowledged limits limits address) (served_turns turns) t.taken fault)
  pub fails : IfErr t.outcome (λ fault. url_length address ≤ 4095 → FailsAtStage t.stage fault)

-- the same with the limits and the address of the program
abbrev pub IsConversed : State → DateTime → List Turn → ConversationLog → Type 0
IsConversed first moment turns t = ConversesBy program_limits (Some url) first moment turns t

-- The state of a transport before and after what is done over it.
use Rattle.std.specs.Prelude.{◌≡◌, ◌⊎◌, ℕ, Option, Result, Ok, Err}
use Rattle.ua_channel.specs.Line.{Traffic, one_more}
use Rattle.ua_client.specs.Hearing.{failures_behind}
use Rattle.ua_client.specs.declared.fault.ClientFault.{ClientFault}
use Rattle.ua_client.specs.declared.fault.ClientFault.TheVariants as client
use Rattle.ua_session.specs.declared.fault.QuestionFault.{QuestionFault}
use Rattle.ua_session.specs.declared.fault.QuestionFault.TheVariants.{Connection}

-- a transport at a time: its bytes, if it tells them, and how many of its calls failed so far, by
-- its own count
pub record LineState : Type 0 where
  pub traffic : Option Traffic
  pub failures : ℕ

-- the transport failed between two times as often as a call of a client with this outcome tells:
-- once if it returns `Read` or `Write`, otherwise not at all
abbrev pub FailsAsTold : {A : Type 0} → Result A ClientFault → LineState → LineState → Type 0
FailsAsTold answer before after = after.failures ≡ failures_behind before.failures answer

-- the count of a transport's failures before and after a conversation with this outcome: none more
-- if nothing is told, one more if a fault of the transport is told, and after another fault at most
-- one more, since the session is then still to be ended and the client to be closed
abbrev pub LineFailedConversing : {A : Type 0} → ℕ → Result A QuestionFault → ℕ → Type 0
LineFailedConversing before (Ok found) after = after ≡ before
LineFailedConversing before (Err (Connection client.Read)) after = after ≡ one_more before
LineFailedConversing before (Err (Connection client.Write)) after = after ≡ one_more before
LineFailedConversing before (Err other) after = (after ≡ before) ⊎ (after ≡ one_more before)

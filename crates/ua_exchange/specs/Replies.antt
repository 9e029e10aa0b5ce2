-- The outcomes of requests, by `ua_loopback`: each is answered in the state that those before it
-- left, and its reply comes back under its own RequestId.
use Rattle.std.specs.Prelude.{ℕ, List, Option, Some}
use Rattle.ua_builtin.specs.declared.date_time.DateTime.{DateTime}
use Rattle.ua_server.specs.State.{State}
use Rattle.ua_client.specs.declared.reply.Reply.{Reply}
use Rattle.ua_loopback.specs.Replies as served
use Rattle.ua_exchange.specs.Programs.{beginning, program_limits, url}
use Rattle.ua_exchange.specs.Turns.{served_turns}
use Rattle.ua_exchange.specs.declared.turn.Turn.{Turn}

-- the state that operations leave, if each answer has this time
abbrev pub state_behind : State → DateTime → List Turn → State
state_behind s moment turns = served.turns_state s (λ (n : ℕ). moment) 1 (served_turns turns)

-- the replies to operations, in order
unfoldable pub turns_replies : State → DateTime → List Turn → List (Option Reply)
turns_replies s moment turns = served.replies_to_turns (beginning s moment) program_limits (Some url) s 1 1 (served_turns turns)

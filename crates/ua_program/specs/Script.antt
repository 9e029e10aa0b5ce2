-- A script as client operations: CreateSession, ActivateSession, what its lines request,
-- CloseSession.
use Rattle.std.specs.Prelude.{ℕ, ◌+◌, pos, min, length, List, [], ◌∷◌, ◌++◌, Option, Some}
use Rattle.ua_builtin.specs.declared.date_time.DateTime.{DateTime}
use Rattle.ua_builtin.specs.declared.node_id.NodeId.{NodeId}
use Rattle.ua_channel.specs.ClientAsks.{no_id}
use Rattle.ua_exchange.specs.declared.turn.Turn.{Turn}
use Rattle.ua_exchange.specs.declared.turn.Turn.TheVariants.{Ask, Renew as Renewal}
use Rattle.ua_frame.specs.After.{each_after}
use Rattle.ua_services.specs.SessionRequests.{activate_session, close_session, create_session, local_url, part_of_node, read, value_alone, write}
use Rattle.ua_server.specs.State.{session_token}
use Rattle.ua_services.specs.declared.request.Request.{Request}
use Rattle.ua_structures.specs.Plain.{value_for_node}
use Rattle.ua_answers.specs.declared.script.ScriptLine.{ScriptLine}
use Rattle.ua_answers.specs.declared.script.Step.{Step}
use Rattle.ua_answers.specs.declared.script.Step.TheVariants.{Read, Write, Renew}
use Rattle.ua_variant.specs.View.{variant_of}
use Rattle.ua_variant.specs.declared.values.Variant.{Variant}

-- the time of all that is sent: 1970-01-01 00:00 UTC
abbrev pub script_moment : DateTime
script_moment = record { ticks = pos 116444736000000000 }

-- the AuthenticationToken of the session: that of the first one of a server
abbrev pub token : NodeId
token = session_token 1

-- ---- the request of a line

-- the RequestHandle of the request after these lines, which is its RequestId: the OPN has 1,
-- CreateSession 2, ActivateSession 3, and each line the next one; from the last number on, which is
-- the id of no request, it is that number
abbrev pub line_handle : List ScriptLine → ℕ
line_handle before = min (length before + 4) no_id

-- a Read of the Value of a node, or of the part that a range names
abbrev pub read_of_node : ℕ → NodeId → Option (List ℕ) → Request
read_of_node handle node range = read token script_moment handle (part_of_node node range ∷ [])

-- a Write that sets the Value of a node, without status and timestamps
abbrev pub write_to_node : ℕ → NodeId → Variant → Request
write_to_node handle node value = write token script_moment handle (value_for_node node (value_alone (variant_of value)) ∷ [])

-- the operation of a step: a request with this RequestHandle, or a renewal
abbrev pub step_turn : ℕ → Step → Turn
step_turn handle (Read node range) = Ask (read_of_node handle node range)
step_turn handle (Write node value) = Ask (write_to_node handle node value)
step_turn handle Renew = Renewal

-- the operation of a line after these
abbrev pub line_turn : List ScriptLine → ScriptLine → Turn
line_turn before line = step_turn (line_handle before) line.step

-- ---- all operations

-- CreateSession at the server's address
abbrev pub creating : Request
creating = create_session (Some (local_url 4840)) script_moment 2

-- the operations that begin the session
abbrev pub session_opening_turns : List Turn
session_opening_turns = Ask creating ∷ Ask (activate_session token script_moment 3) ∷ []

-- the operations up to and including these lines, in their order
abbrev pub turns_to : List ScriptLine → List Turn
turns_to lines = session_opening_turns ++ each_after (λ before line. line_turn before line ∷ []) lines

-- the operation that ends the session after these lines
abbrev pub closing : List ScriptLine → Turn
closing lines = Ask (close_session token script_moment (line_handle lines))

-- all operations of a script
abbrev pub script_turns : List ScriptLine → List Turn
script_turns lines = turns_to lines ++ closing lines ∷ []

-- Which frames a client rejects (the table of reasons), which come next, and a client's rules.
use Rattle.std.specs.Prelude.{ℕ, ◌==◌, nat_lt, Bool, true, false, ◌||◌, not, is_none, List, [], ◌∷◌, Option, Some, None}
use Rattle.ua_frame.specs.declared.ack.Ack.{Ack}
use Rattle.ua_frame.specs.declared.error.ErrorFrame.{ErrorFrame}
use Rattle.ua_frame.specs.declared.gate.Gate.{Gate}
use Rattle.ua_frame.specs.declared.kind.Kind.TheVariants.{Msg, Opn}
use Rattle.ua_frame.specs.declared.kind.Kind.TheVariants as kind
use Rattle.ua_frame.specs.declared.limits.Limits.{Limits}
use Rattle.ua_frame.specs.Kinds.{closed_gate, gate_with}
use Rattle.ua_frame.specs.Run.{Rules}
use Rattle.ua_opening.specs.declared.open.OpenAnswer.{OpenAnswer}
use Rattle.ua_opening.specs.declared.open.OpenAnswer.TheVariants.{Open, Fault}
use Rattle.ua_opening.specs.declared.secure_channel.OpenResponse.{OpenResponse}
use Rattle.ua_channel.specs.Asks.{Asking, Placed, asked_before, end_of, is_in, pending_calls, pending_renewals}
use Rattle.ua_channel.specs.ClientTokens.{answer_in, open_responses, opened_ids, first_channel, held_tokens}
use Rattle.ua_channel.specs.ClientTold.{ClientTold, Why, ours, peers, client_tells}
use Rattle.ua_channel.specs.Content.{Content, content}
use Rattle.ua_channel.specs.Content.Content.{Acks, Fails, Opens, Sends}
use Rattle.ua_channel.specs.Received.{Received, received}
use Rattle.ua_builtin.specs.Status.{is_bad as is_bad_code}
pub use Rattle.ua_channel.specs.Refusals.{aborts_unreadably, breaks_order, has_other_policy, has_too_many_chunks, has_too_many_octets, opens_too_many}

-- ---- tests of what a frame carries, false where it carries no such thing

-- a property of an Acknowledge
abbrev pub of_ack : (Ack → Bool) → Option Ack → Bool
of_ack test None = false
of_ack test (Some a) = test a

-- a property of the SequenceNumber and the RequestId of an OPN
abbrev pub of_numbers : (ℕ × ℕ → Bool) → Option (ℕ × ℕ) → Bool
of_numbers test None = false
of_numbers test (Some numbers) = test numbers

-- a property of the response of an OPN
abbrev pub of_response : (OpenResponse → Bool) → Option OpenAnswer → Bool
of_response test None = false
of_response test (Some (Open r)) = test r
of_response test (Some (Fault f)) = false

-- ---- the reasons

-- an ACK, an ERR or the security header of an OPN cannot be decoded
abbrev pub is_unreadable_for_client : Content → Bool
is_unreadable_for_client (Acks ack) = is_none ack
is_unreadable_for_client (Fails error) = is_none error
is_unreadable_for_client (Opens o) = is_none o.security
is_unreadable_for_client other = false

-- a size is below 8192, or above what the Hello of a client with these limits allows: the server
-- receives at most what the client sends, and sends at most what the client receives (OPC 10000-6,
-- 7.1.2.4)
abbrev pub is_outside : Limits → Ack → Bool
is_outside limits a =
    nat_lt a.receive_buffer_size 8192
    || nat_lt a.send_buffer_size 8192
    || nat_lt limits.send_buffer_size a.receive_buffer_size
    || nat_lt limits.receive_buffer_size a.send_buffer_size

-- an ACK with such a size
abbrev pub has_other_sizes : Limits → Content → Bool
has_other_sizes limits (Acks ack) = of_ack (is_outside limits) ack
has_other_sizes limits other = false

-- an OPN whose sequence header or body cannot be decoded
abbrev pub has_no_answer : Content → Bool
has_no_answer (Opens o) = is_none (answer_in o)
has_no_answer other = false

-- the ServiceResult of a response
abbrev pub result_of : Option OpenAnswer → ℕ
result_of None = 0
result_of (Some (Open r)) = r.response_header.service_result.code
result_of (Some (Fault f)) = f.response_header.service_result.code

-- the ServiceResult of an OPN
abbrev pub opening_code : Content → ℕ
opening_code (Opens o) = result_of (answer_in o)
opening_code other = 0

-- the response is a ServiceFault, or its ServiceResult has its top bit set (OPC 10000-4, 7.39)
abbrev pub is_bad_answer : Option OpenAnswer → Bool
is_bad_answer None = false
is_bad_answer (Some (Open r)) = is_bad_code r.response_header.service_result
is_bad_answer (Some (Fault f)) = true

-- an OPN with such a response
abbrev pub has_bad_answer : Content → Bool
has_bad_answer (Opens o) = is_bad_answer (answer_in o)
has_bad_answer other = false

-- there is a channel, and it is another one than this
abbrev pub is_other : Option ℕ → ℕ → Bool
is_other None channel = false
is_other (Some n) channel = not (channel == n)

-- a MSG on another channel, or an OPN whose response names another one
abbrev pub is_on_other_channel_for_client : Received → Content → Bool
is_on_other_channel_for_client before (Opens o) = of_response (λ r. is_other (first_channel (open_responses before.openings)) r.channel_id) (answer_in o)
is_on_other_channel_for_client before (Sends c) = is_other (first_channel (open_responses before.openings)) c.channel
is_on_other_channel_for_client before other = false

-- a MSG under a token that is not held, or an OPN that brings one that is held already
abbrev pub has_other_token_for_client : Received → Content → Bool
has_other_token_for_client before (Opens o) = of_response (λ r. is_in r.token_id (held_tokens before)) (answer_in o)
has_other_token_for_client before (Sends c) = not (is_in c.token (held_tokens before))
has_other_token_for_client before other = false

-- the RequestId of an OPN is expected: the first OPN answers under 1, a later one the renewal that
-- is unanswered
abbrev pub is_awaited : List OpenResponse → List ℕ → List Asking → ℕ → Bool
is_awaited [] opened asked id = id == 1
is_awaited (r ∷ rs) opened asked id = is_in id (pending_renewals opened asked)

-- the RequestId is not pending after these operations
abbrev pub is_unasked : Received → List Asking → Content → Bool
is_unasked before asked (Opens o) = of_numbers (λ n. not (is_awaited (open_responses before.openings) (opened_ids before.openings) asked n.1)) o.numbers
is_unasked before asked (Sends c) = not (is_in c.request (pending_calls before.messages asked))
is_unasked before asked other = false

-- the code of an Error
abbrev pub code_in_error : Option ErrorFrame → ℕ
code_in_error None = 0
code_in_error (Some e) = e.error.code

-- the code of an ERR
abbrev pub error_code : Content → ℕ
error_code (Fails error) = code_in_error error
error_code other = 0

-- an ERR
abbrev pub is_error : Content → Bool
is_error (Fails error) = true
is_error other = false

-- the reasons, in the order in which they are judged, after those of the header: the client's own,
-- BadDecodingError, BadTcpNotEnoughResources, BadSecurityPolicyRejected, BadDecodingError, the
-- ServiceResult, BadTcpSecureChannelUnknown, BadSecureChannelTokenUnknown,
-- BadSequenceNumberInvalid, BadDecodingError, BadTcpNotEnoughResources, BadResponseTooLarge twice,
-- BadUnknownResponse; and last that the server rejected, with its code
abbrev pub client_reasons : Limits → Received → List Asking → Content → List (Why × Bool)
client_reasons limits before asked c =
    (ours 0x8007_0000, is_unreadable_for_client c)
    ∷ (ours 0x8081_0000, has_other_sizes limits c)
    ∷ (ours 0x8055_0000, has_other_policy c)
    ∷ (ours 0x8007_0000, has_no_answer c)
    ∷ (ours (opening_code c), has_bad_answer c)
    ∷ (ours 0x807F_0000, is_on_other_channel_for_client before c)
    ∷ (ours 0x8087_0000, has_other_token_for_client before c)
    ∷ (ours 0x8088_0000, breaks_order before c)
    ∷ (ours 0x8007_0000, aborts_unreadably c)
    ∷ (ours 0x8081_0000, opens_too_many before c)
    ∷ (ours 0x80B9_0000, has_too_many_octets limits before c)
    ∷ (ours 0x80B9_0000, has_too_many_chunks limits before c)
    ∷ (ours 0x8009_0000, is_unasked before asked c)
    ∷ (peers (error_code c), is_error c)
    ∷ []

-- ---- which frames come next

-- ACK and ERR of at most 8192 bytes
abbrev pub ack_gate : Gate
ack_gate = gate_with (gate_with (closed_gate 8192) kind.Ack) kind.Err

-- OPN and ERR of at most this many bytes
abbrev pub answer_gate : ℕ → Gate
answer_gate size = gate_with (gate_with (closed_gate size) Opn) kind.Err

-- OPN, MSG and ERR of at most this many bytes
abbrev pub reply_gate : ℕ → Gate
reply_gate size = gate_with (gate_with (gate_with (closed_gate size) Opn) Msg) kind.Err

-- after an ACK, by the responses of the OPNs
abbrev pub gate_agreed : ℕ → List OpenResponse → Gate
gate_agreed size [] = answer_gate size
gate_agreed size (r ∷ rs) = reply_gate size

-- by the ACK and the responses of the OPNs
abbrev pub client_gate_behind : Option Ack → List OpenResponse → Gate
client_gate_behind None rs = ack_gate
client_gate_behind (Some a) rs = gate_agreed a.send_buffer_size rs

-- an ACK first, then an OPN, then OPN and MSG, and ERR always; after the ACK of at most the size
-- that the server sends
abbrev pub client_gate : Received → Gate
client_gate before = client_gate_behind before.ack (open_responses before.openings)

-- the rules of a client with these limits and operations
abbrev pub client_rules : Limits → List Placed → Rules ClientTold Why
client_rules limits asks = record {
  gate = λ before. client_gate (received before);
  reasons = λ before f. client_reasons limits (received before) (asked_before (end_of before f) asks) (content f);
  of_header = ours;
  tells = λ before f. client_tells (received before) (content f);
  over = λ before. false;
}

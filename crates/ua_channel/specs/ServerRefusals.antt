-- Which frames a server rejects: the table of reasons, after those of the header (OPC 10000-6, 6.7
-- and 7.1).
use Rattle.std.specs.Prelude.{ℕ, ◌==◌, nat_lt, nat_le, pos, Bool, false, ◌&&◌, not, is_none, if◌then◌else◌, List, [], ◌∷◌, Option, Some, None}
use Rattle.std.proofs.Common.{int_eq}
use Rattle.ua_frame.specs.declared.limits.Limits.{Limits}
use Rattle.ua_frame.specs.Agreement.{is_url_long, is_buffer_small}
use Rattle.ua_frame.specs.Hello.{is_so}
use Rattle.ua_opening.specs.declared.secure_channel.OpenRequest.{OpenRequest}
use Rattle.ua_chunk.specs.Opening.{channel_of_header}
use Rattle.ua_channel.specs.Content.{Content}
use Rattle.ua_channel.specs.Content.Content.{Greets, Opens, Sends, Closes}
use Rattle.ua_channel.specs.Received.{Received}
use Rattle.ua_channel.specs.ServerTold.{request_of, issued}
pub use Rattle.ua_channel.specs.Refusals.{of_header, of_number, aborts_unreadably, breaks_order, has_other_policy}
pub use Rattle.ua_channel.specs.Refusals.{has_too_many_chunks, has_too_many_octets, opens_too_many}

-- ---- a test of what a frame carries, false where it carries no such thing

-- a property of the request
abbrev pub of_request : (OpenRequest → Bool) → Option OpenRequest → Bool
of_request test None = false
of_request test (Some r) = test r

-- ---- tokens

-- the first token
abbrev pub or_first : Option ℕ → ℕ
or_first None = 1
or_first (Some token) = token

-- the last token that was used; the first one if none was
abbrev pub last_used : Received → ℕ
last_used before = or_first before.used

-- a token that is accepted: one from the last used to the newest issued (OPC 10000-6, 6.7.1: the
-- old token is accepted until the new one is used)
abbrev pub is_taken : Received → ℕ → Bool
is_taken before token = nat_le (last_used before) token && nat_le token (issued before)

-- the type of request that an OPN must have: 0, Issue, the first one; 1, Renew, each later one (OPC
-- 10000-4, 5.6.2)
abbrev pub type_wanted : ℕ → ℕ
type_wanted count = if count == 0 then 0 else 1

-- ---- the reasons, in the order of the table

-- the body of a HEL, or the security header of an OPN, cannot be decoded
abbrev pub is_unreadable : Content → Bool
is_unreadable (Greets hello) = is_none hello
is_unreadable (Opens o) = is_none o.security
is_unreadable other = false

-- a HEL whose URL has 4096 bytes or more
abbrev pub has_long_url : Content → Bool
has_long_url (Greets hello) = is_so is_url_long hello
has_long_url other = false

-- a HEL with a buffer size below 8192
abbrev pub has_small_buffer : Content → Bool
has_small_buffer (Greets hello) = is_so is_buffer_small hello
has_small_buffer other = false

-- an OPN whose sequence header or body cannot be decoded
abbrev pub is_opening_unreadable : Content → Bool
is_opening_unreadable (Opens o) = is_none (request_of o)
is_opening_unreadable other = false

-- the first OPN does not issue a token, or a later one does not renew it
abbrev pub has_other_type : Received → Content → Bool
has_other_type before (Opens o) = of_request (λ r. not (int_eq r.request_type (pos (type_wanted (issued before))))) (request_of o)
has_other_type before other = false

-- an OPN with another security mode than None, the number 1
abbrev pub has_other_mode : Content → Bool
has_other_mode (Opens o) = of_request (λ r. not (int_eq r.security_mode (pos 1))) (request_of o)
has_other_mode other = false

-- a MSG, a CLO or a later OPN on another channel
abbrev pub is_on_other_channel : ℕ → Received → Content → Bool
is_on_other_channel channel before (Opens o) = nat_lt 0 (issued before) && of_header (λ h. not (channel_of_header h == channel)) o.security
is_on_other_channel channel before (Sends c) = not (c.channel == channel)
is_on_other_channel channel before (Closes c) = not (c.channel == channel)
is_on_other_channel channel before other = false

-- a MSG or a CLO under a token that is not accepted
abbrev pub has_other_token : Received → Content → Bool
has_other_token before (Sends c) = not (is_taken before c.token)
has_other_token before (Closes c) = not (is_taken before c.token)
has_other_token before other = false

-- the greatest token was issued, so that none is left
abbrev pub has_no_token_left : Received → Content → Bool
has_no_token_left before (Opens o) = issued before == 4294967295
has_no_token_left before other = false

-- why a server with these limits, on this channel, rejects a frame with this content after what was
-- received, in the order in which it is judged: Bad_DecodingError, Bad_TcpEndpointUrlInvalid,
-- Bad_TcpNotEnoughResources, Bad_SecurityPolicyRejected, Bad_DecodingError, Bad_RequestTypeInvalid,
-- Bad_SecurityModeRejected, Bad_TcpSecureChannelUnknown, Bad_SecureChannelTokenUnknown,
-- Bad_SequenceNumberInvalid, Bad_DecodingError, Bad_TcpNotEnoughResources, Bad_RequestTooLarge
-- twice, Bad_TcpNotEnoughResources
abbrev pub server_reasons : Limits → ℕ → Received → Content → List (ℕ × Bool)
server_reasons limits channel before c =
    (0x8007_0000, is_unreadable c)
    ∷ (0x8083_0000, has_long_url c)
    ∷ (0x8081_0000, has_small_buffer c)
    ∷ (0x8055_0000, has_other_policy c)
    ∷ (0x8007_0000, is_opening_unreadable c)
    ∷ (0x8053_0000, has_other_type before c)
    ∷ (0x8054_0000, has_other_mode c)
    ∷ (0x807F_0000, is_on_other_channel channel before c)
    ∷ (0x8087_0000, has_other_token before c)
    ∷ (0x8088_0000, breaks_order before c)
    ∷ (0x8007_0000, aborts_unreadably c)
    ∷ (0x8081_0000, opens_too_many before c)
    ∷ (0x80B8_0000, has_too_many_octets limits before c)
    ∷ (0x80B8_0000, has_too_many_chunks limits before c)
    ∷ (0x8081_0000, has_no_token_left before c)
    ∷ []

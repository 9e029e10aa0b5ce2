-- Why either end rejects a frame, whoever sent it: definitions of the tables of reasons of both
-- ends.
use Rattle.std.specs.Prelude.{ℕ, nat_lt, length, Bool, false, ◌&&◌, not, [], ◌∷◌, ◌++◌, Option, Some, None}
use Rattle.ua_frame.specs.declared.limits.Limits.{Limits}
use Rattle.ua_chunk.specs.Abort.{is_readable_abort}
use Rattle.ua_chunk.specs.Flag.{is_abort_flag}
use Rattle.ua_chunk.specs.Gathered.{gathered, joined}
use Rattle.ua_chunk.specs.Open.{open_ids}
use Rattle.ua_chunk.specs.Opening.{SecurityHeader, policy_of, is_none_policy}
use Rattle.ua_chunk.specs.Refusal.{most_open, passes}
use Rattle.ua_chunk.specs.Sequence.{may_follow}
use Rattle.ua_channel.specs.Content.{Content}
use Rattle.ua_channel.specs.Content.Content.{Opens, Sends, Closes}
use Rattle.ua_channel.specs.Received.{Received}

-- ---- tests of what an OPN carries, false where it carries no such thing

-- a property of the security header
abbrev pub of_header : (SecurityHeader → Bool) → Option SecurityHeader → Bool
of_header test None = false
of_header test (Some h) = test h

-- a property of the SequenceNumber
abbrev pub of_number : (ℕ → Bool) → Option (ℕ × ℕ) → Bool
of_number test None = false
of_number test (Some n) = test n.0

-- ---- the reasons

-- an OPN under another policy than None
abbrev pub has_other_policy : Content → Bool
has_other_policy (Opens o) = of_header (λ h. not (is_none_policy (policy_of h))) o.security
has_other_policy other = false

-- the SequenceNumber does not follow the last one
abbrev pub breaks_order : Received → Content → Bool
breaks_order before (Opens o) = of_number (λ n. not (may_follow before.last n)) o.numbers
breaks_order before (Sends c) = not (may_follow before.last c.sequence)
breaks_order before (Closes c) = not (may_follow before.last c.sequence)
breaks_order before other = false

-- the body of an abort cannot be decoded
abbrev pub aborts_unreadably : Content → Bool
aborts_unreadably (Sends c) = is_abort_flag c.flag && not (is_readable_abort c.body)
aborts_unreadably other = false

-- more than 4 messages would be unfinished
abbrev pub opens_too_many : Received → Content → Bool
opens_too_many before (Sends c) = nat_lt most_open (length (open_ids (before.messages ++ c ∷ [])))
opens_too_many before other = false

-- the message has more bytes than a receiver with these limits takes
abbrev pub has_too_many_octets : Limits → Received → Content → Bool
has_too_many_octets limits before (Sends c) = not (is_abort_flag c.flag) && passes limits.max_message_size (length (joined (gathered before.messages c)))
has_too_many_octets limits before other = false

-- the message has more chunks than a receiver with these limits takes
abbrev pub has_too_many_chunks : Limits → Received → Content → Bool
has_too_many_chunks limits before (Sends c) = not (is_abort_flag c.flag) && passes limits.max_chunk_count (length (gathered before.messages c))
has_too_many_chunks limits before other = false

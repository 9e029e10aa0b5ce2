-- The flags of chunks, the fourth byte of their frames (OPC 10000-6, 6.7.2.2): C of an intermediate
-- chunk, F of the last chunk of a message, A of a chunk that aborts its message.
use Rattle.std.specs.Prelude.{ℕ, ◌==◌, Bool, true, false, if◌then◌else◌, Option, Some, None}
use Rattle.ua_chunk.specs.declared.flag.Flag.{Flag}
use Rattle.ua_chunk.specs.declared.flag.Flag.TheVariants.{F, C, A}

-- more chunks of the message follow
abbrev pub is_more_flag : Flag → Bool
is_more_flag F = false
is_more_flag C = true
is_more_flag A = false

-- the message is aborted
abbrev pub is_abort_flag : Flag → Bool
is_abort_flag F = false
is_abort_flag C = false
is_abort_flag A = true

-- the byte of a flag: its letter in ASCII
abbrev pub flag_octet : Flag → ℕ
flag_octet F = 0x46
flag_octet C = 0x43
flag_octet A = 0x41

-- the flag of a byte, if it is one's
abbrev pub flag_in : ℕ → Option Flag
flag_in octet = if octet == 0x46 then Some F else if octet == 0x43 then Some C else if octet == 0x41 then Some A else None

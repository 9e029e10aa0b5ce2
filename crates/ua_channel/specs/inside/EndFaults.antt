-- The errors that result from errors of the parts of either end.
use Rattle.std.specs.Prelude.{ℕ}
use Rattle.ua_builtin.specs.Status.{of_code}
use Rattle.ua_frame.specs.declared.fault.FrameFault.{FrameFault}
use Rattle.ua_chunk.specs.declared.fault.AssembleFault.{AssembleFault}
use Rattle.ua_chunk.specs.declared.fault.OpenFault.{OpenFault}
use Rattle.ua_channel.specs.declared.end_fault.EndFault.{EndFault}
use Rattle.ua_channel.specs.declared.end_fault.EndFault.TheVariants.{Refused, Peer, Closed, OutOfMemory}
use Rattle.ua_frame.specs.Frames.{frame_octets}
use Rattle.ua_frame.specs.Messages.{err_frame}
use Rattle.ua_channel.specs.declared.server_fault.ChannelFault.{ChannelFault}
use Rattle.ua_frame.specs.declared.fault.FrameFault.TheVariants as frame_fault
use Rattle.ua_chunk.specs.declared.fault.AssembleFault.TheVariants as chunk_fault
use Rattle.ua_chunk.specs.declared.fault.OpenFault.TheVariants as open_fault
use Rattle.ua_channel.specs.declared.server_fault.ChannelFault.TheVariants as channel_fault

-- of the frame reader: Bad_TcpMessageTypeInvalid, Bad_TcpMessageTooLarge, Bad_DecodingError
abbrev pub of_frame_fault : FrameFault → EndFault
of_frame_fault frame_fault.UnknownType = Refused (of_code 0x807E_0000)
of_frame_fault frame_fault.OutOfPlace = Refused (of_code 0x807E_0000)
of_frame_fault frame_fault.TooLarge = Refused (of_code 0x8080_0000)
of_frame_fault frame_fault.TooSmall = Refused (of_code 0x8007_0000)
of_frame_fault frame_fault.OutOfMemory = OutOfMemory
of_frame_fault frame_fault.Closed = Closed

-- of an OPN's headers: Bad_DecodingError, Bad_SecurityPolicyRejected
abbrev pub of_open_fault : OpenFault → EndFault
of_open_fault open_fault.Unreadable = Refused (of_code 0x8007_0000)
of_open_fault open_fault.Policy = Refused (of_code 0x8055_0000)
of_open_fault open_fault.OutOfMemory = OutOfMemory

-- the code for what an assembler rejects, given the code for a message that is too large:
-- Bad_SequenceNumberInvalid, Bad_DecodingError, Bad_TcpNotEnoughResources; 0 if it rejects nothing
abbrev pub fault_code : ℕ → AssembleFault → ℕ
fault_code large chunk_fault.Sequence = 0x8088_0000
fault_code large chunk_fault.Unreadable = 0x8007_0000
fault_code large chunk_fault.TooManyOpen = 0x8081_0000
fault_code large chunk_fault.MessageTooLarge = large
fault_code large chunk_fault.TooManyChunks = large
fault_code large chunk_fault.OutOfMemory = 0
fault_code large chunk_fault.Closed = 0

-- of the assembler
abbrev pub of_chunk_fault : ℕ → AssembleFault → EndFault
of_chunk_fault large chunk_fault.OutOfMemory = OutOfMemory
of_chunk_fault large chunk_fault.Closed = Closed
of_chunk_fault large fault = Refused (of_code (fault_code large fault))

-- of an end, for the caller: with the ERR frame of the code
abbrev pub of_end_fault : EndFault → ChannelFault
of_end_fault (Refused code) = channel_fault.Refused code (frame_octets (err_frame code))
of_end_fault (Peer code) = channel_fault.Refused code (frame_octets (err_frame code))
of_end_fault Closed = channel_fault.Closed
of_end_fault OutOfMemory = channel_fault.OutOfMemory

-- the minimum number of bytes that are taken at a fault, if there are some: none if an allocation
-- failed
abbrev pub least_at : EndFault → ℕ
least_at OutOfMemory = 0
least_at other = 1

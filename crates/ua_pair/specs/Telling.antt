-- The state of the part that prints lines after frames, and what one more frame makes of it.
use Rattle.std.specs.Prelude.{◌≡◌, ℕ, Bool, List, [], ◌++◌, Option, Some, None, Result, Ok, Err}
use Rattle.std.specs.List.{concat}
use Rattle.ua_builtin.specs.Reasons.{first_reason}
use Rattle.ua_builtin.specs.Status.{of_code}
use Rattle.ua_frame.specs.declared.frame.Frame.{Frame}
use Rattle.ua_frame.specs.declared.kind.Kind.{Kind}
use Rattle.ua_chunk.specs.declared.fault.AssembleFault.{AssembleFault}
use Rattle.ua_chunk.specs.declared.fault.AssembleFault.TheVariants.{Sequence, Unreadable, TooManyOpen, MessageTooLarge, TooManyChunks, Closed}
use Rattle.ua_chunk.specs.declared.fault.AssembleFault.TheVariants as assemble
use Rattle.ua_chunk.specs.declared.fault.OpenFault.{OpenFault}
use Rattle.ua_chunk.specs.declared.fault.OpenFault.TheVariants as opening
use Rattle.ua_chunk.specs.Assembling.{Stands as AssemblerStands, octet_limit, chunk_limit, last_number}
use Rattle.ua_pair.specs.declared.pending.Pending.{Pending}
use Rattle.ua_pair.specs.declared.pending.Pending.TheVariants.{Message, Opening}
use Rattle.ua_pair.specs.declared.teller.Teller.{Teller}
use Rattle.ua_pair.specs.declared.fault.DissectFault.{DissectFault}
use Rattle.ua_pair.specs.declared.fault.DissectFault.TheVariants.{Refused, OutOfMemory}
use Rattle.ua_fields.specs.declared.side.Side.{Side}
use Rattle.ua_pair.specs.declared.options.DissectOptions.{DissectOptions}
use Rattle.ua_pair.specs.Before.{message_chunks, last_sequence}
use Rattle.ua_pair.specs.Refused.{most_message_octets, most_chunks, chunk_code, reasons_by}
use Rattle.ua_fields.specs.Bodies.{message_kind, opening_kind}
use Rattle.ua_pair.specs.Told.{AreFieldsOf, IsHeaderOf, IsTextBy}

-- the error that results from an error of the assembler: a rejection with its code, or OutOfMemory
abbrev pub chunk_fault : Side → AssembleFault → DissectFault
chunk_fault side Sequence = Refused (of_code (chunk_code side Sequence))
chunk_fault side Unreadable = Refused (of_code (chunk_code side Unreadable))
chunk_fault side TooManyOpen = Refused (of_code (chunk_code side TooManyOpen))
chunk_fault side MessageTooLarge = Refused (of_code (chunk_code side MessageTooLarge))
chunk_fault side TooManyChunks = Refused (of_code (chunk_code side TooManyChunks))
chunk_fault side assemble.OutOfMemory = OutOfMemory
chunk_fault side Closed = OutOfMemory

-- the error that results from an error in the headers of an OPN: BadDecodingError,
-- BadSecurityPolicyRejected, or OutOfMemory
abbrev pub opening_fault : OpenFault → DissectFault
opening_fault opening.Unreadable = Refused (of_code 0x8007_0000)
opening_fault opening.Policy = Refused (of_code 0x8055_0000)
opening_fault opening.OutOfMemory = OutOfMemory

-- the state of the teller is that after these frames
pub record TellerStands (t : Teller) (fs : List Frame) : Type 0 where
  pub messages : AssemblerStands t.assembler (message_chunks fs)
  pub last : last_number t.assembler ≡ last_sequence fs
  pub octets : octet_limit t.assembler ≡ most_message_octets
  pub chunks : chunk_limit t.assembler ≡ most_chunks

-- a text has the lines of the fields of a message, or of its header, if they are wanted
abbrev pub AreMessageFields : DissectOptions → Bool → List ℕ → List ℕ → Type 0
AreMessageFields options unsupported octets text =
    (fields : List ℕ) × (header : List ℕ) × (text ≡ fields ++ header) × AreFieldsOf options (message_kind options.side) octets fields
    × IsHeaderOf options unsupported octets header

-- a text has the lines of the fields of what has its line told, a message or an OPN, if they are
-- wanted; it is empty where nothing is pending
abbrev pub ArePendingLines : DissectOptions → Option Pending → List ℕ → Type 0
ArePendingLines options None text = text ≡ []
ArePendingLines options (Some (Message m unsupported)) text = AreMessageFields options unsupported (concat m) text
ArePendingLines options (Some (Opening c)) text = AreFieldsOf options (opening_kind options.side) c.body text

-- the outcome where no message is pending
abbrev pub none_pending : Result (Unit {0}) DissectFault → Result (Option Pending) DissectFault
none_pending (Ok x) = Ok None
none_pending (Err fault) = Err fault

-- the outcome for a frame: there is no reason against it, and a text of which this holds was
-- appended; or it is rejected for its first reason; or an allocation failed
abbrev pub JudgesFrameTelling : {A : Type 0} → Option ℕ → (List ℕ → Type 0) → Result A DissectFault → List ℕ → List ℕ → Type 0
JudgesFrameTelling why Holds (Ok x) old new = (why ≡ None) × ((text : List ℕ) × (new ≡ old ++ text) × Holds text)
JudgesFrameTelling why Holds (Err (Refused code)) old new = why ≡ Some code.code
JudgesFrameTelling why Holds (Err OutOfMemory) old new = Unit {0}

-- the outcome for a frame of this kind at this offset, after these frames
abbrev pub JudgesKind : {A : Type 0} → Kind → DissectOptions → List Frame → ℕ → Frame → Result A DissectFault → List ℕ → List ℕ → Type 0
JudgesKind k options before place f result old new =
    JudgesFrameTelling (first_reason (reasons_by k options.side (last_sequence before) (message_chunks before) f))
    (IsTextBy k options (message_chunks before) place f)
    result old new

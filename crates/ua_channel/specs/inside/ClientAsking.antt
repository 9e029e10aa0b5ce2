-- What an open channel of a client makes of an operation, and which frames come next in a phase.
use Rattle.std.specs.Prelude.{◌≡◌, ℕ, ◌+◌, nat_le, Bool, length, List, [], ◌∷◌, ◌++◌, Result}
use Rattle.ua_builtin.specs.Reasons.{first_reason}
use Rattle.ua_chunk.specs.declared.fault.CutFault.{CutFault}
use Rattle.ua_chunk.specs.declared.fault.CutFault.TheVariants.{TooManyOctets, TooManyChunks}
use Rattle.ua_channel.specs.declared.client.fault.AskFault.{AskFault}
use Rattle.ua_channel.specs.declared.client.fault.AskFault.TheVariants.{TooManyPending, Exhausted, RequestTooLarge, OutOfMemory}
use Rattle.ua_channel.specs.declared.client.talking.Talking.{Talking}
use Rattle.ua_channel.specs.ClientAsks.{most_pending, no_id, ask_reasons, AnswersFor, JudgesBy}
use Rattle.ua_wire.specs.Number.{number_octets}
use Rattle.ua_frame.specs.declared.kind.Kind.TheVariants.{Clo}
use Rattle.ua_frame.specs.Kinds.{kind_octets}
use Rattle.ua_chunk.specs.Layout.{token_header, sequence_header}
use Rattle.ua_frame.specs.declared.gate.Gate.{Gate}
use Rattle.ua_channel.specs.ClientTable.{ack_gate, answer_gate, reply_gate}
use Rattle.ua_channel.specs.declared.client.phase.Phase.{Phase}
use Rattle.ua_channel.specs.declared.client.phase.Phase.TheVariants.{Waiting, Agreed, Open, Done}
use Rattle.ua_chunk.specs.declared.fault.CutFault.TheVariants as cut_fault

-- why a call is refused after this many more calls, whatever its body, in the order in which it is
-- judged
abbrev pub more_reasons : Talking → ℕ → List (AskFault × Bool)
more_reasons t more = (TooManyPending, nat_le most_pending (length t.pending.items + more)) ∷ (Exhausted, nat_le no_id (t.next + more)) ∷ []

-- the error that results from an error of splitting
abbrev pub of_cut_fault : CutFault → AskFault
of_cut_fault TooManyOctets = RequestTooLarge
of_cut_fault TooManyChunks = RequestTooLarge
of_cut_fault cut_fault.OutOfMemory = OutOfMemory

-- nothing changed, except that memory may have been reserved for pending calls
pub record AsBefore (old new : Talking) : Type 0 where
  pub rest : new ≡ record old { pending = new.pending }
  pub pending : new.pending.items ≡ old.pending.items

-- the outcome of a call with this body
abbrev pub AnswersCall : {A : Type 0} → Talking → List ℕ → Result A AskFault → Type 0
AnswersCall t body result = AnswersFor (first_reason (ask_reasons t 0 body)) result

-- how any body of this length is judged, without allocating
abbrev pub JudgesCall : Talking → ℕ → ℕ → Result (Unit {0}) AskFault → Type 0
JudgesCall t more len result = JudgesBy (λ body. first_reason (ask_reasons t more body)) len result

-- what precedes the request of a CLO of 57 bytes
abbrev pub closing_front : ℕ → ℕ → ℕ → ℕ → List ℕ
closing_front channel token number id =
    (kind_octets Clo ++ 70 ∷ number_octets 4 57)
    ++ (token_header.canonical (channel, token) ++ sequence_header.canonical (number, id))

-- the frame filter of a phase
abbrev pub client_phase_gate : Phase → Gate
client_phase_gate Waiting = ack_gate
client_phase_gate (Agreed a) = answer_gate a.ack.send_buffer_size
client_phase_gate (Open t) = reply_gate t.agreed.ack.send_buffer_size
client_phase_gate Done = ack_gate

-- Which timestamps a server's answers use: as many as their bytes carry.
use Rattle.std.proofs.Common.{◌≡◌, ℕ, zero, suc, ◌<◌, IsTrue, List, [], ◌∷◌, ◌++◌, Option, Some, None}
use Rattle.std.proofs.Common.{length, refl, ◌∙◌, ap, append-nil}
use Rattle.std.specs.List.{flat_map, list_all}
use Rattle.std.proofs.lemmas.List.Concat.{flat_map-append}
use Rattle.ua_wire.proofs.Readers.{both_true}
use Rattle.ua_builtin.specs.DateTime.{date_time}
use Rattle.ua_builtin.specs.Status.{of_code}
use Rattle.ua_builtin.specs.declared.date_time.DateTime.{DateTime}
use Rattle.ua_frame.specs.Frames.{frame_octets, frames_octets}
use Rattle.ua_frame.specs.Messages.{ack_frame}
use Rattle.ua_frame.specs.declared.ack.Ack.{Ack}
use Rattle.ua_chunk.specs.Cutting.{abort_chunk, chunk_of, chunks_octets, cut_refusal, flag_before, numbered}
use Rattle.ua_chunk.specs.Layout.{frame_of}
use Rattle.ua_chunk.specs.Sequence.{next_number}
use Rattle.ua_chunk.specs.declared.chunk.Chunk.{Chunk}
use Rattle.ua_chunk.specs.declared.fault.CutFault.{CutFault}
use Rattle.ua_chunk.specs.declared.lane.Lane.{Lane}
use Rattle.ua_chunk.proofs.Fresh.{some_pieces}
use Rattle.ua_channel.specs.Agreement.{Agreement, lane_of}
use Rattle.ua_channel.specs.Received.{latest}
use Rattle.ua_channel.specs.ServerPlaces.{agreed_by, agreements_in}
use Rattle.ua_channel.specs.ServerSends.{opening_frame, replied_by}
use Rattle.ua_channel.specs.ServerTold.{Told, Agreed, Opened, Asked, GaveUp, Closed}
use Rattle.ua_services.proofs.NoneEmpty.{response_takes_some}
use Rattle.ua_services.specs.Response.{response}
use Rattle.ua_server.specs.Reply.{answered}
use Rattle.ua_server.specs.Said.{Course, first_time, is_answered, lane_at, replied_at, say, used_in}
use Rattle.ua_server.specs.Stepping.{given_up}
use Rattle.ua_loopback.specs.Times.{time_at, times_in}

-- ---- timestamps in order

pub time_first : (m : DateTime) (ks : List DateTime) → time_at m ks 0 ≡ m
time_first m [] = refl
time_first m (k ∷ ks) = refl

pub times_encodable : (m : DateTime) (ks : List DateTime) → IsTrue (date_time.encodable m) → IsTrue (list_all date_time.encodable ks)
    → (n : ℕ) → IsTrue (date_time.encodable (time_at m ks n))
times_encodable m [] one all n = one
times_encodable m (k ∷ ks) one all zero = one
times_encodable m (k ∷ ks) one all (suc n) =
    let more = both_true (date_time.encodable k) (list_all date_time.encodable ks) all in
    times_encodable k ks more.0 more.1 n

-- ---- how many an answer carries

ack_none : (a : Ack) → times_in (frame_octets (ack_frame a)) ≡ 0
unfolding frame_octets
ack_none a = refl

opening_one : (channel number id : ℕ) (body : List ℕ) → times_in (frame_octets (opening_frame channel number id body)) ≡ 1
unfolding frame_octets
opening_one channel number id body = refl

chunk_one : (c : Chunk) → times_in (frame_octets (frame_of c)) ≡ 1
unfolding frame_octets
chunk_one c = refl

chunks_one : (c : Chunk) (cs : List Chunk) → times_in (chunks_octets (c ∷ cs)) ≡ 1
unfolding frame_octets frames_octets
chunks_one c cs = refl

replied_one : (o : Option CutFault) (lane : Lane) (body : List ℕ) (number id : ℕ) → 0 < length body → times_in (replied_by o lane body number id).0 ≡ 1
replied_one None lane body number id some =
    let ps = some_pieces lane.room body some in
    ap (λ (t : List (List ℕ)). times_in (chunks_octets (numbered lane number id t))) ps.are
    ∙ chunks_one (chunk_of lane (flag_before ps.others) number id ps.first) (numbered lane (next_number number) id ps.others)
replied_one (Some fault) lane body number id some = chunk_one (abort_chunk lane number id (of_code 0x80B9_0000))

reply_one : (channel token id : ℕ) (o : Option Agreement) (body : List ℕ) (number : ℕ) → (o ≡ None → ⊥) → 0 < length body
    → times_in (replied_at (lane_at channel token o) body number id).0 ≡ 1
reply_one channel token id None body number there some = absurd (there refl)
reply_one channel token id (Some a) body number there some =
    replied_one (cut_refusal (lane_of channel token a) body) (lane_of channel token a) body number id some

-- an answer carries as many as it uses, where what is told before all agreement is one
pub say_carries : (channel : ℕ) (c : Course) (t : Told) → IsTrue (is_answered t) → (c.agreement ≡ None → (a : Agreement) × (t ≡ Agreed a))
    → times_in (say channel c t).0 ≡ used_in (t ∷ [])
say_carries channel c (Agreed a) is greets = ack_none a.ack
say_carries channel c (Opened id handle token lifetime) is greets = opening_one channel c.number id _
say_carries channel c (Asked id token octets) is greets =
    reply_one channel token id c.agreement (response.canonical (answered c.state (first_time c.moments) octets).1) c.number
    (λ none. let no = (greets none).1 in absurd cc)
    (response_takes_some (answered c.state (first_time c.moments) octets).1)
say_carries channel c (GaveUp id) is greets = absurd cc
say_carries channel c Closed is greets = absurd cc

-- ---- what was agreed

none_agreed : (ids : List ℕ) → flat_map agreements_in (given_up ids) ≡ []
none_agreed [] = refl
none_agreed (id ∷ ids) = none_agreed ids

-- messages that are given up agree to nothing
pub quiet_agreed : (told : List Told) (ids : List ℕ) → agreed_by (told ++ given_up ids) ≡ agreed_by told
quiet_agreed told ids =
    ap (λ (gs : List Agreement). latest gs) (flat_map-append agreements_in told (given_up ids)
    ∙ (ap (λ (gs : List Agreement). flat_map agreements_in told ++ gs) (none_agreed ids) ∙ append-nil (flat_map agreements_in told)))

-- What the frames carry that an end writes.
use Rattle.std.proofs.Common.{◌≡◌, ℕ, ◌<◌, ◌≤◌, ◌^◌, true, IsTrue, ltb, List, [], ◌∷◌, ◌++◌, Some, length, refl, ◌∙◌, ap, arith}
use Rattle.std.specs.List.{AllByRecursion}
use Rattle.std.proofs.lemmas.Bool.{and_from, lt-ltb}
use Rattle.std.proofs.lemmas.Slice.Eq.{bytes_eq-Decides}
use Rattle.ua_wire.specs.Counted.{counted}
use Rattle.ua_frame.specs.declared.kind.Kind.TheVariants.{Msg, Opn}
use Rattle.ua_frame.specs.Frames.{frame_size, LetsIn}
use Rattle.ua_frame.specs.Kinds.{has_flag, lets_in}
use Rattle.ua_chunk.specs.declared.chunk.Chunk.{Chunk}
use Rattle.ua_chunk.specs.declared.flag.Flag.{Flag}
use Rattle.ua_chunk.specs.declared.flag.Flag.TheVariants.{F, C, A}
use Rattle.ua_chunk.specs.declared.lane.Lane.{Lane}
use Rattle.ua_chunk.specs.Cutting.{AreFull, number_after, numbered, pieces}
use Rattle.ua_chunk.specs.Flag.{flag_octet}
use Rattle.ua_chunk.specs.Layout.{chunk_in, frame_of, sequence_header}
use Rattle.ua_chunk.specs.Opening.{is_none_policy, none_policy, policy_header}
use Rattle.ua_chunk.specs.Sequence.{next_number}
use Rattle.ua_chunk.proofs.Carried.{chunk_found}
use Rattle.ua_chunk.proofs.HeadersLawful.{sound_policy_header, sound_sequence_header}
use Rattle.ua_chunk.proofs.Pieces.{full_pieces, next_small}
use Rattle.ua_chunk.proofs.ReaderLaws.{frame_of_chunk}
use Rattle.ua_channel.specs.Content.{content, opening_numbered, opening_of, opening_secured}
use Rattle.ua_channel.specs.Content.Content.{Sends}
use Rattle.ua_channel.proofs.Carried.{content_msg}
use Rattle.ua_frame.specs.declared.frame.Frame.{Frame}
use Rattle.ua_frame.specs.declared.gate.Gate.{Gate}
use Rattle.ua_channel.proofs.OpeningFrames.{none_header, opening_body}

-- ---- chunks

-- its numbers are of 32 bits
pub record IsNumbered (c : Chunk) : Type 0 where
  pub channel : c.channel < 2 ^ 32
  pub token : c.token < 2 ^ 32
  pub sequence : c.sequence < 2 ^ 32
  pub request : c.request < 2 ^ 32

pub chunk_written : (c : Chunk) → IsNumbered c → chunk_in (frame_of c) ≡ Some c
chunk_written c n = chunk_found (frame_of c) c (frame_of_chunk c n.channel n.token n.sequence n.request)

-- the frame of a chunk carries it
pub chunk_carried : (c : Chunk) → IsNumbered c → content (frame_of c) ≡ Sends c
chunk_carried c n = content_msg (frame_of c) c refl (chunk_written c n)

flag_known : (f : Flag) → IsTrue (has_flag Msg (flag_octet f))
flag_known F = refl
flag_known C = refl
flag_known A = refl

-- its flag is one of its kind
pub chunk_flag : (c : Chunk) → IsTrue (has_flag Msg (frame_of c).flag)
chunk_flag c = flag_known c.flag

-- ---- an OPN

-- where a gate lets one in
pub lets_opn : (gate : Gate) (f : Frame) → IsTrue (lets_in gate Opn) → f.kind ≡ Opn → f.flag ≡ 70 → frame_size f ≤ gate.largest → 32 ≤ frame_size f
    → LetsIn gate f
lets_opn gate f opens kind flag fits least = record {
  kind = ap (lets_in gate) kind ∙ opens;
  flag = rw kind (ap (has_flag Opn) flag);
  largest = fits;
  least = rw kind least;
}

-- ---- the chunks of a body

-- a chunk of this lane and request id, with a number that a sender may give, and a body that there is room for
pub record IsOf (lane : Lane) (id : ℕ) (c : Chunk) : Type 0 where
  pub channel : c.channel ≡ lane.channel
  pub token : c.token ≡ lane.token
  pub sequence : c.sequence ≤ 4294966272
  pub request : c.request ≡ id
  pub fits : length c.body ≤ lane.room

small_pieces : (k : ℕ) (ps : List (List ℕ)) → AreFull k ps → AllByRecursion (λ (p : List ℕ). length p ≤ k) ps
small_pieces k [] h = tt
small_pieces k (p ∷ []) h = (h.1, tt)
small_pieces k (p ∷ (q ∷ ps)) h = (omega (arith, h.0), small_pieces k (q ∷ ps) h.1)

numbered_are : (lane : Lane) (s id : ℕ) (ps : List (List ℕ)) → s ≤ 4294966272 → AllByRecursion (λ (p : List ℕ). length p ≤ lane.room) ps
    → AllByRecursion (IsOf lane id) (numbered lane s id ps)
numbered_are lane s id [] small fit = tt
numbered_are lane s id (p ∷ ps) small fit = (
  record { channel = refl; token = refl; sequence = small; request = refl; fits = fit.0 },
  numbered_are lane (next_number s) id ps (next_small s small) fit.1,
)

pub chunks_are : (lane : Lane) (body : List ℕ) (s id : ℕ) → s ≤ 4294966272 → 0 < lane.room → 0 < length body
    → AllByRecursion (IsOf lane id) (numbered lane s id (pieces lane.room body))
chunks_are lane body s id small pos some = numbered_are lane s id (pieces lane.room body) small
    (small_pieces lane.room (pieces lane.room body) (full_pieces lane.room body pos some))

pub after_small : (s : ℕ) (ps : List (List ℕ)) → s ≤ 4294966272 → number_after s ps ≤ 4294966272
after_small s [] small = small
after_small s (p ∷ ps) small = after_small (next_number s) ps (next_small s small)

-- ---- OPN

pub none_is : is_none_policy (Some none_policy) ≡ true
none_is = (bytes_eq-Decides none_policy none_policy).1 refl

header_fits : (channel : ℕ) → channel < 2 ^ 32 → IsTrue (policy_header.encodable (none_header channel))
unfolding counted
header_fits channel small = and_from (ltb channel (256 ^ 4)) _ (lt-ltb channel (256 ^ 4) small) refl

numbers_fit : (number id : ℕ) → number < 2 ^ 32 → id < 2 ^ 32 → IsTrue (sequence_header.encodable (number, id))
numbers_fit number id one two = and_from (ltb number (256 ^ 4)) (ltb id (256 ^ 4)) (lt-ltb number (256 ^ 4) one) (lt-ltb id (256 ^ 4) two)

-- what it carries
pub opening_carried : (channel number id : ℕ) (octets : List ℕ) → channel < 2 ^ 32 → number < 2 ^ 32 → id < 2 ^ 32
    → opening_of (opening_body channel number id octets) ≡ record { security = Some (none_header channel); numbers = Some (number, id); body = octets }
unfolding opening_of
opening_carried channel number id octets on small few =
    ap (opening_secured (opening_body channel number id octets))
    (sound_policy_header.exact.complete (none_header channel) (policy_header.canonical (none_header channel)) (sequence_header.canonical (number, id) ++ octets)
    (sound_policy_header.canonical_encodes (none_header channel) (header_fits channel on)))
    ∙ ap (opening_numbered (none_header channel) (sequence_header.canonical (number, id) ++ octets))
    (sound_sequence_header.exact.complete (number, id) (sequence_header.canonical (number, id)) octets
    (sound_sequence_header.canonical_encodes (number, id) (numbers_fit number id small few)))

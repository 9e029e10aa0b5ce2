-- That what a server answers to requests ends with the chunk of a reply.
use Rattle.std.proofs.Common.{◌≡◌, ℕ, ◌<◌, ◌^◌, List, [], ◌∷◌, ◌++◌, Option, Some, None, length}
use Rattle.std.proofs.Common.{map, refl, sym, ◌∙◌, ap, subst, arith, append_assoc, length-append}
use Rattle.std.specs.List.{AllByRecursion}
use Rattle.ua_wire.specs.Counted.{counted, text}
use Rattle.ua_wire.specs.Number.{number_octets}
use Rattle.ua_wire.proofs.NumbersRead.{length-number_octets}
use Rattle.ua_builtin.specs.Status.{of_code, status_code}
use Rattle.ua_builtin.specs.declared.status_code.StatusCode.{StatusCode}
use Rattle.ua_frame.specs.Frames.{IsSized, frame_octets}
use Rattle.ua_frame.specs.Run.{Going, Run}
use Rattle.ua_frame.specs.declared.frame.Frame.{Frame}
use Rattle.ua_frame.specs.declared.limits.Limits.{Limits}
use Rattle.ua_chunk.specs.Abort.{abort_body}
use Rattle.ua_chunk.specs.Cutting.{abort_chunk, chunks_octets, chunks_of, cut_refusal, numbered}
use Rattle.ua_chunk.specs.Layout.{frame_of}
use Rattle.ua_chunk.specs.declared.chunk.Chunk.{Chunk}
use Rattle.ua_chunk.specs.declared.fault.CutFault.{CutFault}
use Rattle.ua_chunk.specs.declared.lane.Lane.{Lane}
use Rattle.ua_chunk.proofs.Fresh.{some_pieces}
use Rattle.ua_chunk.proofs.Lists.{map_push}
use Rattle.ua_channel.specs.Asks.{Placed}
use Rattle.ua_channel_laws.specs.ClientReads.{AtClient, ClientReads, IsLaneBack}
use Rattle.ua_channel.specs.ClientTable.{client_rules}
use Rattle.ua_channel.specs.ClientTold.{ClientTold}
use Rattle.ua_channel.specs.Content.{content}
use Rattle.ua_channel.specs.Content.Content.{Sends}
use Rattle.ua_channel.specs.ServerSends.{replied, replied_by}
use Rattle.ua_channel_laws.proofs.ReadOn.{one_octets}
use Rattle.ua_channel.proofs.ChunkFrames.{chunk_size}
use Rattle.ua_channel_laws.proofs.Sized.{all_last, frames_behind, sized_chunks}
use Rattle.ua_channel_laws.proofs.Written.{IsNumbered, IsOf, chunk_carried, chunks_are}

-- ---- the last of a list

-- all but the last, and the last
pub record Last {A : Type 0} (xs : List A) : Type 0 where
  pub front : List A
  pub last : A
  pub parts : xs ≡ front ++ last ∷ []

pub last_of : {A : Type 0} (x : A) (xs : List A) → Last (x ∷ xs)
last_of x [] = record { front = []; last = x; parts = refl }
last_of {A = A} x (y ∷ ys) =
    let l = last_of y ys in
    record { front = x ∷ l.front; last = l.last; parts = ap (λ (zs : List A). x ∷ zs) l.parts }

-- ---- octets that end in a chunk

-- the last of frames carries a chunk
pub record EndsInChunk (frames : List Frame) : Type 0 where
  pub before : List Frame
  pub frame : Frame
  pub chunk : Chunk
  pub parts : frames ≡ before ++ frame ∷ []
  pub carries : content frame ≡ Sends chunk

-- where a client with these limits, that asked so, reads these octets as whole frames, the last of them carries a chunk
abbrev pub LastChunk : Limits → List Placed → List ℕ → Type 0
LastChunk limits asks octets = (frames : List Frame) → Run (client_rules limits asks) octets frames [] Going → EndsInChunk frames

module _ (limits : Limits) (asks : List Placed) (octets : List ℕ) (told : List ClientTold) (at : AtClient) (lane : Lane) (id : ℕ)
    (r : ClientReads limits asks octets told at) (back : IsLaneBack limits at lane) (few : id < 2 ^ 32) where
  -- behind chunks of which the last is numbered
  ends_with : (cs : List Chunk) (l : Last cs) → IsNumbered l.last → AllByRecursion IsSized (map frame_of cs)
      → LastChunk limits asks (octets ++ chunks_octets cs)
  ends_with cs l small sized frames run = record {
    before = r.frames ++ map frame_of l.front;
    frame = frame_of l.last;
    chunk = l.last;
    parts =
        frames_behind (client_rules limits asks) octets r.frames frames (map frame_of cs) r.run run sized
        ∙ (ap (λ (us : List Chunk). r.frames ++ map frame_of us) l.parts
        ∙ (ap (λ (fs : List Frame). r.frames ++ fs) (map_push frame_of l.front (l.last ∷ []))
        ∙ sym (append_assoc r.frames (map frame_of l.front) (frame_of l.last ∷ []))));
    carries = chunk_carried l.last small;
  }

  numbered_of : (c : Chunk) → IsOf lane id c → IsNumbered c
  numbered_of c is = record {
    channel = omega (arith, is.channel, back.on_small);
    token = omega (arith, is.token, back.token_small);
    sequence = omega (arith, is.sequence);
    request = omega (arith, is.request, few);
  }

  reply_ends : (body : List ℕ) → 0 < length body → LastChunk limits asks (octets ++ chunks_octets (chunks_of lane body at.next id))
  reply_ends body some =
      let ps = some_pieces lane.room body some in
      let are : AllByRecursion (IsOf lane id) (numbered lane at.next id (ps.first ∷ ps.others)) =
      subst (λ (t : List (List ℕ)). AllByRecursion (IsOf lane id) (numbered lane at.next id t)) ps.are
      (chunks_are lane body at.next id r.next_small back.some some) in
      let l : Last (numbered lane at.next id (ps.first ∷ ps.others)) = last_of _ _ in
      subst (λ (t : List (List ℕ)). LastChunk limits asks (octets ++ chunks_octets (numbered lane at.next id t))) (sym ps.are)
      (ends_with (numbered lane at.next id (ps.first ∷ ps.others)) l
      (numbered_of l.last (all_last (IsOf lane id) l.front l.last (subst (AllByRecursion (IsOf lane id)) l.parts are)))
      (sized_chunks lane id at.ack.send_buffer_size (numbered lane at.next id (ps.first ∷ ps.others)) back.fits r.sized are))

  abort_length : (code : StatusCode) → length (abort_body.canonical (code, None)) ≡ 8
  unfolding abort_body status_code text counted
  abort_length code = omega (
    arith,
    length-append (number_octets 4 code.code) (number_octets 4 0xFFFF_FFFF),
    length-number_octets 4 code.code,
    length-number_octets 4 0xFFFF_FFFF,
  )

  abort_ends : (code : StatusCode) → LastChunk limits asks (octets ++ frame_octets (frame_of (abort_chunk lane at.next id code)))
  abort_ends code =
      let c : Chunk = abort_chunk lane at.next id code in
      subst (λ (t : List ℕ). LastChunk limits asks (octets ++ t)) (one_octets (frame_of c))
      (ends_with (c ∷ []) (record { front = []; last = c; parts = refl })
      (record { channel = back.on_small; token = back.token_small; sequence = omega (arith, r.next_small); request = few })
      (omega (arith, chunk_size c, abort_length code), tt))

  ends_so : (body : List ℕ) (o : Option CutFault) → 0 < length body → LastChunk limits asks (octets ++ (replied_by o lane body at.next id).0)
  ends_so body None some = reply_ends body some
  ends_so body (Some fault) some = abort_ends (of_code 0x80B9_0000)

  -- behind a reply
  pub replied_ends : (body : List ℕ) → 0 < length body → LastChunk limits asks (octets ++ (replied lane body at.next id).0)
  replied_ends body some = ends_so body (cut_refusal lane body) some

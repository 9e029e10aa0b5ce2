-- The sizes of the frames of chunks.
use Rattle.std.proofs.Common.{◌≡◌, ℕ, ◌+◌, ◌<◌, List, [], ◌∷◌, ◌++◌, length, drop, map, refl, sym, ◌∙◌, ap, subst, arith, length-append}
use Rattle.std.proofs.lemmas.List.{drop_at}
use Rattle.ua_wire.specs.Number.{number_octets}
use Rattle.ua_wire.proofs.NumbersRead.{length-number_octets}
use Rattle.ua_frame.specs.Frames.{frame_size}
use Rattle.ua_chunk.specs.Cutting.{AreFull, chunk_of, chunks_octets, chunks_of, numbered, pieces}
use Rattle.ua_chunk.specs.Layout.{frame_of, sequence_header, token_header}
use Rattle.ua_chunk.specs.Sequence.{next_number}
use Rattle.ua_chunk.specs.declared.chunk.Chunk.{Chunk}
use Rattle.ua_chunk.specs.declared.flag.Flag.TheVariants.{F, C}
use Rattle.ua_chunk.specs.declared.lane.Lane.{Lane}
use Rattle.ua_chunk.proofs.Pieces.{full_pieces}
use Rattle.ua_channel.specs.ClientSends.{AreFramesOf, AreSized, appended}

pub header_sizes : (channel token sequence request : ℕ) (body : List ℕ)
    → length (token_header.canonical (channel, token) ++ (sequence_header.canonical (sequence, request) ++ body)) ≡ 16 + length body
header_sizes channel token sequence request body =
    omega (
      arith,
      length-append (number_octets 4 channel ++ number_octets 4 token) ((number_octets 4 sequence ++ number_octets 4 request) ++ body),
      length-append (number_octets 4 channel) (number_octets 4 token),
      length-append (number_octets 4 sequence ++ number_octets 4 request) body,
      length-append (number_octets 4 sequence) (number_octets 4 request),
      length-number_octets 4 channel,
      length-number_octets 4 token,
      length-number_octets 4 sequence,
      length-number_octets 4 request,
    )

-- the size of the frame of a chunk
pub chunk_size : (c : Chunk) → frame_size (frame_of c) ≡ 24 + length c.body
chunk_size c = omega (arith, header_sizes c.channel c.token c.sequence c.request c.body)

sized_chunks : (lane : Lane) (s id : ℕ) (ps : List (List ℕ)) → AreFull lane.room ps → AreSized (24 + lane.room) (map frame_of (numbered lane s id ps))
sized_chunks lane s id [] full = full
sized_chunks lane s id (p ∷ []) full = omega (arith, chunk_size (chunk_of lane F s id p), full.1)
sized_chunks lane s id (p ∷ (q ∷ ps)) full = (omega (arith, chunk_size (chunk_of lane C s id p), full.0), sized_chunks lane (next_number s) id (q ∷ ps) full.1)

-- the chunks of a body are whole frames, each but the last as long as there is room for
chunks_framed : (lane : Lane) (body : List ℕ) (s id : ℕ) → 0 < lane.room → 0 < length body
    → AreFramesOf (24 + lane.room) (chunks_octets (chunks_of lane body s id))
chunks_framed lane body s id pos some = record {
  frames = map frame_of (chunks_of lane body s id);
  whole = refl;
  sized = sized_chunks lane s id (pieces lane.room body) (full_pieces lane.room body pos some);
}

-- the same of chunks that stand behind other bytes
pub appended_framed : (before now : List ℕ) (lane : Lane) (body : List ℕ) (s id : ℕ) → now ≡ before ++ chunks_octets (chunks_of lane body s id)
    → 0 < lane.room → 0 < length body → AreFramesOf (24 + lane.room) (appended before now)
appended_framed before now lane body s id e pos some =
    subst (AreFramesOf (24 + lane.room)) (sym (ap (drop (length before)) e ∙ drop_at before (chunks_octets (chunks_of lane body s id)) (length before) refl))
    (chunks_framed lane body s id pos some)

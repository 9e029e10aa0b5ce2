-- What the frames of the chunks of one message bring, and that these chunks are a merge of that message alone.
use Rattle.std.proofs.Common.{◌≡◌, ℕ, ◌+◌, ◌<◌, ◌≤◌, ◌^◌, Bool, true, false, ◌&&◌, ◌||◌, eqb, List, []}
use Rattle.std.proofs.Common.{◌∷◌, ◌++◌, Option, Some, length, map, refl, sym, ◌∙◌, ap, arith}
use Rattle.std.specs.List.{AllByRecursion}
use Rattle.std.specs.Prelude.{if◌then◌else◌}
use Rattle.ua_frame.specs.Frames.{frame_size}
use Rattle.ua_frame.specs.declared.frame.Frame.{Frame}
use Rattle.ua_frame.specs.declared.limits.Limits.{Limits}
use Rattle.ua_chunk.specs.Cutting.{chunks_of, number_after, numbered, pieces}
use Rattle.ua_chunk.specs.Layout.{frame_of}
use Rattle.ua_chunk.specs.Merge.{Interleaves, Interleaves as interleaves, IsMessageWithin, Merges, Part, Sent}
use Rattle.ua_chunk.specs.Merge.{more_part, part_of, parts_of, HaveOwnIds, sent_under}
use Rattle.ua_chunk.specs.Refusal.{FewOpen}
use Rattle.ua_chunk.specs.Sequence.{may_follow, next_number}
use Rattle.ua_chunk.specs.declared.chunk.Chunk.{Chunk}
use Rattle.ua_chunk.specs.declared.flag.Flag.TheVariants.{F, A}
use Rattle.ua_chunk.specs.Flag.{is_more_flag}
use Rattle.ua_chunk.specs.declared.lane.Lane.{Lane}
use Rattle.ua_chunk.proofs.CutLaws.{cut_messages, follows_next}
use Rattle.ua_chunk.proofs.Fresh.{some_pieces}
use Rattle.ua_chunk.proofs.Pieces.{joined_pieces}
use Rattle.ua_channel.specs.Asks.{is_finished}
use Rattle.ua_channel_laws.specs.Conversation.{AreOrdered, IsFramed}
use Rattle.ua_channel_laws.specs.Merges.{AreMerged, IsCutBody, NumbersGoOn, latest_or}
use Rattle.ua_channel.specs.Received.{latest_behind, messages, numbers, openings, used_tokens}
use Rattle.ua_channel_laws.specs.ServerReads.{IsBodyFor}
use Rattle.ua_channel.proofs.Askings.{and_false, and_true, eqb_sym, or_false, all-weaken}
use Rattle.ua_channel_laws.proofs.Conversing.{messages_fit}
use Rattle.ua_channel.proofs.ChunkFrames.{chunk_size}
use Rattle.ua_channel_laws.proofs.Written.{IsNumbered, IsOf, after_small, chunk_carried, chunk_flag}

-- ---- chunks of a lane

-- a chunk of this lane and request id that can be written, in a frame of at most this size
pub record IsSentIn (size : ℕ) (lane : Lane) (id : ℕ) (c : Chunk) : Type 0 where
  pub numbers : IsNumbered c
  pub channel_is : c.channel ≡ lane.channel
  pub token_is : c.token ≡ lane.token
  pub request_is : c.request ≡ id
  pub fits : 24 + length c.body ≤ size

pub sent_in : (size : ℕ) (lane : Lane) (id : ℕ) → lane.channel < 2 ^ 32 → lane.token < 2 ^ 32 → id < 2 ^ 32 → 24 + lane.room ≤ size → (c : Chunk)
    → IsOf lane id c → IsSentIn size lane id c
sent_in size lane id on few small fits c is = record {
  numbers = record {
    channel = omega (arith, is.channel, on);
    token = omega (arith, is.token, few);
    sequence = omega (arith, is.sequence);
    request = omega (arith, is.request, small);
  };
  channel_is = is.channel;
  token_is = is.token;
  request_is = is.request;
  fits = omega (arith, is.fits, fits);
}

module _ (size : ℕ) (lane : Lane) (id : ℕ) where
  abbrev pub AreSentIn : List Chunk → Type 0
  AreSentIn cs = AllByRecursion (IsSentIn size lane id) cs

  -- ---- what their frames bring

  pub frames_messages : (cs : List Chunk) → AreSentIn cs → messages (map frame_of cs) ≡ cs
  unfolding messages
  frames_messages [] s = refl
  frames_messages (c ∷ cs) s = rw (chunk_carried c s.0.numbers, frames_messages cs s.1)

  pub frames_openings : (cs : List Chunk) → AreSentIn cs → openings (map frame_of cs) ≡ []
  unfolding openings
  frames_openings [] s = refl
  frames_openings (c ∷ cs) s = rw (chunk_carried c s.0.numbers) (frames_openings cs s.1)

  pub frames_numbers : (cs : List Chunk) → AreSentIn cs → numbers (map frame_of cs) ≡ map (λ (c : Chunk). c.sequence) cs
  unfolding numbers
  frames_numbers [] s = refl
  frames_numbers (c ∷ cs) s = rw (chunk_carried c s.0.numbers, frames_numbers cs s.1)

  pub frames_tokens : (cs : List Chunk) → AreSentIn cs → used_tokens (map frame_of cs) ≡ map (λ (c : Chunk). lane.token) cs
  unfolding used_tokens
  frames_tokens [] s = refl
  frames_tokens (c ∷ cs) s =
      rw (chunk_carried c s.0.numbers) (rw (s.0.token_is, frames_tokens cs s.1))

  pub frames_framed : (cs : List Chunk) → size < 2 ^ 32 → AreSentIn cs → AllByRecursion IsFramed (map frame_of cs)
  frames_framed [] small s = tt
  frames_framed (c ∷ cs) small s =
      (record { sized = omega (arith, chunk_size c, s.0.fits, small); flag = chunk_flag c; least = omega (arith, chunk_size c) }, frames_framed cs small s.1)

  pub frames_fit : (cs : List Chunk) → AreSentIn cs → AllByRecursion (λ (f : Frame). frame_size f ≤ size) (map frame_of cs)
  frames_fit [] s = tt
  frames_fit (c ∷ cs) s = (omega (arith, chunk_size c, s.0.fits), frames_fit cs s.1)

-- the last of tokens that are one
pub last_token : (t n : ℕ) (c : Chunk) (cs : List Chunk) → latest_or n (map (λ (d : Chunk). t) (c ∷ cs)) ≡ t
last_token t n c [] = refl
last_token t n c (d ∷ cs) = last_token t t d cs

pub latest_token : (t : ℕ) (o : Option ℕ) (c : Chunk) (cs : List Chunk) → latest_behind o (map (λ (d : Chunk). t) (c ∷ cs)) ≡ Some t
latest_token t o c [] = refl
latest_token t o c (d ∷ cs) = latest_token t (Some t) d cs

-- ---- the chunks of a body

numbers_ordered : (lane : Lane) (s id : ℕ) (ps : List (List ℕ)) → AreOrdered (Some s) (map (λ (c : Chunk). c.sequence) (numbered lane (next_number s) id ps))
numbers_ordered lane s id [] = tt
numbers_ordered lane s id (p ∷ ps) = (follows_next s, numbers_ordered lane (next_number s) id ps)

number_follows : (lane : Lane) (s id : ℕ) (ps : List (List ℕ))
    → may_follow (latest_behind (Some s) (map (λ (c : Chunk). c.sequence) (numbered lane (next_number s) id ps))) (number_after (next_number s) ps) ≡ true
number_follows lane s id [] = follows_next s
number_follows lane s id (p ∷ ps) = number_follows lane (next_number s) id ps

-- they are numbered on
pub cut_goes : (lane : Lane) (s id : ℕ) (p : List ℕ) (ps : List (List ℕ)) → s ≤ 4294966272
    → NumbersGoOn s (map (λ (c : Chunk). c.sequence) (numbered lane s id (p ∷ ps))) (number_after s (p ∷ ps))
cut_goes lane s id p ps small = (refl, numbers_ordered lane s id ps, number_follows lane s id ps, after_small s (p ∷ ps) small)

pub ends_own : (id i : ℕ) → ((eqb id i && true) || false) ≡ eqb i id
ends_own id i = or_false (eqb id i && true) ∙ (and_true (eqb id i) ∙ eqb_sym id i)

-- their message alone has come whole behind them
pub cut_finished : (lane : Lane) (s id i : ℕ) (p : List ℕ) (ps : List (List ℕ)) → is_finished (numbered lane s id (p ∷ ps)) i ≡ eqb i id
cut_finished lane s id i p [] = ends_own id i
cut_finished lane s id i p (q ∷ qs) =
    rw (and_false (eqb id i)) (cut_finished lane (next_number s) id i q qs)

-- pieces as the first of them and the last
record Split (ps : List (List ℕ)) : Type 0 where
  front : List (List ℕ)
  last : List ℕ
  are : ps ≡ front ++ last ∷ []

split : (p : List ℕ) (ps : List (List ℕ)) → Split (p ∷ ps)
split p [] = record { front = []; last = p; are = refl }
split p (q ∷ qs) =
    let s = split q qs in
    record { front = p ∷ s.front; last = s.last; are = rw s.are }

cut_parts : (lane : Lane) (s id : ℕ) (front : List (List ℕ)) (last : List ℕ)
    → map part_of (numbered lane s id (front ++ last ∷ [])) ≡ map (more_part id) front ++ record { flag = F; request = id; body = last } ∷ []
cut_parts lane s id [] last = refl
cut_parts lane s id (p ∷ []) last = refl
cut_parts lane s id (p ∷ (q ∷ ps)) last = rw (cut_parts lane (next_number s) id (q ∷ ps) last)

all_left : {X : Type 0} (xs : List X) → Interleaves xs [] xs
all_left [] = interleaves.none
all_left (x ∷ xs) = interleaves.left (all_left xs)

pub one_merge : (m : Sent) (zs : List Part) → zs ≡ parts_of m → Merges (map parts_of (m ∷ [])) zs
one_merge m zs e = ([], refl, rw e (all_left (parts_of m)))

-- a body that is cut is within the limits
cut_within : (limits : Limits) (m : Sent) → IsCutBody limits m → IsMessageWithin limits.max_message_size limits.max_chunk_count m
cut_within limits m c = record {
  ending = ap is_more_flag c.ends;
  readable = λ f. let clash : F ≡ A = sym c.ends ∙ f in absurd cc;
  octets_fit =
      rw (c.ends, sym c.pieces_are) (rw (joined_pieces c.room c.body c.some_room c.fits.some) c.fits.octets_fit);
  chunks_fit =
      rw c.ends (rw (sym c.pieces_are) c.fits.chunks_fit);
}

-- what holds of each message holds of that under a request id
pub all_under : (P : Sent → Type 0) (ms : List Sent) → AllByRecursion P ms → (id : ℕ) (m : Sent) → sent_under id ms ≡ Some m → P m
all_under P [] all id m e = absurd cc
all_under P (n ∷ ms) all id m e = by_id (eqb n.request id) e (λ f. all_under P ms all.1 id m f)
  where
    by_id : (b : Bool) → (if b then Some n else sent_under id ms) ≡ Some m → (sent_under id ms ≡ Some m → P m) → P m
    by_id true f rest = let same : n ≡ m = cc in rw (← same) all.0
    by_id false f rest = rest f

-- bodies that are cut, whose chunks come merged
pub cut_merged : (limits : Limits) (ms : List Sent) (cs : List Chunk) → AllByRecursion (IsCutBody limits) ms → HaveOwnIds ms
    → Merges (map parts_of ms) (map part_of cs) → FewOpen [] cs → AreMerged limits ms cs
cut_merged limits ms cs all own merges few = record {
  own_ids = own;
  within = all_under (IsMessageWithin limits.max_message_size limits.max_chunk_count) ms
      (all-weaken (IsCutBody limits) (IsMessageWithin limits.max_message_size limits.max_chunk_count) ms (cut_within limits) all);
  merged = merges;
  few_open = few;
}

-- the chunks of a body have its parts
pub cut_sent : (lane : Lane) (body : List ℕ) (s : ℕ) (m : Sent) → pieces lane.room body ≡ m.pieces ++ m.last ∷ [] → m.end ≡ F
    → map part_of (chunks_of lane body s m.request) ≡ parts_of m
cut_sent lane body s m are end =
    rw are (cut_parts lane s m.request m.pieces m.last
    ∙ rw (sym end))

-- a message that is a merge alone
pub record Alone (limits : Limits) (id : ℕ) (cs : List Chunk) : Type 0 where
  pub message : Sent
  pub request_is : message.request ≡ id
  pub cut : IsCutBody limits message
  pub merged : AreMerged limits (message ∷ []) cs

-- the chunks of a body are a merge of its message
pub cut_alone : (limits : Limits) (lane : Lane) (body : List ℕ) (s id : ℕ) → 0 < lane.room → IsBodyFor limits lane.room body
    → Alone limits id (chunks_of lane body s id)
cut_alone limits lane body s id room w =
    let ps = some_pieces lane.room body w.some in
    let parts = split ps.first ps.others in
    let sent : Sent = record { request = id; pieces = parts.front; end = F; last = parts.last } in
    let cut : IsCutBody limits sent = record { room = lane.room; body = body; some_room = room; fits = w; pieces_are = ps.are ∙ parts.are; ends = refl } in
    record {
      message = sent;
      request_is = refl;
      cut = cut;
      merged =
          cut_merged limits (sent ∷ []) (chunks_of lane body s id) (cut, tt) (refl, tt)
          (one_merge sent (map part_of (chunks_of lane body s id)) (cut_sent lane body s sent cut.pieces_are refl))
          ((messages_fit limits (chunks_of lane body s id)).0
          (cut_messages limits.max_message_size limits.max_chunk_count lane body s id room w.some w.octets_fit w.chunks_fit)).few_open;
    }

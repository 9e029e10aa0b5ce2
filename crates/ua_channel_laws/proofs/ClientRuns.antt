-- That a client stands as its laws say it behind any good frames, where its channel is open and no message is unfinished.
use Rattle.std.proofs.Common.{◌≡◌, ℕ, ◌<◌, ◌≤◌, ◌^◌, Bool, true, false, IsTrue, ◌||◌, ltb, List, [], ◌∷◌, ◌++◌, Option}
use Rattle.std.proofs.Common.{Some, None, length, map, refl, sym, ◌∙◌, ap, arith, append-nil, append_assoc}
use Rattle.std.specs.List.{AllByRecursion, filter}
use Rattle.std.proofs.lemmas.Bool.{eqb-true, ltb-false}
use Rattle.ua_wire.proofs.Readers.{some_is}
use Rattle.ua_frame.specs.After.{AllAfter, AllFrom}
use Rattle.ua_frame.specs.Kinds.{lets_in}
use Rattle.ua_frame.specs.Messages.{ack}
use Rattle.ua_frame.specs.Run.{Fits, Going, Run, events}
use Rattle.ua_frame.specs.Whole.{whole_of}
use Rattle.ua_frame.specs.declared.ack.Ack.{Ack}
use Rattle.ua_frame.specs.declared.frame.Frame.{Frame}
use Rattle.ua_frame.specs.declared.kind.Kind.{Kind}
use Rattle.ua_frame.specs.declared.kind.Kind.TheVariants.{Hel, Msg, Opn, Clo}
use Rattle.ua_frame.specs.declared.kind.Kind.TheVariants as kind
use Rattle.ua_frame.specs.declared.limits.Limits.{Limits}
use Rattle.ua_frame.proofs.MessagesLawful.{sound_ack}
use Rattle.ua_frame.proofs.Wholes.{encodes_whole}
use Rattle.ua_opening.specs.declared.open.OpenAnswer.TheVariants.{Open}
use Rattle.ua_opening.specs.declared.secure_channel.OpenResponse.{OpenResponse}
use Rattle.ua_chunk.specs.Layout.{chunk_in}
use Rattle.ua_chunk.specs.Open.{open_ids}
use Rattle.ua_chunk.specs.Sequence.{may_follow}
use Rattle.ua_chunk.specs.declared.chunk.Chunk.{Chunk}
use Rattle.ua_channel.specs.Asks.{Asking, Placed, asked_before, asked_in, end_of, id_of, is_in, next_id, pending_calls, pending_renewals}
use Rattle.ua_channel_laws.specs.ClientConversation.{IsGoodAck, IsGoodResponse, MayCarryBack}
use Rattle.ua_channel_laws.specs.ClientReads.{AtClient, ClientReads, at_client, client_with}
use Rattle.ua_channel.specs.ClientTable.{client_gate, client_rules, is_awaited, is_outside}
use Rattle.ua_channel.specs.ClientTokens.{answer_in, first_channel, held_by, held_tokens, opened_ids, open_responses}
use Rattle.ua_channel.specs.ClientTold.{ClientTold}
use Rattle.ua_channel.specs.Content.{Opening, content, content_by, opening_of, sends}
use Rattle.ua_channel.specs.Content.Content.{Acks, Opens, Sends}
use Rattle.ua_channel.specs.Received.{Received, after, latest, or_before, received}
use Rattle.ua_channel.proofs.Askings.{all-push, all_filter, pending_below, renewal_below}
use Rattle.ua_channel_laws.proofs.ClientConversing.{IsPlaced, converses, no_close, nothing_placed, placed_next}
use Rattle.ua_channel_laws.proofs.ClientTakes.{held_renewed, tokens_used}
use Rattle.ua_channel.proofs.ClientTalks.{no_ids, no_responses, no_tokens, opened_ids-push, responses-push, tokens_of-push}
use Rattle.ua_channel_laws.proofs.Conversing.{content_kind}
use Rattle.ua_channel.proofs.HeldTokens.{latest-from_last, latest-push}
use Rattle.ua_channel.proofs.OneFrameMore.{received-nil, received-push}

-- ---- the sizes of an Acknowledge

small_read : (body : List ℕ) (a : Ack) → whole_of ack body ≡ Some a → a.send_buffer_size < 2 ^ 32
unfolding ack
small_read body a e =
    let i = encodes_whole ack sound_ack body a e in
    omega (arith, ap (λ (x : Ack). x.send_buffer_size) i.is, i.encoded.second_encoded.second_encoded.first_encoded.0)

second_false : (a b c d : Bool) → (((a || b) || c) || d) ≡ false → b ≡ false
second_false true b c d e = absurd cc
second_false false true c d e = absurd cc
second_false false false c d e = refl

large_within : (limits : Limits) (a : Ack) → is_outside limits a ≡ false → 8192 ≤ a.send_buffer_size
large_within limits a e =
    ltb-false a.send_buffer_size 8192
    (second_false (ltb a.receive_buffer_size 8192) (ltb a.send_buffer_size 8192) (ltb limits.send_buffer_size a.receive_buffer_size)
    (ltb limits.receive_buffer_size a.send_buffer_size) e)

-- ---- what was asked before a place

pub of_map : {X Y : Type 0} (P : Y → Type 0) (f : X → Y) (xs : List X) → AllByRecursion P (map f xs) → AllByRecursion (λ (x : X). P (f x)) xs
of_map P f [] all = tt
of_map P f (x ∷ xs) all = (all.0, of_map P f xs all.1)

to_map : {X Y : Type 0} (P : Y → Type 0) (f : X → Y) (xs : List X) → AllByRecursion (λ (x : X). P (f x)) xs → AllByRecursion P (map f xs)
to_map P f [] all = tt
to_map P f (x ∷ xs) all = (all.0, to_map P f xs all.1)

-- what holds of all that is asked holds of what is asked before a place
pub before_all : (P : Asking → Type 0) (place : ℕ) (asks : List Placed) → AllByRecursion P (asked_in asks) → AllByRecursion P (asked_before place asks)
unfolding asked_in asked_before
before_all P place asks all =
    to_map P (λ (a : Placed). a.1) (filter (λ (a : Placed). ltb a.0 place) asks)
    (all_filter (λ (a : Placed). P a.1) (λ (a : Placed). ltb a.0 place) asks (of_map P (λ (a : Placed). a.1) asks all))

-- ---- tokens

none_of : (used : Option ℕ) → held_by used [] ≡ []
none_of None = refl
none_of (Some n) = refl

none_held : (b : Received) → open_responses b.openings ≡ [] → held_tokens b ≡ []
unfolding held_tokens
none_held b none = rw none (ap (held_by b.used) no_tokens ∙ none_of b.used)

first_held : (b : Received) (o : Opening) (r : OpenResponse) → answer_in o ≡ Some (Open r) → open_responses b.openings ≡ [] → b.used ≡ None
    → held_tokens (after b (Opens o)) ≡ r.token_id ∷ []
unfolding held_tokens
first_held b o r answers none unused =
    rw (responses-push b.openings o r answers ∙ ap (λ (rs : List OpenResponse). rs ++ r ∷ []) none, unused) (tokens_of-push [] r
    ∙ ap (λ (ts : List ℕ). ts ++ r.token_id ∷ []) no_tokens)

-- there is a newest token
abbrev HasNewest : Received → Type 0
HasNewest b = (t : ℕ) × (latest (held_tokens b) ≡ Some t)

-- ---- with a frame more

-- what is so of all that a client took, with request ids below this number
pub record Known (n : ℕ) (b : Received) : Type 0 where
  pub large : (a : Ack) → b.ack ≡ Some a → 8192 ≤ a.send_buffer_size
  pub sized : (a : Ack) → b.ack ≡ Some a → a.send_buffer_size < 2 ^ 32
  newest : (c : ℕ) → first_channel (open_responses b.openings) ≡ Some c → HasNewest b
  unused : open_responses b.openings ≡ [] → b.used ≡ None
  sent_below : AllByRecursion (λ (c : Chunk). c.request < n) b.messages
  opened_below : AllByRecursion (λ (id : ℕ). id < n) (opened_ids b.openings)

none_behind : {A : Type 0} (xs : List A) (x : A) → xs ++ x ∷ [] ≡ [] → ⊥
none_behind [] x e = absurd cc
none_behind (y ∷ xs) x e = absurd cc

awaited_below : (n : ℕ) (rs : List OpenResponse) (opened : List ℕ) (asked : List Asking) (id : ℕ) → 2 ≤ n → AllByRecursion (λ (a : Asking). id_of a < n) asked
    → is_awaited rs opened asked id ≡ true → id < n
awaited_below n [] opened asked id least below e = omega (arith, least, eqb-true id 1 e)
awaited_below n (r ∷ rs) opened asked id least below e = renewal_below n id opened asked below e

module _ (limits : Limits) (n : ℕ) (least : 2 ≤ n) (asked : List Asking) (below : AllByRecursion (λ (a : Asking). id_of a < n) asked) (b : Received)
    (known : Known n b) where
  said_is : (o : Option Ack) (g : IsGoodAck limits o) (a : Ack) → or_before b.ack o ≡ Some a → g.said ≡ a
  said_is o g a e =
      let same : Some g.said ≡ Some a = sym (ap (or_before b.ack) g.reads) ∙ e in
      cc

  agreed : (body : List ℕ) → IsGoodAck limits (whole_of ack body) → Known n (after b (Acks (whole_of ack body)))
  unfolding held_tokens
  agreed body g = record {
    large = λ a e. rw (← said_is (whole_of ack body) g a e) (large_within limits g.said g.within);
    sized = λ a e. rw (← said_is (whole_of ack body) g a e) (small_read body g.said g.reads);
    newest = known.newest;
    unused = known.unused;
    sent_below = known.sent_below;
    opened_below = known.opened_below;
  }

  abbrev IsResponse : Opening → Type 0
  IsResponse o = IsGoodResponse (first_channel (open_responses b.openings)) (held_tokens b)
      (is_awaited (open_responses b.openings) (opened_ids b.openings) asked) o

  newest_opened : (o : Opening) (g : IsResponse o) (rs : List OpenResponse) → open_responses b.openings ≡ rs → HasNewest (after b (Opens o))
  newest_opened o g [] e = (g.response.token_id, ap latest (first_held b o g.response g.answer_is e (known.unused e)))
  newest_opened o g (q ∷ rs) e =
      let was = known.newest q.channel_id (ap first_channel e) in
      (g.response.token_id, ap latest (held_renewed b o g.response was.0 g.answer_is was.1 g.fresh) ∙ latest-push (held_tokens b) g.response.token_id)

  opened : (o : Opening) → IsResponse o → Known n (after b (Opens o))
  opened o g = record {
    large = known.large;
    sized = known.sized;
    newest = λ c e. newest_opened o g (open_responses b.openings) refl;
    unused = λ none. absurd (none_behind (open_responses b.openings) g.response (sym (responses-push b.openings o g.response g.answer_is) ∙ none));
    sent_below = known.sent_below;
    opened_below =
        rw (opened_ids-push b.openings o g.numbered g.numbers_are) (all-push (λ (id : ℕ). id < n) (opened_ids b.openings) g.numbered.1 known.opened_below
        (awaited_below n (open_responses b.openings) (opened_ids b.openings) asked g.numbered.1 least below g.awaited));
  }

  never_used : (token : ℕ) → is_in token (held_tokens b) ≡ true → open_responses b.openings ≡ [] → ⊥
  never_used token held none =
      let never : false ≡ true = sym (ap (is_in token) (none_held b none)) ∙ held in
      cc

  newest_used : (c : Chunk) → is_in c.token (held_tokens b) ≡ true → HasNewest b → HasNewest (after b (Sends c))
  newest_used c held was = (was.0, ap latest (tokens_used b c held) ∙ (latest-from_last c.token (held_tokens b) held ∙ was.1))

  sent : (found : Option Chunk) → MayCarryBack limits b asked (sends found) → Known n (after b (sends found))
  sent None may = known
  sent (Some c) may = record {
    large = known.large;
    sized = known.sized;
    newest = λ m e. newest_used c may.held (known.newest m e);
    unused = λ none. absurd (never_used c.token may.held none);
    sent_below = all-push (λ (d : Chunk). d.request < n) b.messages c known.sent_below (pending_below n c.request b.messages asked below may.awaited);
    opened_below = known.opened_below;
  }

  known_more : (f : Frame) (k : Kind) → IsTrue (lets_in (client_gate b) k) → MayCarryBack limits b asked (content_by k f) → Known n (after b (content_by k f))
  unfolding held_tokens
  known_more f Hel place may = record {
    large = known.large;
    sized = known.sized;
    newest = known.newest;
    unused = known.unused;
    sent_below = known.sent_below;
    opened_below = known.opened_below;
  }
  known_more f kind.Ack place may = agreed f.body may
  known_more f kind.Err place may = absurd may
  known_more f Opn place may = opened (opening_of f.body) may
  known_more f Msg place may = sent (chunk_in f) may
  known_more f Clo place may = absurd (no_close b.ack (open_responses b.openings) place)

-- ---- behind all frames

nothing_known : (n : ℕ) → Known n (received [])
nothing_known n =
    rw received-nil
    (record {
      large = λ a e. let never : None ≡ Some a = e in absurd cc;
      sized = λ a e. let never : None ≡ Some a = e in absurd cc;
      newest = λ c e. let never : None ≡ Some c = sym (ap first_channel no_responses) ∙ e in absurd cc;
      unused = λ none. refl;
      sent_below = tt;
      opened_below = rw no_ids tt;
    })

module _ (limits : Limits) (asks : List Placed) (n : ℕ) (least : 2 ≤ n) (below : AllByRecursion (λ (a : Asking). id_of a < n) (asked_in asks)) where
  known_next : (start : List Frame) (f : Frame) → Known n (received start) → IsTrue (lets_in (client_gate (received start)) f.kind)
      → MayCarryBack limits (received start) (asked_before (end_of start f) asks) (content f) → Known n (received (start ++ f ∷ []))
  known_next start f known place may =
      rw (received-push start f ∙ ap (after (received start)) (content_kind f))
      (known_more limits n least (asked_before (end_of start f) asks) (before_all (λ (a : Asking). id_of a < n) (end_of start f) asks below)
      (received start) known f f.kind place
      (rw (← content_kind f) may))

  all_from : (start fs : List Frame) → IsPlaced (received start) → Known n (received start) → AllFrom (Fits (client_rules limits asks)) start fs
      → AllFrom (λ us f. MayCarryBack limits (received us) (asked_before (end_of us f) asks) (content f)) start fs
      → IsPlaced (received (start ++ fs)) × Known n (received (start ++ fs))
  all_from start [] placed known fits may = rw (append-nil start) (placed, known)
  all_from start (f ∷ fs) placed known fits may =
      rw (← append_assoc start (f ∷ []) fs) (all_from (start ++ f ∷ []) fs (placed_next limits asks start f placed fits.0.let_in.kind)
      (known_next start f known fits.0.let_in.kind may.0) fits.1
      may.1)

  pub all_known : (frames : List Frame) → AllAfter (Fits (client_rules limits asks)) frames → IsPlaced (received frames) × Known n (received frames)
  unfolding AllAfter
  all_known frames fits = all_from [] frames (nothing_placed limits asks) (nothing_known n) fits ((converses limits asks frames).0 fits).carries

-- ---- the law

-- the parts of a state
stated : (o : Option Ack) (c n : Option ℕ) (tokens pending renewals : List ℕ) (next : ℕ) (at : AtClient)
    → client_with o c n tokens pending renewals next ≡ Some at
    → (o ≡ Some at.ack) × (c ≡ Some at.channel) × (n ≡ Some at.newest) × (tokens ≡ at.tokens) × (pending ≡ at.pending) × (renewals ≡ at.renewals)
stated None c n tokens pending renewals next at e = absurd cc
stated (Some a) None n tokens pending renewals next at e = absurd cc
stated (Some a) (Some c) None tokens pending renewals next at e = absurd cc
stated (Some a) (Some c) (Some n) tokens pending renewals next at e =
    let same =
    some_is (record { ack = a; channel = c; tokens = tokens; newest = n; pending = pending; renewals = renewals; next = next }) at e in (
      ap (λ (x : AtClient). Some x.ack) same,
      ap (λ (x : AtClient). Some x.channel) same,
      ap (λ (x : AtClient). Some x.newest) same,
      ap (λ (x : AtClient). x.tokens) same,
      ap (λ (x : AtClient). x.pending) same,
      ap (λ (x : AtClient). x.renewals) same,
    )

-- a client stands behind its frames where they, what it asked and the next number say
pub reads_at : {limits : Limits} {asks : List Placed} {octets : List ℕ} {told : List ClientTold} {at : AtClient} (frames : List Frame)
    → Run (client_rules limits asks) octets frames [] Going → AllByRecursion (λ (a : Placed). a.0 ≤ length octets) asks
    → events (client_rules limits asks) frames ≡ told → at_client (received frames) (asked_in asks) at.next ≡ Some at
    → AllByRecursion (λ (a : Asking). id_of a < next_id (asked_in asks)) (asked_in asks) → IsTrue (may_follow (received frames).last at.next)
    → at.next ≤ 4294966272 → open_ids (received frames).messages ≡ [] → ClientReads limits asks octets told at
reads_at {limits = limits} {asks = asks} {at = at} frames run placed told_is is below follows small none =
    let known = (all_known limits asks (next_id (asked_in asks)) (omega arith) below frames run.good).1 in
    let parts = stated (received frames).ack (first_channel (open_responses (received frames).openings)) (latest (held_tokens (received frames)))
    (held_tokens (received frames)) (pending_calls (received frames).messages (asked_in asks))
    (pending_renewals (opened_ids (received frames).openings) (asked_in asks)) at.next at is in
    record {
      frames = frames;
      run = run;
      placed = placed;
      told_is = told_is;
      ack_is = parts.0;
      large = known.large at.ack parts.0;
      sized = known.sized at.ack parts.0;
      channel_is = parts.1;
      tokens_are = parts.3;
      newest_is = ap latest (sym parts.3) ∙ parts.2;
      pending_are = parts.4;
      renewals_are = parts.5;
      asked_below = below;
      sent_below = known.sent_below;
      opened_below = known.opened_below;
      follows = follows;
      next_small = small;
      none_open = none;
    }

-- and they say it where it stands so
pub stands_at : {limits : Limits} {asks : List Placed} {octets : List ℕ} {told : List ClientTold} {at : AtClient} (r : ClientReads limits asks octets told at)
    → at_client (received r.frames) (asked_in asks) at.next ≡ Some at
stands_at r = rw (r.tokens_are, r.newest_is, r.pending_are, r.renewals_are, r.channel_is, r.ack_is) refl

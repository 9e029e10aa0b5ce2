-- That a client reads merged replies from where it stands, with what it asks on in the middle of them, what they tell it, and where it stands behind
-- them.
use Rattle.std.proofs.Common.{◌≡◌, ℕ, zero, suc, ◌+◌, ◌<◌, ◌≤◌, Bool, true, false, cond, not, ◌&&◌, eqb, ltb, List, [], ◌∷◌, ◌++◌}
use Rattle.std.proofs.Common.{Option, Some, None, length, map, refl, sym, ◌∙◌, ap, arith, append-nil, append_assoc, length-append}
use Rattle.std.specs.List.{AllByRecursion, filter, range_with_len}
use Rattle.std.proofs.lemmas.List.{length-map, map-append}
use Rattle.std.proofs.lemmas.List.Concat.{flat_map-append}
use Rattle.std.proofs.lemmas.List.Elements.{filter-append}
use Rattle.std.proofs.lemmas.List.Folds.{list_any-append}
use Rattle.ua_frame.specs.declared.frame.Frame.{Frame}
use Rattle.ua_frame.specs.declared.kind.Kind.{Kind}
use Rattle.ua_frame.specs.declared.kind.Kind.TheVariants.{Hel, Msg, Opn, Clo}
use Rattle.ua_frame.specs.declared.kind.Kind.TheVariants as kind
use Rattle.ua_frame.specs.declared.limits.Limits.{Limits}
use Rattle.ua_frame.specs.After.{AllFrom, each_from}
use Rattle.ua_frame.specs.Frames.{frame_octets, frame_size, frames_octets}
use Rattle.ua_frame.specs.Run.{Fits, Going, Run, events}
use Rattle.ua_frame.proofs.Fronts.{length-frame_octets}
use Rattle.ua_frame.proofs.Streams.{frames_octets-push}
use Rattle.ua_opening.specs.declared.open.OpenAnswer.TheVariants.{Open}
use Rattle.ua_opening.specs.declared.secure_channel.OpenResponse.{OpenResponse}
use Rattle.ua_chunk.specs.declared.chunk.Chunk.{Chunk}
use Rattle.ua_chunk.specs.Delivered.{given}
use Rattle.ua_chunk.specs.Gathered.{ends, is_of}
use Rattle.ua_chunk.specs.Item.{Item}
use Rattle.ua_chunk.specs.Item.Item.{Whole, Aborted}
use Rattle.ua_chunk.specs.Layout.{chunk_in}
use Rattle.ua_chunk.specs.Merge.{Sent, is_item_of, outcome_under, outcomes, sent_under}
use Rattle.ua_chunk.specs.Open.{open_ids}
use Rattle.ua_chunk.specs.Sequence.{may_follow}
use Rattle.ua_channel.specs.Asks.{Asking, Placed, asked_before, asked_in, calls, end_of, id_of}
use Rattle.ua_channel.specs.Asks.{is_finished, is_in, next_id, pending_calls, pending_renewals, renewals}
use Rattle.ua_channel_laws.specs.ClientConversation.{IsClientOrderOpen, IsGoodReply, IsGoodResponse, MayCarryBack, largest_taken}
use Rattle.ua_channel_laws.specs.ClientReads.{AtClient, ClientReads}
use Rattle.ua_channel.specs.ClientTable.{client_rules, is_awaited}
use Rattle.ua_channel.specs.ClientTokens.{answer_in, first_channel, from_last, held_by, held_tokens}
use Rattle.ua_channel.specs.ClientTokens.{opened_ids, response_listed, open_responses, tokens_of}
use Rattle.ua_channel.specs.ClientTold.{ClientTold, client_tells, told_item, told_response}
use Rattle.ua_channel.specs.ClientTold.ClientTold.{Agreed, Opened, Answered, GaveUp, Renewed}
use Rattle.ua_channel.specs.Content.{Content, Opening, closes, content, content_by}
use Rattle.ua_channel.specs.Content.Content.{Opens, Sends}
use Rattle.ua_channel_laws.specs.Merges.{CarriesEither, ClientMerge, MayComeNext, ended_by, is_told_under, latest_or, placed_later}
use Rattle.ua_channel_laws.specs.Merges.{renewed_in, tokens_renewed, told_back, told_merged_back, told_renewed, with_merged_back}
use Rattle.ua_channel_laws.specs.Paired.{is_of_call, told_of_calls}
use Rattle.ua_channel.specs.Received.{Received, after, chunks_in, latest, messages, numbers, openings, openings_in, received, tokens_in, used_tokens}
use Rattle.ua_channel.proofs.AskedLater.{frames_octets-append, going_on}
use Rattle.ua_channel.proofs.Askings.{all-weaken, all_append, asked_before-all, asked_in-append, calls-append, calls_all}
use Rattle.ua_channel.proofs.Askings.{in_filter, next-append, not_in, renewals-append, renewals_all, unfinished_at, filter_behind}
use Rattle.ua_channel_laws.proofs.ClientConversing.{response_as, taken_open}
use Rattle.ua_channel_laws.proofs.ClientRuns.{before_all, of_map, reads_at}
use Rattle.ua_channel_laws.proofs.ClientTakes.{held_renewed, tokens_used}
use Rattle.ua_channel.proofs.ClientTalks.{awaited_later, channel_in-push, no_ids, no_responses, no_tokens, opened_ids-push, responses-push, tokens_of-push}
use Rattle.ua_channel.proofs.HeldTokens.{held_by-push, held_by-used, latest-from_last, latest-push}
use Rattle.ua_channel_laws.proofs.MergedChunks.{Comes, EachEnds, closed_fresh, comes, given_fresh, outcomes_once, takes_fresh, told_new, names_kept}
use Rattle.ua_channel_laws.proofs.MergedFrames.{all_told, at_end, each_along, goes_follows, goes_ordered}
use Rattle.ua_channel_laws.proofs.MergedFrames.{goes_small, latest_or-append, of_either, sized, next_follows}
use Rattle.ua_channel_laws.proofs.PairedCalls.{tells_delivered}
use Rattle.ua_channel_laws.proofs.ReadOn.{events_on, run_on}

-- ---- the order

no_close : (opens : Opening → Type 0) (sends : Chunk → Type 0) (o : Option Chunk) → CarriesEither opens sends (closes o) → ⊥
no_close opens sends None is = is
no_close opens sends (Some c) is = is

order_kind : (opens : Opening → Type 0) (sends : Chunk → Type 0) (k : Kind) (f : Frame) (ks : List Kind) → CarriesEither opens sends (content_by k f)
    → IsClientOrderOpen ks → IsClientOrderOpen (k ∷ ks)
order_kind opens sends Hel f ks is h = absurd is
order_kind opens sends kind.Ack f ks is h = absurd is
order_kind opens sends kind.Err f ks is h = absurd is
order_kind opens sends Msg f ks is h = h
order_kind opens sends Opn f ks is h = h
order_kind opens sends Clo f ks is h = absurd (no_close opens sends (chunk_in f) is)

order_frame : (opens : Opening → Type 0) (sends : Chunk → Type 0) (f : Frame) (ks : List Kind) → CarriesEither opens sends (content f) → IsClientOrderOpen ks
    → IsClientOrderOpen (f.kind ∷ ks)
unfolding content
order_frame opens sends f ks is h = order_kind opens sends f.kind f ks is h

-- ---- what is told

renewed_told : (n : ℕ) (qs rs : List OpenResponse) → first_channel qs ≡ Some n → map (told_response qs) rs ≡ map told_renewed rs
renewed_told n [] rs e = absurd cc
renewed_told n (q ∷ qs) [] e = refl
renewed_told n (q ∷ qs) (r ∷ rs) e = rw (renewed_told n (q ∷ qs) rs e)

told_flat : (ms : List Sent) (us fs : List Frame) → each_from (λ vs f. told_back ms (content f)) us fs ≡ told_merged_back ms fs
told_flat ms us [] = refl
told_flat ms us (f ∷ fs) = rw (told_flat ms (us ++ f ∷ []) fs)

responses-append : (os more : List Opening) → open_responses (os ++ more) ≡ open_responses os ++ open_responses more
unfolding open_responses
responses-append os more = flat_map-append (λ (o : Opening). response_listed (answer_in o)) os more

-- ---- tokens

tokens_listed : (rs : List OpenResponse) → tokens_renewed (map told_renewed rs) ≡ tokens_of rs
unfolding tokens_of
tokens_listed [] = refl
tokens_listed (r ∷ rs) = rw (tokens_listed rs)

no_token : (items : List Item) → tokens_renewed (map told_item items) ≡ []
no_token [] = refl
no_token (Whole id octets ∷ items) = no_token items
no_token (Aborted id code reason ∷ items) = no_token items

tokens_of-append : (rs more : List OpenResponse) → tokens_of (rs ++ more) ≡ tokens_of rs ++ tokens_of more
unfolding tokens_of
tokens_of-append rs more = map-append (λ (r : OpenResponse). r.token_id) rs more

pub nothing_opened : tokens_of (open_responses []) ≡ []
nothing_opened = ap tokens_of no_responses ∙ no_tokens

tokens_of-one : (o : Opening) → tokens_of (open_responses (o ∷ [])) ≡ tokens_of (response_listed (answer_in o))
unfolding open_responses
tokens_of-one o = ap tokens_of (append-nil (response_listed (answer_in o)))

tokens_from : (ms : List Sent) (May : List Frame → Frame → Type 0)
    → ((us : List Frame) (f : Frame) → May us f → tokens_renewed (told_back ms (content f)) ≡ tokens_of (open_responses (openings_in (content f))))
    → (us fs : List Frame)
    → AllFrom May us fs → tokens_renewed (told_merged_back ms fs) ≡ tokens_of (open_responses (openings fs))
unfolding openings
tokens_from ms May one us [] may = sym nothing_opened
tokens_from ms May one us (f ∷ fs) may =
    flat_map-append renewed_in (told_back ms (content f)) (told_merged_back ms fs)
    ∙ (rw (one us f may.0, tokens_from ms May one (us ++ f ∷ []) fs may.1)
    (sym (tokens_of-append (open_responses (openings_in (content f))) (open_responses (openings fs)))
    ∙ ap tokens_of (sym (responses-append (openings_in (content f)) (openings fs)))))

-- ---- calls of one request id

told_names : (id : ℕ) (d : Item) → is_told_under id (told_item d) ≡ is_item_of id d
told_names id (Whole i octets) = refl
told_names id (Aborted i code reason) = refl

same_step : (b : Bool) (t : ClientTold) (xs ys : List ClientTold) → xs ≡ ys → cond b (t ∷ xs) xs ≡ cond b (t ∷ ys) ys
same_step true t xs ys e = rw e
same_step false t xs ys e = e

-- what is told of one call is told of calls
calls_under : (id : ℕ) (told : List ClientTold) → filter (is_told_under id) told ≡ filter (is_told_under id) (told_of_calls told)
calls_under id [] = refl
calls_under id (Agreed ack ∷ told) = calls_under id told
calls_under id (Opened channel token ∷ told) = calls_under id told
calls_under id (Answered i octets ∷ told) = same_step (eqb i id) (Answered i octets) (filter (is_told_under id) told)
    (filter (is_told_under id) (told_of_calls told)) (calls_under id told)
calls_under id (GaveUp i code ∷ told) = same_step (eqb i id) (GaveUp i code) (filter (is_told_under id) told) (filter (is_told_under id) (told_of_calls told))
    (calls_under id told)
calls_under id (Renewed token ∷ told) = calls_under id told

-- ---- tokens that are held

-- the tokens that are held where these were used, and these responses came
record Holds (at : AtClient) (b : Received) (ts : List ℕ) (rs : List OpenResponse) : Type 0 where
  tokens_are : held_tokens b ≡ held_by (latest ts) (at.tokens ++ tokens_of rs)
  newest_is : latest (held_by (latest ts) (at.tokens ++ tokens_of rs)) ≡ Some (latest_or at.newest (tokens_of rs))

holds_used : (at : AtClient) (b : Received) (c : Chunk) (ts : List ℕ) (rs : List OpenResponse) → Holds at b ts rs
    → is_in c.token (held_by (latest ts) (at.tokens ++ tokens_of rs)) ≡ true
    → Holds at (after b (Sends c)) (ts ++ c.token ∷ []) rs
holds_used at b c ts rs h held =
    let same : held_by (latest (ts ++ c.token ∷ [])) (at.tokens ++ tokens_of rs) ≡ from_last c.token (held_by (latest ts) (at.tokens ++ tokens_of rs)) =
    rw (latest-push ts c.token) (held_by-used (latest ts) c.token (at.tokens ++ tokens_of rs) held) in
    record {
      tokens_are = tokens_used b c (ap (is_in c.token) h.tokens_are ∙ held) ∙ (ap (from_last c.token) h.tokens_are ∙ sym same);
      newest_is = ap latest same ∙ (latest-from_last c.token (held_by (latest ts) (at.tokens ++ tokens_of rs)) held ∙ h.newest_is);
    }

holds_renewed : (at : AtClient) (b : Received) (o : Opening) (r : OpenResponse) (ts : List ℕ) (rs : List OpenResponse) → answer_in o ≡ Some (Open r)
    → Holds at b ts rs
    → is_in r.token_id (held_by (latest ts) (at.tokens ++ tokens_of rs)) ≡ false
    → Holds at (after b (Opens o)) ts (rs ++ r ∷ [])
holds_renewed at b o r ts rs answers h fresh =
    let there : at.tokens ++ tokens_of (rs ++ r ∷ []) ≡ (at.tokens ++ tokens_of rs) ++ r.token_id ∷ [] =
    rw (tokens_of-push rs r) (sym (append_assoc at.tokens (tokens_of rs) (r.token_id ∷ []))) in
    let more : held_by (latest ts) (at.tokens ++ tokens_of (rs ++ r ∷ [])) ≡ held_by (latest ts) (at.tokens ++ tokens_of rs) ++ r.token_id ∷ [] =
    ap (held_by (latest ts)) there ∙ held_by-push (latest ts) r.token_id (latest_or at.newest (tokens_of rs)) (at.tokens ++ tokens_of rs) h.newest_is fresh in
    record {
      tokens_are =
          held_renewed b o r (latest_or at.newest (tokens_of rs)) answers (ap latest h.tokens_are ∙ h.newest_is) (ap (is_in r.token_id) h.tokens_are ∙ fresh)
          ∙ (rw h.tokens_are (sym more));
      newest_is =
          ap latest more
          ∙ (latest-push (held_by (latest ts) (at.tokens ++ tokens_of rs)) r.token_id
          ∙ ap (λ (n : ℕ). Some n) (sym (ap (latest_or at.newest) (tokens_of-push rs r) ∙ latest_or-append at.newest (tokens_of rs) (r.token_id ∷ []))));
    }

-- ---- where the client is at each place

-- what was received is where this leaves a client behind frames of a merge that used these tokens, and had these openings and chunks
record Place (at : AtClient) (base : List Chunk) (opened : List ℕ) (b : Received) (ts : List ℕ) (os : List Opening) (cs : List Chunk) : Type 0 where
  ack_is : b.ack ≡ Some at.ack
  channel_is : first_channel (open_responses b.openings) ≡ Some at.channel
  holds : Holds at b ts (open_responses os)
  messages_are : b.messages ≡ base ++ cs
  opened_are : opened_ids b.openings ≡ opened ++ opened_ids os

module _ (at : AtClient) (base : List Chunk) (opened : List ℕ) (b : Received) (ts : List ℕ) (os : List Opening) (cs : List Chunk)
    (p : Place at base opened b ts os cs) where
  then_opened : (awaits : ℕ → Bool) (o : Opening) → IsGoodResponse (Some at.channel) (held_by (latest ts) (at.tokens ++ tokens_of (open_responses os))) awaits o
      → Place at base opened (after b (Opens o)) (ts ++ []) (os ++ o ∷ []) (cs ++ [])
  then_opened awaits o g =
      rw (append-nil ts, append-nil cs)
      (record {
        ack_is = p.ack_is;
        channel_is = ap first_channel (responses-push b.openings o g.response g.answer_is)
            ∙ channel_in-push (open_responses b.openings) g.response at.channel p.channel_is;
        holds = rw (responses-push os o g.response g.answer_is) (holds_renewed at b o g.response ts (open_responses os) g.answer_is p.holds g.fresh);
        messages_are = p.messages_are;
        opened_are =
            opened_ids-push b.openings o g.numbered g.numbers_are
            ∙ (rw p.opened_are (append_assoc opened (opened_ids os) (g.numbered.1 ∷ [])
            ∙ rw (sym (opened_ids-push os o g.numbered g.numbers_are))));
      })

  then_sent : (c : Chunk) → is_in c.token (held_by (latest ts) (at.tokens ++ tokens_of (open_responses os))) ≡ true
      → Place at base opened (after b (Sends c)) (ts ++ c.token ∷ []) (os ++ []) (cs ++ c ∷ [])
  then_sent c held =
      rw (append-nil os)
      (record {
        ack_is = p.ack_is;
        channel_is = p.channel_is;
        holds = holds_used at b c ts (open_responses os) p.holds held;
        messages_are = rw p.messages_are (append_assoc base cs (c ∷ []));
        opened_are = p.opened_are;
      })

-- ---- what was asked

-- the calls that are unanswered behind more chunks, with more that was asked of which none was answered before
pending_behind : (base us : List Chunk) (asked new : List Asking) → AllByRecursion (λ (id : ℕ). is_finished base id ≡ false) (calls new)
    → pending_calls (base ++ us) (asked ++ new) ≡ filter (λ (id : ℕ). not (is_finished us id)) (pending_calls base asked ++ calls new)
unfolding pending_calls
pending_behind base us asked new none =
    ap (filter (λ (id : ℕ). not (is_finished (base ++ us) id))) (calls-append asked new)
    ∙ filter_behind (is_finished base) (is_finished us) (is_finished (base ++ us)) (λ id. list_any-append (λ (c : Chunk). is_of id c && ends c) base us)
    (calls asked) (calls new) none

-- the renewals likewise
renewals_behind : (opened ids : List ℕ) (asked new : List Asking) → AllByRecursion (λ (id : ℕ). is_in id opened ≡ false) (renewals new)
    → pending_renewals (opened ++ ids) (asked ++ new) ≡ filter (λ (id : ℕ). not (is_in id ids)) (pending_renewals opened asked ++ renewals new)
unfolding pending_renewals
renewals_behind opened ids asked new none =
    ap (filter (λ (id : ℕ). not (is_in id (opened ++ ids)))) (renewals-append asked new)
    ∙ filter_behind (λ (id : ℕ). is_in id opened) (λ (id : ℕ). is_in id ids) (λ (id : ℕ). is_in id (opened ++ ids))
    (λ id. list_any-append (λ (n : ℕ). eqb n id) opened ids) (renewals asked) (renewals new) none

-- a request id of those that are given next
abbrev IsNew : ℕ → ℕ → ℕ → Type 0
IsNew n k id = (n ≤ id) × (id < n + k)

ranged : (n k : ℕ) → AllByRecursion (IsNew n k) (range_with_len n k)
ranged n zero = tt
ranged n (suc k) = (
  (omega arith, omega arith),
  all-weaken (IsNew (n + 1) k) (IsNew n (suc k)) (range_with_len (n + 1) k) (λ id is. (omega (arith, is.0), omega (arith, is.1)))
      (ranged (n + 1) k),
)

-- ---- places

before-append : (place : ℕ) (asks more : List Placed) → asked_before place (asks ++ more) ≡ asked_before place asks ++ asked_before place more
unfolding asked_before
before-append place asks more =
    ap (map (λ (a : Placed). a.1)) (filter-append (λ (a : Placed). ltb a.0 place) asks more)
    ∙ map-append (λ (a : Placed). a.1) (filter (λ (a : Placed). ltb a.0 place) asks) (filter (λ (a : Placed). ltb a.0 place) more)

same_before : (n a place : ℕ) → ltb (n + a) (n + place) ≡ ltb a place
same_before n a place = grind arith

moved : (n : ℕ) (later : List Placed) → map (λ (a : Placed). a.1) (placed_later n later) ≡ map (λ (a : Placed). a.1) later
moved n [] = refl
moved n (a ∷ later) = rw (moved n later)

before_later : (n place : ℕ) (later : List Placed) → asked_before (n + place) (placed_later n later) ≡ asked_before place later
unfolding asked_before
before_later n place later =
    ap (map (λ (a : Placed). a.1))
    (names_kept (λ (a : Placed). (n + a.0, a.1)) (λ (a : Placed). ltb a.0 (n + place)) (λ (a : Placed). ltb a.0 place) (λ a. same_before n a.0 place) later)
    ∙ moved n (filter (λ (a : Placed). ltb a.0 place) later)

in_later : (n : ℕ) (later : List Placed) → asked_in (placed_later n later) ≡ asked_in later
unfolding asked_in
in_later n later = moved n later

later_placed : (n k : ℕ) (later : List Placed) → AllByRecursion (λ (a : Placed). a.0 ≤ k) later
    → AllByRecursion (λ (a : Placed). a.0 ≤ n + k) (placed_later n later)
later_placed n k [] all = tt
later_placed n k (a ∷ later) all = (omega (arith, all.0), later_placed n k later all.1)

later_behind : (n : ℕ) (later : List Placed) → AllByRecursion (λ (a : Placed). n ≤ a.0) (placed_later n later)
later_behind n [] = tt
later_behind n (a ∷ later) = (omega arith, later_behind n later)

-- the place where a frame ends behind others
end_behind : (before us : List Frame) (f : Frame) → end_of (before ++ us) f ≡ length (frames_octets before) + end_of us f
end_behind before us f =
    rw (append_assoc before us (f ∷ [])) (ap length (frames_octets-append before (us ++ f ∷ []))
    ∙ length-append (frames_octets before) (frames_octets (us ++ f ∷ [])))

some_end : (us : List Frame) (f : Frame) → 0 < end_of us f
some_end us f = omega (arith, ap length (frames_octets-push us f), length-append (frames_octets us) (frame_octets f), length-frame_octets f)

-- what was asked before a frame ends, behind octets by whose end these were asked
asked_at : (n : ℕ) (asks later : List Placed) (before us : List Frame) (f : Frame) → n ≡ length (frames_octets before)
    → AllByRecursion (λ (a : Placed). a.0 ≤ n) asks
    → asked_before (end_of (before ++ us) f) (asks ++ placed_later n later) ≡ asked_in asks ++ asked_before (end_of us f) later
asked_at n asks later before us f same placed =
    let place : end_of (before ++ us) f ≡ n + end_of us f = end_behind before us f ∙ rw (sym same) in
    rw place (before-append (n + end_of us f) asks (placed_later n later)
    ∙ (rw (asked_before-all (n + end_of us f) n asks (omega (arith, some_end us f)) placed, before_later n (end_of us f) later)))

-- ---- the law

module _ (limits : Limits) (asks later : List Placed) (octets : List ℕ) (told : List ClientTold) (stood : AtClient) (start : ℕ) (ms : List Sent)
    (more : List Frame) (next : ℕ)
    (r : ClientReads limits asks octets told stood) (n : MayComeNext (client_rules limits asks) octets start)
    (m : ClientMerge limits (record stood { next = start }) (asked_in asks) later ms more next) where
  abbrev at : AtClient
  at = record stood { next = start }

  follows : may_follow (received r.frames).last start ≡ true
  follows = next_follows (client_rules limits asks) octets r.frames start r.run n

  -- the chunks and the ids of OPNs before the merge, what was asked before it, the asks with those in the middle of it, and the request id behind them
  abbrev base : List Chunk
  base = (received r.frames).messages

  abbrev opened : List ℕ
  opened = opened_ids (received r.frames).openings

  abbrev asked : List Asking
  asked = asked_in asks

  abbrev all : List Placed
  all = asks ++ placed_later (length octets) later

  abbrev end : ℕ
  end = next_id (asked_in asks) + length later

  abbrev IsNext : Asking → Type 0
  IsNext a = IsNew (next_id (asked_in asks)) (length later) (id_of a)

  merge : Comes limits ms (messages more)
  merge = comes limits ms (messages more) m.merged

  all_new : AllByRecursion (λ (a : Asking). IsNext a) (asked_in later)
  all_new =
      of_map (IsNew (next_id asked) (length later)) id_of (asked_in later)
      (rw m.counted (ranged (next_id asked) (length later)))

  old_below : AllByRecursion (λ (a : Asking). id_of a < end) asked
  old_below = all-weaken (λ (a : Asking). id_of a < next_id asked) (λ (a : Asking). id_of a < end) asked (λ a less. omega (arith, less)) r.asked_below

  -- with what was asked of that
  module _ (new : List Asking) (are : AllByRecursion (λ (a : Asking). IsNext a) new) where
    new_below : AllByRecursion (λ (a : Asking). id_of a < end) new
    new_below = all-weaken (λ (a : Asking). IsNext a) (λ (a : Asking). id_of a < end) new (λ a is. is.1) are

    left_calls : (us : List Chunk) → pending_calls (base ++ us) (asked ++ new) ≡ filter (λ (id : ℕ). not (is_finished us id)) (at.pending ++ calls new)
    left_calls us =
        pending_behind base us asked new
        (calls_all (λ (id : ℕ). is_finished base id ≡ false) new
        (all-weaken (λ (a : Asking). IsNext a) (λ (a : Asking). is_finished base (id_of a) ≡ false) new
        (λ a is. unfinished_at (next_id asked) (id_of a) base is.0 r.sent_below) are))
        ∙ rw r.pending_are

    left_renewals : (ids : List ℕ) → pending_renewals (opened ++ ids) (asked ++ new) ≡ filter (λ (id : ℕ). not (is_in id ids)) (at.renewals ++ renewals new)
    left_renewals ids =
        renewals_behind opened ids asked new
        (renewals_all (λ (id : ℕ). is_in id opened ≡ false) new
        (all-weaken (λ (a : Asking). IsNext a) (λ (a : Asking). is_in (id_of a) opened ≡ false) new
        (λ a is. not_in (next_id asked) (id_of a) opened is.0 r.opened_below) are))
        ∙ rw r.renewals_are

  -- ---- frame by frame

  abbrev new_at : List Frame → Frame → List Asking
  new_at us f = asked_before (end_of us f) later

  news : (us : List Frame) (f : Frame) → AllByRecursion (λ (a : Asking). IsNext a) (new_at us f)
  news us f = before_all (λ (a : Asking). IsNext a) (end_of us f) later all_new

  abbrev At : List Frame → Frame → AtClient
  At us f = with_merged_back at (new_at us f) us at.next

  abbrev Answers : List Frame → Frame → Opening → Type 0
  Answers us f o = IsGoodResponse (Some at.channel) (At us f).tokens (λ (id : ℕ). is_in id (At us f).renewals) o

  abbrev Replies : List Frame → Frame → Chunk → Type 0
  Replies us f c = IsGoodReply (Some at.channel) (At us f).tokens (at.pending ++ calls (new_at us f)) c

  abbrev May : List Frame → Frame → Type 0
  May us f = (frame_size f ≤ at.ack.send_buffer_size) × CarriesEither (λ (o : Opening). Answers us f o) (λ (c : Chunk). Replies us f c) (content f)

  abbrev Here : Received → List ℕ → List Opening → List Chunk → Type 0
  Here b ts os cs = Place at base opened b ts os cs

  by_either : (us : List Frame) (f : Frame) (P : Content → Type 0) → ((o : Opening) → Answers us f o → P (Opens o))
      → ((c : Chunk) → Replies us f c → P (Sends c)) → May us f → P (content f)
  by_either us f P h g may = of_either (λ (o : Opening). Answers us f o) (λ (c : Chunk). Replies us f c) P h g (content f) may.1

  step : (b : Received) (us : List Frame) (f : Frame) → May us f → Here b (used_tokens us) (openings us) (messages us)
      → Here (after b (content f)) (used_tokens us ++ tokens_in (content f)) (openings us ++ openings_in (content f)) (messages us ++ chunks_in (content f))
  step b us f may p =
      by_either us f (λ (k : Content). Here (after b k) (used_tokens us ++ tokens_in k) (openings us ++ openings_in k) (messages us ++ chunks_in k))
      (λ o g. then_opened at base opened b (used_tokens us) (openings us) (messages us) p (λ (id : ℕ). is_in id (At us f).renewals) o g)
      (λ c g. then_sent at base opened b (used_tokens us) (openings us) (messages us) p c g.held) may

  order_from : (us fs : List Frame) → AllFrom (λ vs f. May vs f) us fs → IsClientOrderOpen (map (λ (f : Frame). f.kind) fs)
  order_from us [] may = tt
  order_from us (f ∷ fs) may =
      order_frame (λ (o : Opening). Answers us f o) (λ (c : Chunk). Replies us f c) f (map (λ (g : Frame). g.kind) fs) may.0.1
      (order_from (us ++ f ∷ []) fs may.1)

  carried : (us : List Frame) (f : Frame) (b : Received) (rest : List Chunk) → May us f → Here b (used_tokens us) (openings us) (messages us)
      → AllFrom (λ vs c. is_finished vs c.request ≡ false) (messages us) (chunks_in (content f) ++ rest)
      → MayCarryBack limits b (asked ++ new_at us f) (content f)
  carried us f b rest may p =
      by_either us f (λ (k : Content). AllFrom (λ vs c. is_finished vs c.request ≡ false) (messages us) (chunks_in k ++ rest)
      → MayCarryBack limits b (asked ++ new_at us f) k)
      (λ o g unended.
      response_as (Some at.channel) (first_channel (open_responses b.openings)) (At us f).tokens (held_tokens b) (λ (id : ℕ). is_in id (At us f).renewals)
      (is_awaited (open_responses b.openings) (opened_ids b.openings) (asked ++ new_at us f)) o (sym p.channel_is) (sym p.holds.tokens_are)
      (λ id e.
      awaited_later (open_responses b.openings) (opened_ids b.openings) (asked ++ new_at us f) id at.channel p.channel_is
      ∙ (rw p.opened_are (ap (is_in id) (left_renewals (new_at us f) (news us f) (opened_ids (openings us))) ∙ e))) g)
      (λ c g unended.
      record {
        on = rw p.channel_is g.on;
        held = ap (is_in c.token) p.holds.tokens_are ∙ g.held;
        awaited =
            rw p.messages_are (ap (is_in c.request) (left_calls (new_at us f) (news us f) (messages us))
            ∙ in_filter (λ (id : ℕ). not (is_finished (messages us) id)) c.request (at.pending ++ calls (new_at us f)) (ap not unended.0) g.awaited);
      }) may

  tells : (us : List Frame) (f : Frame) (b : Received) (rest : List Chunk) → May us f → Here b (used_tokens us) (openings us) (messages us)
      → EachEnds ms (messages us) (chunks_in (content f) ++ rest)
      → client_tells b (content f) ≡ told_back ms (content f)
  tells us f b rest may p =
      by_either us f (λ (k : Content). EachEnds ms (messages us) (chunks_in k ++ rest) → client_tells b k ≡ told_back ms k)
      (λ o g each. renewed_told at.channel (open_responses b.openings) (response_listed (answer_in o)) p.channel_is)
      (λ c g each. ap (map told_item) (rw p.messages_are (given_fresh base (messages us) c r.none_open ∙ each.0))) may

  token_told : (us : List Frame) (f : Frame) → May us f → tokens_renewed (told_back ms (content f)) ≡ tokens_of (open_responses (openings_in (content f)))
  token_told us f may =
      by_either us f (λ (k : Content). tokens_renewed (told_back ms k) ≡ tokens_of (open_responses (openings_in k)))
      (λ o g. tokens_listed (response_listed (answer_in o)) ∙ sym (tokens_of-one o))
      (λ c g. no_token (ended_by ms c) ∙ sym nothing_opened) may

  -- ---- all of them

  may : AllFrom (λ us f. May us f) [] more
  may = sized at.ack.send_buffer_size (λ us f. CarriesEither (λ (o : Opening). Answers us f o) (λ (c : Chunk). Replies us f c) (content f)) [] more m.fits
      m.carries

  first : Place at base opened (received r.frames) [] [] []
  first = record {
    ack_is = r.ack_is;
    channel_is = r.channel_is;
    holds = record {
      tokens_are = r.tokens_are ∙ (sym (append-nil at.tokens) ∙ rw (sym nothing_opened));
      newest_is =
          ap latest (ap (λ (t : List ℕ). at.tokens ++ t) nothing_opened ∙ append-nil at.tokens)
          ∙ (r.newest_is ∙ ap (λ (t : List ℕ). Some (latest_or at.newest t)) (sym nothing_opened));
    };
    messages_are = sym (append-nil base);
    opened_are = sym (append-nil opened) ∙ rw (sym no_ids);
  }

  there : Place at base opened (received (r.frames ++ more)) (used_tokens more) (openings more) (messages more)
  there = at_end r.frames (Place at base opened) (λ us f. May us f) step more first may

  reached : length octets ≡ length (frames_octets r.frames)
  reached = ap length (r.run.whole ∙ append-nil (frames_octets r.frames))

  fit : AllFrom (Fits (client_rules limits all)) r.frames more
  fit =
      taken_open limits all at.ack at.channel r.frames more r.ack_is r.channel_is (order_from [] more may) m.framed
      (each_along r.frames (Place at base opened) (λ us f. May us f) step more first may (λ us c. is_finished us c.request ≡ false) merge.unended
      (λ us f. frame_size f ≤ largest_taken (received us).ack)
      (λ us f rest can p unended. rw p.ack_is can.0))
      (each_along r.frames (Place at base opened) (λ us f. May us f) step more first may (λ us c. is_finished us c.request ≡ false) merge.unended
      (λ us f. MayCarryBack limits (received us) (asked_before (end_of us f) all) (content f))
      (λ us f rest can p unended.
      rw (asked_at (length octets) asks later r.frames us f reached r.placed) (carried us f (received (r.frames ++ us)) rest can p unended)))
      (goes_ordered (received r.frames).last start next (numbers more) follows m.numbered)
      (rw (← append-nil base) (takes_fresh limits.max_message_size limits.max_chunk_count base [] (messages more) r.none_open merge.taken))

  run_asked : Run (client_rules limits all) octets r.frames [] Going
  run_asked = going_on limits asks (placed_later (length octets) later) octets r.frames [] (later_behind (length octets) later) r.run

  told_here : each_from (client_rules limits all).tells r.frames more ≡ told_merged_back ms more
  told_here =
      all_told r.frames (Place at base opened) (λ us f. May us f) step more first may (λ us c. given us c ≡ ended_by ms c) merge.each
      (client_rules limits all).tells (λ us f. told_back ms (content f))
      (λ us f rest can p each. tells us f (received (r.frames ++ us)) rest can p each)
      ∙ told_flat ms [] more

  tells_all : events (client_rules limits all) (r.frames ++ more) ≡ told ++ told_merged_back ms more
  tells_all =
      events_on (client_rules limits all) r.frames more
      ∙ (rw (r.told_is, told_here))

  asked_all : asked_in all ≡ asked ++ asked_in later
  asked_all = asked_in-append asks (placed_later (length octets) later) ∙ rw (in_later (length octets) later)

  count : next_id (asked_in all) ≡ end
  count = omega (arith, next-append asks (placed_later (length octets) later), length-map {B = Placed} later (λ (a : Placed). (length octets + a.0, a.1)))

  placed_all : AllByRecursion (λ (a : Placed). a.0 ≤ length (octets ++ frames_octets more)) all
  placed_all =
      let long : length (octets ++ frames_octets more) ≡ length octets + length (frames_octets more) = length-append octets (frames_octets more) in
      all_append (λ (a : Placed). a.0 ≤ length (octets ++ frames_octets more)) asks (placed_later (length octets) later)
      (all-weaken (λ (a : Placed). a.0 ≤ length octets) (λ (a : Placed). a.0 ≤ length (octets ++ frames_octets more)) asks (λ a le. omega (arith, le, long))
      r.placed)
      (rw long (later_placed (length octets) (length (frames_octets more)) later m.placed))

  asked_below : AllByRecursion (λ (a : Asking). id_of a < end) (asked ++ asked_in later)
  asked_below = all_append (λ (a : Asking). id_of a < end) asked (asked_in later) old_below (new_below (asked_in later) all_new)

  pub reads_merged : ClientReads limits (asks ++ placed_later (length octets) later) (octets ++ frames_octets more) (told ++ told_merged_back ms more)
      (with_merged_back at (asked_in later) more next)
  reads_merged =
      reads_at (r.frames ++ more) (run_on (client_rules limits all) octets r.frames more run_asked fit refl) placed_all tells_all
      (rw (
        there.holds.tokens_are,
        there.holds.newest_is,
        asked_all,
        there.messages_are,
        left_calls (asked_in later) all_new (messages more),
        there.opened_are,
        left_renewals (asked_in later) all_new (opened_ids (openings more)),
        there.channel_is,
        there.ack_is,
      ) refl) (rw (count, asked_all) asked_below) (goes_follows r.frames more start next follows m.numbered) (goes_small start next (numbers more) m.numbered)
      (ap open_ids there.messages_are ∙ closed_fresh base (messages more) r.none_open merge.none_open)

  pub reads_messages : told_of_calls (told_merged_back ms more) ≡ map told_item (outcomes ms (messages more))
  reads_messages =
      told_new told_of_calls told_item told (told_merged_back ms more) base (messages more) (outcomes ms (messages more))
      (filter-append is_of_call told (told_merged_back ms more)) r.none_open merge.all
      (ap told_of_calls (sym r.told_is) ∙ tells_delivered limits asks r.frames)
      (ap told_of_calls (sym tells_all)
      ∙ (tells_delivered limits all (r.frames ++ more) ∙ rw there.messages_are))

  pub reads_once : (id : ℕ) → filter (is_told_under id) (told_merged_back ms more) ≡ map told_item (outcome_under (sent_under id ms))
  reads_once id =
      calls_under id (told_merged_back ms more)
      ∙ (ap (filter (is_told_under id)) reads_messages ∙ outcomes_once limits ms (messages more) m.merged told_item (is_told_under id) id (told_names id))

  pub reads_tokens : tokens_renewed (told_merged_back ms more) ≡ tokens_of (open_responses (openings more))
  reads_tokens = tokens_from ms (λ us f. May us f) token_told [] more may

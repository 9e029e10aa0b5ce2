-- That a client whose asks are made earlier reads what it read.
use Rattle.std.proofs.Common.{◌≡◌, ℕ, ◌≤◌, Bool, true, false, cond, not, ◌||◌, eqb, ltb}
use Rattle.std.proofs.Common.{List, [], ◌∷◌, ◌++◌, length, map, refl, sym, ◌∙◌, arith}
use Rattle.std.specs.List.{AllByRecursion, filter}
use Rattle.std.proofs.lemmas.Bool.{lt-ltb, ltb-true, or_right}
use Rattle.std.proofs.lemmas.List.Folds.{list_any-append}
use Rattle.ua_frame.specs.declared.frame.Frame.{Frame}
use Rattle.ua_frame.specs.declared.limits.Limits.{Limits}
use Rattle.ua_frame.specs.After.{AllAfter, AllFrom}
use Rattle.ua_frame.specs.Run.{Going, Run}
use Rattle.ua_opening.specs.declared.secure_channel.OpenResponse.{OpenResponse}
use Rattle.ua_chunk.specs.declared.chunk.Chunk.{Chunk}
use Rattle.ua_channel_laws.specs.AskedEarlier.{AreEarlier}
use Rattle.ua_channel.specs.Asks.{Asking, Placed, asked_before, asked_in, call_in, calls, end_of, is_finished}
use Rattle.ua_channel.specs.Asks.{is_in, pending_calls, pending_renewals, renewal_in, renewals}
use Rattle.ua_channel_laws.specs.ClientConversation.{ClientConversation, MayCarryBack}
use Rattle.ua_channel_laws.specs.ClientReads.{AtClient, ClientReads}
use Rattle.ua_channel.specs.ClientTable.{client_rules, is_awaited}
use Rattle.ua_channel.specs.ClientTokens.{opened_ids, open_responses, first_channel, held_tokens}
use Rattle.ua_channel.specs.ClientTold.{ClientTold}
use Rattle.ua_channel.specs.Content.{Content, content}
use Rattle.ua_channel.specs.Content.Content.{Greets, Acks, Fails, Opens, Sends, Closes, Nothing}
use Rattle.ua_channel.specs.Received.{Received, received}
use Rattle.ua_channel.proofs.Askings.{within_filter, in_filter, passes_filter}
use Rattle.ua_channel_laws.proofs.ClientConversing.{continues, response_as}
use Rattle.ua_channel_laws.proofs.ClientRuns.{reads_at, stands_at}

-- ---- what a test keeps

-- one that a test keeps of some it keeps of more
keeps_more : (test : ℕ → Bool) (id : ℕ) (xs ys : List ℕ) → (is_in id xs ≡ true → is_in id ys ≡ true) → is_in id (filter test xs) ≡ true
    → is_in id (filter test ys) ≡ true
keeps_more test id xs ys more e = in_filter test id ys (passes_filter test id xs e) (more (within_filter test id xs e))

-- ---- what was asked before a place

-- the ids of this kind of ask among those before a place
module _ (ids : List Asking → List ℕ) (one : Asking → List ℕ) (step : (a : Asking) (asked : List Asking) (id : ℕ)
    → is_in id (ids (a ∷ asked)) ≡ (is_in id (one a) || is_in id (ids asked))) where
  still_in : (id : ℕ) (a : Asking) (xs ys : List Asking) (early late : Bool) → (late ≡ true → early ≡ true)
      → (is_in id (ids xs) ≡ true → is_in id (ids ys) ≡ true)
      → is_in id (ids (cond late (a ∷ xs) xs)) ≡ true
      → is_in id (ids (cond early (a ∷ ys) ys)) ≡ true
  still_in id a xs ys true true le more e = step a ys id ∙ by_first (is_in id (one a)) (sym (step a xs id) ∙ e)
    where
      by_first : (b : Bool) → (b || is_in id (ids xs)) ≡ true → (b || is_in id (ids ys)) ≡ true
      by_first true f = refl
      by_first false f = more f
  still_in id a xs ys true false le more e = step a ys id ∙ or_right (is_in id (one a)) (is_in id (ids ys)) (more e)
  still_in id a xs ys false true le more e = let clash : ◌≡◌ {A = Bool} false true = le refl in absurd cc
  still_in id a xs ys false false le more e = more e

  in_earlier : (id place : ℕ) (earlier asks : List Placed) → AreEarlier earlier asks
      → is_in id (ids (map (λ (p : Placed). p.1) (filter (λ (p : Placed). ltb p.0 place) asks))) ≡ true
      → is_in id (ids (map (λ (p : Placed). p.1) (filter (λ (p : Placed). ltb p.0 place) earlier))) ≡ true
  in_earlier id place [] [] are e = e
  in_earlier id place [] (b ∷ asks) are e = absurd are
  in_earlier id place (a ∷ earlier) [] are e = absurd are
  in_earlier id place (a ∷ earlier) (b ∷ asks) are e =
      moved (ltb a.0 place)
      (still_in id b.1 (map (λ (p : Placed). p.1) (filter (λ (p : Placed). ltb p.0 place) asks))
      (map (λ (p : Placed). p.1) (filter (λ (p : Placed). ltb p.0 place) earlier)) (ltb a.0 place) (ltb b.0 place)
      (λ late. lt-ltb a.0 place (omega (arith, are.0, ltb-true b.0 place late))) (in_earlier id place earlier asks are.2) (kept (ltb b.0 place) e))
    where
      kept : (t : Bool)
          → is_in id (ids (map (λ (p : Placed). p.1) (cond t (b ∷ filter (λ (p : Placed). ltb p.0 place) asks) (filter (λ (p : Placed). ltb p.0 place) asks))))
          ≡ true
          → is_in id
          (ids (cond t (b.1 ∷ map (λ (p : Placed). p.1) (filter (λ (p : Placed). ltb p.0 place) asks))
          (map (λ (p : Placed). p.1) (filter (λ (p : Placed). ltb p.0 place) asks)))) ≡ true
      kept true f = f
      kept false f = f

      moved : (t : Bool)
          → is_in id
          (ids (cond t (b.1 ∷ map (λ (p : Placed). p.1) (filter (λ (p : Placed). ltb p.0 place) earlier))
          (map (λ (p : Placed). p.1) (filter (λ (p : Placed). ltb p.0 place) earlier)))) ≡ true
          → is_in id
          (ids (map (λ (p : Placed). p.1) (cond t (a ∷ filter (λ (p : Placed). ltb p.0 place) earlier) (filter (λ (p : Placed). ltb p.0 place) earlier))))
          ≡ true
      moved true f = rw are.1 f
      moved false f = f

calls_step : (a : Asking) (asked : List Asking) (id : ℕ) → is_in id (calls (a ∷ asked)) ≡ (is_in id (call_in a) || is_in id (calls asked))
unfolding calls
calls_step a asked id = list_any-append (λ (n : ℕ). eqb n id) (call_in a) (calls asked)

renewals_step : (a : Asking) (asked : List Asking) (id : ℕ) → is_in id (renewals (a ∷ asked)) ≡ (is_in id (renewal_in a) || is_in id (renewals asked))
unfolding renewals
renewals_step a asked id = list_any-append (λ (n : ℕ). eqb n id) (renewal_in a) (renewals asked)

calls_earlier : (id place : ℕ) (earlier asks : List Placed) → AreEarlier earlier asks → is_in id (calls (asked_before place asks)) ≡ true
    → is_in id (calls (asked_before place earlier)) ≡ true
unfolding asked_before
calls_earlier id place earlier asks are e = in_earlier calls call_in calls_step id place earlier asks are e

renewals_earlier : (id place : ℕ) (earlier asks : List Placed) → AreEarlier earlier asks → is_in id (renewals (asked_before place asks)) ≡ true
    → is_in id (renewals (asked_before place earlier)) ≡ true
unfolding asked_before
renewals_earlier id place earlier asks are e = in_earlier renewals renewal_in renewals_step id place earlier asks are e

-- a call that is unanswered where asks were made later is so where they were made earlier
pending_earlier : (cs : List Chunk) (id place : ℕ) (earlier asks : List Placed) → AreEarlier earlier asks
    → is_in id (pending_calls cs (asked_before place asks)) ≡ true
    → is_in id (pending_calls cs (asked_before place earlier)) ≡ true
unfolding pending_calls
pending_earlier cs id place earlier asks are e =
    keeps_more (λ (j : ℕ). not (is_finished cs j)) id (calls (asked_before place asks)) (calls (asked_before place earlier))
    (calls_earlier id place earlier asks are) e

-- and so is a renewal
waiting_earlier : (opened : List ℕ) (id place : ℕ) (earlier asks : List Placed) → AreEarlier earlier asks
    → is_in id (pending_renewals opened (asked_before place asks)) ≡ true
    → is_in id (pending_renewals opened (asked_before place earlier)) ≡ true
unfolding pending_renewals
waiting_earlier opened id place earlier asks are e =
    keeps_more (λ (j : ℕ). not (is_in j opened)) id (renewals (asked_before place asks)) (renewals (asked_before place earlier))
    (renewals_earlier id place earlier asks are) e

awaited_earlier : (rs : List OpenResponse) (opened : List ℕ) (id place : ℕ) (earlier asks : List Placed) → AreEarlier earlier asks
    → is_awaited rs opened (asked_before place asks) id ≡ true
    → is_awaited rs opened (asked_before place earlier) id ≡ true
awaited_earlier [] opened id place earlier asks are e = e
awaited_earlier (r ∷ rs) opened id place earlier asks are e = waiting_earlier opened id place earlier asks are e

-- ---- frames

module _ (limits : Limits) (earlier asks : List Placed) (are : AreEarlier earlier asks) where
  may_earlier : (b : Received) (place : ℕ) (k : Content) → MayCarryBack limits b (asked_before place asks) k
      → MayCarryBack limits b (asked_before place earlier) k
  may_earlier b place (Greets hello) h = h
  may_earlier b place (Acks ack) h = h
  may_earlier b place (Fails error) h = h
  may_earlier b place (Opens o) h =
      response_as (first_channel (open_responses b.openings)) (first_channel (open_responses b.openings)) (held_tokens b) (held_tokens b)
      (is_awaited (open_responses b.openings) (opened_ids b.openings) (asked_before place asks))
      (is_awaited (open_responses b.openings) (opened_ids b.openings) (asked_before place earlier)) o refl refl
      (λ id e. awaited_earlier (open_responses b.openings) (opened_ids b.openings) id place earlier asks are e) h
  may_earlier b place (Sends c) h = record { on = h.on; held = h.held; awaited = pending_earlier b.messages c.request place earlier asks are h.awaited }
  may_earlier b place (Closes c) h = h
  may_earlier b place Nothing h = h

  carries_from : (start fs : List Frame) → AllFrom (λ us f. MayCarryBack limits (received us) (asked_before (end_of us f) asks) (content f)) start fs
      → AllFrom (λ us f. MayCarryBack limits (received us) (asked_before (end_of us f) earlier) (content f)) start fs
  carries_from start [] h = tt
  carries_from start (f ∷ fs) h = (may_earlier (received start) (end_of start f) (content f) h.0, carries_from (start ++ f ∷ []) fs h.1)

  converses_earlier : (frames : List Frame) → ClientConversation limits asks frames → ClientConversation limits earlier frames
  unfolding AllAfter
  converses_earlier frames c = record {
    order = c.order;
    framed = c.framed;
    fits = c.fits;
    carries = carries_from [] frames c.carries;
    ordered = c.ordered;
    messages_fit = c.messages_fit;
  }

  run_earlier : (octets : List ℕ) (frames : List Frame) (rest : List ℕ) → Run (client_rules limits asks) octets frames rest Going
      → Run (client_rules limits earlier) octets frames rest Going
  run_earlier octets frames rest run =
      let c = (continues limits asks octets frames rest).0 run in
      (continues limits earlier octets frames rest).1 (record { whole = c.whole; converses = converses_earlier frames c.converses; partial = c.partial })

in_same : (earlier asks : List Placed) → AreEarlier earlier asks → asked_in earlier ≡ asked_in asks
unfolding asked_in
in_same [] [] are = refl
in_same [] (b ∷ asks) are = absurd are
in_same (a ∷ earlier) [] are = absurd are
in_same (a ∷ earlier) (b ∷ asks) are = rw (are.1, in_same earlier asks are.2)

placed_earlier : (n : ℕ) (earlier asks : List Placed) → AreEarlier earlier asks → AllByRecursion (λ (a : Placed). a.0 ≤ n) asks
    → AllByRecursion (λ (a : Placed). a.0 ≤ n) earlier
placed_earlier n [] [] are all = tt
placed_earlier n [] (b ∷ asks) are all = absurd are
placed_earlier n (a ∷ earlier) [] are all = absurd are
placed_earlier n (a ∷ earlier) (b ∷ asks) are all = (omega (arith, are.0, all.0), placed_earlier n earlier asks are.2 all.1)

-- a client that asked earlier reads the same, and is at the same place
pub reads_earlier : (limits : Limits) (earlier asks : List Placed) (octets : List ℕ) (told : List ClientTold) (at : AtClient) → AreEarlier earlier asks
    → ClientReads limits asks octets told at
    → ClientReads limits earlier octets told at
reads_earlier limits earlier asks octets told at are r =
    let same : asked_in earlier ≡ asked_in asks = in_same earlier asks are in
    reads_at r.frames (run_earlier limits earlier asks are octets r.frames [] r.run) (placed_earlier (length octets) earlier asks are r.placed) r.told_is
    (rw same (stands_at r)) (rw same r.asked_below) r.follows r.next_small r.none_open

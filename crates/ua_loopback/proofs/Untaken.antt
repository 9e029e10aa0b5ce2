-- That a client which may be called takes no chunk, so that it took all of what ends with one; and that it took nothing behind the last reply.
use Rattle.std.proofs.Common.{◌≡◌, ℕ, ◌+◌, ◌<◌, ◌≤◌, Bool, true, false, not, ltb, List, [], ◌∷◌, ◌++◌, Option, Some, None}
use Rattle.std.proofs.Common.{length, map, refl, sym, ◌∙◌, ap, subst, arith, append-nil, append_assoc, length-append}
use Rattle.std.specs.Prelude.{cond, is_none}
use Rattle.std.specs.List.{filter, flat_map, list_any}
use Rattle.std.proofs.lemmas.Grind.{flat_map-append}
use Rattle.std.proofs.lemmas.List.{nil_from_length}
use Rattle.ua_wire.specs.Format.{Extends}
use Rattle.ua_builtin.specs.Reasons.{first_reason}
use Rattle.ua_frame.specs.After.{AllAfter, AllFrom, each_from}
use Rattle.ua_frame.specs.Frames.{frames_octets}
use Rattle.ua_frame.specs.Run.{Fits, Going, Rules, Run, events}
use Rattle.ua_frame.specs.declared.frame.Frame.{Frame}
use Rattle.ua_frame.specs.declared.limits.Limits.{Limits}
use Rattle.ua_chunk.specs.Gathered.{ends}
use Rattle.ua_chunk.specs.declared.chunk.Chunk.{Chunk}
use Rattle.ua_chunk.proofs.Lists.{filter_append}
use Rattle.ua_channel.specs.Asks.{Asking, Placed, asked_before, asked_in, call_in, calls, end_of, is_finished, is_in, pending_calls}
use Rattle.ua_channel.specs.Client.{client_limits, client_rules_of}
use Rattle.ua_channel_laws.specs.ClientReads.{AtClient, ClientReads}
use Rattle.ua_channel.specs.ClientTable.{client_reasons, client_rules}
use Rattle.ua_channel.specs.ClientTold.{ClientTold}
use Rattle.ua_channel.specs.Content.{Content, content}
use Rattle.ua_channel.specs.Content.Content.{Sends}
use Rattle.ua_channel.specs.Received.{Received, chunks_in, messages, received}
use Rattle.ua_channel.specs.declared.client.channel.ClientChannel.{ClientChannel}
use Rattle.ua_channel.specs.inside.ClientParts.{left_behind, left_pending}
use Rattle.ua_channel.proofs.Askings.{pending_calls-more}
use Rattle.ua_channel_laws.proofs.ReadOn.{begins_run, events_on}
use Rattle.ua_services.specs.declared.request.Request.{Request}
use Rattle.ua_client.specs.Calls.{LastCame}
use Rattle.ua_client.specs.Renewing.{IsSettled}
use Rattle.ua_client.specs.Replies.{AreSlots}
use Rattle.ua_client.specs.ClientPlace.{ClientPlace, StandsAt}
use Rattle.ua_client.specs.Told.{is_told_of, told_of}
use Rattle.ua_client.specs.declared.reply.Reply.{Reply}
use Rattle.ua_client.proofs.Renewals.{none-holds}
use Rattle.ua_client.proofs.Settled.{NonePending}
use Rattle.ua_loopback.proofs.Ending.{EndsInChunk}
use Rattle.ua_channel_laws.proofs.Lists.{split_last}

-- ---- calls of which none is unanswered

nothing_by : (ending : Bool) (request : ℕ) → left_behind ending request [] ≡ []
nothing_by true request = refl
nothing_by false request = refl

nothing_left : (c : Chunk) → left_pending c [] ≡ []
nothing_left c = nothing_by (ends c) c.request

-- with more chunks none is, either
none_stays : (cs more : List Chunk) (asked : List Asking) → pending_calls cs asked ≡ [] → pending_calls (cs ++ more) asked ≡ []
none_stays cs [] asked e = ap (λ (us : List Chunk). pending_calls us asked) (append-nil cs) ∙ e
none_stays cs (c ∷ more) asked e =
    ap (λ (us : List Chunk). pending_calls us asked) (sym (append_assoc cs (c ∷ []) more))
    ∙ none_stays (cs ++ c ∷ []) more asked (pending_calls-more cs c asked ∙ (ap (left_pending c) e ∙ nothing_left c))

nil_parts : {A : Type 0} (xs ys : List A) → xs ++ ys ≡ [] → (xs ≡ []) × (ys ≡ [])
nil_parts [] ys e = (refl, e)
nil_parts (x ∷ xs) ys e = absurd cc

kept_none : (kept : Bool) (test : ℕ → Bool) (a : Placed) (asks : List Placed) → filter test (call_in a.1) ≡ []
    → filter test (flat_map call_in (map (λ (b : Placed). b.1) asks)) ≡ []
    → filter test (flat_map call_in (map (λ (b : Placed). b.1) (cond kept (a ∷ asks) asks))) ≡ []
kept_none true test a asks one rest =
    filter_append test (call_in a.1) (flat_map call_in (map (λ (b : Placed). b.1) asks))
    ∙ (ap (λ (ids : List ℕ). ids ++ filter test (flat_map call_in (map (λ (b : Placed). b.1) asks))) one ∙ rest)
kept_none false test a asks one rest = rest

none_asked : (test : ℕ → Bool) (place : ℕ) (asks : List Placed) → filter test (flat_map call_in (asked_in asks)) ≡ []
    → filter test (flat_map call_in (asked_before place asks)) ≡ []
unfolding asked_before asked_in
none_asked test place [] e = e
none_asked test place (a ∷ asks) e =
    let parts = nil_parts (filter test (call_in a.1)) (filter test (flat_map call_in (asked_in asks)))
    (sym (filter_append test (call_in a.1) (flat_map call_in (asked_in asks))) ∙ e) in
    kept_none (ltb a.0 place) test a (filter (λ (b : Placed). ltb b.0 place) asks) parts.0 (none_asked test place asks parts.1)

-- and none of those that were asked before a place
none_before : (cs : List Chunk) (place : ℕ) (asks : List Placed) → pending_calls cs (asked_in asks) ≡ [] → pending_calls cs (asked_before place asks) ≡ []
unfolding pending_calls calls
none_before cs place asks e = none_asked (λ (id : ℕ). not (is_finished cs id)) place asks e

-- ---- frames one behind the other

messages_append : (fs gs : List Frame) → (received (fs ++ gs)).messages ≡ (received fs).messages ++ messages gs
unfolding received messages
messages_append fs gs = flat_map-append (λ (f : Frame). chunks_in (content f)) fs gs

fits_from : {E X : Type 0} (R : Rules E X) (start fs : List Frame) (f : Frame) → AllFrom (Fits R) start (fs ++ f ∷ []) → Fits R (start ++ fs) f
fits_from R start [] f h = subst (λ (hs : List Frame). Fits R hs f) (sym (append-nil start)) h.0
fits_from R start (g ∷ fs) f h = subst (λ (hs : List Frame). Fits R hs f) (append_assoc start (g ∷ []) fs) (fits_from R (start ++ g ∷ []) fs f h.1)

fits_last : {E X : Type 0} (R : Rules E X) (fs : List Frame) (f : Frame) → AllAfter (Fits R) (fs ++ f ∷ []) → Fits R fs f
unfolding AllAfter
fits_last R fs f h = fits_from R [] fs f h

-- ---- a chunk is refused where no call is unanswered

chunk_refused : (limits : Limits) (b : Received) (asked : List Asking) (c : Chunk) → pending_calls b.messages asked ≡ []
    → first_reason (client_reasons limits b asked (Sends c)) ≡ None → ⊥
chunk_refused limits b asked c none e =
    let all = none-holds (client_reasons limits b asked (Sends c)) e in
    let waits : not (is_in c.request (pending_calls b.messages asked)) ≡ false = all.1.1.1.1.1.1.1.1.1.1.1.1.0 in
    let waits_nowhere : not (is_in c.request []) ≡ false = subst (λ (ids : List ℕ). not (is_in c.request ids) ≡ false) none waits in
    absurd cc

module _ (law : NonePending) (y : ClientChannel) (s : ClientPlace) (at : StandsAt y s) (settled : IsSettled s) (all : List ℕ) (frames : List Frame)
    (run : Run (client_rules (client_limits y) s.asks) all frames [] Going) (last : EndsInChunk frames) (front : Extends s.octets all) where
  abbrev here : List Frame
  here = at.goes.frames

  -- none is unanswered behind more frames
  none_behind : (more : List Frame) → pending_calls (received (here ++ more)).messages (asked_in s.asks) ≡ []
  none_behind more =
      ap (λ (cs : List Chunk). pending_calls cs (asked_in s.asks)) (messages_append here more)
      ∙ none_stays (received here).messages (messages more) (asked_in s.asks) (ap (λ (b : Received). pending_calls b.messages (asked_in s.asks)) at.before_is
      ∙ law y s at settled)

  never_last : (more : List Frame) → last.before ≡ here ++ more → ⊥
  never_last more e =
      let fits = fits_last (client_rules_of y s.asks) last.before last.frame (subst (AllAfter (Fits (client_rules_of y s.asks))) last.parts run.good) in
      let place = end_of last.before last.frame in
      chunk_refused (client_limits y) (received last.before) (asked_before place s.asks) last.chunk
      (none_before (received last.before).messages place s.asks (ap (λ (fs : List Frame). pending_calls (received fs).messages (asked_in s.asks)) e
      ∙ none_behind more))
      (ap (λ (k : Content). first_reason (client_reasons (client_limits y) (received last.before) (asked_before place s.asks) k)) (sym last.carries)
      ∙ fits.accepted)

  took_by : (later : List Frame) → frames ≡ here ++ later → s.octets ≡ all
  took_by [] e =
      let whole = ap length run.whole in
      let part = ap length at.goes.stands.run.whole in
      let more = ap length front.parts in
      let same = ap (λ (fs : List Frame). length (frames_octets fs)) (e ∙ append-nil here) in
      sym (front.parts
      ∙ (ap (λ (o : List ℕ). s.octets ++ o)
      (nil_from_length front.more
      (omega (
        arith,
        whole,
        part,
        more,
        same,
        length-append (frames_octets frames) [],
        length-append (frames_octets here) at.goes.rest,
        length-append s.octets front.more,
      )))
      ∙ append-nil s.octets))
  took_by (f ∷ later) e =
      let middle = split_last last.before here later last.frame f (sym last.parts ∙ e) in
      absurd (never_last middle.0 middle.1)

  -- it took all of it
  pub took_all : s.octets ≡ all
  took_all =
      let later = begins_run (client_rules_of y s.asks) s.octets front.more here frames at.goes.rest Going at.goes.stands.run
      (subst (λ (o : List ℕ). Run (client_rules_of y s.asks) o frames [] Going) front.parts run) in
      took_by later.0 later.1

-- ---- nothing is taken behind the last reply

false_not_true : false ≡ true → ⊥
false_not_true e = cc

told_further : (id : ℕ) (us vs : List ClientTold) → 0 < length (told_of id us) → 0 < length (told_of id (us ++ vs))
told_further id us vs some = omega (arith, some, ap length (filter_append (is_told_of id) us vs), length-append (told_of id us) (told_of id vs))

-- where something was told of each call no reply is missing
pub never_missing : (requests : List Request) (id : ℕ) (told : List ClientTold) (slots : List (Option Reply)) → AreSlots requests id told slots
    → ((k : ℕ) → id ≤ k → k < id + length requests → 0 < length (told_of k told)) → list_any is_none slots ≡ true → ⊥
never_missing [] id told [] h each e = false_not_true e
never_missing [] id told (slot ∷ slots) h each e = h
never_missing (r ∷ rs) id told [] h each e = h
never_missing (r ∷ rs) id told (None ∷ slots) h each e = let some = each id (omega arith) (omega arith) in omega (arith, some, ap length h.0)
never_missing (r ∷ rs) id told (Some reply ∷ slots) h each e =
    never_missing rs (id + 1) told slots h.1 (λ k from to. each k (omega (arith, from)) (omega (arith, to))) e

module _ (y : ClientChannel) (requests : List Request) (id : ℕ) (s : ClientPlace) (came : LastCame y requests id s.asks s.octets s.told) (all : List ℕ)
    (told : List ClientTold) (at : AtClient) (r : ClientReads (client_limits y) s.asks all told at)
    (each : (k : ℕ) → id ≤ k → k < id + length requests → 0 < length (told_of k told)) (more : List ℕ) (is : s.octets ≡ all ++ more) where
  abbrev taken : List Frame
  taken = came.tells.frames ++ came.tells.frame ∷ []

  run_on : Run (client_rules_of y s.asks) (all ++ more) taken [] Going
  run_on = subst (λ (o : List ℕ). Run (client_rules_of y s.asks) o taken [] Going) is came.tells.stands.run

  none_behind_it : (later : List Frame) → taken ≡ r.frames ++ later → s.octets ≡ all
  none_behind_it [] e =
      let whole = ap length run_on.whole in
      let part = ap length r.run.whole in
      let same = ap (λ (fs : List Frame). length (frames_octets fs)) (e ∙ append-nil r.frames) in
      is
      ∙ (ap (λ (o : List ℕ). all ++ o)
      (nil_from_length more
      (omega (arith, whole, part, same, length-append all more, length-append (frames_octets taken) [], length-append (frames_octets r.frames) [])))
      ∙ append-nil all)
  none_behind_it (g ∷ gs) e =
      let middle = split_last came.tells.frames r.frames gs came.tells.frame g e in
      let later : List ClientTold = each_from (client_rules_of y s.asks).tells r.frames middle.0 in
      let before : came.before ≡ told ++ later =
      sym came.tells.told_is
      ∙ (ap (events (client_rules_of y s.asks)) middle.1
      ∙ (events_on (client_rules_of y s.asks) r.frames middle.0 ∙ ap (λ (ts : List ClientTold). ts ++ later) r.told_is)) in
      absurd (never_missing requests id came.before came.awaited.slots came.awaited.slots_are
      (λ k from to. subst (λ (ts : List ClientTold). 0 < length (told_of k ts)) (sym before) (told_further k told later (each k from to))) came.awaited.missing)

  -- where the other end said all that is waited for in a front of what was taken, just that was taken
  pub took_no_more : s.octets ≡ all
  took_no_more =
      let later = begins_run (client_rules_of y s.asks) all more r.frames taken [] Going r.run run_on in
      none_behind_it later.0 later.1

-- Where an open channel of a client stands with one frame more.
use Rattle.std.proofs.Common.{◌≡◌, ℕ, suc, ◌<◌, ◌≤◌, Bool, true, false, not, ◌||◌, eqb, List, [], ◌∷◌, ◌++◌}
use Rattle.std.proofs.Common.{Option, Some, None, Result, length, map, refl, sym, ◌∙◌, ap, subst, arith}
use Rattle.std.specs.Prelude.{if◌then◌else◌}
use Rattle.std.specs.List.{AllByRecursion, filter, flat_map}
use Rattle.std.proofs.lemmas.Bool.{eqb-true, not-false}
use Rattle.std.proofs.lemmas.List.{map-append}
use Rattle.std.proofs.lemmas.Grind.{flat_map-append}
use Rattle.ua_builtin.specs.Reasons.{first_reason, renamed_reason}
use Rattle.ua_chunk.specs.Refusal.{reasons}
use Rattle.ua_frame.specs.declared.frame.Frame.{Frame}
use Rattle.ua_frame.specs.declared.kind.Kind.TheVariants.{Msg, Opn}
use Rattle.ua_chunk.specs.Layout.{chunk_in}
use Rattle.ua_frame.specs.declared.limits.Limits.{Limits}
use Rattle.ua_chunk.specs.Gathered.{ends}
use Rattle.ua_chunk.specs.Sequence.{may_follow}
use Rattle.ua_chunk.specs.declared.chunk.Chunk.{Chunk}
use Rattle.ua_chunk.specs.Assembling.{octet_limit, chunk_limit, last_number}
use Rattle.ua_opening.specs.declared.open.OpenAnswer.{OpenAnswer}
use Rattle.ua_opening.specs.declared.open.OpenAnswer.TheVariants.{Open}
use Rattle.ua_opening.specs.declared.secure_channel.OpenResponse.{OpenResponse}
use Rattle.ua_channel.specs.Asks.{Asking, is_in, calls, renewals, pending_calls, pending_renewals}
use Rattle.ua_channel.specs.ClientAsks.{Talks}
use Rattle.ua_channel.specs.inside.Parts.{MayEndIn}
use Rattle.ua_channel.specs.inside.ClientParts.{why_of, IsStopFor, Judged, IsOpenedBy, TellsRenewal, ClientTakesFrame, told_by_frame}
use Rattle.ua_channel.specs.inside.ClientParts.{IsAnswerOf, IsOpenedWith, IsRenewedWith, IsTakenWith, answer_reasons}
use Rattle.ua_channel.specs.inside.ClientParts.{first_reasons, kept_renewal_reasons, chunk_reasons, greeted, left_pending}
use Rattle.ua_channel.specs.ClientEvents.{event_parts}
use Rattle.ua_channel.specs.ClientTable.{client_reasons, is_awaited}
use Rattle.ua_channel.specs.ClientTokens.{answer_in, response_listed, id_listed, open_responses, opened_ids}
use Rattle.ua_channel.specs.ClientTokens.{first_channel, tokens_of, from_last, held_by, held_tokens}
use Rattle.ua_channel.specs.ClientTold.{ClientTold, ClientTold as told, ours, client_tells, told_response}
use Rattle.ua_channel.specs.Content.{Opening, Content, content, opening_of}
use Rattle.ua_channel.specs.Content.Content.{Opens, Sends}
use Rattle.ua_channel.specs.Received.{Received, after, listed, latest, number_or}
use Rattle.ua_channel.specs.declared.client.agreed.Agreed.{Agreed}
use Rattle.ua_channel.specs.declared.client.answer.Answer.{Answer}
use Rattle.ua_channel.specs.declared.client.event.Event.{Event}
use Rattle.ua_channel.specs.declared.end_fault.EndFault.{EndFault}
use Rattle.ua_channel.specs.declared.client.talking.Talking.{Talking}
use Rattle.ua_channel.proofs.Carried.{content_opn, content_msg}
use Rattle.ua_channel.proofs.ClientGreets.{judged_same}
use Rattle.ua_channel.proofs.Askings.{pending_below, pending_calls-more, pending_renewals-more, renewal_below, all-push}
use Rattle.ua_channel.proofs.ClientAsking.{first_unset}
use Rattle.ua_channel.proofs.HeldTokens.{held_by-used, held_by-push, latest-push, latest-from_last}

-- ---- what one opening adds

pub responses-push : (os : List Opening) (o : Opening) (r : OpenResponse) → answer_in o ≡ Some (Open r) → open_responses (os ++ o ∷ []) ≡ open_responses os
    ++ r ∷ []
unfolding open_responses
responses-push os o r is = flat_map-append (λ (p : Opening). response_listed (answer_in p)) os (o ∷ [])
    ∙ ap (λ (a : Option OpenAnswer). flat_map (λ (p : Opening). response_listed (answer_in p)) os ++ (response_listed a ++ [])) is

pub opened_ids-push : (os : List Opening) (o : Opening) (n : ℕ × ℕ) → o.numbers ≡ Some n → opened_ids (os ++ o ∷ []) ≡ opened_ids os ++ n.1 ∷ []
unfolding opened_ids
opened_ids-push os o n is = flat_map-append (λ (p : Opening). id_listed p.numbers) os (o ∷ [])
    ∙ ap (λ (a : Option (ℕ × ℕ)). flat_map (λ (p : Opening). id_listed p.numbers) os ++ (id_listed a ++ [])) is

pub tokens_of-push : (rs : List OpenResponse) (r : OpenResponse) → tokens_of (rs ++ r ∷ []) ≡ tokens_of rs ++ r.token_id ∷ []
unfolding tokens_of
tokens_of-push rs r = map-append (λ (q : OpenResponse). q.token_id) rs (r ∷ [])

pub channel_in-push : (rs : List OpenResponse) (r : OpenResponse) (n : ℕ) → first_channel rs ≡ Some n → first_channel (rs ++ r ∷ []) ≡ Some n
channel_in-push [] r n e = absurd cc
channel_in-push (q ∷ rs) r n e = e

-- ---- the first answer

pub no_responses : open_responses [] ≡ []
unfolding open_responses
no_responses = refl

pub no_ids : opened_ids [] ≡ []
unfolding opened_ids
no_ids = refl

pub no_tokens : tokens_of [] ≡ []
unfolding tokens_of
no_tokens = refl

pub nothing_pending : (cs : List Chunk) → pending_calls cs [] ≡ []
unfolding pending_calls calls
nothing_pending cs = refl

pub nothing_renewed : (ids : List ℕ) → pending_renewals ids [] ≡ []
unfolding pending_renewals renewals
nothing_renewed ids = refl

pub first_remain : (g : Agreed) (a : Answer) → first_reason (answer_reasons (greeted g) [] a) ≡ first_reason (first_reasons a)
unfolding held_tokens
first_remain g a = rw (no_responses, no_tokens) refl

is_first : (b : Bool) (n : ℕ) → eqb n 1 ≡ b → first_reason ((ours 0x8009_0000, not b) ∷ []) ≡ None → n < 2
is_first true n is e = omega (arith, eqb-true n 1 is)
is_first false n is e = absurd cc

module _ (limits : Limits) (g : Agreed) (a : Answer) (t : Talking) (o : Opening) (h : IsOpenedWith limits g a t) (ans : IsAnswerOf o a) where
  one_response : open_responses (o ∷ []) ≡ ans.response ∷ []
  one_response = responses-push [] o ans.response ans.answer_is ∙ ap (λ (rs : List OpenResponse). rs ++ ans.response ∷ []) no_responses

  one_id : opened_ids (o ∷ []) ≡ a.request ∷ []
  one_id = opened_ids-push [] o (a.sequence, a.request) ans.numbers_are ∙ ap (λ (ids : List ℕ). ids ++ a.request ∷ []) no_ids

  one_token : held_tokens (after (greeted g) (Opens o)) ≡ a.token ∷ []
  unfolding held_tokens
  one_token = ap tokens_of one_response
      ∙ (tokens_of-push [] ans.response ∙ (ap (λ (ts : List ℕ). ts ++ ans.response.token_id ∷ []) no_tokens ∙ ap (λ (n : ℕ). n ∷ []) ans.token_is))

  pub opened_tells : client_tells (greeted g) (Opens o) ≡ told.Opened t.channel t.newest ∷ []
  opened_tells = rw (no_responses, ans.answer_is) (ap (λ (n : ℕ). told.Opened n ans.response.token_id ∷ []) (ans.channel_is ∙ sym h.channel_is)
      ∙ ap (λ (n : ℕ). told.Opened t.channel n ∷ []) (ans.token_is ∙ sym h.newest_is))

  pub opened_talks : first_reason (first_reasons a) ≡ None → Talks limits t (after (greeted g) (Opens o)) []
  opened_talks none = record {
    ack_is = ap (λ (z : Agreed). Some z.ack) (sym h.agreed_is);
    channel_is = ap first_channel one_response ∙ ap (λ (n : ℕ). Some n) (ans.channel_is ∙ sym h.channel_is);
    tokens_are = h.tokens_are ∙ sym one_token;
    newest_is = ap latest one_token ∙ ap (λ (n : ℕ). Some n) (sym h.newest_is);
    pending_are = h.pending_are ∙ sym (nothing_pending []);
    few_pending = omega (arith, ap length h.pending_are);
    renewal_is = ap listed h.renewal_is ∙ sym (nothing_renewed (opened_ids (o ∷ [])));
    next_is = h.next_is;
    asked_below = tt;
    counted = refl;
    sent_below = tt;
    opened_below = subst (λ (ids : List ℕ). AllByRecursion (λ (id : ℕ). id < t.next) ids) (sym one_id)
        (omega (arith, is_first (eqb a.request 1) a.request refl none, h.next_is), tt);
    last_is = ap (number_or None) ans.numbers_are ∙ sym h.last_is;
    assembles = h.stands;
    octets = h.octets;
    chunks = h.chunks;
  }

-- ---- the answer to a renewal

same_one : (m n : ℕ) (b : Bool) → eqb m n ≡ b → (b || false) ≡ true → m ∷ [] ≡ n ∷ []
same_one m n true is e = ap (λ (k : ℕ). k ∷ []) (eqb-true m n is)
same_one m n false is e = absurd cc

one_of : (o : Option ℕ) (n : ℕ) → is_in n (listed o) ≡ true → listed o ≡ n ∷ []
one_of None n e = absurd cc
one_of (Some m) n e = same_one m n (eqb m n) refl e

-- an opening that comes after another is awaited where it answers the renewal
pub awaited_later : (rs : List OpenResponse) (opened : List ℕ) (asked : List Asking) (id n : ℕ) → first_channel rs ≡ Some n
    → is_awaited rs opened asked id ≡ is_in id (pending_renewals opened asked)
awaited_later [] opened asked id n e = absurd cc
awaited_later (r ∷ rs) opened asked id n e = refl

pub later_tells : (rs : List OpenResponse) (r : OpenResponse) (n : ℕ) → first_channel rs ≡ Some n → told_response rs r ≡ told.Renewed r.token_id
later_tells [] r n e = absurd cc
later_tells (q ∷ rs) r n e = refl

module _ (limits : Limits) (t : Talking) (before : Received) (asked : List Asking) (a : Answer) (h : Talks limits t before asked) where
  pub later_remain : first_reason (answer_reasons before asked a) ≡ first_reason (kept_renewal_reasons t a)
  later_remain =
      rw (
        h.channel_is,
        awaited_later (open_responses before.openings) (opened_ids before.openings) asked a.request t.channel h.channel_is,
        sym h.tokens_are,
        h.last_is,
        sym h.renewal_is,
      ) refl

  module _ (new : Talking) (o : Opening) (n : IsRenewedWith t a before.messages new) (ans : IsAnswerOf o a) where
    pub renewed_tells : client_tells before (Opens o) ≡ told.Renewed a.token ∷ []
    renewed_tells =
        rw ans.answer_is (ap (λ (e : ClientTold). e ∷ []) (later_tells (open_responses before.openings) ans.response t.channel h.channel_is
        ∙ ap (λ (k : ℕ). told.Renewed k) ans.token_is))

    more_responses : open_responses (before.openings ++ o ∷ []) ≡ open_responses before.openings ++ ans.response ∷ []
    more_responses = responses-push before.openings o ans.response ans.answer_is

    more_ids : opened_ids (before.openings ++ o ∷ []) ≡ opened_ids before.openings ++ a.request ∷ []
    more_ids = opened_ids-push before.openings o (a.sequence, a.request) ans.numbers_are

    unfold_held : held_tokens before ≡ held_by before.used (tokens_of (open_responses before.openings))
    unfolding held_tokens
    unfold_held = refl

    unfold_more : held_tokens (after before (Opens o)) ≡ held_by before.used (tokens_of (open_responses (before.openings ++ o ∷ [])))
    unfolding held_tokens
    unfold_more = refl

    more_tokens : is_in a.token t.tokens.items ≡ false → held_tokens (after before (Opens o)) ≡ held_tokens before ++ a.token ∷ []
    more_tokens fresh =
        unfold_more
        ∙ (ap (λ (rs : List OpenResponse). held_by before.used (tokens_of rs)) more_responses
        ∙ (ap (held_by before.used) (tokens_of-push (open_responses before.openings) ans.response
        ∙ ap (λ (k : ℕ). tokens_of (open_responses before.openings) ++ k ∷ []) ans.token_is)
        ∙ (held_by-push before.used a.token t.newest (tokens_of (open_responses before.openings)) (ap latest (sym unfold_held) ∙ h.newest_is)
        (ap (is_in a.token) (sym (h.tokens_are ∙ unfold_held)) ∙ fresh)
        ∙ ap (λ (ts : List ℕ). ts ++ a.token ∷ []) (sym unfold_held))))

    pub renewed_talks : is_in a.token t.tokens.items ≡ false → is_in a.request (listed t.renewal) ≡ true → Talks limits new (after before (Opens o)) asked
    renewed_talks fresh awaited =
        let one : pending_renewals (opened_ids before.openings) asked ≡ a.request ∷ [] = sym h.renewal_is ∙ one_of t.renewal a.request awaited in
        let below : a.request < t.next = renewal_below t.next a.request (opened_ids before.openings) asked h.asked_below
        (ap (is_in a.request) (sym h.renewal_is) ∙ awaited) in
        subst (λ (u : Talking). Talks limits u (after before (Opens o)) asked) (sym n.new_is) (record {
          ack_is = h.ack_is;
          channel_is = ap first_channel more_responses ∙ channel_in-push (open_responses before.openings) ans.response t.channel h.channel_is;
          tokens_are = n.tokens_are ∙ (ap (λ (ts : List ℕ). ts ++ a.token ∷ []) h.tokens_are ∙ sym (more_tokens fresh));
          newest_is = ap latest (more_tokens fresh) ∙ latest-push (held_tokens before) a.token;
          pending_are = h.pending_are;
          few_pending = h.few_pending;
          renewal_is =
              sym (ap (λ (ids : List ℕ). pending_renewals ids asked) more_ids ∙ pending_renewals-more (opened_ids before.openings) a.request asked one);
          next_is = h.next_is;
          asked_below = h.asked_below;
          counted = h.counted;
          sent_below = h.sent_below;
          opened_below = subst (λ (ids : List ℕ). AllByRecursion (λ (id : ℕ). id < t.next) ids) (sym more_ids)
              (all-push (λ (id : ℕ). id < t.next) (opened_ids before.openings) a.request h.opened_below below);
          last_is = ap (number_or before.last) ans.numbers_are ∙ sym n.last_is;
          assembles = n.stands;
          octets = sym n.limits.octets ∙ h.octets;
          chunks = sym n.limits.chunks ∙ h.chunks;
        })

-- ---- a chunk

length-by : (b : Bool) (p : ℕ → Bool) (id : ℕ) (ids : List ℕ) → length (filter p ids) ≤ length ids → length (if b then id ∷ filter p ids else filter p ids)
    ≤ suc (length ids)
length-by true p id ids le = omega (arith, le)
length-by false p id ids le = omega (arith, le)

length-filter : (p : ℕ → Bool) (ids : List ℕ) → length (filter p ids) ≤ length ids
length-filter p [] = omega arith
length-filter p (id ∷ ids) = length-by (p id) p id ids (length-filter p ids)

fewer : (b : Bool) (p : ℕ → Bool) (ids : List ℕ) → length (if b then filter p ids else ids) ≤ length ids
fewer true p ids = length-filter p ids
fewer false p ids = omega arith

module _ (limits : Limits) (t : Talking) (before : Received) (asked : List Asking) (c : Chunk) (h : Talks limits t before asked) where
  pub chunk_remain : first_reason (client_reasons limits before asked (Sends c)) ≡ first_reason (chunk_reasons t before.messages c)
  chunk_remain = rw (h.channel_is, sym h.tokens_are, h.last_is, h.octets, h.chunks, sym h.pending_are) refl

  module _ (new : Talking) (e : Option Event) (n : IsTakenWith t before.messages c new e) where
    unfold_used : held_tokens (after before (Sends c)) ≡ held_by (Some c.token) (tokens_of (open_responses before.openings))
    unfolding held_tokens
    unfold_used = refl

    unfold_was : held_tokens before ≡ held_by before.used (tokens_of (open_responses before.openings))
    unfolding held_tokens
    unfold_was = refl

    used_tokens : is_in c.token t.tokens.items ≡ true → held_tokens (after before (Sends c)) ≡ from_last c.token (held_tokens before)
    used_tokens has =
        unfold_used
        ∙ (held_by-used before.used c.token (tokens_of (open_responses before.openings)) (ap (is_in c.token) (sym (h.tokens_are ∙ unfold_was)) ∙ has)
        ∙ ap (from_last c.token) (sym unfold_was))

    pub taken_talks : is_in c.token t.tokens.items ≡ true → is_in c.request t.pending.items ≡ true → Talks limits new (after before (Sends c)) asked
    taken_talks has awaited =
        let below : c.request < t.next = pending_below t.next c.request before.messages asked h.asked_below (ap (is_in c.request) (sym h.pending_are) ∙ awaited)
        in
        let left : length (left_pending c t.pending.items) ≤ length t.pending.items = fewer (ends c) (λ (id : ℕ). not (eqb id c.request)) t.pending.items in
        subst (λ (u : Talking). Talks limits u (after before (Sends c)) asked) (sym n.new_is) (record {
          ack_is = h.ack_is;
          channel_is = h.channel_is;
          tokens_are = n.tokens_are ∙ (ap (from_last c.token) h.tokens_are ∙ sym (used_tokens has));
          newest_is = ap latest (used_tokens has) ∙ (latest-from_last c.token (held_tokens before) (ap (is_in c.token) (sym h.tokens_are) ∙ has) ∙ h.newest_is);
          pending_are = n.pending_are ∙ (ap (left_pending c) h.pending_are ∙ sym (pending_calls-more before.messages c asked));
          few_pending = omega (arith, ap length n.pending_are, left, h.few_pending);
          renewal_is = h.renewal_is;
          next_is = h.next_is;
          asked_below = h.asked_below;
          counted = h.counted;
          sent_below = all-push (λ (d : Chunk). d.request < t.next) before.messages c h.sent_below below;
          opened_below = h.opened_below;
          last_is = sym n.last_is;
          assembles = n.stands;
          octets = sym n.limits.octets ∙ h.octets;
          chunks = sym n.limits.chunks ∙ h.chunks;
        })

-- ---- what frames come to

pub first_tail : {A : Type 0} (a : A) (b : Bool) (rs : List (A × Bool)) → first_reason ((a, b) ∷ rs) ≡ None → first_reason rs ≡ None
first_tail a true rs e = absurd cc
first_tail a false rs e = e

last_unset : {A : Type 0} (a : A) (b : Bool) (rs : List (A × Bool)) → first_reason (rs ++ (a, b) ∷ []) ≡ None → b ≡ false
last_unset a b [] e = first_unset a b [] e
last_unset a b (r ∷ rs) e = last_unset a b rs (first_tail r.0 r.1 (rs ++ (a, b) ∷ []) e)

pub first_judged : (limits : Limits) (g : Agreed) (f : Frame) (a : Answer) (r : Result Talking EndFault) → f.kind ≡ Opn → IsAnswerOf (opening_of f.body) a
    → Judged (first_reasons a) (IsOpenedWith limits g a) r
    → Judged (client_reasons limits (greeted g) [] (content f)) (IsOpenedBy limits g (content f)) r
first_judged limits g f a r is ans h =
    subst (λ (c : Content). Judged (client_reasons limits (greeted g) [] c) (IsOpenedBy limits g c) r) (sym (content_opn f is))
    (judged_same (first_reasons a) (client_reasons limits (greeted g) [] (Opens (opening_of f.body))) (IsOpenedWith limits g a)
    (IsOpenedBy limits g (Opens (opening_of f.body))) r
    (ans.remain limits (greeted g) [] ∙ first_remain g a)
    (λ t none w. record {
      tells = opened_tells limits g a t (opening_of f.body) w ans;
      talks = opened_talks limits g a t (opening_of f.body) w ans none;
      ack_is = refl;
    }) h)

pub stopped_opn : (limits : Limits) (before : Received) (asked : List Asking) (f : Frame) (stop : EndFault) → f.kind ≡ Opn
    → ((l : Limits) (b : Received) (k : List Asking) → IsStopFor (client_reasons l b k (Opens (opening_of f.body))) stop)
    → IsStopFor (client_reasons limits before asked (content f)) stop
stopped_opn limits before asked f stop is h = subst (λ (c : Content). IsStopFor (client_reasons limits before asked c) stop) (sym (content_opn f is))
    (h limits before asked)

module _ (limits : Limits) (t : Talking) (before : Received) (asked : List Asking) (new : Talking) (h : Talks limits t before asked) where
  renewal_taken : (a : Answer) (o : Opening) (e : Option Event) → IsAnswerOf o a → first_reason (kept_renewal_reasons t a) ≡ None
      → TellsRenewal t a before.messages new e → ClientTakesFrame limits before asked (Opens o) new e
  renewal_taken a o e ans none w =
      let second = first_tail (ours 0x807F_0000) (not (eqb a.channel t.channel))
      ((ours 0x8087_0000, is_in a.token t.tokens.items) ∷ (ours 0x8088_0000, not (may_follow (last_number t.assembler) a.sequence))
      ∷ (ours 0x8009_0000, not (is_in a.request (listed t.renewal))) ∷ []) none in
      let third = first_tail (ours 0x8087_0000) (is_in a.token t.tokens.items)
      ((ours 0x8088_0000, not (may_follow (last_number t.assembler) a.sequence)) ∷ (ours 0x8009_0000, not (is_in a.request (listed t.renewal))) ∷ []) second
      in
      let fourth = first_tail (ours 0x8088_0000) (not (may_follow (last_number t.assembler) a.sequence))
      ((ours 0x8009_0000, not (is_in a.request (listed t.renewal))) ∷ []) third in
      record {
        tells = renewed_tells limits t before asked a h new o w.1 ans ∙ sym (ap told_by_frame w.0);
        parts = subst (λ (d : Option Event). MayEndIn before.messages (Opens o) (event_parts d)) (sym w.0) tt;
        talks =
            renewed_talks limits t before asked a h new o w.1 ans
            (first_unset (ours 0x8087_0000) (is_in a.token t.tokens.items)
            ((ours 0x8088_0000, not (may_follow (last_number t.assembler) a.sequence)) ∷ (ours 0x8009_0000, not (is_in a.request (listed t.renewal))) ∷ [])
            second)
            (not-false (is_in a.request (listed t.renewal)) (first_unset (ours 0x8009_0000) (not (is_in a.request (listed t.renewal))) [] fourth));
        ack_is = refl;
      }

  pub renewal_judged : (f : Frame) (a : Answer) (r : Result (Option Event) EndFault) → f.kind ≡ Opn → IsAnswerOf (opening_of f.body) a
      → Judged (kept_renewal_reasons t a) (TellsRenewal t a before.messages new) r
      → Judged (client_reasons limits before asked (content f)) (ClientTakesFrame limits before asked (content f) new) r
  renewal_judged f a r is ans j =
      subst (λ (c : Content). Judged (client_reasons limits before asked c) (ClientTakesFrame limits before asked c new) r) (sym (content_opn f is))
      (judged_same (kept_renewal_reasons t a) (client_reasons limits before asked (Opens (opening_of f.body))) (TellsRenewal t a before.messages new)
      (ClientTakesFrame limits before asked (Opens (opening_of f.body)) new) r
      (ans.remain limits before asked ∙ later_remain limits t before asked a h)
      (λ e none w. renewal_taken a (opening_of f.body) e ans none w) j)

  chunk_taken : (c : Chunk) (e : Option Event) → first_reason (chunk_reasons t before.messages c) ≡ None → IsTakenWith t before.messages c new e
      → ClientTakesFrame limits before asked (Sends c) new e
  chunk_taken c e none w =
      let refused = map (renamed_reason why_of) (reasons (octet_limit t.assembler) (chunk_limit t.assembler) (last_number t.assembler) before.messages c) in
      let second = first_tail (ours 0x807F_0000) (not (eqb c.channel t.channel))
      ((ours 0x8087_0000, not (is_in c.token t.tokens.items)) ∷ (refused ++ (ours 0x8009_0000, not (is_in c.request t.pending.items)) ∷ [])) none in
      let third = first_tail (ours 0x8087_0000) (not (is_in c.token t.tokens.items)) (refused ++ (ours 0x8009_0000, not (is_in c.request t.pending.items)) ∷ [])
      second in
      record {
        tells = w.tells;
        parts = w.parts;
        talks = taken_talks limits t before asked c h new e w
            (not-false (is_in c.token t.tokens.items)
            (first_unset (ours 0x8087_0000) (not (is_in c.token t.tokens.items)) (refused ++ (ours 0x8009_0000, not (is_in c.request t.pending.items)) ∷ [])
            second))
            (not-false (is_in c.request t.pending.items) (last_unset (ours 0x8009_0000) (not (is_in c.request t.pending.items)) refused third));
        ack_is = refl;
      }

  pub chunk_judged : (f : Frame) (c : Chunk) (r : Result (Option Event) EndFault) → f.kind ≡ Msg → chunk_in f ≡ Some c
      → Judged (chunk_reasons t before.messages c) (IsTakenWith t before.messages c new) r
      → Judged (client_reasons limits before asked (content f)) (ClientTakesFrame limits before asked (content f) new) r
  chunk_judged f c r is found j =
      subst (λ (d : Content). Judged (client_reasons limits before asked d) (ClientTakesFrame limits before asked d new) r) (sym (content_msg f c is found))
      (judged_same (chunk_reasons t before.messages c) (client_reasons limits before asked (Sends c)) (IsTakenWith t before.messages c new)
      (ClientTakesFrame limits before asked (Sends c) new) r
      (chunk_remain limits t before asked c h)
      (λ e none w. chunk_taken c e none w) j)

-- That each call of a client is answered once.
use Rattle.std.proofs.Common.{◌≡◌, ℕ, List, [], ◌∷◌, ◌++◌, Bool, true, false, cond, not, ◌&&◌, ◌||◌, eqb, ltb}
use Rattle.std.proofs.Common.{map, Option, Some, None, refl, sym, ◌∙◌, ap, append-nil, append_assoc}
use Rattle.std.specs.List.{AllByRecursion, filter}
use Rattle.std.proofs.lemmas.Bool.{or_parts, eqb-true, not-false, not-true, or_right}
use Rattle.std.proofs.lemmas.List.Elements.{filter-append}
use Rattle.ua_builtin.specs.Reasons.{first_reason}
use Rattle.ua_builtin.specs.declared.status_code.StatusCode.{StatusCode}
use Rattle.ua_frame.specs.declared.ack.Ack.{Ack}
use Rattle.ua_frame.specs.declared.frame.Frame.{Frame}
use Rattle.ua_frame.specs.declared.limits.Limits.{Limits}
use Rattle.ua_frame.specs.After.{AllFrom, AllAfter, each_from, each_after}
use Rattle.ua_frame.specs.Run.{Fits, events}
use Rattle.ua_chunk.specs.declared.chunk.Chunk.{Chunk}
use Rattle.ua_chunk.specs.declared.flag.Flag.{Flag}
use Rattle.ua_chunk.specs.declared.flag.Flag.TheVariants.{F, C, A}
use Rattle.ua_chunk.specs.Abort.{abort_of}
use Rattle.ua_chunk.specs.Delivered.{aborted, delivered, given, given_by}
use Rattle.ua_chunk.specs.Flag.{is_more_flag}
use Rattle.ua_chunk.specs.Gathered.{is_of, ends, gathered, joined}
use Rattle.ua_chunk.specs.Item.{Item}
use Rattle.ua_chunk.specs.Item.Item.{Whole, Aborted}
use Rattle.ua_chunk.specs.Merge.{is_item_of}
use Rattle.ua_chunk.proofs.OneMore.{delivered_push, delivered_from}
use Rattle.ua_opening.specs.declared.secure_channel.OpenResponse.{OpenResponse}
use Rattle.ua_channel.specs.Asks.{Asking, Placed, asked_before, asked_in, calls, end_of, is_finished, is_in, pending_calls}
use Rattle.ua_channel.specs.Asks.Asking.{Call, Renewal}
use Rattle.ua_channel.specs.ClientTable.{client_reasons, client_rules}
use Rattle.ua_channel.specs.ClientTokens.{answer_in, response_listed, open_responses}
use Rattle.ua_channel.specs.ClientTold.{client_tells, told_ack, told_item, told_response}
use Rattle.ua_channel.specs.Content.{Content, content}
use Rattle.ua_channel.specs.Content.Content.{Greets, Acks, Fails, Opens, Sends, Closes, Nothing}
use Rattle.ua_channel_laws.specs.Paired.{as_list, delivered_under, first, paired, told_of_calls, with_all, with_first_item, is_of_call}
use Rattle.ua_channel.specs.Received.{Received, after, listed, received}
use Rattle.ua_channel.proofs.Askings.{within_filter, passes_filter}
use Rattle.ua_channel.proofs.OneFrameMore.{found_all, given_in, none_delivered, received-push}

-- ---- what is told

items_told : (items : List Item) → told_of_calls (map told_item items) ≡ map told_item items
items_told [] = refl
items_told (Whole id octets ∷ is) = rw (items_told is)
items_told (Aborted id code reason ∷ is) = rw (items_told is)

ack_told : (o : Option Ack) → told_of_calls (told_ack o) ≡ []
ack_told None = refl
ack_told (Some a) = refl

responses_told : (before rs : List OpenResponse) → told_of_calls (map (told_response before) rs) ≡ []
responses_told before [] = refl
responses_told [] (r ∷ rs) = responses_told [] rs
responses_told (q ∷ qs) (r ∷ rs) = responses_told (q ∷ qs) rs

frame_told : (b : Received) (c : Content) → told_of_calls (client_tells b c) ≡ map told_item (given_in b c)
frame_told b (Greets hello) = refl
frame_told b (Acks ack) = ack_told ack
frame_told b (Fails error) = refl
frame_told b (Opens o) = responses_told (open_responses b.openings) (response_listed (answer_in o))
frame_told b (Sends c) = items_told (given b.messages c)
frame_told b (Closes c) = refl
frame_told b Nothing = refl

pub tells_delivered : (limits : Limits) (asks : List Placed) (frames : List Frame) → told_of_calls (events (client_rules limits asks) frames)
    ≡ map told_item (delivered (received frames).messages)
unfolding each_after
tells_delivered limits asks frames = found_all told_of_calls told_item client_tells refl (filter-append is_of_call) frame_told frames

-- ---- what one chunk delivers

one_of : (b : Bool) (x : Item) → cond b (x ∷ []) [] ≡ listed (first (cond b (x ∷ []) []))
one_of true x = refl
one_of false x = refl

aborted_once : (id r : ℕ) (o : Option (StatusCode × Option (List ℕ)))
    → filter (is_item_of id) (aborted r o) ≡ listed (first (filter (is_item_of id) (aborted r o)))
aborted_once id r None = refl
aborted_once id r (Some a) = one_of (eqb r id) (Aborted r a.0 a.1)

given_once : (id : ℕ) (f : Flag) (cs : List Chunk) (c : Chunk)
    → filter (is_item_of id) (given_by f cs c) ≡ listed (first (filter (is_item_of id) (given_by f cs c)))
given_once id F cs c = one_of (eqb c.request id) (Whole c.request (joined (gathered cs c)))
given_once id C cs c = refl
given_once id A cs c = aborted_once id c.request (abort_of c.body)

aborted_other : (id r : ℕ) (o : Option (StatusCode × Option (List ℕ))) → eqb r id ≡ false → filter (is_item_of id) (aborted r o) ≡ []
aborted_other id r None e = refl
aborted_other id r (Some a) e = rw e

given_other : (id : ℕ) (f : Flag) (cs : List Chunk) (c : Chunk) → eqb c.request id ≡ false → filter (is_item_of id) (given_by f cs c) ≡ []
given_other id F cs c e = rw e
given_other id C cs c e = refl
given_other id A cs c e = aborted_other id c.request (abort_of c.body) e

left_false : (b : Bool) → (b && true) ≡ false → b ≡ false
left_false true e = absurd cc
left_false false e = refl

given_none : (id : ℕ) (f : Flag) (cs : List Chunk) (c : Chunk) → (eqb c.request id && not (is_more_flag f)) ≡ false
    → filter (is_item_of id) (given_by f cs c) ≡ []
given_none id F cs c e = given_other id F cs c (left_false (eqb c.request id) e)
given_none id C cs c e = refl
given_none id A cs c e = given_other id A cs c (left_false (eqb c.request id) e)

-- ---- what chunks deliver that do not finish a message

unfinished_from : (id : ℕ) (start cs : List Chunk) → is_finished cs id ≡ false → filter (is_item_of id) (each_from given start cs) ≡ []
unfinished_from id start [] e = refl
unfinished_from id start (c ∷ cs) e =
    let parts = or_parts (is_of id c && ends c) (is_finished cs id) e in
    filter-append (is_item_of id) (given start c) (each_from given (start ++ c ∷ []) cs)
    ∙ (rw (given_none id c.flag start c parts.0) (unfinished_from id (start ++ c ∷ []) cs parts.1))

unfinished_none : (id : ℕ) (cs : List Chunk) → is_finished cs id ≡ false → delivered_under id cs ≡ []
unfinished_none id cs e = ap (filter (is_item_of id)) (delivered_from cs) ∙ unfinished_from id [] cs e

under_push : (id : ℕ) (cs : List Chunk) (c : Chunk) → delivered_under id (cs ++ c ∷ []) ≡ delivered_under id cs ++ filter (is_item_of id) (given cs c)
under_push id cs c = ap (filter (is_item_of id)) (delivered_push cs c) ∙ filter-append (is_item_of id) (delivered cs) (given cs c)

-- ---- what was asked

still_pending : (cs : List Chunk) (asked : List Asking) (id : ℕ) → is_in id (pending_calls cs asked) ≡ true → is_finished cs id ≡ false
unfolding pending_calls
still_pending cs asked id e = not-true (is_finished cs id) (passes_filter (λ (j : ℕ). not (is_finished cs j)) id (calls asked) e)

or_more : (a b c : Bool) → (b ≡ true → c ≡ true) → (a || b) ≡ true → (a || c) ≡ true
or_more true b c h e = refl
or_more false b c h e = h e

asked_step : (kept : Bool) (a : Asking) (id : ℕ) (some all : List Asking) → (is_in id (calls some) ≡ true → is_in id (calls all) ≡ true)
    → is_in id (calls (cond kept (a ∷ some) some)) ≡ true → is_in id (calls (a ∷ all)) ≡ true
unfolding calls
asked_step true (Call j) id some all h e = or_more (eqb j id) (is_in id (calls some)) (is_in id (calls all)) h e
asked_step true (Renewal j) id some all h e = h e
asked_step false (Call j) id some all h e = or_right (eqb j id) (is_in id (calls all)) (h e)
asked_step false (Renewal j) id some all h e = h e

map_cond : (kept : Bool) (a : Placed) (some : List Placed) → map (λ (b : Placed). b.1) (cond kept (a ∷ some) some)
    ≡ cond kept (a.1 ∷ map (λ (b : Placed). b.1) some) (map (λ (b : Placed). b.1) some)
map_cond true a some = refl
map_cond false a some = refl

asked_within : (place id : ℕ) (asks : List Placed) → is_in id (calls (asked_before place asks)) ≡ true → is_in id (calls (asked_in asks)) ≡ true
unfolding asked_before asked_in
asked_within place id [] e = e
asked_within place id (a ∷ asks) e =
    asked_step (ltb a.0 place) a.1 id (asked_before place asks) (asked_in asks) (asked_within place id asks)
    (rw (sym (map_cond (ltb a.0 place) a (filter (λ (b : Placed). ltb b.0 place) asks))) e)

pending_within : (place id : ℕ) (cs : List Chunk) (asks : List Placed) → is_in id (pending_calls cs (asked_before place asks)) ≡ true
    → is_in id (calls (asked_in asks)) ≡ true
unfolding pending_calls
pending_within place id cs asks e = asked_within place id asks (within_filter (λ (j : ℕ). not (is_finished cs j)) id (calls (asked_before place asks)) e)

-- ---- at most one item under each request id, and none but of a call

record Answers (asks : List Placed) (cs : List Chunk) : Type 0 where
  once : (id : ℕ) → delivered_under id cs ≡ listed (first (delivered_under id cs))
  no_other : (id : ℕ) → is_in id (calls (asked_in asks)) ≡ false → delivered_under id cs ≡ []

once_same : (xs ys : List Item) → ys ≡ xs → xs ≡ listed (first xs) → ys ≡ listed (first ys)
once_same xs ys e h = e ∙ (h ∙ rw (sym e))

module _ (asks : List Placed) (place : ℕ) (cs : List Chunk) (c : Chunk) (answers : Answers asks cs)
    (pending : is_in c.request (pending_calls cs (asked_before place asks)) ≡ true) where
  own : (id : ℕ) → eqb c.request id ≡ true → delivered_under id (cs ++ c ∷ []) ≡ filter (is_item_of id) (given cs c)
  own id same =
      under_push id cs c
      ∙ rw (ap (λ (n : ℕ). delivered_under n cs) (sym (eqb-true c.request id same))
      ∙ unfinished_none c.request cs (still_pending cs (asked_before place asks) c.request pending))

  others : (id : ℕ) → eqb c.request id ≡ false → delivered_under id (cs ++ c ∷ []) ≡ delivered_under id cs
  others id other =
      under_push id cs c
      ∙ (rw (given_other id c.flag cs c other) (append-nil (delivered_under id cs)))

  once_by : (b : Bool) (id : ℕ) → eqb c.request id ≡ b → delivered_under id (cs ++ c ∷ []) ≡ listed (first (delivered_under id (cs ++ c ∷ [])))
  once_by true id same = once_same (filter (is_item_of id) (given cs c)) (delivered_under id (cs ++ c ∷ [])) (own id same) (given_once id c.flag cs c)
  once_by false id other = once_same (delivered_under id cs) (delivered_under id (cs ++ c ∷ [])) (others id other) (answers.once id)

  was_asked : is_in c.request (calls (asked_in asks)) ≡ true
  was_asked = pending_within place c.request cs asks pending

  no_other_by : (b : Bool) (id : ℕ) → eqb c.request id ≡ b → is_in id (calls (asked_in asks)) ≡ false → delivered_under id (cs ++ c ∷ []) ≡ []
  no_other_by true id same not_asked =
      let was : is_in id (calls (asked_in asks)) ≡ true = rw (sym (eqb-true c.request id same)) was_asked in
      let clash : ◌≡◌ {A = Bool} true false = sym was ∙ not_asked in
      absurd cc
  no_other_by false id other not_asked = others id other ∙ answers.no_other id not_asked

  chunk_answers : Answers asks (cs ++ c ∷ [])
  chunk_answers = record {
    once = λ id. once_by (eqb c.request id) id refl;
    no_other = λ id. no_other_by (eqb c.request id) id refl;
  }

-- ---- the frames that a client takes

pub none_holds : {A : Type 0} (rs : List (A × Bool)) → first_reason rs ≡ None → AllByRecursion (λ (r : A × Bool). r.1 ≡ false) rs
none_holds [] e = tt
none_holds ((a, true) ∷ rs) e = absurd cc
none_holds ((a, false) ∷ rs) e = (refl, none_holds rs e)

asked_for : (limits : Limits) (before : Received) (asked : List Asking) (c : Chunk) → first_reason (client_reasons limits before asked (Sends c)) ≡ None
    → is_in c.request (pending_calls before.messages asked) ≡ true
asked_for limits before asked c e =
    let all = none_holds (client_reasons limits before asked (Sends c)) e in
    not-false (is_in c.request (pending_calls before.messages asked)) all.1.1.1.1.1.1.1.1.1.1.1.1.0

frame_answers : (limits : Limits) (asks : List Placed) (place : ℕ) (before : Received) (c : Content)
    → first_reason (client_reasons limits before (asked_before place asks) c) ≡ None → Answers asks before.messages → Answers asks (after before c).messages
frame_answers limits asks place before (Greets hello) e h = h
frame_answers limits asks place before (Acks ack) e h = h
frame_answers limits asks place before (Fails error) e h = h
frame_answers limits asks place before (Opens o) e h = h
frame_answers limits asks place before (Sends c) e h = chunk_answers asks place before.messages c h (asked_for limits before (asked_before place asks) c e)
frame_answers limits asks place before (Closes c) e h = h
frame_answers limits asks place before Nothing e h = h

answers_from : (limits : Limits) (asks : List Placed) (start fs : List Frame) → Answers asks (received start).messages
    → AllFrom (Fits (client_rules limits asks)) start fs → Answers asks (received (start ++ fs)).messages
answers_from limits asks start [] h fits = rw (append-nil start) h
answers_from limits asks start (f ∷ fs) h fits =
    let next : Answers asks (received (start ++ f ∷ [])).messages =
    rw (received-push start f) (frame_answers limits asks (end_of start f) (received start) (content f) fits.0.accepted h) in
    rw (← append_assoc start (f ∷ []) fs) (answers_from limits asks (start ++ f ∷ []) fs next fits.1)

nothing_answers : (asks : List Placed) → Answers asks (received []).messages
nothing_answers asks =
    let none : (id : ℕ) → delivered_under id (received []).messages ≡ [] = λ id. ap (filter (is_item_of id)) none_delivered in
    record {
      once = λ id. once_same [] (delivered_under id (received []).messages) (none id) refl;
      no_other = λ id not_asked. none id;
    }

all_answers : (limits : Limits) (asks : List Placed) (frames : List Frame) → AllAfter (Fits (client_rules limits asks)) frames
    → Answers asks (received frames).messages
unfolding AllAfter
all_answers limits asks frames fits = answers_from limits asks [] frames (nothing_answers asks) fits

each_paired : (cs : List Chunk) (ids : List ℕ) → ((id : ℕ) → delivered_under id cs ≡ listed (first (delivered_under id cs)))
    → map (with_all cs) ids ≡ map as_list (map (with_first_item cs) ids)
each_paired cs [] once = refl
each_paired cs (id ∷ ids) once =
    ap (λ (ps : List (ℕ × List Item)). with_all cs id ∷ ps) (each_paired cs ids once)
    ∙ ap (λ (is : List Item). with_delivered id is ∷ map as_list (map (with_first_item cs) ids)) (once id)
  where
    with_delivered : ℕ → List Item → ℕ × List Item
    with_delivered n is = (n, is)

pub pairs_once : (limits : Limits) (asks : List Placed) (frames : List Frame) → AllAfter (Fits (client_rules limits asks)) frames
    → map (with_all (received frames).messages) (calls (asked_in asks)) ≡ map as_list (paired (asked_in asks) (received frames).messages)
unfolding paired
pairs_once limits asks frames fits = each_paired (received frames).messages (calls (asked_in asks)) (all_answers limits asks frames fits).once

pub pairs_no_other : (limits : Limits) (asks : List Placed) (frames : List Frame) (id : ℕ) → AllAfter (Fits (client_rules limits asks)) frames
    → is_in id (calls (asked_in asks)) ≡ false → delivered_under id (received frames).messages ≡ []
pairs_no_other limits asks frames id fits not_asked = (all_answers limits asks frames fits).no_other id not_asked

-- Which renewals are answered: each further token that came answers one.
use Rattle.std.specs.Prelude.{◌≡◌, ℕ, ◌+◌, ◌≤◌, Bool, true, false, cond, not, ◌&&◌, ◌||◌, if◌then◌else◌, List, [], ◌∷◌, ◌++◌, length, map, Option, Some, None}
use Rattle.std.proofs.Common.{refl, sym, ◌∙◌, ap, subst, eqb, ltb, append_assoc, append-nil, arith}
use Rattle.std.specs.List.{filter, flat_map, list_any, AllByRecursion}
use Rattle.std.proofs.lemmas.Bool.{eqb-true}
use Rattle.std.proofs.lemmas.List.{length-append, map-append}
use Rattle.std.proofs.lemmas.Grind.{flat_map-append}
use Rattle.std.proofs.lemmas.List.Folds.{list_any-append}
use Rattle.ua_builtin.specs.Reasons.{first_reason}
use Rattle.ua_frame.specs.After.{AllFrom, AllAfter, each_from, each_after}
use Rattle.ua_frame.specs.Run.{Fits, events}
use Rattle.ua_frame.specs.declared.ack.Ack.{Ack}
use Rattle.ua_frame.specs.declared.frame.Frame.{Frame}
use Rattle.ua_frame.specs.declared.limits.Limits.{Limits}
use Rattle.ua_chunk.proofs.Lists.{filter_append}
use Rattle.ua_chunk.specs.Delivered.{given}
use Rattle.ua_chunk.specs.Item.{Item}
use Rattle.ua_chunk.specs.Item.Item.{Whole, Aborted}
use Rattle.ua_opening.specs.declared.open.OpenAnswer.{OpenAnswer}
use Rattle.ua_opening.specs.declared.open.OpenAnswer.TheVariants.{Open, Fault}
use Rattle.ua_opening.specs.declared.secure_channel.OpenResponse.{OpenResponse}
use Rattle.ua_channel.specs.Asks.{Asking, Placed, asked_before, asked_in, end_of, is_in, pending_renewals, renewals}
use Rattle.ua_channel.specs.Asks.Asking.{Call, Renewal}
use Rattle.ua_channel.specs.ClientTable.{client_reasons, client_rules, is_awaited, of_numbers}
use Rattle.ua_channel.specs.ClientTokens.{answer_in, answer_behind, from_last, held_by, held_tokens}
use Rattle.ua_channel.specs.ClientTokens.{id_listed, opened_ids, response_listed, open_responses, tokens_of}
use Rattle.ua_channel.specs.ClientTold.{ClientTold, client_tells, told_ack, told_item, told_response}
use Rattle.ua_channel.specs.ClientTold.ClientTold.{Agreed, Answered, GaveUp, Renewed}
use Rattle.ua_channel.specs.Content.{Content, Opening, content}
use Rattle.ua_channel.specs.Content.Content.{Greets, Acks, Fails, Opens, Sends, Closes, Nothing}
use Rattle.ua_channel.specs.Received.{Received, after, has_some, latest, received}
use Rattle.ua_channel.proofs.ClientTalks.{responses-push}
use Rattle.ua_channel.proofs.HeldTokens.{latest-push}
use Rattle.ua_channel.proofs.OneFrameMore.{received-push}
use Rattle.ua_client.specs.Opening.{is_opened}
use Rattle.ua_client.specs.Renewing.{is_renewed}

-- ---- lists that keep less

fewer-by : (b c : Bool) (j : ℕ) (us vs : List ℕ) → (c ≡ true → b ≡ true) → length vs ≤ length us → length (cond c (j ∷ vs) vs) ≤ length (cond b (j ∷ us) us)
fewer-by true true j us vs keeps h = omega (arith, h)
fewer-by true false j us vs keeps h = omega (arith, h)
fewer-by false true j us vs keeps h = let e = keeps refl in absurd cc
fewer-by false false j us vs keeps h = h

-- a stricter test keeps no more
filter-fewer : (p q : ℕ → Bool) → ((j : ℕ) → q j ≡ true → p j ≡ true) → (ids : List ℕ) → length (filter q ids) ≤ length (filter p ids)
filter-fewer p q keeps [] = omega arith
filter-fewer p q keeps (j ∷ ids) = fewer-by (p j) (q j) j (filter p ids) (filter q ids) (keeps j) (filter-fewer p q keeps ids)

within-by : (b : Bool) (j : ℕ) (us vs : List ℕ) → length us ≤ length vs → length (cond b (j ∷ us) us) ≤ length (j ∷ vs)
within-by true j us vs h = omega (arith, h)
within-by false j us vs h = omega (arith, h)

-- and no more than there were
filter-within : (p : ℕ → Bool) (ids : List ℕ) → length (filter p ids) ≤ length ids
filter-within p [] = omega arith
filter-within p (j ∷ ids) = within-by (p j) j (filter p ids) ids (filter-within p ids)

less-by : (b c found : Bool) (id j : ℕ) (us vs : List ℕ) → eqb j id ≡ found → (c ≡ true → b ≡ true) → (found ≡ true → c ≡ false) → length vs ≤ length us
    → (is_in id us ≡ true → length vs + 1 ≤ length us)
    → is_in id (cond b (j ∷ us) us) ≡ true → length (cond c (j ∷ vs) vs) + 1 ≤ length (cond b (j ∷ us) us)
less-by true true true id j us vs is keeps drops few h i = let e = drops refl in absurd cc
less-by true true false id j us vs is keeps drops few h i =
    let less : length vs + 1 ≤ length us = h (ap (λ (b : Bool). b || is_in id us) (sym is) ∙ i) in
    omega (arith, less)
less-by true false found id j us vs is keeps drops few h i = omega (arith, few)
less-by false true found id j us vs is keeps drops few h i = let e = keeps refl in absurd cc
less-by false false found id j us vs is keeps drops few h i = h i

-- and less, where it drops one that was kept
filter-less : (p q : ℕ → Bool) (id : ℕ) → ((j : ℕ) → q j ≡ true → p j ≡ true) → ((j : ℕ) → eqb j id ≡ true → q j ≡ false) → (ids : List ℕ)
    → is_in id (filter p ids) ≡ true → length (filter q ids) + 1 ≤ length (filter p ids)
filter-less p q id keeps drops [] i = absurd cc
filter-less p q id keeps drops (j ∷ ids) i =
    less-by (p j) (q j) (eqb j id) id j (filter p ids) (filter q ids) refl (keeps j) (drops j) (filter-fewer p q keeps ids) (filter-less p q id keeps drops ids)
    i

-- ---- what is pending with one opening more

not-or : (a b : Bool) → not (a || b) ≡ true → not a ≡ true
not-or true b e = absurd cc
not-or false b e = refl

or-not : (a b : Bool) → b ≡ true → not (a || b) ≡ false
or-not true b e = refl
or-not false true e = refl
or-not false false e = absurd cc

is_in-append : (id : ℕ) (ns ms : List ℕ) → is_in id (ns ++ ms) ≡ (is_in id ns || is_in id ms)
is_in-append id ns ms = list_any-append (λ (m : ℕ). eqb m id) ns ms

is_in-self : (j id : ℕ) → eqb j id ≡ true → is_in j (id ∷ []) ≡ true
is_in-self j id same = let e = eqb-true j id same in grind (e, arith)

more-opened : (opened more : List ℕ) (j : ℕ) → not (is_in j (opened ++ more)) ≡ true → not (is_in j opened) ≡ true
more-opened opened more j h = not-or (is_in j opened) (is_in j more) (ap not (sym (is_in-append j opened more)) ∙ h)

-- no more are pending behind further openings
pub pending-fewer : (opened more : List ℕ) (asked : List Asking) → length (pending_renewals (opened ++ more) asked) ≤ length (pending_renewals opened asked)
unfolding pending_renewals
pending-fewer opened more asked = filter-fewer (λ (j : ℕ). not (is_in j opened)) (λ (j : ℕ). not (is_in j (opened ++ more))) (more-opened opened more)
    (renewals asked)

-- and less, where one of them is answered
pub pending-less : (opened : List ℕ) (id : ℕ) (asked : List Asking) → is_in id (pending_renewals opened asked) ≡ true
    → length (pending_renewals (opened ++ id ∷ []) asked) + 1 ≤ length (pending_renewals opened asked)
unfolding pending_renewals
pending-less opened id asked i =
    filter-less (λ (j : ℕ). not (is_in j opened)) (λ (j : ℕ). not (is_in j (opened ++ id ∷ []))) id (more-opened opened (id ∷ []))
    (λ j same. ap not (is_in-append j opened (id ∷ [])) ∙ or-not (is_in j opened) (is_in j (id ∷ [])) (is_in-self j id same))
    (renewals asked) i

-- ---- what was asked before a place was asked

or-right : (a b : Bool) → b ≡ true → (a || b) ≡ true
or-right true b e = refl
or-right false b e = e

or-either : (a b c : Bool) → (b ≡ true → c ≡ true) → (a || b) ≡ true → (a || c) ≡ true
or-either true b c more e = refl
or-either false b c more e = more e

either-kept : (kept found : Bool) (j id : ℕ) (us vs : List ℕ) → eqb j id ≡ found → (is_in id us ≡ true → is_in id vs ≡ true)
    → is_in id (cond kept (j ∷ us) us) ≡ true → is_in id (cond kept (j ∷ vs) vs) ≡ true
either-kept true found j id us vs is more i = or-either (eqb j id) (is_in id us) (is_in id vs) more i
either-kept false found j id us vs is more i = more i

kept-more : (kept : Bool) (j id : ℕ) (vs : List ℕ) → is_in id vs ≡ true → is_in id (cond kept (j ∷ vs) vs) ≡ true
kept-more true j id vs i = or-right (eqb j id) (is_in id vs) i
kept-more false j id vs i = i

was-asked-by : (b : Bool) (test : ℕ → Bool) (id : ℕ) (a : Asking) (earlier later : List Asking)
    → (is_in id (filter test (renewals earlier)) ≡ true → is_in id (filter test (renewals later)) ≡ true)
    → is_in id (filter test (renewals (cond b (a ∷ earlier) earlier))) ≡ true → is_in id (filter test (renewals (a ∷ later))) ≡ true
unfolding renewals
was-asked-by true test id (Call n) earlier later more i = more i
was-asked-by false test id (Call n) earlier later more i = more i
was-asked-by true test id (Renewal n) earlier later more i = either-kept (test n) (eqb n id) n id (filter test (renewals earlier))
    (filter test (renewals later)) refl more i
was-asked-by false test id (Renewal n) earlier later more i = kept-more (test n) n id (filter test (renewals later)) (more i)

cond-map : (b : Bool) (a : Placed) (rest : List Placed) → map (λ (x : Placed). x.1) (cond b (a ∷ rest) rest) ≡ cond b (a.1 ∷ map (λ (x : Placed). x.1) rest)
    (map (λ (x : Placed). x.1) rest)
cond-map true a rest = refl
cond-map false a rest = refl

was-asked : (place : ℕ) (test : ℕ → Bool) (id : ℕ) (asks : List Placed) → is_in id (filter test (renewals (asked_before place asks))) ≡ true
    → is_in id (filter test (renewals (asked_in asks))) ≡ true
unfolding asked_before asked_in
was-asked place test id [] i = i
was-asked place test id (a ∷ asks) i =
    was-asked-by (ltb a.0 place) test id a.1 (asked_before place asks) (asked_in asks) (was-asked place test id asks)
    (ap (λ (earlier : List Asking). is_in id (filter test (renewals earlier))) (sym (cond-map (ltb a.0 place) a (filter (λ (x : Placed). ltb x.0 place) asks)))
    ∙ i)

was-pending-all : (place : ℕ) (opened : List ℕ) (id : ℕ) (asks : List Placed) → is_in id (pending_renewals opened (asked_before place asks)) ≡ true
    → is_in id (pending_renewals opened (asked_in asks)) ≡ true
unfolding pending_renewals
was-pending-all place opened id asks i = was-asked place (λ (j : ℕ). not (is_in j opened)) id asks i

-- ---- what a frame tells

-- how many further tokens were told
abbrev pub tokens-told : List ClientTold → ℕ
tokens-told told = length (filter is_renewed told)

pub tokens-append : (us vs : List ClientTold) → tokens-told (us ++ vs) ≡ tokens-told us + tokens-told vs
tokens-append us vs = ap length (filter_append is_renewed us vs) ∙ length-append (filter is_renewed us) (filter is_renewed vs)

items-none : (items : List Item) → tokens-told (map told_item items) ≡ 0
items-none [] = refl
items-none (Whole id octets ∷ items) = items-none items
items-none (Aborted id code reason ∷ items) = items-none items

ack-none : (o : Option Ack) → tokens-told (told_ack o) ≡ 0
ack-none None = refl
ack-none (Some a) = refl

-- ---- by the reasons

pub none-holds : {A : Type 0} (rs : List (A × Bool)) → first_reason rs ≡ None → AllByRecursion (λ (r : A × Bool). r.1 ≡ false) rs
none-holds [] e = tt
none-holds ((a, true) ∷ rs) e = absurd cc
none-holds ((a, false) ∷ rs) e = (refl, none-holds rs e)

was-so : (b : Bool) → not b ≡ false → b ≡ true
was-so true e = refl
was-so false e = absurd cc

-- the request id of an OPN that is taken behind the first one is that of a renewal that is pending
answers-pending : (limits : Limits) (before : Received) (place : ℕ) (asks : List Placed) (o : Opening) (n : ℕ × ℕ) (q : OpenResponse) (qs : List OpenResponse)
    → o.numbers ≡ Some n → open_responses before.openings ≡ q ∷ qs
    → first_reason (client_reasons limits before (asked_before place asks) (Opens o)) ≡ None
    → is_in n.1 (pending_renewals (opened_ids before.openings) (asked_in asks)) ≡ true
answers-pending limits before place asks o n q qs numbers some e =
    let all = none-holds (client_reasons limits before (asked_before place asks) (Opens o)) e in
    let one : of_numbers (λ m. not (is_awaited (open_responses before.openings) (opened_ids before.openings) (asked_before place asks) m.1)) (Some n) ≡ false =
    subst (λ (m : Option (ℕ × ℕ)).
    of_numbers (λ k. not (is_awaited (open_responses before.openings) (opened_ids before.openings) (asked_before place asks) k.1)) m
    ≡ false) numbers all.1.1.1.1.1.1.1.1.1.1.1.1.0 in
    let awaited : is_awaited (q ∷ qs) (opened_ids before.openings) (asked_before place asks) n.1 ≡ true =
    ap (λ (rs : List OpenResponse). is_awaited rs (opened_ids before.openings) (asked_before place asks) n.1) (sym some)
    ∙ was-so (is_awaited (open_responses before.openings) (opened_ids before.openings) (asked_before place asks) n.1) one in
    was-pending-all place (opened_ids before.openings) n.1 asks awaited

ids-push : (os : List Opening) (o : Opening) → opened_ids (os ++ o ∷ []) ≡ opened_ids os ++ id_listed o.numbers
unfolding opened_ids
ids-push os o = flat_map-append (λ (p : Opening). id_listed p.numbers) os (o ∷ [])
    ∙ ap (λ (ids : List ℕ). flat_map (λ (p : Opening). id_listed p.numbers) os ++ ids) (append-nil (id_listed o.numbers))

responses-more : (os : List Opening) (o : Opening) → open_responses (os ++ o ∷ []) ≡ open_responses os ++ response_listed (answer_in o)
unfolding open_responses
responses-more os o =
    flat_map-append (λ (p : Opening). response_listed (answer_in p)) os (o ∷ [])
    ∙ ap (λ (rs : List OpenResponse). flat_map (λ (p : Opening). response_listed (answer_in p)) os ++ rs) (append-nil (response_listed (answer_in o)))

unanswered : (o : Opening) → o.numbers ≡ None → answer_in o ≡ None
unfolding answer_in
unanswered o e = ap (λ (n : Option (ℕ × ℕ)). answer_behind n o.body) e

-- how many renewals are pending where this was received
abbrev pending-at : Received → List Placed → ℕ
pending-at before asks = length (pending_renewals (opened_ids before.openings) (asked_in asks))

no-more : (a b c : ℕ) → c ≡ 0 → a ≤ b → a + c ≤ b
no-more a b c none h = omega (arith, none, h)

same-pending : (n : ℕ) (told : List ClientTold) → tokens-told told ≡ 0 → n + tokens-told told ≤ n
same-pending n told none = omega (arith, none)

opens-by : (before : Received) (asks : List Placed) (o : Opening) (rs : List OpenResponse) (numbers : Option (ℕ × ℕ)) (answer : Option OpenAnswer)
    → (numbers ≡ None → answer ≡ None)
    → ((n : ℕ × ℕ) (q : OpenResponse) (qs : List OpenResponse) → numbers ≡ Some n → rs ≡ q ∷ qs
    → is_in n.1 (pending_renewals (opened_ids before.openings) (asked_in asks)) ≡ true)
    → length (pending_renewals (opened_ids before.openings ++ id_listed numbers) (asked_in asks)) + tokens-told
    (map (told_response rs) (response_listed answer)) ≤ pending-at before asks
opens-by before asks o rs numbers None unread one = no-more _ _ _ refl (pending-fewer (opened_ids before.openings) (id_listed numbers) (asked_in asks))
opens-by before asks o rs numbers (Some (Fault f)) unread one =
    no-more _ _ _ refl (pending-fewer (opened_ids before.openings) (id_listed numbers) (asked_in asks))
opens-by before asks o [] numbers (Some (Open r)) unread one =
    no-more _ _ _ refl (pending-fewer (opened_ids before.openings) (id_listed numbers) (asked_in asks))
opens-by before asks o (q ∷ qs) None (Some (Open r)) unread one = let e = unread refl in absurd cc
opens-by before asks o (q ∷ qs) (Some n) (Some (Open r)) unread one = pending-less (opened_ids before.openings) n.1 (asked_in asks) (one n q qs refl refl)

-- what a frame tells, and what is pending behind it
frame-pending : (limits : Limits) (asks : List Placed) (place : ℕ) (before : Received) (c : Content)
    → first_reason (client_reasons limits before (asked_before place asks) c) ≡ None
    → pending-at (after before c) asks + tokens-told (client_tells before c) ≤ pending-at before asks
frame-pending limits asks place before (Greets hello) e = same-pending (pending-at before asks) [] refl
frame-pending limits asks place before (Acks ack) e = same-pending (pending-at before asks) (told_ack ack) (ack-none ack)
frame-pending limits asks place before (Fails error) e = same-pending (pending-at before asks) [] refl
frame-pending limits asks place before (Opens o) e =
    subst (λ (ids : List ℕ). length (pending_renewals ids (asked_in asks)) + tokens-told
    (map (told_response (open_responses before.openings)) (response_listed (answer_in o))) ≤ pending-at before asks) (sym (ids-push before.openings o))
    (opens-by before asks o (open_responses before.openings) o.numbers (answer_in o) (unanswered o)
    (λ n q qs numbers some. answers-pending limits before place asks o n q qs numbers some e))
frame-pending limits asks place before (Sends c) e = same-pending (pending-at before asks) (map told_item (given before.messages c))
    (items-none (given before.messages c))
frame-pending limits asks place before (Closes c) e = same-pending (pending-at before asks) [] refl
frame-pending limits asks place before Nothing e = same-pending (pending-at before asks) [] refl

sum-of : (later now first more rest : ℕ) → now + more ≤ first → later + rest ≤ now → later + (more + rest) ≤ first
sum-of later now first more rest h k = omega (arith, h, k)

pending-from : (limits : Limits) (asks : List Placed) (start fs : List Frame) → AllFrom (Fits (client_rules limits asks)) start fs
    → pending-at (received (start ++ fs)) asks + tokens-told (each_from (client_rules limits asks).tells start fs) ≤ pending-at (received start) asks
pending-from limits asks start [] fits = subst (λ (xs : List Frame). pending-at (received xs) asks + 0 ≤ pending-at (received start) asks)
    (sym (append-nil start)) (omega arith)
pending-from limits asks start (f ∷ fs) fits =
    let now : pending-at (received (start ++ f ∷ [])) asks + tokens-told (client_tells (received start) (content f)) ≤ pending-at (received start) asks =
    subst (λ (b : Received). pending-at b asks + tokens-told (client_tells (received start) (content f)) ≤ pending-at (received start) asks)
    (sym (received-push start f))
    (frame-pending limits asks (end_of start f) (received start) (content f) fits.0.accepted) in
    let later = subst (λ (xs : List Frame). pending-at (received xs) asks + tokens-told (each_from (client_rules limits asks).tells (start ++ f ∷ []) fs)
    ≤ pending-at (received (start ++ f ∷ [])) asks) (append_assoc start (f ∷ []) fs)
    (pending-from limits asks (start ++ f ∷ []) fs fits.1) in
    subst (λ (n : ℕ). pending-at (received (start ++ f ∷ fs)) asks + n ≤ pending-at (received start) asks)
    (sym (tokens-append (client_tells (received start) (content f)) (each_from (client_rules limits asks).tells (start ++ f ∷ []) fs)))
    (sum-of _ _ _ _ _ now later)

all-pending : (opened : List ℕ) (asked : List Asking) → length (pending_renewals opened asked) ≤ length (renewals asked)
unfolding pending_renewals
all-pending opened asked = filter-within (λ (j : ℕ). not (is_in j opened)) (renewals asked)

-- each further token that came answers a renewal
pub tokens-answer : (limits : Limits) (asks : List Placed) (frames : List Frame) → AllAfter (Fits (client_rules limits asks)) frames
    → pending-at (received frames) asks + tokens-told (events (client_rules limits asks) frames) ≤ length (renewals (asked_in asks))
unfolding AllAfter each_after
tokens-answer limits asks frames fits =
    let all = pending-from limits asks [] frames fits in
    let most = all-pending (opened_ids (received []).openings) (asked_in asks) in
    omega (arith, all, most)

-- ---- whether a channel is open

is-opened-items : (items : List Item) → list_any is_opened (map told_item items) ≡ false
is-opened-items [] = refl
is-opened-items (Whole id octets ∷ items) = is-opened-items items
is-opened-items (Aborted id code reason ∷ items) = is-opened-items items

ack-opens-none : (o : Option Ack) → list_any is_opened (told_ack o) ≡ false
ack-opens-none None = refl
ack-opens-none (Some a) = refl

some-left : {A : Type 0} (xs ys : List A) → has_some xs ≡ true → has_some (xs ++ ys) ≡ true
some-left [] ys h = absurd cc
some-left (x ∷ xs) ys h = refl

some-right : {A : Type 0} (xs ys : List A) → has_some ys ≡ true → has_some (xs ++ ys) ≡ true
some-right [] ys h = h
some-right (x ∷ xs) ys h = refl

some-mapped : (rs qs : List OpenResponse) → list_any is_opened (map (told_response rs) qs) ≡ true → has_some qs ≡ true
some-mapped rs [] h = absurd cc
some-mapped rs (q ∷ qs) h = refl

-- there is a response
abbrev has-opened : Received → Bool
has-opened before = has_some (open_responses before.openings)

stays-opened : (before : Received) (c : Content) → has-opened before ≡ true → has-opened (after before c) ≡ true
stays-opened before (Greets hello) h = h
stays-opened before (Acks ack) h = h
stays-opened before (Fails error) h = h
stays-opened before (Opens o) h = ap has_some (responses-more before.openings o) ∙ some-left (open_responses before.openings) (response_listed (answer_in o)) h
stays-opened before (Sends c) h = h
stays-opened before (Closes c) h = h
stays-opened before Nothing h = h

told-opens : (before : Received) (c : Content) → list_any is_opened (client_tells before c) ≡ true → has-opened (after before c) ≡ true
told-opens before (Greets hello) h = absurd cc
told-opens before (Acks ack) h = let e = sym (ack-opens-none ack) ∙ h in absurd cc
told-opens before (Fails error) h = absurd cc
told-opens before (Opens o) h =
    ap has_some (responses-more before.openings o)
    ∙ some-right (open_responses before.openings) (response_listed (answer_in o))
    (some-mapped (open_responses before.openings) (response_listed (answer_in o)) h)
told-opens before (Sends c) h = let e = sym (is-opened-items (given before.messages c)) ∙ h in absurd cc
told-opens before (Closes c) h = absurd cc
told-opens before Nothing h = absurd cc

stays-from : (start fs : List Frame) → has-opened (received start) ≡ true → has-opened (received (start ++ fs)) ≡ true
stays-from start [] h = ap (λ (xs : List Frame). has-opened (received xs)) (append-nil start) ∙ h
stays-from start (f ∷ fs) h =
    ap (λ (xs : List Frame). has-opened (received xs)) (sym (append_assoc start (f ∷ []) fs))
    ∙ stays-from (start ++ f ∷ []) fs (ap has-opened (received-push start f) ∙ stays-opened (received start) (content f) h)

either-one : (a b : Bool) → (a || b) ≡ true → (a ≡ false → b ≡ true)
either-one true b h e = absurd cc
either-one false b h e = h

opened-by : (b : Bool) (limits : Limits) (asks : List Placed) (start : List Frame) (f : Frame) (fs : List Frame)
    → list_any is_opened (client_tells (received start) (content f)) ≡ b
    → (list_any is_opened (each_from (client_rules limits asks).tells (start ++ f ∷ []) fs) ≡ true → has-opened (received ((start ++ f ∷ []) ++ fs)) ≡ true)
    → list_any is_opened (client_tells (received start) (content f) ++ each_from (client_rules limits asks).tells (start ++ f ∷ []) fs) ≡ true
    → has-opened (received ((start ++ f ∷ []) ++ fs)) ≡ true
opened-by true limits asks start f fs is later h = stays-from (start ++ f ∷ []) fs (ap has-opened (received-push start f)
    ∙ told-opens (received start) (content f) is)
opened-by false limits asks start f fs is later h =
    later (either-one (list_any is_opened (client_tells (received start) (content f)))
    (list_any is_opened (each_from (client_rules limits asks).tells (start ++ f ∷ []) fs))
    (sym (list_any-append is_opened (client_tells (received start) (content f)) (each_from (client_rules limits asks).tells (start ++ f ∷ []) fs)) ∙ h) is)

opened-from : (limits : Limits) (asks : List Placed) (start fs : List Frame) → list_any is_opened (each_from (client_rules limits asks).tells start fs) ≡ true
    → has-opened (received (start ++ fs)) ≡ true
opened-from limits asks start [] h = absurd cc
opened-from limits asks start (f ∷ fs) h =
    ap (λ (xs : List Frame). has-opened (received xs)) (sym (append_assoc start (f ∷ []) fs))
    ∙ opened-by (list_any is_opened (client_tells (received start) (content f))) limits asks start f fs refl (opened-from limits asks (start ++ f ∷ []) fs) h

-- where it was told that the channel is open, there is a response
pub told-opened : (limits : Limits) (asks : List Placed) (frames : List Frame) → list_any is_opened (events (client_rules limits asks) frames) ≡ true
    → open_responses (received frames).openings ≡ [] → ⊥
unfolding each_after
told-opened limits asks frames h none = let e = sym (ap has_some none) ∙ opened-from limits asks [] frames h in absurd cc

-- ---- which token is the newest

latest-kept : (n : ℕ) (ms : List ℕ) (m k : ℕ) → latest (from_last n (ms ++ m ∷ [])) ≡ Some k → k ≡ m
latest-kept n [] m k e = one-kept (eqb m n && true) m k e
  where
    one-kept : (b : Bool) (m k : ℕ) → latest (if b then m ∷ [] else []) ≡ Some k → k ≡ m
    one-kept true m k e = cc
    one-kept false m k e = absurd cc
latest-kept n (x ∷ ms) m k e = more-kept (eqb x n && not (is_in n (ms ++ m ∷ []))) x ms m k (latest-kept n ms m k) e
  where
    more-kept : (b : Bool) (x : ℕ) (ms : List ℕ) (m k : ℕ) → (latest (from_last n (ms ++ m ∷ [])) ≡ Some k → k ≡ m)
        → latest (if b then x ∷ (ms ++ m ∷ []) else from_last n (ms ++ m ∷ [])) ≡ Some k → k ≡ m
    more-kept true x ms m k h e = let l = sym (latest-push (x ∷ ms) m) ∙ e in cc
    more-kept false x ms m k h e = h e

latest-held : (used : Option ℕ) (ms : List ℕ) (m k : ℕ) → latest (held_by used (ms ++ m ∷ [])) ≡ Some k → k ≡ m
latest-held None ms m k e = let l = sym (latest-push ms m) ∙ e in cc
latest-held (Some n) ms m k e = latest-kept n ms m k e

-- the newest token that is held behind an OPN is the one that it brings
newest-held : (before : Received) (o : Opening) (r : OpenResponse) (k : ℕ) → answer_in o ≡ Some (Open r)
    → latest (held_tokens (after before (Opens o))) ≡ Some k → k ≡ r.token_id
unfolding held_tokens tokens_of
newest-held before o r k is e =
    let more : tokens_of (open_responses (before.openings ++ o ∷ [])) ≡ tokens_of (open_responses before.openings) ++ r.token_id ∷ [] =
    ap tokens_of (responses-push before.openings o r is) ∙ map-append (λ (q : OpenResponse). q.token_id) (open_responses before.openings) (r ∷ []) in
    latest-held before.used (tokens_of (open_responses before.openings)) r.token_id k (ap (λ (ms : List ℕ). latest (held_by before.used ms)) (sym more) ∙ e)

same-token : (t : ClientTold) (ts : List ClientTold) (token : ℕ) → t ∷ ts ≡ Renewed token ∷ [] → t ≡ Renewed token
same-token t ts token e = cc

told-token : (rs : List OpenResponse) (r : OpenResponse) (token : ℕ) → told_response rs r ≡ Renewed token → r.token_id ≡ token
told-token [] r token e = absurd cc
told-token (q ∷ qs) r token e = cc

not-items : (items : List Item) (token : ℕ) → map told_item items ≡ Renewed token ∷ [] → ⊥
not-items [] token e = absurd cc
not-items (Whole id octets ∷ items) token e = let x = same-token (Answered id octets) (map told_item items) token e in absurd cc
not-items (Aborted id code reason ∷ items) token e = let x = same-token (GaveUp id code) (map told_item items) token e in absurd cc

not-ack : (o : Option Ack) (token : ℕ) → told_ack o ≡ Renewed token ∷ [] → ⊥
not-ack None token e = absurd cc
not-ack (Some a) token e = let x = same-token (Agreed a) [] token e in absurd cc

newest-by : (before : Received) (o : Opening) (answer : Option OpenAnswer) (token k : ℕ) → answer_in o ≡ answer
    → map (told_response (open_responses before.openings)) (response_listed answer) ≡ Renewed token ∷ []
    → latest (held_tokens (after before (Opens o))) ≡ Some k → k ≡ token
newest-by before o None token k is e h = absurd cc
newest-by before o (Some (Fault f)) token k is e h = absurd cc
newest-by before o (Some (Open r)) token k is e h = newest-held before o r k is h
    ∙ told-token (open_responses before.openings) r token (same-token (told_response (open_responses before.openings) r) [] token e)

newest-told : (before : Received) (c : Content) (token k : ℕ) → client_tells before c ≡ Renewed token ∷ [] → latest (held_tokens (after before c)) ≡ Some k
    → k ≡ token
newest-told before (Greets hello) token k e h = absurd cc
newest-told before (Acks ack) token k e h = absurd (not-ack ack token e)
newest-told before (Fails error) token k e h = absurd cc
newest-told before (Opens o) token k e h = newest-by before o (answer_in o) token k refl e h
newest-told before (Sends c) token k e h = absurd (not-items (given before.messages c) token e)
newest-told before (Closes c) token k e h = absurd cc
newest-told before Nothing token k e h = absurd cc

-- where a further token was told, it is the newest that is held
pub newest-renewed : (before : List Frame) (f : Frame) (token k : ℕ) → client_tells (received before) (content f) ≡ Renewed token ∷ []
    → latest (held_tokens (received (before ++ f ∷ []))) ≡ Some k → k ≡ token
newest-renewed before f token k e h = newest-told (received before) (content f) token k e
    (ap (λ (b : Received). latest (held_tokens b)) (sym (received-push before f)) ∙ h)

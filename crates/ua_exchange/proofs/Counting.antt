-- The turns that stand last, counted one by one, and the tokens that are held behind them.
use Rattle.std.proofs.Common.{◌≡◌, ℕ, zero, suc, ◌+◌, ◌-◌, ◌<◌, ◌≤◌, min, Bool, true, false, cond, List, [], ◌∷◌, ◌++◌, Option, Some, None}
use Rattle.std.proofs.Common.{length, take, nat_le, refl, sym, ◌∙◌, ap, arith, append_assoc, append-nil, length-append, length-take-le}
use Rattle.std.proofs.Math.Seq.{take-append-add}
use Rattle.std.proofs.lemmas.Bool.{le-leb, leb-false, leb-true, lt-leb}
use Rattle.std.proofs.lemmas.List.{take_all, take_at}
use Rattle.std.specs.List.{list_any}
use Rattle.ua_channel.specs.ClientAsks.{most_pending, most_tokens}
use Rattle.ua_chunk.proofs.Lists.{after_last_push}
use Rattle.ua_services.specs.declared.request.Request.{Request}
use Rattle.ua_loopback.specs.Accepted.{held_behind, tokens_held}
use Rattle.ua_loopback.proofs.Pushes.{held_push}
use Rattle.ua_exchange.specs.Accepted.{before_group, is_renewal, last_calls, tokens_counted}
use Rattle.ua_exchange.specs.Turns.{served_turn, served_turns}
use Rattle.ua_exchange.specs.declared.turn.Turn.{Turn}
use Rattle.ua_exchange.specs.declared.turn.Turn.TheVariants.{Ask, Renew}
use Rattle.ua_exchange.specs.inside.Counting.{AreCalls, CountsLast}
use Rattle.ua_exchange.proofs.Words.{served-push}

-- ---- requests

calls-take : (n : ℕ) (a : List Turn) → AreCalls a → AreCalls (take n a)
calls-take zero a p = tt
calls-take (suc n) [] p = tt
calls-take (suc n) (Ask m ∷ a) p = calls-take n a p
calls-take (suc n) (Renew ∷ a) p = absurd p

calls-more : (ts : List Turn) (m : Request) → AreCalls ts → AreCalls (ts ++ Ask m ∷ [])
calls-more [] m calls = tt
calls-more (Ask q ∷ ts) m calls = calls-more ts m calls
calls-more (Renew ∷ ts) m calls = absurd calls

none-last : (ts : List Turn) → length ts ≡ 0 → ts ≡ []
none-last [] none = refl
none-last (t ∷ ts) none = absurd (omega (arith, none))

-- ---- those that stand last

-- requests behind turns are the last of their requests
last-calls : (answered waiting : List Turn) → AreCalls waiting → last_calls (answered ++ waiting) ≡ last_calls answered ++ waiting
last-calls answered [] calls = ap last_calls (append-nil answered) ∙ sym (append-nil (last_calls answered))
last-calls answered (Ask m ∷ waiting) calls =
    ap last_calls (sym (append_assoc answered (Ask m ∷ []) waiting))
    ∙ (last-calls (answered ++ Ask m ∷ []) waiting calls
    ∙ (ap (λ (ts : List Turn). ts ++ waiting) (after_last_push is_renewal answered (Ask m)) ∙ append_assoc (last_calls answered) (Ask m ∷ []) waiting))
last-calls answered (Renew ∷ waiting) calls = absurd calls

no_renewal : (ts : List Turn) → list_any is_renewal ts ≡ false → AreCalls ts
no_renewal [] none = tt
no_renewal (Ask m ∷ ts) none = no_renewal ts none
no_renewal (Renew ∷ ts) none = absurd cc

are_last : (b : Bool) (m : Request) (ts last : List Turn) → AreCalls last → (b ≡ false → AreCalls ts) → AreCalls (cond b last (Ask m ∷ ts))
are_last true m ts last are none = are
are_last false m ts last are none = none refl

last-are : (ts : List Turn) → AreCalls (last_calls ts)
last-are [] = tt
last-are (Ask m ∷ ts) = are_last (list_any is_renewal ts) m ts (last_calls ts) (last-are ts) (no_renewal ts)
last-are (Renew ∷ ts) = last-are ts

split_at : (b : Bool) (t : Turn) (ts last : List Turn) → ((front : List Turn) × (ts ≡ front ++ last))
    → (front : List Turn) × (t ∷ ts ≡ front ++ cond b last (t ∷ ts))
split_at true t ts last (front, is) = (t ∷ front, ap (λ (us : List Turn). t ∷ us) is)
split_at false t ts last (front, is) = ([], refl)

last_behind : (ts : List Turn) → (front : List Turn) × (ts ≡ front ++ last_calls ts)
last_behind [] = ([], refl)
last_behind (t ∷ ts) = split_at (list_any is_renewal (t ∷ ts)) t ts (last_calls ts) (last_behind ts)

-- how many tokens a client holds behind these turns, all of which are answered
abbrev pub held : List Turn → ℕ
held turns = tokens_held 1 (served_turns turns)

held-push : (before : List Turn) (t : Turn) → held (before ++ t ∷ []) ≡ held_behind (held before) (served_turn t)
held-push before t = ap (tokens_held 1) (served-push before t) ∙ held_push 1 (served_turns before) (served_turn t)

-- it holds one behind turns that end with a request
ends-with-call : (before calls : List Turn) → AreCalls calls → 0 < length calls → held (before ++ calls) ≡ 1
ends-with-call before [] are some = absurd (omega (arith, some))
ends-with-call before (Ask m ∷ []) are some = held-push before (Ask m)
ends-with-call before (Ask m ∷ (t ∷ ts)) are some = ap held (sym (append_assoc before (Ask m ∷ []) (t ∷ ts)))
    ∙ ends-with-call (before ++ Ask m ∷ []) (t ∷ ts) are (omega arith)
ends-with-call before (Renew ∷ ts) are some = absurd are

some-held : (n : ℕ) (turns : List (Option (List Request))) → 0 < n → 0 < tokens_held n turns
some-held n [] some = some
some-held n (Some [] ∷ ts) some = some-held n ts some
some-held n (Some (m ∷ ms) ∷ ts) some = some-held 1 ts (omega arith)
some-held n (None ∷ ts) some = some-held (n + 1) ts (omega arith)

-- ---- one turn more

pub counts-none : CountsLast [] 0 0
counts-none = record { front = []; last = []; parts = refl; are_calls = tt; calls_are = refl; no_more = refl; held_is = refl }

pub counts-call : (before : List Turn) (renewals calls : ℕ) (m : Request) → CountsLast before renewals calls
    → CountsLast (before ++ Ask m ∷ []) renewals (calls + 1)
counts-call before renewals calls m k = record {
  front = k.front;
  last = k.last ++ Ask m ∷ [];
  parts = ap (λ (ts : List Turn). ts ++ Ask m ∷ []) k.parts ∙ append_assoc k.front k.last (Ask m ∷ []);
  are_calls = calls-more k.last m k.are_calls;
  calls_are = omega (arith, k.calls_are, length-append k.last (Ask m ∷ []));
  no_more = k.no_more;
  held_is = k.held_is;
}

-- a renewal more, where these stand last behind the requests
counts-renewed : (before : List Turn) (renewals : ℕ) → held before ≡ renewals + 1 → CountsLast (before ++ Renew ∷ []) (renewals + 1) 0
counts-renewed before renewals is = record {
  front = before ++ Renew ∷ [];
  last = [];
  parts = sym (append-nil (before ++ Renew ∷ []));
  are_calls = tt;
  calls_are = refl;
  no_more = after_last_push is_renewal before Renew;
  held_is = held-push before Renew ∙ ap (λ (n : ℕ). n + 1) is;
}

pub counts-renewal : (before : List Turn) (renewals calls : ℕ) → CountsLast before renewals calls → calls ≡ 0
    → CountsLast (before ++ Renew ∷ []) (renewals + 1) 0
counts-renewal before renewals calls k none =
    let same : before ≡ k.front = k.parts ∙ (ap (λ (ts : List Turn). k.front ++ ts) (none-last k.last (omega (arith, none, k.calls_are))) ∙ append-nil k.front)
    in
    counts-renewed before renewals (ap held same ∙ k.held_is)

pub counts-first : (before : List Turn) (renewals calls : ℕ) → CountsLast before renewals calls → (calls ≡ 0 → ⊥) → CountsLast (before ++ Renew ∷ []) 1 0
counts-first before renewals calls k some =
    counts-renewed before 0 (ap held k.parts ∙ ends-with-call k.front k.last k.are_calls (omega (arith, some, k.calls_are)))

-- ---- the tokens that are held

-- where no requests stand in front of the group
group-alone : (answered waiting : List Turn) → AreCalls waiting → length waiting ≤ most_pending → last_calls answered ≡ []
    → before_group (answered ++ waiting) ≡ answered
group-alone answered waiting calls few none =
    let last : length (last_calls (answered ++ waiting)) ≡ length waiting =
    ap length (last-calls answered waiting calls ∙ ap (λ (ts : List Turn). ts ++ waiting) none) in
    take_at answered waiting (length (answered ++ waiting) - min (length (last_calls (answered ++ waiting))) most_pending)
    (omega (arith, length-append answered waiting, last, few))

counted-few : (before : List Turn) (renewals calls : ℕ) → CountsLast before renewals calls → calls ≤ most_pending → tokens_counted before ≡ renewals + 1
counted-few before renewals calls k few =
    ap tokens_counted k.parts ∙ (ap held (group-alone k.front k.last k.are_calls (omega (arith, few, k.calls_are)) k.no_more) ∙ k.held_is)

-- more than 64 requests are a group, and those in front of it are answered
counted-many : (before : List Turn) (renewals calls : ℕ) → CountsLast before renewals calls → most_pending < calls → tokens_counted before ≡ 1
counted-many before renewals calls k many =
    let count : ℕ = length k.last - most_pending in
    let last : last_calls (k.front ++ k.last) ≡ k.last = last-calls k.front k.last k.are_calls ∙ ap (λ (ts : List Turn). ts ++ k.last) k.no_more in
    let at : length (k.front ++ k.last) - min (length (last_calls (k.front ++ k.last))) most_pending ≡ length k.front + count =
    omega (arith, ap length last, length-append k.front k.last, many, k.calls_are) in
    let group : before_group (k.front ++ k.last) ≡ k.front ++ take count k.last = ap (λ (n : ℕ). take n (k.front ++ k.last)) at
    ∙ take-append-add k.front k.last count in
    let some : 0 < length (take count k.last) = omega (arith, length-take-le count k.last (omega arith), many, k.calls_are) in
    ap tokens_counted k.parts ∙ (ap held group ∙ ends-with-call k.front (take count k.last) (calls-take count k.last k.are_calls) some)

-- they are 16 or more just where 15 renewals or more are counted, in front of no more than 64 requests
crowded-by : (b : Bool) (held renewals : ℕ) → held ≡ renewals + 1 → nat_le 15 renewals ≡ b → nat_le most_tokens held ≡ b
crowded-by true held renewals is e = le-leb most_tokens held (omega (arith, is, leb-true 15 renewals e))
crowded-by false held renewals is e = lt-leb most_tokens held (omega (arith, is, leb-false 15 renewals e))

pub crowded-few : (before : List Turn) (renewals calls : ℕ) → CountsLast before renewals calls → calls ≤ most_pending
    → nat_le most_tokens (tokens_counted before) ≡ nat_le 15 renewals
crowded-few before renewals calls k few = crowded-by (nat_le 15 renewals) (tokens_counted before) renewals (counted-few before renewals calls k few) refl

pub crowded-many : (before : List Turn) (renewals calls : ℕ) → CountsLast before renewals calls → most_pending < calls
    → nat_le most_tokens (tokens_counted before) ≡ false
crowded-many before renewals calls k many = lt-leb most_tokens (tokens_counted before) (omega (arith, counted-many before renewals calls k many))

-- a client whose calls are all answered holds no more tokens
held-by : (before last : List Turn) → last_calls before ≡ last → held before ≤ tokens_counted before
held-by before [] none =
    let whole : before_group before ≡ before = take_all (length before - min (length (last_calls before)) most_pending) before (omega (arith, ap length none))
    in
    omega (arith, ap held whole)
held-by before (t ∷ ts) some =
    let parts = last_behind before in
    let one : held before ≡ 1 = ap held parts.1 ∙ ends-with-call parts.0 (last_calls before) (last-are before) (omega (arith, ap length some)) in
    omega (arith, one, some-held 1 (served_turns (before_group before)) (omega arith))

pub held-within : (before : List Turn) → held before ≤ tokens_counted before
held-within before = held-by before (last_calls before) refl

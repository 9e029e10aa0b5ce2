-- What is pending, with one ask more, and with one frame more.
use Rattle.std.proofs.Common.{◌≡◌, ℕ, zero, suc, ◌≤◌, ◌<◌, List, [], ◌∷◌, ◌++◌, Bool, true, false, ◌&&◌, ◌||◌, not}
use Rattle.std.proofs.Common.{map, refl, sym, ◌∙◌, ap, arith, ltb, eqb, append-nil, subst, ◌+◌, length, length-append}
use Rattle.std.specs.List.{AllByRecursion, filter, range_with_len}
use Rattle.std.specs.Prelude.{if◌then◌else◌}
use Rattle.std.proofs.lemmas.Bool.{eqb-true}
use Rattle.std.proofs.lemmas.List.{flat_map_more, map-append, length-map}
use Rattle.std.proofs.lemmas.List.Concat.{flat_map-append}
use Rattle.std.proofs.lemmas.List.Elements.{filter-append}
use Rattle.std.proofs.lemmas.List.Folds.{list_any-append}
use Rattle.ua_chunk.specs.declared.chunk.Chunk.{Chunk}
use Rattle.ua_chunk.specs.Gathered.{is_of, ends}
use Rattle.ua_channel.specs.Asks.{Asking, Placed, id_of, call_in, renewal_in, calls, renewals, asked_before}
use Rattle.ua_channel.specs.Asks.{asked_in, is_in, is_finished, pending_calls, pending_renewals, next_id}
use Rattle.ua_channel.specs.Asks.Asking.{Call, Renewal}
use Rattle.ua_channel.specs.inside.ClientParts.{left_pending}

-- ---- numbers that are counted on

-- so many numbers from one on, and more behind them
pub range-append : (a m n : ℕ) → range_with_len a m ++ range_with_len (a + m) n ≡ range_with_len a (m + n)
range-append a zero n =
    let start : a + 0 ≡ a = omega arith in
    let count : n ≡ 0 + n = omega arith in
    ap (λ (t : ℕ). range_with_len t n) start ∙ ap (range_with_len a) count
range-append a (suc m) n =
    let start : a + suc m ≡ (a + 1) + m = omega arith in
    let count : suc (m + n) ≡ suc m + n = omega arith in
    ap (λ (t : ℕ). a ∷ (range_with_len (a + 1) m ++ range_with_len t n)) start
    ∙ (ap (λ (ts : List ℕ). a ∷ ts) (range-append (a + 1) m n)
    ∙ ap (range_with_len a) count)

-- one more that is asked, under the next request id
pub counted_more : (asked : List Asking) (a : Asking) → map id_of asked ≡ range_with_len 2 (length asked) → id_of a ≡ next_id asked
    → map id_of (asked ++ a ∷ []) ≡ range_with_len 2 (length (asked ++ a ∷ []))
counted_more asked a counted is =
    let here : id_of a ≡ 2 + length asked = omega (arith, is) in
    map-append id_of asked (a ∷ [])
    ∙ (ap (λ (ids : List ℕ). ids ++ id_of a ∷ []) counted
    ∙ (ap (λ (n : ℕ). range_with_len 2 (length asked) ++ n ∷ []) here
    ∙ (range-append 2 (length asked) 1 ∙ ap (range_with_len 2) (sym (length-append asked (a ∷ []))))))

-- ---- all of a list

pub all_append : {X : Type 0} (P : X → Type 0) (xs ys : List X) → AllByRecursion P xs → AllByRecursion P ys → AllByRecursion P (xs ++ ys)
all_append P [] ys h k = k
all_append P (x ∷ xs) ys h k = (h.0, all_append P xs ys h.1 k)

pub all-push : {X : Type 0} (P : X → Type 0) (xs : List X) (x : X) → AllByRecursion P xs → P x → AllByRecursion P (xs ++ x ∷ [])
all-push P xs x all last = all_append P xs (x ∷ []) all (last, tt)

pub all-weaken : {X : Type 0} (P Q : X → Type 0) (xs : List X) → ((x : X) → P x → Q x) → AllByRecursion P xs → AllByRecursion Q xs
all-weaken P Q [] more all = tt
all-weaken P Q (x ∷ xs) more all = (more x all.0, all-weaken P Q xs more all.1)

kept_all : {X : Type 0} (P : X → Type 0) (test : X → Bool) (b : Bool) (x : X) (xs : List X) → test x ≡ b → (test x ≡ true → P x) → AllByRecursion P xs
    → AllByRecursion P (if b then x ∷ xs else xs)
kept_all P test true x xs is passes all = (passes is, all)
kept_all P test false x xs is passes all = all

-- what holds of all holds of those that a test keeps
pub all_filter : {X : Type 0} (P : X → Type 0) (test : X → Bool) (xs : List X) → AllByRecursion P xs → AllByRecursion P (filter test xs)
all_filter P test [] all = tt
all_filter P test (x ∷ xs) all = kept_all P test (test x) x (filter test xs) refl (λ is. all.0) (all_filter P test xs all.1)

-- those that a test keeps pass it
pub all_passing : {X : Type 0} (test : X → Bool) (xs : List X) → AllByRecursion (λ (x : X). test x ≡ true) (filter test xs)
all_passing test [] = tt
all_passing {X = X} test (x ∷ xs) = kept_all (λ (y : X). test y ≡ true) test (test x) x (filter test xs) refl (λ is. is) (all_passing test xs)

-- ---- lists of ids

-- what holds of all holds of one that is among them
pub all_in : (P : ℕ → Type 0) (id : ℕ) (ids : List ℕ) → is_in id ids ≡ true → AllByRecursion P ids → P id
all_in P id [] e all = absurd cc
all_in P id (j ∷ ids) e all = one_in (eqb j id) refl e (λ f. all_in P id ids f all.1)
  where
    one_in : (b : Bool) → eqb j id ≡ b → (b || is_in id ids) ≡ true → (is_in id ids ≡ true → P id) → P id
    one_in true same f rest = subst P (eqb-true j id same) all.0
    one_in false other f rest = rest f

-- one that a test keeps passes it, and is among them
pub passes_filter : (test : ℕ → Bool) (id : ℕ) (ids : List ℕ) → is_in id (filter test ids) ≡ true → test id ≡ true
passes_filter test id ids e = all_in (λ (j : ℕ). test j ≡ true) id (filter test ids) e (all_passing test ids)

kept_or : (kept found within : Bool) (id j : ℕ) (ids : List ℕ) → eqb j id ≡ found → (is_in id ids ≡ true → within ≡ true)
    → is_in id (if kept then j ∷ ids else ids) ≡ true → (found || within) ≡ true
kept_or kept true within id j ids is more e = refl
kept_or true false within id j ids is more e = more (ap (λ (b : Bool). b || is_in id ids) (sym is) ∙ e)
kept_or false false within id j ids is more e = more e

pub within_filter : (test : ℕ → Bool) (id : ℕ) (ids : List ℕ) → is_in id (filter test ids) ≡ true → is_in id ids ≡ true
within_filter test id [] e = e
within_filter test id (j ∷ ids) e = kept_or (test j) (eqb j id) (is_in id ids) id j (filter test ids) refl (within_filter test id ids) e

in_kept : (test : ℕ → Bool) (id j : ℕ) (ids : List ℕ) (kept found : Bool) → test j ≡ kept → eqb j id ≡ found → test id ≡ true → (found || is_in id ids) ≡ true
    → (is_in id ids ≡ true → is_in id (filter test ids) ≡ true)
    → is_in id (if kept then j ∷ filter test ids else filter test ids) ≡ true
in_kept test id j ids true true is same passes e more = ap (λ (b : Bool). b || is_in id (filter test ids)) same
in_kept test id j ids true false is other passes e more = ap (λ (b : Bool). b || is_in id (filter test ids)) other ∙ more e
in_kept test id j ids false true is same passes e more = let clash : ◌≡◌ {A = Bool} true false = sym passes
    ∙ (ap test (sym (eqb-true j id same)) ∙ is) in absurd cc
in_kept test id j ids false false is other passes e more = more e

-- and one among them that passes it is kept
pub in_filter : (test : ℕ → Bool) (id : ℕ) (ids : List ℕ) → test id ≡ true → is_in id ids ≡ true → is_in id (filter test ids) ≡ true
in_filter test id [] passes e = absurd cc
in_filter test id (j ∷ ids) passes e = in_kept test id j ids (test j) (eqb j id) refl refl passes e (in_filter test id ids passes)

-- ---- what was asked

pub calls-append : (asked new : List Asking) → calls (asked ++ new) ≡ calls asked ++ calls new
unfolding calls
calls-append asked new = flat_map-append call_in asked new

pub renewals-append : (asked new : List Asking) → renewals (asked ++ new) ≡ renewals asked ++ renewals new
unfolding renewals
renewals-append asked new = flat_map-append renewal_in asked new

pub calls_all : (P : ℕ → Type 0) (asked : List Asking) → AllByRecursion (λ (a : Asking). P (id_of a)) asked → AllByRecursion P (calls asked)
unfolding calls
calls_all P [] all = tt
calls_all P (Call id ∷ asked) all = (all.0, calls_all P asked all.1)
calls_all P (Renewal id ∷ asked) all = calls_all P asked all.1

pub renewals_all : (P : ℕ → Type 0) (asked : List Asking) → AllByRecursion (λ (a : Asking). P (id_of a)) asked → AllByRecursion P (renewals asked)
unfolding renewals
renewals_all P [] all = tt
renewals_all P (Call id ∷ asked) all = renewals_all P asked all.1
renewals_all P (Renewal id ∷ asked) all = (all.0, renewals_all P asked all.1)

-- ---- one ask more

pub renewals-push : (asked : List Asking) (a : Asking) → renewals (asked ++ a ∷ []) ≡ renewals asked ++ renewal_in a
unfolding renewals
renewals-push asked a = sym (flat_map_more renewal_in [] asked a)

-- the chunks of requests below a number finish none from there on
pub unfinished_at : (n id : ℕ) (cs : List Chunk) → n ≤ id → AllByRecursion (λ (c : Chunk). c.request < n) cs → is_finished cs id ≡ false
unfinished_at n id [] le below = refl
unfinished_at n id (c ∷ cs) le below =
    let first : eqb c.request id ≡ false = grind (below.0, le, arith) in
    ap (λ (b : Bool). (b && ends c) || is_finished cs id) first ∙ unfinished_at n id cs le below.1

pub not_in : (n id : ℕ) (ids : List ℕ) → n ≤ id → AllByRecursion (λ (j : ℕ). j < n) ids → is_in id ids ≡ false
not_in n id [] le below = refl
not_in n id (j ∷ ids) le below =
    let first : eqb j id ≡ false = grind (below.0, le, arith) in
    ap (λ (b : Bool). b || is_in id ids) first ∙ not_in n id ids le below.1

pub pending_calls-call : (cs : List Chunk) (asked : List Asking) (id : ℕ) → AllByRecursion (λ (c : Chunk). c.request < id) cs
    → pending_calls cs (asked ++ Call id ∷ []) ≡ pending_calls cs asked ++ id ∷ []
unfolding pending_calls calls
pending_calls-call cs asked id below =
    ap (filter (λ (j : ℕ). not (is_finished cs j))) (calls-append asked (Call id ∷ []))
    ∙ (filter-append (λ (j : ℕ). not (is_finished cs j)) (calls asked) (id ∷ [])
    ∙ ap (λ (b : Bool). filter (λ (j : ℕ). not (is_finished cs j)) (calls asked) ++ (if not b then id ∷ [] else []))
    (unfinished_at id id cs (omega arith) below))

pub pending_calls-renewal : (cs : List Chunk) (asked : List Asking) (id : ℕ) → pending_calls cs (asked ++ Renewal id ∷ []) ≡ pending_calls cs asked
unfolding pending_calls calls
pending_calls-renewal cs asked id = ap (filter (λ (j : ℕ). not (is_finished cs j))) (calls-append asked (Renewal id ∷ []) ∙ append-nil (calls asked))

pub pending_renewals-renewal : (opened : List ℕ) (asked : List Asking) (id : ℕ) → AllByRecursion (λ (n : ℕ). n < id) opened
    → pending_renewals opened (asked ++ Renewal id ∷ []) ≡ pending_renewals opened asked ++ id ∷ []
unfolding pending_renewals
pending_renewals-renewal opened asked id below =
    ap (filter (λ (j : ℕ). not (is_in j opened))) (renewals-push asked (Renewal id))
    ∙ (filter-append (λ (j : ℕ). not (is_in j opened)) (renewals asked) (id ∷ [])
    ∙ ap (λ (b : Bool). filter (λ (j : ℕ). not (is_in j opened)) (renewals asked) ++ (if not b then id ∷ [] else [])) (not_in id id opened (omega arith) below))

pub pending_renewals-call : (opened : List ℕ) (asked : List Asking) (id : ℕ) → pending_renewals opened (asked ++ Call id ∷ []) ≡ pending_renewals opened asked
unfolding pending_renewals
pending_renewals-call opened asked id = ap (filter (λ (j : ℕ). not (is_in j opened))) (renewals-push asked (Call id) ∙ append-nil (renewals asked))

-- ---- places

pub asked_in-append : (asks more : List Placed) → asked_in (asks ++ more) ≡ asked_in asks ++ asked_in more
unfolding asked_in
asked_in-append asks more = map-append (λ (b : Placed). b.1) asks more

pub asked_in-push : (asks : List Placed) (a : Placed) → asked_in (asks ++ a ∷ []) ≡ asked_in asks ++ a.1 ∷ []
unfolding asked_in
asked_in-push asks a = map-append (λ (b : Placed). b.1) asks (a ∷ [])

-- the request id behind what is asked
pub next-append : (asks more : List Placed) → next_id (asked_in (asks ++ more)) ≡ next_id (asked_in asks) + length more
unfolding asked_in
next-append asks more =
    omega (arith, ap length (asked_in-append asks more), length-append (asked_in asks) (asked_in more), length-map more (λ (a : Placed). a.1))

-- an ask at a place or behind it was not made before it
pub asked_before-push : (place : ℕ) (asks : List Placed) (a : Placed) → place ≤ a.0 → asked_before place (asks ++ a ∷ []) ≡ asked_before place asks
unfolding asked_before
asked_before-push place asks a behind =
    let late : ltb a.0 place ≡ false = grind (behind, arith) in
    ap (map (λ (b : Placed). b.1)) (filter-append (λ (b : Placed). ltb b.0 place) asks (a ∷ [])
    ∙ (ap (λ (t : Bool). filter (λ (b : Placed). ltb b.0 place) asks ++ (if t then a ∷ [] else [])) late
    ∙ append-nil (filter (λ (b : Placed). ltb b.0 place) asks)))

all_before : (place n : ℕ) (asks : List Placed) → n < place → AllByRecursion (λ (a : Placed). a.0 ≤ n) asks → filter (λ (a : Placed). ltb a.0 place) asks ≡ asks
all_before place n [] less placed = refl
all_before place n (a ∷ asks) less placed =
    let early : ltb a.0 place ≡ true = grind (placed.0, less, arith) in
    ap (λ (t : Bool). if t then a ∷ filter (λ (b : Placed). ltb b.0 place) asks else filter (λ (b : Placed). ltb b.0 place) asks) early
    ∙ ap (λ (bs : List Placed). a ∷ bs) (all_before place n asks less placed.1)

-- behind all places everything was asked
pub asked_before-all : (place n : ℕ) (asks : List Placed) → n < place → AllByRecursion (λ (a : Placed). a.0 ≤ n) asks → asked_before place asks ≡ asked_in asks
unfolding asked_before asked_in
asked_before-all place n asks less placed = ap (map (λ (b : Placed). b.1)) (all_before place n asks less placed)

-- ---- one frame more

-- the request ids that are pending are below a number that those asked are below
pub pending_below : (n id : ℕ) (cs : List Chunk) (asked : List Asking) → AllByRecursion (λ (a : Asking). id_of a < n) asked
    → is_in id (pending_calls cs asked) ≡ true → id < n
unfolding pending_calls
pending_below n id cs asked below e = all_in (λ (j : ℕ). j < n) id (calls asked) (within_filter (λ (j : ℕ). not (is_finished cs j)) id (calls asked) e)
    (calls_all (λ (j : ℕ). j < n) asked below)

-- ---- a message that ends

finished-push : (cs : List Chunk) (c : Chunk) (id : ℕ) → is_finished (cs ++ c ∷ []) id ≡ (is_finished cs id || ((is_of id c && ends c) || false))
finished-push cs c id = list_any-append (λ (d : Chunk). is_of id d && ends d) cs (c ∷ [])

pub and_false : (b : Bool) → (b && false) ≡ false
and_false true = refl
and_false false = refl

pub and_true : (b : Bool) → (b && true) ≡ b
and_true true = refl
and_true false = refl

pub no_asks : asked_in [] ≡ []
unfolding asked_in
no_asks = refl

pub or_false : (b : Bool) → (b || false) ≡ b
or_false true = refl
or_false false = refl

pub filter_same : (p q : ℕ → Bool) (ids : List ℕ) → ((id : ℕ) → p id ≡ q id) → filter p ids ≡ filter q ids
filter_same p q [] same = refl
filter_same p q (id ∷ ids) same =
    ap (λ (b : Bool). if b then id ∷ filter p ids else filter p ids) (same id) ∙ ap (λ (js : List ℕ). if q id then id ∷ js else js) (filter_same p q ids same)

twice_by : (p q : ℕ → Bool) (id : ℕ) (ids : List ℕ) (b d : Bool) → q id ≡ d
    → filter (λ (j : ℕ). not (p j || q j)) ids ≡ filter (λ (j : ℕ). not (q j)) (filter (λ (j : ℕ). not (p j)) ids)
    → (if not (b || d) then id ∷ filter (λ (j : ℕ). not (p j || q j)) ids else filter (λ (j : ℕ). not (p j || q j)) ids)
    ≡ filter (λ (j : ℕ). not (q j)) (if not b then id ∷ filter (λ (j : ℕ). not (p j)) ids else filter (λ (j : ℕ). not (p j)) ids)
twice_by p q id ids true d is more = more
twice_by p q id ids false true is more =
    more ∙ sym
    (ap (λ (t : Bool). if not t then id ∷ filter (λ (j : ℕ). not (q j)) (filter (λ (j : ℕ). not (p j)) ids) else filter (λ (j : ℕ). not (q j))
    (filter (λ (j : ℕ). not (p j)) ids)) is)
twice_by p q id ids false false is more =
    ap (λ (js : List ℕ). id ∷ js) more
    ∙ sym (ap (λ (t : Bool). if not t then id ∷ filter (λ (j : ℕ). not (q j)) (filter (λ (j : ℕ). not (p j)) ids) else filter (λ (j : ℕ). not (q j))
    (filter (λ (j : ℕ). not (p j)) ids)) is)

filter_twice : (p q : ℕ → Bool) (ids : List ℕ) → filter (λ (id : ℕ). not (p id || q id)) ids ≡ filter (λ (id : ℕ). not (q id))
    (filter (λ (id : ℕ). not (p id)) ids)
filter_twice p q [] = refl
filter_twice p q (id ∷ ids) = twice_by p q id ids (p id) (q id) refl (filter_twice p q ids)

-- two tests one after the other, where no later one meets the first test
module _ (p q r : ℕ → Bool) (both : (id : ℕ) → r id ≡ (p id || q id)) where
  keeps_new : (b : Bool) (id : ℕ) (ids more : List ℕ) → r id ≡ (b || q id) → b ≡ false → ids ≡ more
      → (if not (r id) then id ∷ ids else ids) ≡ (if not (q id) then id ∷ more else more)
  keeps_new true id ids more is unmet same = absurd cc
  keeps_new false id ids more is unmet same = ap (λ (t : Bool). if not t then id ∷ ids else ids) is ∙ ap (λ (t : List ℕ). if not (q id) then id ∷ t else t) same

  filter_new : (ids : List ℕ) → AllByRecursion (λ (id : ℕ). p id ≡ false) ids → filter (λ (id : ℕ). not (r id)) ids ≡ filter (λ (id : ℕ). not (q id)) ids
  filter_new [] none = refl
  filter_new (id ∷ ids) none =
      keeps_new (p id) id (filter (λ (j : ℕ). not (r j)) ids) (filter (λ (j : ℕ). not (q j)) ids) (both id) none.0 (filter_new ids none.1)

  pub filter_behind : (ids new : List ℕ) → AllByRecursion (λ (id : ℕ). p id ≡ false) new
      → filter (λ (id : ℕ). not (r id)) (ids ++ new) ≡ filter (λ (id : ℕ). not (q id)) (filter (λ (id : ℕ). not (p id)) ids ++ new)
  filter_behind ids new none =
      let left : List ℕ = filter (λ (id : ℕ). not (p id)) ids in
      filter-append (λ (id : ℕ). not (r id)) ids new
      ∙ (ap (λ (t : List ℕ). t ++ filter (λ (id : ℕ). not (r id)) new)
      (filter_same (λ (id : ℕ). not (r id)) (λ (id : ℕ). not (p id || q id)) ids (λ id. ap not (both id)) ∙ filter_twice p q ids)
      ∙ (ap (λ (t : List ℕ). filter (λ (id : ℕ). not (q id)) left ++ t) (filter_new new none)
      ∙ sym (filter-append (λ (id : ℕ). not (q id)) left new)))

pub eqb_sym : (a b : ℕ) → eqb a b ≡ eqb b a
eqb_sym a b = grind arith

left_by : (p q : ℕ → Bool) (ids : List ℕ) (ending : Bool) (request : ℕ) → ((id : ℕ) → p id ≡ (q id || ((eqb request id && ending) || false)))
    → filter (λ (id : ℕ). not (p id)) ids
    ≡ (if ending then filter (λ (id : ℕ). not (eqb id request)) (filter (λ (id : ℕ). not (q id)) ids) else filter (λ (id : ℕ). not (q id)) ids)
left_by p q ids true request same =
    filter_same (λ (id : ℕ). not (p id)) (λ (id : ℕ). not (q id || eqb id request)) ids
    (λ id. ap not (same id ∙ ap (λ (b : Bool). q id || b) (or_false (eqb request id && true) ∙ (and_true (eqb request id) ∙ eqb_sym request id))))
    ∙ filter_twice q (λ (id : ℕ). eqb id request) ids
left_by p q ids false request same =
    filter_same (λ (id : ℕ). not (p id)) (λ (id : ℕ). not (q id)) ids
    (λ id. ap not (same id ∙ (ap (λ (b : Bool). q id || (b || false)) (and_false (eqb request id)) ∙ or_false (q id))))

-- with one chunk more those calls are pending that it does not answer
pub pending_calls-more : (cs : List Chunk) (c : Chunk) (asked : List Asking) → pending_calls (cs ++ c ∷ []) asked ≡ left_pending c (pending_calls cs asked)
unfolding pending_calls
pending_calls-more cs c asked = left_by (is_finished (cs ++ c ∷ [])) (is_finished cs) (calls asked) (ends c) c.request (finished-push cs c)

-- the answer to the one renewal that is pending leaves none
none_left : (p : ℕ → Bool) (id : ℕ) (ids : List ℕ) → filter p ids ≡ id ∷ [] → filter (λ (j : ℕ). not (eqb j id)) (filter p ids) ≡ []
none_left p id ids one =
    let same : eqb id id ≡ true = grind arith in
    ap (filter (λ (j : ℕ). not (eqb j id))) one ∙ ap (λ (b : Bool). if not b then id ∷ [] else []) same

opened-push : (opened : List ℕ) (n id : ℕ) → is_in id (opened ++ n ∷ []) ≡ (is_in id opened || eqb id n)
opened-push opened n id = list_any-append (λ (m : ℕ). eqb m id) opened (n ∷ []) ∙ ap (λ (b : Bool). is_in id opened || b) (or_false (eqb n id) ∙ eqb_sym n id)

pub pending_renewals-more : (opened : List ℕ) (id : ℕ) (asked : List Asking) → pending_renewals opened asked ≡ id ∷ []
    → pending_renewals (opened ++ id ∷ []) asked ≡ []
unfolding pending_renewals
pending_renewals-more opened id asked one =
    filter_same (λ (j : ℕ). not (is_in j (opened ++ id ∷ []))) (λ (j : ℕ). not (is_in j opened || eqb j id)) (renewals asked)
    (λ j. ap not (opened-push opened id j))
    ∙ (filter_twice (λ (j : ℕ). is_in j opened) (λ (j : ℕ). eqb j id) (renewals asked) ∙ none_left (λ (j : ℕ). not (is_in j opened)) id (renewals asked) one)

pub renewal_below : (n id : ℕ) (opened : List ℕ) (asked : List Asking) → AllByRecursion (λ (a : Asking). id_of a < n) asked
    → is_in id (pending_renewals opened asked) ≡ true → id < n
unfolding pending_renewals
renewal_below n id opened asked below e = all_in (λ (j : ℕ). j < n) id (renewals asked) (within_filter (λ (j : ℕ). not (is_in j opened)) id (renewals asked) e)
    (renewals_all (λ (j : ℕ). j < n) asked below)

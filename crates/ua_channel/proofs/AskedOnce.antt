-- The first call that is pending has a RequestId of its own, so that it is forgotten without a search.
use Rattle.std.proofs.Common.{◌≡◌, ℕ, zero, suc, ◌<◌, ◌+◌, List, [], ◌∷◌, Bool, true, false, not, ◌||◌, map, refl, sym, ◌∙◌, ap, subst, arith, eqb, length}
use Rattle.std.specs.Prelude.{if◌then◌else◌, drop}
use Rattle.std.specs.List.{AllByRecursion, filter, range_with_len, remove}
use Rattle.ua_chunk.specs.declared.chunk.Chunk.{Chunk}
use Rattle.ua_channel.specs.Asks.{Asking, id_of, calls, is_in, is_finished, pending_calls}
use Rattle.ua_channel.specs.Asks.Asking.{Call, Renewal}
use Rattle.ua_channel.specs.inside.ClientParts.{IsFirstOnce, left_behind}
use Rattle.ua_channel.proofs.Askings.{all_filter}

-- ---- ids ascend

-- each number is greater than those before it
abbrev pub Ascends : List ℕ → Type 0
Ascends [] = Unit {0}
Ascends (n ∷ ns) = AllByRecursion (λ (m : ℕ). n < m) ns × Ascends ns

range_above : (j k n : ℕ) → j < k → AllByRecursion (λ (m : ℕ). j < m) (range_with_len k n)
range_above j k zero less = tt
range_above j k (suc n) less = (less, range_above j (k + 1) n (omega (arith, less)))

range_ascends : (k n : ℕ) → Ascends (range_with_len k n)
range_ascends k zero = tt
range_ascends k (suc n) = (range_above k (k + 1) n (omega arith), range_ascends (k + 1) n)

all_called : (P : ℕ → Type 0) (asked : List Asking) → AllByRecursion P (map id_of asked) → AllByRecursion P (calls asked)
unfolding calls
all_called P [] all = tt
all_called P (Call id ∷ asked) all = (all.0, all_called P asked all.1)
all_called P (Renewal id ∷ asked) all = all_called P asked all.1

calls_ascend : (asked : List Asking) → Ascends (map id_of asked) → Ascends (calls asked)
unfolding calls
calls_ascend [] up = tt
calls_ascend (Call id ∷ asked) up = (all_called (λ (m : ℕ). id < m) asked up.0, calls_ascend asked up.1)
calls_ascend (Renewal id ∷ asked) up = calls_ascend asked up.1

kept_ascends : (b : Bool) (id : ℕ) (ids : List ℕ) → AllByRecursion (λ (m : ℕ). id < m) ids → Ascends ids → Ascends (if b then id ∷ ids else ids)
kept_ascends true id ids above up = (above, up)
kept_ascends false id ids above up = up

filter_ascends : (test : ℕ → Bool) (ids : List ℕ) → Ascends ids → Ascends (filter test ids)
filter_ascends test [] up = tt
filter_ascends test (id ∷ ids) up =
    kept_ascends (test id) id (filter test ids) (all_filter (λ (m : ℕ). id < m) test ids up.0) (filter_ascends test ids up.1)

not_above : (id : ℕ) (ids : List ℕ) → AllByRecursion (λ (m : ℕ). id < m) ids → is_in id ids ≡ false
not_above id [] all = refl
not_above id (m ∷ ids) all =
    let less : id < m = all.0 in
    let other : eqb m id ≡ false = grind (arith, less) in
    ap (λ (b : Bool). b || is_in id ids) other ∙ not_above id ids all.1

first_once : (ids : List ℕ) → Ascends ids → IsFirstOnce ids
first_once [] up = tt
first_once (id ∷ ids) up = not_above id ids up.0

pub once_pending : (cs : List Chunk) (asked : List Asking) → map id_of asked ≡ range_with_len 2 (length asked) → IsFirstOnce (pending_calls cs asked)
unfolding pending_calls
once_pending cs asked counted =
    first_once (filter (λ (id : ℕ). not (is_finished cs id)) (calls asked))
    (filter_ascends (λ (id : ℕ). not (is_finished cs id)) (calls asked)
    (calls_ascend asked (subst Ascends (sym counted) (range_ascends 2 (length asked)))))

-- ---- the first is forgotten

kept_other : (b : Bool) (id j : ℕ) (ids : List ℕ) → eqb j id ≡ b → (b || is_in id ids) ≡ false
    → (is_in id ids ≡ false → filter (λ (n : ℕ). not (eqb n id)) ids ≡ ids)
    → (if not b then j ∷ filter (λ (n : ℕ). not (eqb n id)) ids else filter (λ (n : ℕ). not (eqb n id)) ids) ≡ j ∷ ids
kept_other true id j ids is none more = absurd cc
kept_other false id j ids is none more = ap (λ (ns : List ℕ). j ∷ ns) (more none)

kept_others : (id : ℕ) (ids : List ℕ) → is_in id ids ≡ false → filter (λ (n : ℕ). not (eqb n id)) ids ≡ ids
kept_others id [] none = refl
kept_others id (j ∷ ids) none = kept_other (eqb j id) id j ids refl none (kept_others id ids)

left_first : (id : ℕ) (ids : List ℕ) → is_in id ids ≡ false → left_behind true id (id ∷ ids) ≡ ids
left_first id ids none =
    let same : eqb id id ≡ true = grind arith in
    ap (λ (b : Bool). if not b then id ∷ filter (λ (n : ℕ). not (eqb n id)) ids else filter (λ (n : ℕ). not (eqb n id)) ids) same ∙ kept_others id ids none

pub forgets_first : (id : ℕ) (ids new : List ℕ) → ids ≡ id ∷ drop 1 ids → new ≡ remove ids 0 → IsFirstOnce ids → new ≡ left_behind true id ids
forgets_first id ids new e r once =
    r
    ∙ (ap (λ (t : List ℕ). remove t 0) e
    ∙ (sym (left_first id (drop 1 ids) (subst IsFirstOnce e once)) ∙ ap (left_behind true id) (sym e)))

-- What each chunk of merged messages delivers, also behind chunks that leave nothing unfinished; and that merged messages leave nothing
-- unfinished.
use Rattle.std.proofs.Common.{◌≡◌, ℕ, ◌≤◌, Bool, true, false, cond, not, ◌||◌, eqb, List, [], ◌∷◌, ◌++◌, Option, Some, None}
use Rattle.std.proofs.Common.{length, map, refl, sym, ◌∙◌, ap, arith, append-nil, append_assoc, length-append, ◌&&◌}
use Rattle.std.specs.List.{filter, list_any}
use Rattle.std.proofs.lemmas.Bool.{eq-eqb, or_right, or_from}
use Rattle.std.proofs.lemmas.List.{append_cancel_left, append_cancel_right, length-map, map-append}
use Rattle.std.proofs.lemmas.List.Concat.{flat_map-append}
use Rattle.ua_builtin.specs.declared.status_code.StatusCode.{StatusCode}
use Rattle.ua_frame.specs.After.{AllFrom, each_after}
use Rattle.ua_frame.specs.declared.limits.Limits.{Limits}
use Rattle.ua_chunk.specs.declared.chunk.Chunk.{Chunk}
use Rattle.ua_chunk.specs.declared.flag.Flag.{Flag}
use Rattle.ua_chunk.specs.declared.flag.Flag.TheVariants.{F, C, A}
use Rattle.ua_chunk.specs.Abort.{abort_of}
use Rattle.ua_chunk.specs.Delivered.{aborted, delivered, delivered_behind, given}
use Rattle.ua_chunk.specs.Flag.{is_more_flag}
use Rattle.ua_chunk.specs.Gathered.{after_last, ends, is_of}
use Rattle.ua_chunk.specs.Item.{Item}
use Rattle.ua_chunk.specs.Merge.{IsMerge, Part, Sent, id_of_item, last_part, more_part, outcome_by}
use Rattle.ua_chunk.specs.Merge.{outcome_under, outcomes, part_of, parts_under, sent_under, is_item_of}
use Rattle.ua_chunk.specs.Open.{open_ids}
use Rattle.ua_chunk.specs.Refusal.{TakesMessages, message_refusal}
use Rattle.ua_chunk.proofs.Fresh.{fresh, fresh_message}
use Rattle.ua_chunk.proofs.Interleaved.{merge_by_id}
use Rattle.ua_chunk.proofs.Lists.{filter_append}
use Rattle.ua_chunk.proofs.Once.{once}
use Rattle.ua_chunk.proofs.Merged.{merged, messages_behind}
use Rattle.ua_chunk.proofs.OneMore.{delivered_push, open_push}
use Rattle.ua_chunk.proofs.ReaderLaws.{open_is_unfinished}
use Rattle.ua_chunk.proofs.Taken.{delivered_ids}
use Rattle.ua_channel.specs.Asks.{is_finished}
use Rattle.ua_channel_laws.specs.Merges.{AreMerged, ended_by}
use Rattle.ua_channel_laws.proofs.ReadOn.{each_append}

-- ---- lists

all_front : {A : Type 0} (P : List A → A → Type 0) (start xs ys : List A) → AllFrom P start (xs ++ ys) → AllFrom P start xs
all_front P start [] ys h = tt
all_front P start (x ∷ xs) ys h = (h.0, all_front P (start ++ x ∷ []) xs ys h.1)

-- lists that are one, in two parts, the first ones of one length
same_rest : {A : Type 0} (xs zs ys ws : List A) → length xs ≡ length zs → xs ++ ys ≡ zs ++ ws → ys ≡ ws
same_rest [] [] ys ws n e = e
same_rest [] (z ∷ zs) ys ws n e = absurd (omega (arith, n))
same_rest (x ∷ xs) [] ys ws n e = absurd (omega (arith, n))
same_rest (x ∷ xs) (z ∷ zs) ys ws n e = same_rest xs zs ys ws (omega (arith, n)) cc

-- each of these chunks, behind these, delivers what its message comes to where it is the last of that
abbrev pub EachEnds : List Sent → List Chunk → List Chunk → Type 0
EachEnds ms us cs = AllFrom (λ vs c. given vs c ≡ ended_by ms c) us cs

-- ---- how much chunks deliver

-- each chunk that ends a message delivers one item
count-delivered : (octets chunks : ℕ) (cs : List Chunk) → TakesMessages octets chunks [] cs → length (delivered cs) ≡ length (filter ends cs)
count-delivered octets chunks cs taken =
    sym (length-map (delivered cs) id_of_item) ∙ (ap length (delivered_ids octets chunks cs taken) ∙ length-map (filter ends cs) (λ (c : Chunk). c.request))

aborted_few : (id : ℕ) (o : Option (StatusCode × Option (List ℕ))) → length (aborted id o) ≤ 1
aborted_few id None = omega arith
aborted_few id (Some a) = omega arith

outcome_few : (f : Flag) (m : Sent) → length (outcome_by f m) ≤ 1
outcome_few F m = omega arith
outcome_few C m = omega arith
outcome_few A m = aborted_few m.request (abort_of m.last)

under_few : (o : Option Sent) → length (outcome_under o) ≤ 1
under_few None = omega arith
under_few (Some m) = outcome_few m.end m

few_step : (b : Bool) (now later : List Item) (c : Chunk) (cs : List Chunk) → length now ≤ 1 → length later ≤ length cs
    → length (cond b now [] ++ later) ≤ length (cond b (c ∷ cs) cs)
few_step true now later c cs one more = omega (arith, one, more, length-append now later)
few_step false now later c cs one more = more

-- at most one outcome stands at each such chunk
outcomes_few : (ms : List Sent) (cs : List Chunk) → length (outcomes ms cs) ≤ length (filter ends cs)
outcomes_few ms [] = omega arith
outcomes_few ms (c ∷ cs) = few_step (ends c) (outcome_under (sent_under c.request ms)) (outcomes ms cs) c (filter ends cs) (under_few (sent_under c.request ms))
    (outcomes_few ms cs)

-- ---- what each chunk delivers

delivered-append : (us rest : List Chunk) → delivered (us ++ rest) ≡ delivered us ++ delivered_behind us rest
unfolding each_after
delivered-append us rest = each_append given [] us rest

outcomes-append : (ms : List Sent) (us rest : List Chunk) → outcomes ms (us ++ rest) ≡ outcomes ms us ++ outcomes ms rest
outcomes-append ms us rest = flat_map-append (ended_by ms) us rest

module _ (octets chunks : ℕ) (ms : List Sent) where
  -- where all chunks together deliver the outcomes, so do those behind a beginning
  rest_delivers : (us rest : List Chunk) → TakesMessages octets chunks [] (us ++ rest) → delivered (us ++ rest) ≡ outcomes ms (us ++ rest)
      → delivered_behind us rest ≡ outcomes ms rest
  rest_delivers us rest taken all =
      let front : TakesMessages octets chunks [] us = all_front (λ vs c. message_refusal octets chunks vs c ≡ None) [] us rest taken in
      let parts : delivered us ++ delivered_behind us rest ≡ outcomes ms us ++ outcomes ms rest = sym (delivered-append us rest)
      ∙ (all ∙ outcomes-append ms us rest) in
      let many : length (delivered us) ≡ length (outcomes ms us) =
      omega (
        arith,
        count-delivered octets chunks us front,
        count-delivered octets chunks (us ++ rest) taken,
        outcomes_few ms us,
        outcomes_few ms rest,
        ap length all,
        ap length (outcomes-append ms us rest),
        length-append (outcomes ms us) (outcomes ms rest),
        ap length (filter_append ends us rest),
        length-append (filter ends us) (filter ends rest),
      ) in
      same_rest (delivered us) (outcomes ms us) (delivered_behind us rest) (outcomes ms rest) many parts

  each_ends : (us rest : List Chunk) → TakesMessages octets chunks [] (us ++ rest) → delivered (us ++ rest) ≡ outcomes ms (us ++ rest) → EachEnds ms us rest
  each_ends us [] taken all = tt
  each_ends us (c ∷ rest) taken all =
      let moved : us ++ c ∷ rest ≡ (us ++ c ∷ []) ++ rest = sym (append_assoc us (c ∷ []) rest) in
      let taken-on : TakesMessages octets chunks [] ((us ++ c ∷ []) ++ rest) = rw (← moved) taken in
      let all-on : delivered ((us ++ c ∷ []) ++ rest) ≡ outcomes ms ((us ++ c ∷ []) ++ rest) =
      rw (← moved) all in
      let now : given us c ++ delivered_behind (us ++ c ∷ []) rest ≡ ended_by ms c ++ outcomes ms rest = rest_delivers us (c ∷ rest) taken all in
      let later : delivered_behind (us ++ c ∷ []) rest ≡ outcomes ms rest = rest_delivers (us ++ c ∷ []) rest taken-on all-on in (
        append_cancel_right (given us c) (ended_by ms c) (outcomes ms rest) (ap (λ (t : List Item). given us c ++ t) (sym later) ∙ now),
        each_ends (us ++ c ∷ []) rest taken-on all-on,
      )

-- what a chunk delivers behind chunks that leave nothing unfinished is what it delivers without them
pub given_fresh : (base us : List Chunk) (c : Chunk) → open_ids base ≡ [] → given (base ++ us) c ≡ given us c
given_fresh base us c none =
    append_cancel_left (delivered base ++ delivered us) (given (base ++ us) c) (given us c)
    (ap (λ (t : List Item). t ++ given (base ++ us) c) (sym (fresh base us none))
    ∙ (sym (delivered_push (base ++ us) c)
    ∙ (ap delivered (append_assoc base us (c ∷ []))
    ∙ (fresh base (us ++ c ∷ []) none
    ∙ (ap (λ (t : List Item). delivered base ++ t) (delivered_push us c)
    ∙ sym (append_assoc (delivered base) (delivered us) (given us c)))))))

-- ---- nothing is unfinished behind them

-- the chunks of a message of these pieces and this last part end in one that ends it
record Closed (cs : List Chunk) : Type 0 where
  some : list_any ends cs ≡ true
  none_after : after_last ends cs ≡ []

none_mapped : (cs : List Chunk) → map part_of cs ≡ [] → cs ≡ []
none_mapped [] e = refl
none_mapped (c ∷ cs) e = absurd cc

closed_last : (c : Chunk) (cs : List Chunk) → ends c ≡ true → cs ≡ [] → Closed (c ∷ cs)
closed_last c cs last none = record {
  some = rw last;
  none_after = rw last (ap (after_last ends) none);
}

closed_more : (c : Chunk) (cs : List Chunk) → Closed cs → Closed (c ∷ cs)
closed_more c cs h = record {
  some = or_right (ends c) (list_any ends cs) h.some;
  none_after = rw (or_right (ends c) (list_any ends cs) h.some) h.none_after;
}

closed_parts : (id : ℕ) (ps : List (List ℕ)) (z : Part) (cs : List Chunk) → is_more_flag z.flag ≡ false → map part_of cs ≡ map (more_part id) ps ++ z ∷ []
    → Closed cs
closed_parts id [] z [] last e = absurd cc
closed_parts id [] z (c ∷ cs) last e =
    let first : part_of c ≡ z = cc in
    closed_last c cs (ap (λ (p : Part). not (is_more_flag p.flag)) first ∙ ap not last) (none_mapped cs cc)
closed_parts id (p ∷ ps) z [] last e = absurd cc
closed_parts id (p ∷ ps) z (c ∷ cs) last e = closed_more c cs (closed_parts id ps z cs last cc)

closed_under : (o : Option Sent) (cs : List Chunk) → ((m : Sent) → o ≡ Some m → is_more_flag m.end ≡ false) → map part_of cs ≡ parts_under o
    → after_last ends cs ≡ []
closed_under None cs ending e = ap (after_last ends) (none_mapped cs e)
closed_under (Some m) cs ending e = (closed_parts m.request m.pieces (last_part m) cs (ending m refl) e).none_after

one_open : (id : ℕ) (ids : List ℕ) → list_any (λ (j : ℕ). eqb j id) (id ∷ ids) ≡ true
one_open id ids = rw (eq-eqb id id refl)

open_none : (ids : List ℕ) → ((id : ℕ) → list_any (λ (j : ℕ). eqb j id) ids ≡ false) → ids ≡ []
open_none [] h = refl
open_none (id ∷ ids) h = let clash : ◌≡◌ {A = Bool} true false = sym (one_open id ids) ∙ h id in absurd cc

-- behind chunks that leave nothing unfinished others leave what they leave alone
open_behind : (base us rest : List Chunk) → open_ids (base ++ us) ≡ open_ids us → open_ids (base ++ (us ++ rest)) ≡ open_ids (us ++ rest)
open_behind base us [] e = ap (λ (t : List Chunk). open_ids (base ++ t)) (append-nil us) ∙ (e ∙ ap open_ids (sym (append-nil us)))
open_behind base us (c ∷ rest) e =
    let next : open_ids (base ++ (us ++ c ∷ [])) ≡ open_ids (us ++ c ∷ []) =
    ap open_ids (sym (append_assoc base us (c ∷ [])))
    ∙ (open_push (base ++ us) c
    ∙ (rw e (sym (open_push us c)))) in
    rw (← append_assoc us (c ∷ []) rest) (open_behind base (us ++ c ∷ []) rest next)

-- ---- each stands before the end of its message

no_more : (xs ys : List Chunk) (c : Chunk) → map part_of (xs ++ c ∷ ys) ≡ [] → ⊥
no_more [] ys c e = cc
no_more (x ∷ xs) ys c e = cc

-- before a part of a message its parts are C's
unended_parts : (id : ℕ) (ps : List (List ℕ)) (z : Part) (xs ys : List Chunk) (c : Chunk) → map part_of (xs ++ c ∷ ys) ≡ map (more_part id) ps ++ z ∷ []
    → list_any ends xs ≡ false
unended_parts id ps z [] ys c e = refl
unended_parts id [] z (x ∷ xs) ys c e = absurd (no_more xs ys c cc)
unended_parts id (p ∷ ps) z (x ∷ xs) ys c e =
    let first : part_of x ≡ more_part id p = cc in
    or_from (ends x) (list_any ends xs) (ap (λ (q : Part). not (is_more_flag q.flag)) first) (unended_parts id ps z xs ys c cc)

unended_under : (o : Option Sent) (xs ys : List Chunk) (c : Chunk) → map part_of (xs ++ c ∷ ys) ≡ parts_under o → list_any ends xs ≡ false
unended_under None xs ys c e = absurd (no_more xs ys c e)
unended_under (Some m) xs ys c e = unended_parts m.request m.pieces (last_part m) xs ys c e

ended_step : (b e : Bool) (c : Chunk) (f : List Chunk) (any : Bool) → ends c ≡ e → any ≡ list_any ends f → ((b && e) || any) ≡ list_any ends (cond b (c ∷ f) f)
ended_step true e c f any is same = rw (sym is, same)
ended_step false e c f any is same = same

ended_own : (id : ℕ) (cs : List Chunk) → is_finished cs id ≡ list_any ends (filter (is_of id) cs)
ended_own id [] = refl
ended_own id (c ∷ cs) = ended_step (is_of id c) (ends c) c (filter (is_of id) cs) (is_finished cs id) refl (ended_own id cs)

own_chunks : (id : ℕ) (us rest : List Chunk) (c : Chunk) → c.request ≡ id → filter (is_of id) (us ++ c ∷ rest) ≡ filter (is_of id) us
    ++ c ∷ filter (is_of id) rest
own_chunks id us rest c is =
    filter_append (is_of id) us (c ∷ rest) ∙ rw (eq-eqb c.request id is)

unfinished : (ms : List Sent) (us cs : List Chunk) → IsMerge ms (us ++ cs) → AllFrom (λ vs c. is_finished vs c.request ≡ false) us cs
unfinished ms us [] merge = tt
unfinished ms us (c ∷ cs) merge =
    let own : map part_of (filter (is_of c.request) us ++ c ∷ filter (is_of c.request) cs) ≡ parts_under (sent_under c.request ms) =
    ap (map part_of) (sym (own_chunks c.request us cs c refl)) ∙ merge c.request in (
      ended_own c.request us ∙ unended_under (sent_under c.request ms) (filter (is_of c.request) us) (filter (is_of c.request) cs) c own,
      unfinished ms (us ++ c ∷ []) cs (rw (append_assoc us (c ∷ []) cs) merge),
    )

-- ---- merged messages

-- what is used of merged messages
pub record Comes (limits : Limits) (ms : List Sent) (cs : List Chunk) : Type 0 where
  pub taken : TakesMessages limits.max_message_size limits.max_chunk_count [] cs
  pub each : EachEnds ms [] cs
  pub all : delivered cs ≡ outcomes ms cs
  pub own : IsMerge ms cs
  pub unended : AllFrom (λ us c. is_finished us c.request ≡ false) [] cs
  pub none_open : open_ids cs ≡ []

pub comes : (limits : Limits) (ms : List Sent) (cs : List Chunk) → AreMerged limits ms cs → Comes limits ms cs
comes limits ms cs m =
    let merge : IsMerge ms cs = merge_by_id ms cs m.own_ids m.merged in
    let taken : TakesMessages limits.max_message_size limits.max_chunk_count [] cs =
    messages_behind limits.max_message_size limits.max_chunk_count ms [] cs m.within merge m.few_open in
    let all : delivered cs ≡ outcomes ms cs = merged ms cs merge in
    record {
      taken = taken;
      each = each_ends limits.max_message_size limits.max_chunk_count ms [] cs taken all;
      all = all;
      own = merge;
      unended = unfinished ms [] cs merge;
      none_open =
          open_none (open_ids cs)
          (λ id. (open_is_unfinished id cs).1 (closed_under (sent_under id ms) (filter (is_of id) cs) (λ n found. (m.within id n found).ending) (merge id)));
    }

-- messages that are taken alone are taken behind chunks that leave nothing unfinished
pub takes_fresh : (octets chunks : ℕ) (base us cs : List Chunk) → open_ids base ≡ [] → TakesMessages octets chunks us cs
    → TakesMessages octets chunks (base ++ us) cs
takes_fresh octets chunks base us [] none h = tt
takes_fresh octets chunks base us (c ∷ cs) none h = (
  fresh_message octets chunks base us c none ∙ h.0,
  rw (append_assoc base us (c ∷ [])) (takes_fresh octets chunks base (us ++ c ∷ []) cs none h.1),
)

-- and leave nothing unfinished there where they leave nothing alone
pub closed_fresh : (base cs : List Chunk) → open_ids base ≡ [] → open_ids cs ≡ [] → open_ids (base ++ cs) ≡ []
closed_fresh base cs none end = open_behind base [] cs (ap open_ids (append-nil base) ∙ none) ∙ end

-- ---- what is told of them

-- what is found in what was told of them alone, where in all that was told is found what all chunks deliver
pub told_new : {E B : Type 0} (found : List E → List B) (name : Item → B) (had told : List E) (base cs : List Chunk) (items : List Item)
    → found (had ++ told) ≡ found had ++ found told → open_ids base ≡ []
    → delivered cs ≡ items → found had ≡ map name (delivered base) → found (had ++ told) ≡ map name (delivered (base ++ cs))
    → found told ≡ map name items
told_new {B = B} found name had told base cs items apart none all old new =
    append_cancel_left (found had) (found told) (map name items)
    (sym apart
    ∙ (new
    ∙ (ap (map name) (fresh base cs none ∙ rw all)
    ∙ (map-append name (delivered base) items ∙ rw (sym old)))))

kept_or_not : {A B : Type 0} (name : A → B) (b : Bool) (x : A) (xs : List A) → cond b (name x ∷ map name xs) (map name xs) ≡ map name (cond b (x ∷ xs) xs)
kept_or_not name true x xs = refl
kept_or_not name false x xs = refl

pub names_kept : {A B : Type 0} (name : A → B) (p : B → Bool) (q : A → Bool) → ((x : A) → p (name x) ≡ q x) → (xs : List A)
    → filter p (map name xs) ≡ map name (filter q xs)
names_kept name p q same [] = refl
names_kept name p q same (x ∷ xs) = rw (same x, names_kept name p q same xs) (kept_or_not name (q x) x (filter q xs))

-- under each request id the outcome of its message stands once
pub outcomes_once : {B : Type 0} (limits : Limits) (ms : List Sent) (cs : List Chunk) (m : AreMerged limits ms cs) (name : Item → B) (p : B → Bool) (id : ℕ)
    → ((d : Item) → p (name d) ≡ is_item_of id d)
    → filter p (map name (outcomes ms cs)) ≡ map name (outcome_under (sent_under id ms))
outcomes_once limits ms cs m name p id names =
    names_kept name p (is_item_of id) names (outcomes ms cs)
    ∙ (rw (sym (comes limits ms cs m).all) (ap (map name) (once ms cs id (comes limits ms cs m).own)))

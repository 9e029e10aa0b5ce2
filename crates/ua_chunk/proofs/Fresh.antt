-- Chunks behind chunks that leave nothing unfinished, and what a cut body delivers.
use Rattle.std.proofs.Common.{◌≡◌, ℕ, ◌<◌, Bool, true, false, cond, not, ◌&&◌, ◌||◌, eqb, ltb, List, []}
use Rattle.std.proofs.Common.{◌∷◌, ◌++◌, refl, sym, ◌∙◌, ap, arith, length, append-nil, append_assoc, take, drop}
use Rattle.std.proofs.lemmas.Bool.{cond-true, eq-eqb}
use Rattle.std.specs.List.{list_any, filter, flat_map}
use Rattle.ua_chunk.specs.declared.chunk.Chunk.{Chunk}
use Rattle.ua_chunk.specs.declared.flag.Flag.{Flag}
use Rattle.ua_chunk.specs.declared.flag.Flag.TheVariants.{F, C, A}
use Rattle.ua_chunk.specs.declared.lane.Lane.{Lane}
use Rattle.ua_chunk.specs.Cutting.{pieces, pieces_in, numbered, chunk_of}
use Rattle.ua_chunk.specs.Delivered.{given, given_by, delivered, delivered_behind}
use Rattle.ua_chunk.specs.declared.fault.AssembleFault.{AssembleFault}
use Rattle.ua_chunk.specs.declared.fault.AssembleFault.TheVariants.{Unreadable, TooManyOpen, MessageTooLarge, TooManyChunks}
use Rattle.ua_chunk.specs.Abort.{is_readable_abort}
use Rattle.ua_chunk.specs.Flag.{is_abort_flag}
use Rattle.ua_chunk.specs.Gathered.{is_of, is_more, ends, after_last, unfinished, gathered, joined}
use Rattle.ua_chunk.specs.Item.Item.{Whole}
use Rattle.ua_chunk.specs.Open.{open_ids}
use Rattle.ua_builtin.specs.Reasons.{first_reason}
use Rattle.ua_chunk.specs.Refusal.{passes, most_open, message_reasons, message_refusal}
use Rattle.ua_chunk.specs.Sequence.{next_number}
use Rattle.ua_chunk.proofs.Lists.{filter_append}
use Rattle.ua_chunk.proofs.OneMore.{delivered_from, not_open, unfinished_more}
use Rattle.ua_chunk.proofs.KeptMessages.{joined_push}

-- ---- behind nothing unfinished

after_append_step : {X : Type 0} (any any' : Bool) (x : X) (xs ys al al' end : List X) → (any ≡ true → any' ≡ true) → (al ≡ [] → al' ≡ end)
    → cond any al (x ∷ xs) ≡ [] → cond any' al' (x ∷ ys) ≡ end
after_append_step true any' x xs ys al al' end grows same e = cond-true any' al' (x ∷ ys) (grows refl) ∙ same e
after_append_step false any' x xs ys al al' end grows same e = absurd cc

any_grows : {X : Type 0} (p : X → Bool) (xs ys : List X) → list_any p xs ≡ true → list_any p (xs ++ ys) ≡ true
any_grows p [] ys h = absurd cc
any_grows p (x ∷ xs) ys h = any_or (p x) (list_any p xs) (list_any p (xs ++ ys)) (any_grows p xs ys) h
  where
    any_or : (b c d : Bool) → (c ≡ true → d ≡ true) → (b || c) ≡ true → (b || d) ≡ true
    any_or true c d g h = refl
    any_or false c d g h = g h

after_last_append : {X : Type 0} (p : X → Bool) (xs ys : List X) → after_last p xs ≡ [] → after_last p (xs ++ ys) ≡ after_last p ys
after_last_append p [] ys e = refl
after_last_append p (x ∷ xs) ys e =
    after_append_step (list_any p (x ∷ xs)) (list_any p (x ∷ (xs ++ ys))) x xs (xs ++ ys) (after_last p xs) (after_last p (xs ++ ys)) (after_last p ys)
    (any_grows p (x ∷ xs) ys) (after_last_append p xs ys) e

unfinished_behind : (id : ℕ) (cs us : List Chunk) → unfinished id cs ≡ [] → unfinished id (cs ++ us) ≡ unfinished id us
unfinished_behind id cs us e = ap (after_last ends) (filter_append (is_of id) cs us) ∙ after_last_append ends (filter (is_of id) cs) (filter (is_of id) us) e

given_behind : (f : Flag) (cs us : List Chunk) (c : Chunk) → unfinished c.request cs ≡ [] → given_by f (cs ++ us) c ≡ given_by f us c
given_behind F cs us c e = ap (λ t. Whole c.request (joined (t ++ c ∷ [])) ∷ []) (unfinished_behind c.request cs us e)
given_behind C cs us c e = refl
given_behind A cs us c e = refl

fresh_behind : (cs us ds : List Chunk) → ((id : ℕ) → unfinished id cs ≡ []) → delivered_behind (cs ++ us) ds ≡ delivered_behind us ds
fresh_behind cs us [] none = refl
fresh_behind cs us (d ∷ ds) none =
    ap (λ t. t ++ delivered_behind ((cs ++ us) ++ d ∷ []) ds) (given_behind d.flag cs us d (none d.request))
    ∙ ap (λ t. given us d ++ delivered_behind t ds) (append_assoc cs us (d ∷ []))
    ∙ ap (λ t. given us d ++ t) (fresh_behind cs (us ++ d ∷ []) ds none)

behind_append : (before cs ds : List Chunk) → delivered_behind before (cs ++ ds) ≡ delivered_behind before cs ++ delivered_behind (before ++ cs) ds
behind_append before [] ds = ap (λ t. delivered_behind t ds) (sym (append-nil before))
behind_append before (c ∷ cs) ds =
    ap (λ t. given before c ++ t) (behind_append (before ++ c ∷ []) cs ds)
    ∙ ap (λ t. given before c ++ (delivered_behind (before ++ c ∷ []) cs ++ delivered_behind t ds)) (append_assoc before (c ∷ []) cs)
    ∙ sym (append_assoc (given before c) (delivered_behind (before ++ c ∷ []) cs) (delivered_behind (before ++ c ∷ cs) ds))

none_unfinished : (cs : List Chunk) → open_ids cs ≡ [] → (id : ℕ) → unfinished id cs ≡ []
none_unfinished cs none id = not_open id cs (ap (list_any (λ j. eqb j id)) none)

-- behind chunks that leave nothing unfinished others deliver what they deliver alone
pub fresh : (cs ds : List Chunk) → open_ids cs ≡ [] → delivered (cs ++ ds) ≡ delivered cs ++ delivered ds
fresh cs ds none =
    delivered_from (cs ++ ds)
    ∙ behind_append [] cs ds
    ∙ ap (λ t. delivered_behind [] cs ++ t) (ap (λ t. delivered_behind t ds) (sym (append-nil cs)) ∙ fresh_behind cs [] ds (none_unfinished cs none)
    ∙ sym (delivered_from ds))
    ∙ ap (λ t. t ++ delivered ds) (sym (delivered_from cs))

-- ---- why chunks are refused behind nothing unfinished

open_step : (more later later' : Bool) (r : ℕ) (o o' end : List ℕ) → (later ≡ true → later' ≡ true) → (o ≡ [] → o' ≡ end)
    → cond (more && not later) (r ∷ o) o ≡ [] → cond (more && not later') (r ∷ o') o' ≡ end
open_step false later later' r o o' end grows same e = same e
open_step true true later' r o o' end grows same e = ap (λ b. cond (not b) (r ∷ o') o') (grows refl) ∙ same e
open_step true false later' r o o' end grows same e = absurd cc

open_behind : (cs us : List Chunk) → open_ids cs ≡ [] → open_ids (cs ++ us) ≡ open_ids us
open_behind [] us e = refl
open_behind (c ∷ cs) us e =
    open_step (is_more c) (list_any (is_of c.request) cs) (list_any (is_of c.request) (cs ++ us)) c.request (open_ids cs) (open_ids (cs ++ us)) (open_ids us)
    (any_grows (is_of c.request) cs us) (open_behind cs us) e

-- what may be wrong with a message is what may be wrong with it alone
same_reasons : (octets chunks : ℕ) (cs ds : List Chunk) (c : Chunk) → open_ids cs ≡ []
    → message_reasons octets chunks (cs ++ ds) c ≡ message_reasons octets chunks ds c
same_reasons octets chunks cs ds c none =
    let table : List ℕ → List Chunk → List (AssembleFault × Bool) = λ ids us.
    (Unreadable, is_abort_flag c.flag && not (is_readable_abort c.body))
    ∷ (TooManyOpen, ltb most_open (length ids))
    ∷ (MessageTooLarge, not (is_abort_flag c.flag) && passes octets (length (joined us)))
    ∷ (TooManyChunks, not (is_abort_flag c.flag) && passes chunks (length us))
    ∷ [] in
    ap (λ ids. table ids (gathered (cs ++ ds) c)) (ap open_ids (append_assoc cs ds (c ∷ [])) ∙ open_behind cs (ds ++ c ∷ []) none)
    ∙ ap (λ us. table (open_ids (ds ++ c ∷ [])) (us ++ c ∷ [])) (unfinished_behind c.request cs ds (none_unfinished cs none c.request))

pub fresh_message : (octets chunks : ℕ) (cs ds : List Chunk) (c : Chunk) → open_ids cs ≡ []
    → message_refusal octets chunks (cs ++ ds) c ≡ message_refusal octets chunks ds c
fresh_message octets chunks cs ds c none = ap (first_reason) (same_reasons octets chunks cs ds c none)

-- ---- what a cut body delivers

pub cut_behind : (lane : Lane) (s id : ℕ) (p : List ℕ) (ps : List (List ℕ)) (before : List Chunk) → delivered_behind before (numbered lane s id (p ∷ ps))
    ≡ Whole id (joined (unfinished id before) ++ flat_map (λ p. p) (p ∷ ps)) ∷ []
cut_behind lane s id p [] before =
    ap (λ t. Whole id t ∷ []) (joined_push (unfinished id before) (chunk_of lane F s id p) ∙ ap (λ t. joined (unfinished id before) ++ t) (sym (append-nil p)))
cut_behind lane s id p (q ∷ qs) before =
    let c = chunk_of lane C s id p in
    cut_behind lane (next_number s) id q qs (before ++ c ∷ [])
    ∙ ap (λ t. Whole id (t ++ flat_map (λ p. p) (q ∷ qs)) ∷ []) (ap joined (unfinished_more id before c (eq-eqb id id refl) refl)
    ∙ joined_push (unfinished id before) c)
    ∙ ap (λ t. Whole id t ∷ []) (append_assoc (joined (unfinished id before)) p (flat_map (λ p. p) (q ∷ qs)))

-- pieces that there are
pub record Pieces (ps : List (List ℕ)) : Type 0 where
  pub first : List ℕ
  pub others : List (List ℕ)
  pub are : ps ≡ first ∷ others

some_by : (t : Bool) (x b : List ℕ) (ps : List (List ℕ)) → Pieces (cond t (x ∷ ps) (b ∷ []))
some_by true x b ps = record { first = x; others = ps; are = refl }
some_by false x b ps = record { first = b; others = []; are = refl }

pub some_pieces : (k : ℕ) (b : List ℕ) → 0 < length b → Pieces (pieces k b)
unfolding pieces
some_pieces k [] some = absurd (omega arith)
some_pieces k (x ∷ b) some = some_by (ltb k (length (x ∷ b))) (take k (x ∷ b)) (x ∷ b) (pieces_in (length b) k (drop k (x ∷ b)))

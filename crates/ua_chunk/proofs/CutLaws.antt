-- What is cut is taken and delivered.
use Rattle.std.proofs.Common.{◌≡◌, ℕ, ◌+◌, ◌<◌, ◌≤◌, Bool, true, false, cond, not, ◌&&◌, eqb, ltb, Some}
use Rattle.std.proofs.Common.{None, List, [], ◌∷◌, ◌++◌, refl, sym, ◌∙◌, ap, subst, arith, length, map, append_assoc}
use Rattle.std.proofs.lemmas.Bool.{or_parts, or_left, or_right, and_parts, and_from, eq-eqb, eqb-true, lt-ltb, not-true}
use Rattle.std.specs.List.{list_any, list_all, flat_map}
use Rattle.ua_chunk.specs.declared.chunk.Chunk.{Chunk}
use Rattle.ua_chunk.specs.declared.flag.Flag.TheVariants.{F}
use Rattle.ua_chunk.specs.declared.lane.Lane.{Lane}
use Rattle.ua_chunk.specs.Cutting.{pieces, numbered, chunks_of}
use Rattle.ua_chunk.specs.Delivered.{delivered, delivered_behind}
use Rattle.ua_chunk.specs.Gathered.{is_of, is_more}
use Rattle.ua_chunk.specs.Item.Item.{Whole}
use Rattle.ua_chunk.specs.Merge.{Part, part_of, Sent, more_part, parts_of, IsMessageWithin, AllWithin, Interleaves, Merges}
use Rattle.ua_chunk.specs.Merge.Interleaves.{none, left}
use Rattle.ua_chunk.specs.Open.{open_ids}
use Rattle.ua_chunk.specs.Refusal.{passes, TakesMessages, FewOpen}
use Rattle.ua_chunk.specs.Sequence.{follows, next_number}
use Rattle.ua_chunk.proofs.Fresh.{cut_behind, some_pieces}
use Rattle.ua_chunk.proofs.Interleaved.{merge_by_id}
use Rattle.ua_chunk.proofs.Merged.{messages_behind}
use Rattle.ua_chunk.proofs.OneMore.{delivered_from}
use Rattle.ua_chunk.proofs.Pieces.{joined_pieces}

-- ---- the pieces as a message that is sent

-- all pieces but the last
init_of : List ℕ → List (List ℕ) → List (List ℕ)
init_of p [] = []
init_of p (q ∷ qs) = p ∷ init_of q qs

-- the last piece
last_of : List ℕ → List (List ℕ) → List ℕ
last_of p [] = p
last_of p (q ∷ qs) = last_of q qs

sent_of : ℕ → List ℕ → List (List ℕ) → Sent
sent_of id p ps = record { request = id; pieces = init_of p ps; end = F; last = last_of p ps }

all_pieces : (p : List ℕ) (ps : List (List ℕ)) → init_of p ps ++ last_of p ps ∷ [] ≡ p ∷ ps
unfolding init_of last_of
all_pieces p [] = refl
all_pieces p (q ∷ qs) = ap (λ t. p ∷ t) (all_pieces q qs)

numbered_parts : (lane : Lane) (s id : ℕ) (p : List ℕ) (ps : List (List ℕ)) → map part_of (numbered lane s id (p ∷ ps)) ≡ parts_of (sent_of id p ps)
unfolding sent_of init_of last_of
numbered_parts lane s id p [] = refl
numbered_parts lane s id p (q ∷ qs) = ap (λ t. more_part id p ∷ t) (numbered_parts lane (next_number s) id q qs)

all_left : {X : Type 0} (xs : List X) → Interleaves xs [] xs
all_left [] = none
all_left (x ∷ xs) = left (all_left xs)

one_merge : (m : Sent) (zs : List Part) → zs ≡ parts_of m → Merges (map parts_of (m ∷ [])) zs
one_merge m zs e = ([], refl, subst (λ (t : List Part). Interleaves (parts_of m) [] t) (sym e) (all_left (parts_of m)))

only_sent : (b : Bool) (m n : Sent) → cond b (Some m) None ≡ Some n → m ≡ n
only_sent true m n e = cc
only_sent false m n e = absurd cc

within_one : (octets chunks : ℕ) (m : Sent) → IsMessageWithin octets chunks m → AllWithin octets chunks (m ∷ [])
within_one octets chunks m w id n e = subst (IsMessageWithin octets chunks) (only_sent (eqb m.request id) m n e) w

pieces_within : (octets chunks id : ℕ) (p : List ℕ) (ps : List (List ℕ)) → passes octets (length (flat_map (λ p. p) (p ∷ ps))) ≡ false
    → passes chunks (length (p ∷ ps)) ≡ false → IsMessageWithin octets chunks (sent_of id p ps)
unfolding sent_of
pieces_within octets chunks id p ps o c = record {
  ending = refl;
  readable = λ e. absurd cc;
  octets_fit = ap (λ (t : List (List ℕ)). passes octets (length (flat_map (λ p. p) t))) (all_pieces p ps) ∙ o;
  chunks_fit = ap (λ (t : List (List ℕ)). passes chunks (length t)) (all_pieces p ps) ∙ c;
}

-- ---- numbers

follows_next_by : (t : Bool) (s : ℕ) → eqb s 4294966272 ≡ t → follows s (cond t 1 (s + 1)) ≡ true
follows_next_by true s e =
    let same : s ≡ 4294966272 = eqb-true s 4294966272 e in
    or_right (eqb 1 (s + 1)) (ltb 4294966271 s && ltb 1 1024) (and_from (ltb 4294966271 s) (ltb 1 1024) (lt-ltb 4294966271 s (omega arith)) refl)
follows_next_by false s e = or_left (eqb (s + 1) (s + 1)) (ltb 4294966271 s && ltb (s + 1) 1024) (eq-eqb (s + 1) (s + 1) refl)

-- the number that a sender gives may follow
pub follows_next : (s : ℕ) → follows s (next_number s) ≡ true
follows_next s = follows_next_by (eqb s 4294966272) s refl

-- ---- one request id alone

all_front : {X : Type 0} (p : X → Bool) (xs ys : List X) → list_all p (xs ++ ys) ≡ true → list_all p xs ≡ true
all_front p [] ys h = refl
all_front p (x ∷ xs) ys h =
    let parts = and_parts (p x) (list_all p (xs ++ ys)) h in
    and_from (p x) (list_all p xs) parts.0 (all_front p xs ys parts.1)

all_none : {X : Type 0} (p : X → Bool) (xs : List X) → list_all p xs ≡ true → list_any p xs ≡ false → xs ≡ []
all_none p [] h k = refl
all_none p (x ∷ xs) h k = absurd (clash (p x) ((and_parts (p x) (list_all p xs) h).0) ((or_parts (p x) (list_any p xs) k).0))
  where
    clash : (b : Bool) → b ≡ true → b ≡ false → ⊥
    clash b e f = cc

one_step : (b : Bool) (r : ℕ) (o : List ℕ) → length o ≤ 1 → (b ≡ true → o ≡ []) → length (cond b (r ∷ o) o) ≤ 1
one_step true r o h e = subst (λ (t : List ℕ). length (r ∷ t) ≤ 1) (sym (e refl)) (omega arith)
one_step false r o h e = h

one_open : (id : ℕ) (cs : List Chunk) → list_all (is_of id) cs ≡ true → length (open_ids cs) ≤ 1
one_open id [] h = omega arith
one_open id (c ∷ cs) h =
    let parts = and_parts (is_of id c) (list_all (is_of id) cs) h in
    let same : c.request ≡ id = eqb-true c.request id parts.0 in
    one_step (is_more c && not (list_any (is_of c.request) cs)) c.request (open_ids cs) (one_open id cs parts.1)
    (λ t.
    let later : list_any (is_of c.request) cs ≡ false =
    not-true (list_any (is_of c.request) cs) ((and_parts (is_more c) (not (list_any (is_of c.request) cs)) t).1) in
    ap open_ids (all_none (is_of id) cs parts.1 (subst (λ (k : ℕ). list_any (is_of k) cs ≡ false) same later)))

few_all : (id : ℕ) (before cs : List Chunk) → list_all (is_of id) (before ++ cs) ≡ true → FewOpen before cs
few_all id before [] h = tt
few_all id before (c ∷ cs) h =
    let all : list_all (is_of id) ((before ++ c ∷ []) ++ cs) ≡ true = ap (list_all (is_of id)) (append_assoc before (c ∷ []) cs) ∙ h in
    (omega (arith, one_open id (before ++ c ∷ []) (all_front (is_of id) (before ++ c ∷ []) cs all)), few_all id (before ++ c ∷ []) cs all)

numbered_all : (lane : Lane) (s id : ℕ) (ps : List (List ℕ)) → list_all (is_of id) (numbered lane s id ps) ≡ true
numbered_all lane s id [] = refl
numbered_all lane s id (p ∷ ps) = and_from (eqb id id) (list_all (is_of id) (numbered lane (next_number s) id ps)) (eq-eqb id id refl)
    (numbered_all lane (next_number s) id ps)

-- ---- the laws

messages_pieces : (octets chunks : ℕ) (lane : Lane) (s id : ℕ) (p : List ℕ) (ps : List (List ℕ)) → passes octets (length (flat_map (λ p. p) (p ∷ ps))) ≡ false
    → passes chunks (length (p ∷ ps)) ≡ false
    → TakesMessages octets chunks [] (numbered lane s id (p ∷ ps))
messages_pieces octets chunks lane s id p ps o c =
    messages_behind octets chunks (sent_of id p ps ∷ []) [] (numbered lane s id (p ∷ ps))
    (within_one octets chunks (sent_of id p ps) (pieces_within octets chunks id p ps o c))
    (merge_by_id (sent_of id p ps ∷ []) (numbered lane s id (p ∷ ps)) (refl, tt)
    (one_merge (sent_of id p ps) (map part_of (numbered lane s id (p ∷ ps))) (numbered_parts lane s id p ps)))
    (few_all id [] (numbered lane s id (p ∷ ps)) (numbered_all lane s id (p ∷ ps)))

pub cut_messages : (octets chunks : ℕ) (lane : Lane) (b : List ℕ) (s id : ℕ) → 0 < lane.room → 0 < length b → passes octets (length b) ≡ false
    → passes chunks (length (pieces lane.room b)) ≡ false
    → TakesMessages octets chunks [] (chunks_of lane b s id)
cut_messages octets chunks lane b s id pos some o c =
    let ps = some_pieces lane.room b some in
    subst (λ (t : List (List ℕ)). TakesMessages octets chunks [] (numbered lane s id t)) (sym ps.are)
    (messages_pieces octets chunks lane s id ps.first ps.others
    (ap (λ (t : List (List ℕ)). passes octets (length (flat_map (λ p. p) t))) (sym ps.are)
    ∙ ap (λ (t : List ℕ). passes octets (length t)) (joined_pieces lane.room b pos some) ∙ o)
    (ap (λ (t : List (List ℕ)). passes chunks (length t)) (sym ps.are) ∙ c))

pub cut_delivered : (lane : Lane) (b : List ℕ) (s id : ℕ) → 0 < lane.room → 0 < length b → delivered (chunks_of lane b s id) ≡ Whole id b ∷ []
cut_delivered lane b s id pos some =
    let ps = some_pieces lane.room b some in
    delivered_from (chunks_of lane b s id)
    ∙ ap (λ (t : List (List ℕ)). delivered_behind [] (numbered lane s id t)) ps.are
    ∙ cut_behind lane s id ps.first ps.others []
    ∙ ap (λ (t : List (List ℕ)). Whole id (flat_map (λ p. p) t) ∷ []) (sym ps.are)
    ∙ ap (λ (t : List ℕ). Whole id t ∷ []) (joined_pieces lane.room b pos some)

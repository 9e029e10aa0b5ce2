-- What is kept of the unfinished messages, after one more chunk.
use Rattle.std.proofs.Common.{◌≡◌, ℕ, suc, Bool, true, false, cond, eqb, List, [], ◌∷◌, ◌++◌, refl, sym, ◌∙◌, ap, map, length, append-nil}
use Rattle.std.proofs.lemmas.Bool.{or_parts, cond-false, eqb-true, eq-eqb}
use Rattle.std.proofs.lemmas.List.Concat.{flat_map-append}
use Rattle.std.specs.List.{concat, list_any}
use Rattle.ua_chunk.specs.declared.chunk.Chunk.{Chunk}
use Rattle.ua_chunk.specs.declared.pending.Pending.{Pending}
use Rattle.ua_chunk.specs.Gathered.{is_more, unfinished, joined, is_filled, filled, bodies}
use Rattle.ua_chunk.specs.Kept.{kept, kept_messages}
use Rattle.ua_chunk.specs.Open.{open_ids}
use Rattle.ua_chunk.specs.Pending.{without, is_under, message_under_id, nothing_of}
use Rattle.ua_chunk.proofs.Lists.{map_push, map_same, left_any, filter_append}
use Rattle.ua_chunk.proofs.OneMore.{open_push, open_gone, not_open, unfinished_other, unfinished_more, eqb_comm}

-- ---- taking one out

found_here : (b : Bool) (id j : ℕ) (f : ℕ → List Chunk) (rest : Pending) → eqb j id ≡ b → (b ≡ false → rest ≡ kept id (f id))
    → cond b (kept j (f j)) rest ≡ kept id (f id)
found_here true id j f rest e h = ap (λ (k : ℕ). kept k (f k)) (eqb-true j id e)
found_here false id j f rest e h = h refl

found : (id : ℕ) (f : ℕ → List Chunk) (ids : List ℕ) → list_any (λ j. eqb j id) ids ≡ true → message_under_id id (map (λ j. kept j (f j)) ids) ≡ kept id (f id)
found id f [] h = absurd cc
found id f (j ∷ ids) h =
    found_here (eqb j id) id j f (message_under_id id (map (λ j. kept j (f j)) ids)) refl
    (λ e. found id f ids (left_any (eqb j id) (list_any (λ j. eqb j id) ids) h e))

missing : (id : ℕ) (f : ℕ → List Chunk) (ids : List ℕ) → list_any (λ j. eqb j id) ids ≡ false → message_under_id id (map (λ j. kept j (f j)) ids)
    ≡ nothing_of id
missing id f [] h = refl
missing id f (j ∷ ids) h =
    let parts = or_parts (eqb j id) (list_any (λ j. eqb j id) ids) h in
    cond-false (eqb j id) (kept j (f j)) (message_under_id id (map (λ j. kept j (f j)) ids)) parts.0 ∙ missing id f ids parts.1

message_case : (b : Bool) (id : ℕ) (cs : List Chunk) → list_any (λ j. eqb j id) (open_ids cs) ≡ b
    → message_under_id id (kept_messages cs) ≡ kept id (unfinished id cs)
message_case true id cs e = found id (λ j. unfinished j cs) (open_ids cs) e
message_case false id cs e = missing id (λ j. unfinished j cs) (open_ids cs) e ∙ ap (kept id) (sym (not_open id cs e))

-- what is kept under an id is what is kept of its chunks
pub message_is : (id : ℕ) (cs : List Chunk) → message_under_id id (kept_messages cs) ≡ kept id (unfinished id cs)
message_is id cs = message_case (list_any (λ j. eqb j id) (open_ids cs)) id cs refl

-- ---- one more chunk

without_step : (b : Bool) (j : ℕ) (f : ℕ → List Chunk) (ids rest : List ℕ) (ms : List Pending) → ms ≡ map (λ j. kept j (f j)) rest
    → cond b (map (λ j. kept j (f j)) ids) (kept j (f j) ∷ ms) ≡ map (λ j. kept j (f j)) (cond b ids (j ∷ rest))
without_step true j f ids rest ms e = refl
without_step false j f ids rest ms e = ap (λ t. kept j (f j) ∷ t) e

without_kept : (id : ℕ) (f : ℕ → List Chunk) (ids : List ℕ) → without (is_under id) (map (λ j. kept j (f j)) ids) ≡ map (λ j. kept j (f j))
    (without (λ j. eqb j id) ids)
without_kept id f [] = refl
without_kept id f (j ∷ ids) = without_step (eqb j id) j f ids (without (λ j. eqb j id) ids) (without (is_under id) (map (λ j. kept j (f j)) ids))
    (without_kept id f ids)

last_kept : (b : Bool) (cs : List Chunk) (c : Chunk) → is_more c ≡ b
    → map (λ id. kept id (unfinished id (cs ++ c ∷ []))) (cond b (c.request ∷ []) []) ≡ cond b (kept c.request (unfinished c.request cs ++ c ∷ []) ∷ []) []
last_kept true cs c e = ap (λ us. kept c.request us ∷ []) (unfinished_more c.request cs c (eq-eqb c.request c.request refl) e)
last_kept false cs c e = refl

pub messages_push : (cs : List Chunk) (c : Chunk) → kept_messages (cs ++ c ∷ []) ≡ without (is_under c.request) (kept_messages cs)
    ++ cond (is_more c) (kept c.request (unfinished c.request cs ++ c ∷ []) ∷ []) []
messages_push cs c =
    let after : ℕ → Pending = λ id. kept id (unfinished id (cs ++ c ∷ [])) in
    let before : ℕ → Pending = λ id. kept id (unfinished id cs) in
    let others = without (λ j. eqb j c.request) (open_ids cs) in
    ap (map after) (open_push cs c)
    ∙ map_push after others (cond (is_more c) (c.request ∷ []) [])
    ∙ ap (λ t. t ++ map after (cond (is_more c) (c.request ∷ []) []))
    (map_same (λ j. eqb j c.request) after before others (λ j e. ap (kept j) (unfinished_other j cs c (eqb_comm j c.request false e)))
    (open_gone c.request cs))
    ∙ ap (λ t. t ++ map after (cond (is_more c) (c.request ∷ []) [])) (sym (without_kept c.request (λ j. unfinished j cs) (open_ids cs)))
    ∙ ap (λ t. without (is_under c.request) (kept_messages cs) ++ t) (last_kept (is_more c) cs c refl)

pub joined_push : (us : List Chunk) (c : Chunk) → joined (us ++ c ∷ []) ≡ joined us ++ c.body
joined_push us c = flat_map-append (λ (c : Chunk). c.body) us (c ∷ []) ∙ ap (λ t. joined us ++ t) (append-nil c.body)

-- the parts of a message, one body more
pub bodies_push : (us : List Chunk) (c : Chunk) → bodies (us ++ c ∷ []) ≡ bodies us ++ filled (c.body ∷ [])
bodies_push us c =
    ap filled (map_push (λ (c : Chunk). c.body) us (c ∷ []))
    ∙ filter_append is_filled (map (λ (c : Chunk). c.body) us) (c.body ∷ [])

concat_one : (b : List ℕ) (parts : List (List ℕ)) → concat (cond (is_filled b) (b ∷ parts) parts) ≡ b ++ concat parts
concat_one [] parts = refl
concat_one (x ∷ b) parts = refl

-- the octets of a message are its parts, joined
pub concat_bodies : (us : List Chunk) → concat (bodies us) ≡ joined us
concat_bodies [] = refl
concat_bodies (u ∷ us) = concat_one u.body (bodies us) ∙ ap (λ (t : List ℕ). u.body ++ t) (concat_bodies us)

count_ids : (f : ℕ → List Chunk) (ids : List ℕ) → length (map (λ j. kept j (f j)) ids) ≡ length ids
count_ids f [] = refl
count_ids f (j ∷ ids) = ap suc (count_ids f ids)

pub count_is : (cs : List Chunk) → length (kept_messages cs) ≡ length (open_ids cs)
count_is cs = count_ids (λ j. unfinished j cs) (open_ids cs)

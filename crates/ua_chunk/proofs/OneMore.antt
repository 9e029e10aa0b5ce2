-- What lists of chunks come to after one more.
use Rattle.std.proofs.Common.{◌≡◌, ℕ, Bool, true, false, cond, not, ◌&&◌, ◌||◌, eqb, List, [], ◌∷◌, ◌++◌, refl, sym, ◌∙◌, ap, subst, append-nil}
use Rattle.std.proofs.lemmas.Bool.{or_parts, or_from, or_right, and_parts, cond-true, eqb-true, eqb-false, ne_eqb, eq-eqb, not-true, true_from_ne_false}
use Rattle.std.specs.List.{list_any, filter}
use Rattle.ua_frame.specs.After.{each_after}
use Rattle.ua_frame.proofs.Afters.{each_after-push}
use Rattle.ua_chunk.specs.declared.chunk.Chunk.{Chunk}
use Rattle.ua_chunk.specs.Delivered.{given, delivered, delivered_behind}
use Rattle.ua_chunk.specs.Gathered.{is_of, is_more, ends, after_last, unfinished}
use Rattle.ua_chunk.specs.Open.{open_ids}
use Rattle.ua_chunk.specs.Pending.{without}
use Rattle.ua_chunk.proofs.Lists.{any_push, filter_push, after_last_push, without_none, ended, filter_some}

-- ---- the chunks of a message

pub unfinished_other : (id : ℕ) (cs : List Chunk) (c : Chunk) → is_of id c ≡ false → unfinished id (cs ++ c ∷ []) ≡ unfinished id cs
unfinished_other id cs c h =
    ap (after_last ends) (filter_push (is_of id) cs c ∙ ap (λ b. filter (is_of id) cs ++ cond b (c ∷ []) []) h ∙ append-nil (filter (is_of id) cs))

unfinished_own : (id : ℕ) (cs : List Chunk) (c : Chunk) → is_of id c ≡ true → unfinished id (cs ++ c ∷ []) ≡ cond (ends c) [] (unfinished id cs ++ c ∷ [])
unfinished_own id cs c h =
    ap (after_last ends) (filter_push (is_of id) cs c ∙ ap (λ b. filter (is_of id) cs ++ cond b (c ∷ []) []) h)
    ∙ after_last_push ends (filter (is_of id) cs) c

pub unfinished_end : (id : ℕ) (cs : List Chunk) (c : Chunk) → is_of id c ≡ true → is_more c ≡ false → unfinished id (cs ++ c ∷ []) ≡ []
unfinished_end id cs c h more = unfinished_own id cs c h ∙ ap (λ b. cond (not b) [] (unfinished id cs ++ c ∷ [])) more

pub unfinished_more : (id : ℕ) (cs : List Chunk) (c : Chunk) → is_of id c ≡ true → is_more c ≡ true → unfinished id (cs ++ c ∷ []) ≡ unfinished id cs ++ c ∷ []
unfinished_more id cs c h more = unfinished_own id cs c h ∙ ap (λ b. cond (not b) [] (unfinished id cs ++ c ∷ [])) more

-- ---- what is delivered

pub delivered_push : (cs : List Chunk) (c : Chunk) → delivered (cs ++ c ∷ []) ≡ delivered cs ++ given cs c
delivered_push cs c = each_after-push given cs c

pub delivered_from : (cs : List Chunk) → delivered cs ≡ delivered_behind [] cs
unfolding each_after
delivered_from cs = refl

-- ---- the open ids

eqb_comm_false : (a b : ℕ) → eqb a b ≡ false → eqb b a ≡ false
eqb_comm_false a b e = ne_eqb b a (λ h. eqb-false a b e (sym h))

pub eqb_comm : (a b : ℕ) (v : Bool) → eqb a b ≡ v → eqb b a ≡ v
eqb_comm a b true e = eq-eqb b a (sym (eqb-true a b e))
eqb_comm a b false e = eqb_comm_false a b e

none_step : (b : Bool) (r id : ℕ) (o : List ℕ) → eqb r id ≡ false → list_any (λ j. eqb j id) o ≡ false → list_any (λ j. eqb j id) (cond b (r ∷ o) o) ≡ false
none_step true r id o e f = or_from (eqb r id) (list_any (λ j. eqb j id) o) e f
none_step false r id o e f = f

-- an id without chunks is not open
pub open_none : (id : ℕ) (cs : List Chunk) → list_any (is_of id) cs ≡ false → list_any (λ j. eqb j id) (open_ids cs) ≡ false
open_none id [] h = refl
open_none id (c ∷ cs) h =
    let parts = or_parts (is_of id c) (list_any (is_of id) cs) h in
    none_step (is_more c && not (list_any (is_of c.request) cs)) c.request id (open_ids cs) parts.0 (open_none id cs parts.1)

open_one : (b : Bool) (r : ℕ) → cond (b && true) (r ∷ []) [] ≡ [] ++ cond b (r ∷ []) []
open_one true r = refl
open_one false r = refl

any_one : (later same : Bool) → (later || (same || false)) ≡ (later || same)
any_one true same = refl
any_one false true = refl
any_one false false = refl

-- more: whether d is a C; later: whether its id has a later chunk; same: whether c has its id
open_push_step : (more later same : Bool) (d c : ℕ) (t before after : List ℕ) → eqb c d ≡ same → after ≡ without (λ j. eqb j c) before ++ t
    → (later ≡ false → list_any (λ j. eqb j d) before ≡ false)
    → cond (more && not (later || same)) (d ∷ after) after ≡ without (λ j. eqb j c) (cond (more && not later) (d ∷ before) before) ++ t
open_push_step false later same d c t before after s e n = e
open_push_step true true same d c t before after s e n = e
open_push_step true false true d c t before after s e n =
    let same_id : c ≡ d = eqb-true c d s in
    e ∙ ap (λ u. u ++ t) (ap (λ (k : ℕ). without (λ j. eqb j k) before) same_id ∙ without_none (λ j. eqb j d) before (n refl)
    ∙ sym (ap (λ b. cond b before (d ∷ without (λ j. eqb j c) before)) (eqb_comm c d true s)))
open_push_step true false false d c t before after s e n =
    ap (λ u. d ∷ u) e ∙ sym (ap (λ b. cond b before (d ∷ without (λ j. eqb j c) before) ++ t) (eqb_comm c d false s))

pub open_push : (cs : List Chunk) (c : Chunk) → open_ids (cs ++ c ∷ []) ≡ without (λ j. eqb j c.request) (open_ids cs) ++ cond (is_more c) (c.request ∷ []) []
open_push [] c = open_one (is_more c) c.request
open_push (d ∷ cs) c =
    ap (λ b. cond (is_more d && not b) (d.request ∷ open_ids (cs ++ c ∷ [])) (open_ids (cs ++ c ∷ []))) (any_push (is_of d.request) cs c
    ∙ any_one (list_any (is_of d.request) cs) (is_of d.request c))
    ∙ open_push_step (is_more d) (list_any (is_of d.request) cs) (is_of d.request c) d.request c.request (cond (is_more c) (c.request ∷ []) []) (open_ids cs)
    (open_ids (cs ++ c ∷ [])) refl (open_push cs c) (open_none d.request cs)

gone_step : (b s : Bool) (r id : ℕ) (o : List ℕ) → eqb r id ≡ s → (b ≡ true → list_any (λ j. eqb j r) o ≡ false)
    → list_any (λ j. eqb j id) (without (λ j. eqb j id) o) ≡ false
    → list_any (λ j. eqb j id) (without (λ j. eqb j id) (cond b (r ∷ o) o)) ≡ false
gone_step false s r id o e n ih = ih
gone_step true true r id o e n ih =
    ap (λ t. list_any (λ j. eqb j id) (cond t o (r ∷ without (λ j. eqb j id) o))) e
    ∙ subst (λ (k : ℕ). list_any (λ j. eqb j k) o ≡ false) (eqb-true r id e) (n refl)
gone_step true false r id o e n ih =
    ap (λ t. list_any (λ j. eqb j id) (cond t o (r ∷ without (λ j. eqb j id) o))) e
    ∙ or_from (eqb r id) (list_any (λ j. eqb j id) (without (λ j. eqb j id) o)) e ih

-- an id is open once
pub open_gone : (id : ℕ) (cs : List Chunk) → list_any (λ j. eqb j id) (without (λ j. eqb j id) (open_ids cs)) ≡ false
open_gone id [] = refl
open_gone id (c ∷ cs) =
    gone_step (is_more c && not (list_any (is_of c.request) cs)) (eqb c.request id) c.request id (open_ids cs) refl
    (λ h. open_none c.request cs (not-true (list_any (is_of c.request) cs) ((and_parts (is_more c) (not (list_any (is_of c.request) cs)) h).1)))
    (open_gone id cs)

any_rest : (b : Bool) (r id : ℕ) (o : List ℕ) → list_any (λ j. eqb j id) (cond b (r ∷ o) o) ≡ false → list_any (λ j. eqb j id) o ≡ false
any_rest true r id o h = (or_parts (eqb r id) (list_any (λ j. eqb j id) o) h).1
any_rest false r id o h = h

-- own: whether c has the id; more: whether it is a C; later: whether a later chunk has the id
not_open_step : (own more later : Bool) (id : ℕ) (c : Chunk) (f : List Chunk) (o : List ℕ) → is_of id c ≡ own → is_more c ≡ more
    → (own ≡ true → list_any (λ j. eqb j id) (cond (more && not later) (c.request ∷ o) o) ≡ false) → after_last ends f ≡ []
    → (own ≡ true → later ≡ true → f ≡ [] → ⊥)
    → after_last ends (cond own (c ∷ f) f) ≡ []
not_open_step false more later id c f o s m h ih n = ih
not_open_step true false later id c f o s m h ih n = ap (λ b. cond (not b || list_any ends f) (after_last ends f) (c ∷ f)) m ∙ ih
not_open_step true true true id c f o s m h ih n =
    let some : list_any ends f ≡ true = true_from_ne_false (list_any ends f) (λ e. n refl refl (ended ends f ih e)) in
    cond-true (ends c || list_any ends f) (after_last ends f) (c ∷ f) (or_right (ends c) (list_any ends f) some) ∙ ih
not_open_step true true false id c f o s m h ih n =
    let parts = or_parts (eqb c.request id) (list_any (λ j. eqb j id) o) (h refl) in
    absurd (cc (parts.0, s))

same_id : (id : ℕ) (c : Chunk) → is_of id c ≡ true → c.request ≡ id
same_id id c h = eqb-true c.request id h

-- an id that is not open has no chunks after its last F or A
pub not_open : (id : ℕ) (cs : List Chunk) → list_any (λ j. eqb j id) (open_ids cs) ≡ false → unfinished id cs ≡ []
not_open id [] h = refl
not_open id (c ∷ cs) h =
    not_open_step (is_of id c) (is_more c) (list_any (is_of c.request) cs) id c (filter (is_of id) cs) (open_ids cs) refl refl (λ own. h)
    (not_open id cs (any_rest (is_more c && not (list_any (is_of c.request) cs)) c.request id (open_ids cs) h))
    (λ own later. filter_some (is_of id) cs (subst (λ (k : ℕ). list_any (is_of k) cs ≡ true) (same_id id c own) later))

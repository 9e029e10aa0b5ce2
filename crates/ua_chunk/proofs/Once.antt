-- That each of merged messages is delivered once, and that an open id is named once.
use Rattle.std.proofs.Common.{◌≡◌, ℕ, Bool, true, false, cond, not, eqb, Option, Some, None, List, [], ◌∷◌, ◌++◌, refl, sym, ◌∙◌, ap, map, append-nil}
use Rattle.std.proofs.lemmas.Bool.{eqb-true}
use Rattle.std.proofs.lemmas.List.Concat.{flat_map-append}
use Rattle.std.specs.List.{filter, flat_map}
use Rattle.ua_builtin.specs.declared.status_code.StatusCode.{StatusCode}
use Rattle.ua_chunk.specs.declared.chunk.Chunk.{Chunk}
use Rattle.ua_chunk.specs.declared.flag.Flag.{Flag}
use Rattle.ua_chunk.specs.declared.flag.Flag.TheVariants.{F, C, A}
use Rattle.ua_chunk.specs.Abort.{abort_of}
use Rattle.ua_chunk.specs.Delivered.{aborted, delivered}
use Rattle.ua_chunk.specs.Flag.{is_more_flag}
use Rattle.ua_chunk.specs.Gathered.{is_of, ends}
use Rattle.ua_chunk.specs.Item.{Item}
use Rattle.ua_chunk.specs.Merge.{Part, part_of, Sent, more_part, last_part, sent_under, parts_under}
use Rattle.ua_chunk.specs.Merge.{outcome_by, outcome, outcome_under, outcomes, is_item_of, IsMerge}
use Rattle.ua_chunk.proofs.Lists.{filter_append}
use Rattle.ua_chunk.proofs.Merged.{merged}

-- ---- the items of one id

under_id : (id : ℕ) (ms : List Sent) (m : Sent) → sent_under id ms ≡ Some m → m.request ≡ id
under_id id [] m e = absurd cc
under_id id (n ∷ ms) m e = under_one (eqb n.request id) n (sent_under id ms) refl e (under_id id ms m)
  where
    under_one : (b : Bool) (n : Sent) (o : Option Sent) → eqb n.request id ≡ b → cond b (Some n) o ≡ Some m → (o ≡ Some m → m.request ≡ id) → m.request ≡ id
    under_one true n o s e h = let same : n ≡ m = cc in ap (λ (k : Sent). k.request) (sym same) ∙ eqb-true n.request id s
    under_one false n o s e h = h e

none_either : (b : Bool) → ◌≡◌ {A = List Item} [] (cond b [] [])
none_either true = refl
none_either false = refl

aborted_own : (r id : ℕ) (o : Option (StatusCode × Option (List ℕ))) → filter (is_item_of id) (aborted r o) ≡ cond (eqb r id) (aborted r o) []
aborted_own r id None = none_either (eqb r id)
aborted_own r id (Some a) = refl

outcome_own : (f : Flag) (id : ℕ) (m : Sent) → filter (is_item_of id) (outcome_by f m) ≡ cond (eqb m.request id) (outcome_by f m) []
outcome_own F id m = refl
outcome_own C id m = none_either (eqb m.request id)
outcome_own A id m = aborted_own m.request id (abort_of m.last)

under_own : (r id : ℕ) (o : Option Sent) → ((m : Sent) → o ≡ Some m → m.request ≡ r)
    → filter (is_item_of id) (outcome_under o) ≡ cond (eqb r id) (outcome_under o) []
under_own r id None h = none_either (eqb r id)
under_own r id (Some m) h = outcome_own m.end id m ∙ ap (λ k. cond (eqb k id) (outcome m) []) (h m refl)

-- what a part brings about: at the end of a message its outcome
at_part : List Sent → Part → List Item
at_part ms p = cond (not (is_more_flag p.flag)) (outcome_under (sent_under p.request ms)) []

at_own : (b : Bool) (r id : ℕ) (ms : List Sent) → filter (is_item_of id) (cond b (outcome_under (sent_under r ms)) [])
    ≡ cond (eqb r id) (cond b (outcome_under (sent_under r ms)) []) []
at_own true r id ms = under_own r id (sent_under r ms) (under_id r ms)
at_own false r id ms = none_either (eqb r id)

one_id : (b : Bool) (ms : List Sent) (c : Chunk) (rest : List Chunk) → cond b (at_part ms (part_of c)) [] ++ flat_map (at_part ms) (map part_of rest)
    ≡ flat_map (at_part ms) (map part_of (cond b (c ∷ rest) rest))
one_id true ms c rest = refl
one_id false ms c rest = refl

of_id : (id : ℕ) (ms : List Sent) (cs : List Chunk) → filter (is_item_of id) (outcomes ms cs) ≡ flat_map (at_part ms) (map part_of (filter (is_of id) cs))
unfolding at_part
of_id id ms [] = refl
of_id id ms (c ∷ cs) =
    filter_append (is_item_of id) (cond (ends c) (outcome_under (sent_under c.request ms)) []) (outcomes ms cs)
    ∙ ap (λ t. t ++ filter (is_item_of id) (outcomes ms cs)) (at_own (ends c) c.request id ms)
    ∙ ap (λ t. cond (is_of id c) (at_part ms (part_of c)) [] ++ t) (of_id id ms cs)
    ∙ one_id (is_of id c) ms c (filter (is_of id) cs)

no_outcome : (id : ℕ) (ms : List Sent) (ps : List (List ℕ)) → flat_map (at_part ms) (map (more_part id) ps) ≡ []
unfolding at_part
no_outcome id ms [] = refl
no_outcome id ms (p ∷ ps) = no_outcome id ms ps

last_outcome : (f : Flag) (m : Sent) → cond (not (is_more_flag f)) (outcome_by f m) [] ≡ outcome_by f m
last_outcome F m = refl
last_outcome C m = refl
last_outcome A m = refl

parts_outcome : (id : ℕ) (ms : List Sent) (o : Option Sent) → sent_under id ms ≡ o → flat_map (at_part ms) (parts_under o) ≡ outcome_under o
unfolding at_part
parts_outcome id ms None e = refl
parts_outcome id ms (Some m) e =
    flat_map-append (at_part ms) (map (more_part m.request) m.pieces) (last_part m ∷ [])
    ∙ ap (λ t. t ++ (at_part ms (last_part m) ++ [])) (no_outcome m.request ms m.pieces)
    ∙ append-nil (at_part ms (last_part m))
    ∙ ap (λ k. cond (not (is_more_flag m.end)) (outcome_under (sent_under k ms)) []) (under_id id ms m e)
    ∙ ap (λ (o : Option Sent). cond (not (is_more_flag m.end)) (outcome_under o) []) e
    ∙ last_outcome m.end m

-- of merged messages each is delivered once
pub once : (ms : List Sent) (cs : List Chunk) (id : ℕ) → IsMerge ms cs → filter (is_item_of id) (delivered cs) ≡ outcome_under (sent_under id ms)
once ms cs id merge =
    ap (filter (is_item_of id)) (merged ms cs merge)
    ∙ of_id id ms cs
    ∙ ap (flat_map (at_part ms)) (merge id)
    ∙ parts_outcome id ms (sent_under id ms) refl

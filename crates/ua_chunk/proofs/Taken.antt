-- Chunks that are taken.
use Rattle.std.proofs.Common.{◌≡◌, ℕ, ◌≤◌, Bool, true, false, cond, not, ◌&&◌, ltb, Option, Some, None, is_some}
use Rattle.std.proofs.Common.{List, [], ◌∷◌, ◌++◌, refl, ◌∙◌, ap, length, map}
use Rattle.std.proofs.lemmas.Bool.{ltb-false}
use Rattle.std.specs.List.{filter}
use Rattle.ua_builtin.specs.declared.status_code.StatusCode.{StatusCode}
use Rattle.ua_chunk.specs.declared.chunk.Chunk.{Chunk}
use Rattle.ua_chunk.specs.declared.flag.Flag.{Flag}
use Rattle.ua_chunk.specs.declared.flag.Flag.TheVariants.{F, C, A}
use Rattle.ua_chunk.specs.Abort.{abort_of, is_readable_abort}
use Rattle.ua_chunk.specs.Delivered.{given, given_by, delivered, delivered_behind, aborted}
use Rattle.ua_chunk.specs.Flag.{is_more_flag, is_abort_flag}
use Rattle.ua_chunk.specs.Gathered.{ends, gathered, joined}
use Rattle.ua_chunk.specs.Merge.{id_of_item}
use Rattle.ua_chunk.specs.Open.{open_ids}
use Rattle.ua_chunk.specs.Refusal.{passes, most_open, message_refusal, TakesMessages}
use Rattle.ua_chunk.proofs.Assembles.{few_after, large_after, unreadable_after}
use Rattle.ua_chunk.proofs.Lists.{map_push}
use Rattle.ua_chunk.proofs.OneMore.{delivered_from}

-- what a chunk is that is not refused for its message
pub record Good (octets chunks : ℕ) (cs : List Chunk) (c : Chunk) : Type 0 where
  pub readable : (is_abort_flag c.flag && not (is_readable_abort c.body)) ≡ false
  pub few : length (open_ids (cs ++ c ∷ [])) ≤ most_open
  pub fits : (not (is_abort_flag c.flag) && passes octets (length (joined (gathered cs c)))) ≡ false

pub good : (octets chunks : ℕ) (cs : List Chunk) (c : Chunk) → message_refusal octets chunks cs c ≡ None → Good octets chunks cs c
good octets chunks cs c none =
    let unreadable = is_abort_flag c.flag && not (is_readable_abort c.body) in
    let crowded = ltb most_open (length (open_ids (cs ++ c ∷ []))) in
    let large = not (is_abort_flag c.flag) && passes octets (length (joined (gathered cs c))) in
    let many = not (is_abort_flag c.flag) && passes chunks (length (gathered cs c)) in
    record {
      readable = unreadable_after true unreadable crowded large many none;
      few = ltb-false most_open (length (open_ids (cs ++ c ∷ []))) (few_after true unreadable crowded large many none);
      fits = large_after true unreadable crowded large many none;
    }

-- ---- what is delivered

aborted_id : (id : ℕ) (o : Option (StatusCode × Option (List ℕ))) → is_some o ≡ true → map id_of_item (aborted id o) ≡ id ∷ []
aborted_id id None e = absurd cc
aborted_id id (Some a) e = refl

not_unreadable : (b : Bool) → (true && not b) ≡ false → b ≡ true
not_unreadable true e = refl
not_unreadable false e = absurd cc

given_ids : (f : Flag) (before : List Chunk) (c : Chunk) → (is_abort_flag f && not (is_readable_abort c.body)) ≡ false
    → map id_of_item (given_by f before c) ≡ cond (not (is_more_flag f)) (c.request ∷ []) []
given_ids F before c e = refl
given_ids C before c e = refl
given_ids A before c e = aborted_id c.request (abort_of c.body) (not_unreadable (is_readable_abort c.body) e)

ended_one : (b : Bool) (c : Chunk) (rest : List Chunk) → cond b (c.request ∷ []) [] ++ map (λ (c : Chunk). c.request) rest ≡ map (λ (c : Chunk). c.request)
    (cond b (c ∷ rest) rest)
ended_one true c rest = refl
ended_one false c rest = refl

ids_behind : (octets chunks : ℕ) (before cs : List Chunk) → TakesMessages octets chunks before cs
    → map id_of_item (delivered_behind before cs) ≡ map (λ (c : Chunk). c.request) (filter ends cs)
ids_behind octets chunks before [] taken = refl
ids_behind octets chunks before (c ∷ cs) taken =
    map_push id_of_item (given before c) (delivered_behind (before ++ c ∷ []) cs)
    ∙ ap (λ t. t ++ map id_of_item (delivered_behind (before ++ c ∷ []) cs)) (given_ids c.flag before c (good octets chunks before c taken.0).readable)
    ∙ ap (λ t. cond (ends c) (c.request ∷ []) [] ++ t) (ids_behind octets chunks (before ++ c ∷ []) cs taken.1)
    ∙ ended_one (ends c) c (filter ends cs)

pub delivered_ids : (octets chunks : ℕ) (cs : List Chunk) → TakesMessages octets chunks [] cs
    → map id_of_item (delivered cs) ≡ map (λ (c : Chunk). c.request) (filter ends cs)
delivered_ids octets chunks cs taken = ap (map id_of_item) (delivered_from cs) ∙ ids_behind octets chunks [] cs taken

-- What merged messages deliver, and that none of their chunks is refused.
use Rattle.std.proofs.Common.{◌≡◌, ℕ, suc, ◌+◌, ◌≤◌, Bool, true, false, cond, not, ◌&&◌, ltb, Option, Some, None, List}
use Rattle.std.proofs.Common.{[], ◌∷◌, ◌++◌, refl, sym, ◌∙◌, ap, subst, arith, length, map, length-append, append_assoc}
use Rattle.std.proofs.lemmas.Bool.{or_from, cond-true, cond-false, eq-eqb, le-ltb}
use Rattle.std.proofs.lemmas.List.Concat.{flat_map-append}
use Rattle.std.specs.List.{list_any, filter, flat_map}
use Rattle.ua_chunk.specs.declared.chunk.Chunk.{Chunk}
use Rattle.ua_chunk.specs.declared.flag.Flag.{Flag}
use Rattle.ua_chunk.specs.declared.flag.Flag.TheVariants.{F, C, A}
use Rattle.ua_chunk.specs.Abort.{abort_of, is_readable_abort}
use Rattle.ua_chunk.specs.Delivered.{given, given_by, delivered, delivered_behind, aborted}
use Rattle.ua_chunk.specs.Flag.{is_more_flag, is_abort_flag}
use Rattle.ua_chunk.specs.Gathered.{is_of, ends, after_last, unfinished, gathered, joined}
use Rattle.ua_chunk.specs.Item.Item.{Whole}
use Rattle.ua_chunk.specs.Merge.{Part, part_of, Sent, more_part, last_part, sent_under, parts_under}
use Rattle.ua_chunk.specs.Merge.{outcome_by, outcome_under, outcomes, bodies_by, IsMessageWithin, AllWithin, IsMerge}
use Rattle.ua_chunk.specs.Open.{open_ids}
use Rattle.ua_chunk.specs.Refusal.{passes, most_open, TakesAllChunks, TakesMessages, FewOpen}
use Rattle.ua_chunk.specs.Sequence.{ordered}
use Rattle.ua_chunk.proofs.Assembles.{chain}
use Rattle.ua_chunk.proofs.Bounds.{fewer}
use Rattle.ua_chunk.proofs.KeptMessages.{joined_push}
use Rattle.ua_chunk.proofs.Lists.{map_push, filter_append}
use Rattle.ua_chunk.proofs.Numbers.{takes_all}
use Rattle.ua_chunk.proofs.OneMore.{delivered_from}

-- ---- where a part stands in its message

-- y stands among the C parts of a message, or it is its last one; xs are the parts before it, ys those behind it
data Front (id : ℕ) (ps : List (List ℕ)) (z : Part) (xs ys : List Part) (y : Part) : Type 0 where
  among : (before behind : List (List ℕ)) (q : List ℕ) → ps ≡ before ++ q ∷ behind → xs ≡ map (more_part id) before → y ≡ more_part id q → Front id ps z xs ys y
  at_end : xs ≡ map (more_part id) ps → y ≡ z → Front id ps z xs ys y

no_more : {X : Type 0} (xs ys : List X) (y : X) → xs ++ y ∷ ys ≡ [] → ⊥
no_more [] ys y e = cc
no_more (x ∷ xs) ys y e = cc

front_more : (id : ℕ) (p : List ℕ) (ps : List (List ℕ)) (z x : Part) (xs ys : List Part) (y : Part) → x ≡ more_part id p → Front id ps z xs ys y
    → Front id (p ∷ ps) z (x ∷ xs) ys y
front_more id p ps z x xs ys y e (among before behind q parts_is xs_is y_is) =
    among (p ∷ before) behind q (ap (λ t. p ∷ t) parts_is) (ap (λ t. t ∷ xs) e ∙ ap (λ t. more_part id p ∷ t) xs_is) y_is
front_more id p ps z x xs ys y e (at_end xs_is y_is) = at_end (ap (λ t. t ∷ xs) e ∙ ap (λ t. more_part id p ∷ t) xs_is) y_is

front_of : (id : ℕ) (ps : List (List ℕ)) (z : Part) (xs ys : List Part) (y : Part) → xs ++ y ∷ ys ≡ map (more_part id) ps ++ z ∷ [] → Front id ps z xs ys y
front_of id [] z [] ys y e = at_end refl cc
front_of id [] z (x ∷ xs) ys y e = absurd (no_more xs ys y cc)
front_of id (p ∷ ps) z [] ys y e = among [] ps p refl refl cc
front_of id (p ∷ ps) z (x ∷ xs) ys y e = front_more id p ps z x xs ys y (cc) (front_of id ps z xs ys y cc)

-- ---- chunks that are C's

none_ended : (id : ℕ) (ps : List (List ℕ)) (us : List Chunk) → map part_of us ≡ map (more_part id) ps → list_any ends us ≡ false
none_ended id ps [] e = refl
none_ended id [] (u ∷ us) e = absurd cc
none_ended id (p ∷ ps) (u ∷ us) e =
    let first : part_of u ≡ more_part id p = cc in
    let flag : u.flag ≡ C = ap (λ (q : Part). q.flag) first in
    or_from (ends u) (list_any ends us) (ap (λ f. not (is_more_flag f)) flag) (none_ended id ps us cc)

after_none : {X : Type 0} (p : X → Bool) (xs : List X) → list_any p xs ≡ false → after_last p xs ≡ xs
after_none p [] h = refl
after_none p (x ∷ xs) h = cond-false (list_any p (x ∷ xs)) (after_last p xs) (x ∷ xs) h

all_joined : (id : ℕ) (ps : List (List ℕ)) (us : List Chunk) → map part_of us ≡ map (more_part id) ps → joined us ≡ flat_map (λ p. p) ps
all_joined id [] [] e = refl
all_joined id (p ∷ ps) [] e = absurd cc
all_joined id [] (u ∷ us) e = absurd cc
all_joined id (p ∷ ps) (u ∷ us) e =
    let first : part_of u ≡ more_part id p = cc in
    ap (λ (q : Part). q.body ++ joined us) first ∙ ap (λ t. p ++ t) (all_joined id ps us cc)

all_counted : (id : ℕ) (ps : List (List ℕ)) (us : List Chunk) → map part_of us ≡ map (more_part id) ps → length us ≡ length ps
all_counted id [] [] e = refl
all_counted id (p ∷ ps) [] e = absurd cc
all_counted id [] (u ∷ us) e = absurd cc
all_counted id (p ∷ ps) (u ∷ us) e = ap suc (all_counted id ps us cc)

-- what is gathered with c, where the chunks of its id before it are C's
record Gathers (before : List Chunk) (c : Chunk) (ps : List (List ℕ)) : Type 0 where
  octets : joined (gathered before c) ≡ flat_map (λ p. p) ps ++ c.body
  count : length (gathered before c) ≡ length ps + 1

gathers : (id : ℕ) (ps : List (List ℕ)) (before : List Chunk) (c : Chunk) → map part_of (filter (is_of c.request) before) ≡ map (more_part id) ps
    → Gathers before c ps
gathers id ps before c e =
    let us = filter (is_of c.request) before in
    let same : unfinished c.request before ≡ us = after_none ends us (none_ended id ps us e) in
    record {
      octets = joined_push (unfinished c.request before) c ∙ ap (λ t. joined t ++ c.body) same ∙ ap (λ t. t ++ c.body) (all_joined id ps us e);
      count = length-append (unfinished c.request before) (c ∷ []) ∙ ap (λ t. length t + 1) same ∙ ap (λ n. n + 1) (all_counted id ps us e);
    }

-- ---- what one chunk delivers

given_more : (f : Flag) (before : List Chunk) (c : Chunk) → is_more_flag f ≡ true → given_by f before c ≡ []
given_more F before c h = absurd cc
given_more C before c h = refl
given_more A before c h = absurd cc

given_last : (f : Flag) (before : List Chunk) (c : Chunk) (m : Sent) → Gathers before c m.pieces → part_of c ≡ last_part m
    → given_by f before c ≡ outcome_by f m
given_last F before c m g e =
    ap (λ t. Whole c.request t ∷ []) g.octets ∙ ap (λ (p : Part). Whole p.request (flat_map (λ p. p) m.pieces ++ p.body) ∷ []) e
given_last C before c m g e = refl
given_last A before c m g e = ap (λ (p : Part). aborted p.request (abort_of p.body)) e

given_front : (before : List Chunk) (c : Chunk) (m : Sent) (ys : List Part) → ends c ≡ true
    → Front m.request m.pieces (last_part m) (map part_of (filter (is_of c.request) before)) ys (part_of c) → given before c ≡ outcome_by m.end m
given_front before c m ys e (among ps1 ps2 q parts_is xs_is y_is) =
    let flag : c.flag ≡ C = ap (λ (p : Part). p.flag) y_is in
    let no : not (is_more_flag C) ≡ true = ap (λ f. not (is_more_flag f)) (sym flag) ∙ e in
    absurd cc
given_front before c m ys e (at_end xs_is y_is) =
    given_last c.flag before c m (gathers m.request m.pieces before c xs_is) y_is
    ∙ ap (λ (p : Part). outcome_by p.flag m) y_is

given_under : (before : List Chunk) (c : Chunk) (rest : List Part) (o : Option Sent) → ends c ≡ true
    → map part_of (filter (is_of c.request) before) ++ part_of c ∷ rest ≡ parts_under o → given before c ≡ outcome_under o
given_under before c rest None e h = absurd (no_more (map part_of (filter (is_of c.request) before)) rest (part_of c) h)
given_under before c rest (Some m) e h =
    given_front before c m rest e (front_of m.request m.pieces (last_part m) (map part_of (filter (is_of c.request) before)) rest (part_of c) h)

-- the parts of the message of c are those before it, it, and those behind it
under_parts : (ms : List Sent) (before : List Chunk) (c : Chunk) (rest : List Chunk) → IsMerge ms (before ++ c ∷ rest)
    → map part_of (filter (is_of c.request) before) ++ part_of c ∷ map part_of (filter (is_of c.request) rest) ≡ parts_under (sent_under c.request ms)
under_parts ms before c rest merge =
    ap (λ t. map part_of (filter (is_of c.request) before) ++ map part_of t)
    (sym (cond-true (is_of c.request c) (c ∷ filter (is_of c.request) rest) (filter (is_of c.request) rest) (eq-eqb c.request c.request refl)))
    ∙ sym (map_push part_of (filter (is_of c.request) before) (filter (is_of c.request) (c ∷ rest)))
    ∙ ap (map part_of) (sym (filter_append (is_of c.request) before (c ∷ rest)))
    ∙ merge c.request

given_case : (b : Bool) (ms : List Sent) (before : List Chunk) (c : Chunk) (rest : List Chunk) → is_more_flag c.flag ≡ b → IsMerge ms (before ++ c ∷ rest)
    → given before c ≡ cond (not b) (outcome_under (sent_under c.request ms)) []
given_case true ms before c rest e merge = given_more c.flag before c e
given_case false ms before c rest e merge =
    given_under before c (map part_of (filter (is_of c.request) rest)) (sent_under c.request ms) (ap not e) (under_parts ms before c rest merge)

merged_behind : (ms : List Sent) (before cs : List Chunk) → IsMerge ms (before ++ cs) → delivered_behind before cs ≡ outcomes ms cs
merged_behind ms before [] merge = refl
merged_behind ms before (c ∷ cs) merge =
    ap (λ t. t ++ delivered_behind (before ++ c ∷ []) cs) (given_case (is_more_flag c.flag) ms before c cs refl merge)
    ∙ ap (λ t. cond (ends c) (outcome_under (sent_under c.request ms)) [] ++ t)
    (merged_behind ms (before ++ c ∷ []) cs (subst (IsMerge ms) (sym (append_assoc before (c ∷ []) cs)) merge))

-- merged messages deliver their outcomes
pub merged : (ms : List Sent) (cs : List Chunk) → IsMerge ms cs → delivered cs ≡ outcomes ms cs
merged ms cs merge = delivered_from cs ∙ merged_behind ms [] cs merge

-- ---- none is refused

-- why a chunk that is no abort might be refused, but for its number and the others
record Fits (octets chunks : ℕ) (before : List Chunk) (c : Chunk) : Type 0 where
  octets_fit : passes octets (length (joined (gathered before c))) ≡ false
  chunks_fit : passes chunks (length (gathered before c)) ≡ false

record Fine (octets chunks : ℕ) (before : List Chunk) (c : Chunk) : Type 0 where
  readable : (is_abort_flag c.flag && not (is_readable_abort c.body)) ≡ false
  octets_fit : (not (is_abort_flag c.flag) && passes octets (length (joined (gathered before c)))) ≡ false
  chunks_fit : (not (is_abort_flag c.flag) && passes chunks (length (gathered before c))) ≡ false

fine_counted : (octets chunks : ℕ) (before : List Chunk) (c : Chunk) → is_abort_flag c.flag ≡ false → Fits octets chunks before c → Fine octets chunks before c
fine_counted octets chunks before c e f = record {
  readable = ap (λ b. b && not (is_readable_abort c.body)) e;
  octets_fit = ap (λ b. not b && passes octets (length (joined (gathered before c)))) e ∙ f.octets_fit;
  chunks_fit = ap (λ b. not b && passes chunks (length (gathered before c))) e ∙ f.chunks_fit;
}

fine_abort : (octets chunks : ℕ) (before : List Chunk) (c : Chunk) → is_abort_flag c.flag ≡ true → is_readable_abort c.body ≡ true → Fine octets chunks before c
fine_abort octets chunks before c e r = record {
  readable = ap (λ b. b && not (is_readable_abort c.body)) e ∙ ap not r;
  octets_fit = ap (λ b. not b && passes octets (length (joined (gathered before c)))) e;
  chunks_fit = ap (λ b. not b && passes chunks (length (gathered before c))) e;
}

holds_pieces : (f : Flag) (m : Sent) (octets count : ℕ) → octets ≤ length (flat_map (λ p. p) m.pieces) → count ≤ length m.pieces
    → (octets ≤ length (flat_map (λ p. p) (bodies_by f m))) × (count ≤ length (bodies_by f m))
holds_pieces F m octets count h k = (
  omega (
    arith,
    h,
    ap length (flat_map-append (λ (p : List ℕ). p) m.pieces (m.last ∷ [])),
    length-append (flat_map (λ p. p) m.pieces) (flat_map (λ p. p) (m.last ∷ [])),
  ),
  omega (arith, k, length-append m.pieces (m.last ∷ [])),
)
holds_pieces C m octets count h k = (h, k)
holds_pieces A m octets count h k = (h, k)

fits_among : (octets chunks : ℕ) (m : Sent) (before : List Chunk) (c : Chunk) (ps1 ps2 : List (List ℕ)) (q : List ℕ) → IsMessageWithin octets chunks m
    → m.pieces ≡ ps1 ++ q ∷ ps2 → Gathers before c ps1 → c.body ≡ q → Fits octets chunks before c
fits_among octets chunks m before c ps1 ps2 q w parts_is g body =
    let all : flat_map (λ p. p) m.pieces ≡ flat_map (λ p. p) ps1 ++ (q ++ flat_map (λ p. p) ps2) = ap (flat_map (λ p. p)) parts_is
    ∙ flat_map-append (λ (p : List ℕ). p) ps1 (q ∷ ps2) in
    let octets_is : length (joined (gathered before c)) ≡ length (flat_map (λ p. p) ps1) + length q = ap length g.octets
    ∙ length-append (flat_map (λ p. p) ps1) c.body ∙ ap (λ (b : List ℕ). length (flat_map (λ p. p) ps1) + length b) body in
    let some = holds_pieces m.end m (length (joined (gathered before c))) (length (gathered before c))
    (omega (arith, octets_is, ap length all, length-append (flat_map (λ p. p) ps1) (q ++ flat_map (λ p. p) ps2), length-append q (flat_map (λ p. p) ps2)))
    (omega (arith, g.count, ap length parts_is, length-append ps1 (q ∷ ps2))) in
    record {
      octets_fit = fewer octets (length (joined (gathered before c))) (length (flat_map (λ p. p) (bodies_by m.end m))) some.0 w.octets_fit;
      chunks_fit = fewer chunks (length (gathered before c)) (length (bodies_by m.end m)) some.1 w.chunks_fit;
    }

fits_whole : (octets chunks : ℕ) (m : Sent) (before : List Chunk) (c : Chunk) → m.end ≡ F → IsMessageWithin octets chunks m → Gathers before c m.pieces
    → c.body ≡ m.last → Fits octets chunks before c
fits_whole octets chunks m before c end w g body =
    let bodies : bodies_by m.end m ≡ m.pieces ++ m.last ∷ [] = ap (λ f. bodies_by f m) end in
    let octets_is : length (joined (gathered before c)) ≡ length (flat_map (λ p. p) m.pieces) + length m.last = ap length g.octets
    ∙ length-append (flat_map (λ p. p) m.pieces) c.body ∙ ap (λ (b : List ℕ). length (flat_map (λ p. p) m.pieces) + length b) body in
    record {
      octets_fit = fewer octets (length (joined (gathered before c))) (length (flat_map (λ p. p) (bodies_by m.end m)))
          (omega (
            arith,
            octets_is,
            ap (λ (ps : List (List ℕ)). length (flat_map (λ p. p) ps)) bodies,
            ap length (flat_map-append (λ (p : List ℕ). p) m.pieces (m.last ∷ [])),
            length-append (flat_map (λ p. p) m.pieces) (flat_map (λ p. p) (m.last ∷ [])),
            length-append m.last [],
          ))
          w.octets_fit;
      chunks_fit = fewer chunks (length (gathered before c)) (length (bodies_by m.end m))
          (omega (arith, g.count, ap length bodies, length-append m.pieces (m.last ∷ []))) w.chunks_fit;
    }

fine_last : (f : Flag) (octets chunks : ℕ) (m : Sent) (before : List Chunk) (c : Chunk) → m.end ≡ f → IsMessageWithin octets chunks m
    → Gathers before c m.pieces
    → part_of c ≡ last_part m → Fine octets chunks before c
fine_last F octets chunks m before c end w g e =
    fine_counted octets chunks before c (ap (λ (p : Part). is_abort_flag p.flag) e ∙ ap is_abort_flag end)
    (fits_whole octets chunks m before c end w g (ap (λ (p : Part). p.body) e))
fine_last C octets chunks m before c end w g e = let no : is_more_flag C ≡ false = ap is_more_flag (sym end) ∙ w.ending in absurd cc
fine_last A octets chunks m before c end w g e =
    fine_abort octets chunks before c (ap (λ (p : Part). is_abort_flag p.flag) e ∙ ap is_abort_flag end) (ap (λ (p : Part). is_readable_abort p.body) e
    ∙ w.readable end)

fine_front : (octets chunks : ℕ) (m : Sent) (before : List Chunk) (c : Chunk) (ys : List Part) → IsMessageWithin octets chunks m
    → Front m.request m.pieces (last_part m) (map part_of (filter (is_of c.request) before)) ys (part_of c) → Fine octets chunks before c
fine_front octets chunks m before c ys w (among ps1 ps2 q parts_is xs_is y_is) =
    fine_counted octets chunks before c (ap (λ (p : Part). is_abort_flag p.flag) y_is)
    (fits_among octets chunks m before c ps1 ps2 q w parts_is (gathers m.request ps1 before c xs_is) (ap (λ (p : Part). p.body) y_is))
fine_front octets chunks m before c ys w (at_end xs_is y_is) =
    fine_last m.end octets chunks m before c refl w (gathers m.request m.pieces before c xs_is) y_is

fine_under : (octets chunks : ℕ) (before : List Chunk) (c : Chunk) (rest : List Part) (o : Option Sent)
    → ((m : Sent) → o ≡ Some m → IsMessageWithin octets chunks m)
    → map part_of (filter (is_of c.request) before) ++ part_of c ∷ rest ≡ parts_under o → Fine octets chunks before c
fine_under octets chunks before c rest None w h = absurd (no_more (map part_of (filter (is_of c.request) before)) rest (part_of c) h)
fine_under octets chunks before c rest (Some m) w h = fine_front octets chunks m before c rest (w m refl)
    (front_of m.request m.pieces (last_part m) (map part_of (filter (is_of c.request) before)) rest (part_of c) h)

chain_none : (follows unreadable crowded octets chunks : Bool) → follows ≡ true → unreadable ≡ false → crowded ≡ false → octets ≡ false → chunks ≡ false
    → chain follows unreadable crowded octets chunks ≡ None
chain_none true false false false false a b c d e = refl
chain_none false unreadable crowded octets chunks a b c d e = absurd cc
chain_none true true crowded octets chunks a b c d e = absurd cc
chain_none true false true octets chunks a b c d e = absurd cc
chain_none true false false true chunks a b c d e = absurd cc
chain_none true false false false true a b c d e = absurd cc

-- the messages are taken
pub messages_behind : (octets chunks : ℕ) (ms : List Sent) (before cs : List Chunk) → AllWithin octets chunks ms → IsMerge ms (before ++ cs) → FewOpen before cs
    → TakesMessages octets chunks before cs
messages_behind octets chunks ms before [] within merge few = tt
messages_behind octets chunks ms before (c ∷ cs) within merge few =
    let fine = fine_under octets chunks before c (map part_of (filter (is_of c.request) cs)) (sent_under c.request ms) (within c.request)
    (under_parts ms before c cs merge) in (
      chain_none true (is_abort_flag c.flag && not (is_readable_abort c.body)) (ltb most_open (length (open_ids (before ++ c ∷ []))))
          (not (is_abort_flag c.flag) && passes octets (length (joined (gathered before c))))
          (not (is_abort_flag c.flag) && passes chunks (length (gathered before c)))
          refl fine.readable (le-ltb most_open (length (open_ids (before ++ c ∷ []))) few.0) fine.octets_fit fine.chunks_fit,
      messages_behind octets chunks ms (before ++ c ∷ []) cs within (subst (IsMerge ms) (sym (append_assoc before (c ∷ []) cs)) merge) few.1,
    )

pub takes_behind : (octets chunks : ℕ) (ms : List Sent) (last : Option ℕ) (before cs : List Chunk) → AllWithin octets chunks ms → IsMerge ms (before ++ cs)
    → ordered last cs ≡ true → FewOpen before cs → TakesAllChunks octets chunks last before cs
takes_behind octets chunks ms last before cs within merge order few =
    takes_all octets chunks last before cs order (messages_behind octets chunks ms before cs within merge few)

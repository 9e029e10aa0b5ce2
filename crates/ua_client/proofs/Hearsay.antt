-- What is told of a call, by what is delivered under its request id.
use Rattle.std.specs.Prelude.{◌≡◌, ℕ, ◌+◌, ◌≤◌, ◌<◌, Bool, true, false, cond, ◌||◌, List, [], ◌∷◌, ◌++◌, map}
use Rattle.std.proofs.Common.{refl, sym, ◌∙◌, ap, subst, eqb, arith}
use Rattle.std.specs.List.{filter, AllByRecursion}
use Rattle.std.proofs.lemmas.Bool.{eqb-true}
use Rattle.ua_frame.specs.declared.frame.Frame.{Frame}
use Rattle.ua_frame.specs.declared.limits.Limits.{Limits}
use Rattle.ua_frame.specs.After.{AllAfter}
use Rattle.ua_frame.specs.Run.{Fits, events}
use Rattle.ua_chunk.proofs.Lists.{filter_append}
use Rattle.ua_chunk.specs.declared.chunk.Chunk.{Chunk}
use Rattle.ua_chunk.specs.Delivered.{delivered}
use Rattle.ua_chunk.specs.Item.{Item}
use Rattle.ua_chunk.specs.Item.Item.{Whole, Aborted}
use Rattle.ua_chunk.specs.Merge.{is_item_of}
use Rattle.ua_channel.specs.Asks.{Asking, Placed, asked_in, calls, is_in, next_id, id_of}
use Rattle.ua_channel.specs.Asks.Asking.{Call, Renewal}
use Rattle.ua_channel.specs.Client.{ClientGoes, ClientGoesTelling, InPhase, client_limits, phase_of}
use Rattle.ua_channel.specs.ClientTable.{client_rules}
use Rattle.ua_channel.specs.ClientTold.{ClientTold, told_item}
use Rattle.ua_channel.specs.ClientTold.ClientTold.{Agreed, Opened, Answered, GaveUp, Renewed}
use Rattle.ua_channel_laws.specs.Paired.{as_list, delivered_under, first, paired, told_of_calls, with_all, with_first_item}
use Rattle.ua_channel.specs.Received.{Received, listed, received}
use Rattle.ua_channel.specs.declared.client.channel.ClientChannel.{ClientChannel}
use Rattle.ua_channel.specs.declared.client.phase.Phase.{Phase}
use Rattle.ua_channel.specs.declared.client.phase.Phase.TheVariants.{Waiting, Agreed as Greeted, Open, Done}
use Rattle.ua_client.specs.Told.{is_told_of, told_of, IsFirstOf}

-- ---- what is told of a call among what is told of calls

-- one thing more that was told
pub told-more : (id : ℕ) (told : List ClientTold) (t : ClientTold) → told_of id (told ++ t ∷ []) ≡ told_of id told ++ told_of id (t ∷ [])
told-more id told t = filter_append (is_told_of id) told (t ∷ [])

kept-told : (b : Bool) (t : ClientTold) (us vs : List ClientTold) → us ≡ vs → cond b (t ∷ us) us ≡ cond b (t ∷ vs) vs
kept-told true t us vs e = ap (λ (ts : List ClientTold). t ∷ ts) e
kept-told false t us vs e = e

of-calls : (id : ℕ) (told : List ClientTold) → told_of id (told_of_calls told) ≡ told_of id told
of-calls id [] = refl
of-calls id (Agreed ack ∷ told) = of-calls id told
of-calls id (Opened channel token ∷ told) = of-calls id told
of-calls id (Answered n octets ∷ told) = kept-told (eqb n id) (Answered n octets) (told_of id (told_of_calls told)) (told_of id told) (of-calls id told)
of-calls id (GaveUp n code ∷ told) = kept-told (eqb n id) (GaveUp n code) (told_of id (told_of_calls told)) (told_of id told) (of-calls id told)
of-calls id (Renewed token ∷ told) = of-calls id told

kept-item : (b : Bool) (i : Item) (ts : List ClientTold) (is : List Item) → ts ≡ map told_item is
    → cond b (told_item i ∷ ts) ts ≡ map told_item (cond b (i ∷ is) is)
kept-item true i ts is e = ap (λ (us : List ClientTold). told_item i ∷ us) e
kept-item false i ts is e = e

of-items : (id : ℕ) (items : List Item) → told_of id (map told_item items) ≡ map told_item (filter (is_item_of id) items)
of-items id [] = refl
of-items id (Whole n octets ∷ items) = kept-item (eqb n id) (Whole n octets) (told_of id (map told_item items)) (filter (is_item_of id) items)
    (of-items id items)
of-items id (Aborted n code reason ∷ items) = kept-item (eqb n id) (Aborted n code reason) (told_of id (map told_item items)) (filter (is_item_of id) items)
    (of-items id items)

-- ---- by the laws of the channel

-- what is told of calls is what chunks deliver
abbrev pub TellsDelivered : Type 0
TellsDelivered = (limits : Limits) (asks : List Placed) (frames : List Frame) → told_of_calls (events (client_rules limits asks) frames)
    ≡ map told_item (delivered (received frames).messages)

abbrev pub PairsOnce : Type 0
PairsOnce = (limits : Limits) (asks : List Placed) (frames : List Frame) → AllAfter (Fits (client_rules limits asks)) frames →
    map (with_all (received frames).messages) (calls (asked_in asks)) ≡ map as_list (paired (asked_in asks) (received frames).messages)

abbrev pub PairsNoOther : Type 0
PairsNoOther = (limits : Limits) (asks : List Placed) (frames : List Frame) (id : ℕ) → AllAfter (Fits (client_rules limits asks)) frames →
    is_in id (calls (asked_in asks)) ≡ false → delivered_under id (received frames).messages ≡ []

pub told-under : TellsDelivered → (id : ℕ) (limits : Limits) (asks : List Placed) (frames : List Frame) → told_of id (events (client_rules limits asks) frames)
    ≡ map told_item (delivered_under id (received frames).messages)
told-under tells id limits asks frames =
    sym (of-calls id (events (client_rules limits asks) frames))
    ∙ (ap (told_of id) (tells limits asks frames) ∙ of-items id (delivered (received frames).messages))

-- ---- at most once

abbrev head-of : List (ℕ × List Item) → ℕ × List Item
head-of [] = (0, [])
head-of (p ∷ ps) = p

abbrev tail-of : List (ℕ × List Item) → List (ℕ × List Item)
tail-of [] = []
tail-of (p ∷ ps) = ps

once-by : (b : Bool) (cs : List Chunk) (n id : ℕ) → eqb n id ≡ b → delivered_under n cs ≡ listed (first (delivered_under n cs))
    → (b ≡ false → delivered_under id cs ≡ listed (first (delivered_under id cs)))
    → delivered_under id cs ≡ listed (first (delivered_under id cs))
once-by true cs n id same own rest = subst (λ (k : ℕ). delivered_under k cs ≡ listed (first (delivered_under k cs))) (eqb-true n id same) own
once-by false cs n id other own rest = rest refl

once-in : (cs : List Chunk) (ids : List ℕ) (id : ℕ) → map (with_all cs) ids ≡ map as_list (map (with_first_item cs) ids) → is_in id ids ≡ true
    → delivered_under id cs ≡ listed (first (delivered_under id cs))
once-in cs [] id e h = absurd cc
once-in cs (n ∷ ids) id e h =
    once-by (eqb n id) cs n id refl (ap (λ (ps : List (ℕ × List Item)). (head-of ps).1) e)
    (λ other. once-in cs ids id (ap tail-of e) (ap (λ (b : Bool). b || is_in id ids) (sym other) ∙ h))

-- a list that ends in something, and has at most one element
none-before : (items : List Item) (told : List ClientTold) (t : ClientTold) → told ++ t ∷ [] ≡ map told_item items → items ≡ listed (first items) → told ≡ []
none-before [] [] t e h = refl
none-before (i ∷ items) [] t e h = refl
none-before [] (u ∷ told) t e h = absurd cc
none-before (i ∷ []) (u ∷ []) t e h = absurd cc
none-before (i ∷ []) (u ∷ (v ∷ told)) t e h = absurd cc
none-before (i ∷ (j ∷ items)) (u ∷ told) t e h = absurd cc

module _ (tells : TellsDelivered) (once : PairsOnce) (no_other : PairsNoOther) where
  pub at-most : (id : ℕ) (limits : Limits) (asks : List Placed) (frames : List Frame) → AllAfter (Fits (client_rules limits asks)) frames
      → delivered_under id (received frames).messages ≡ listed (first (delivered_under id (received frames).messages))
  unfolding paired
  at-most id limits asks frames fits = by (is_in id (calls (asked_in asks))) refl
    where
      by : (b : Bool) → is_in id (calls (asked_in asks)) ≡ b
          → delivered_under id (received frames).messages ≡ listed (first (delivered_under id (received frames).messages))
      by true h = once-in (received frames).messages (calls (asked_in asks)) id (once limits asks frames fits) h
      by false h = let none = no_other limits asks frames id fits h in none ∙ ap (λ (is : List Item). listed (first is)) (sym none)

  pub told-once : ((x : ClientChannel) (asks : List Placed) (octets : List ℕ) (told : List ClientTold) (e : ClientTold) → ClientGoesTelling x asks octets told e
      → ClientGoes x asks octets (told ++ e ∷ []))
      → (x : ClientChannel) (asks : List Placed) (octets : List ℕ) (told : List ClientTold) (t : ClientTold) → ClientGoesTelling x asks octets told t
      → IsFirstOf told t
  told-once goes_on x asks octets told t g id own =
      let h : ClientGoes x asks octets (told ++ t ∷ []) = goes_on x asks octets told t g in
      let under : told_of id told ++ t ∷ [] ≡ map told_item (delivered_under id (received h.frames).messages) =
      ap (λ (b : Bool). told_of id told ++ cond b (t ∷ []) []) (sym own)
      ∙ (sym (told-more id told t) ∙ (ap (told_of id) (sym h.told_is) ∙ told-under tells id (client_limits x) asks h.frames)) in
      none-before (delivered_under id (received h.frames).messages) (told_of id told) t under (at-most id (client_limits x) asks h.frames h.stands.run.good)

-- ---- not before it is asked

call-below : (b : Bool) (n j id : ℕ) (rest : Bool) → eqb j id ≡ b → n ≤ id → j < n → rest ≡ false → (eqb j id || rest) ≡ false
call-below true n j id rest same h below none = let e = eqb-true j id same in absurd (omega (arith, e, below, h))
call-below false n j id rest other h below none = ap (λ (b : Bool). b || rest) other ∙ none

not-below : (n id : ℕ) (asked : List Asking) → n ≤ id → AllByRecursion (λ (a : Asking). id_of a < n) asked → is_in id (calls asked) ≡ false
unfolding calls
not-below n id [] h all = refl
not-below n id (Call j ∷ asked) h all = call-below (eqb j id) n j id (is_in id (calls asked)) refl h all.0 (not-below n id asked h all.1)
not-below n id (Renewal j ∷ asked) h all = not-below n id asked h all.1

below-in : (limits : Limits) (p : Phase) (before : Received) (asked : List Asking) → InPhase limits p before asked
    → AllByRecursion (λ (a : Asking). id_of a < next_id asked) asked
below-in limits Waiting before asked h = subst (λ (xs : List Asking). AllByRecursion (λ (a : Asking). id_of a < next_id xs) xs) (sym h.1) tt
below-in limits (Greeted a) before asked h = subst (λ (xs : List Asking). AllByRecursion (λ (a : Asking). id_of a < next_id xs) xs) (sym h.1) tt
below-in limits (Open t) before asked h = subst (λ (n : ℕ). AllByRecursion (λ (a : Asking). id_of a < n) asked) h.next_is h.asked_below
below-in limits Done before asked h = absurd h

pub told-behind : TellsDelivered → PairsNoOther → (x : ClientChannel) (asks : List Placed) (octets : List ℕ) (told : List ClientTold) (n : ℕ)
    → ClientGoes x asks octets told → told_of (next_id (asked_in asks) + n) told ≡ []
told-behind tells no_other x asks octets told n g =
    let s = g.stands in
    let id : ℕ = next_id (asked_in asks) + n in
    let unasked : is_in id (calls (asked_in asks)) ≡ false = not-below (next_id (asked_in asks)) id (asked_in asks) (omega arith)
    (below-in (client_limits x) (phase_of x) (received g.frames) (asked_in asks) s.phase_is) in
    ap (told_of id) (sym g.told_is)
    ∙ (told-under tells id (client_limits x) asks g.frames
    ∙ ap (map told_item) (no_other (client_limits x) asks g.frames id s.run.good unasked))

-- How the replies of a group of calls come in.
use Rattle.std.specs.Prelude.{◌≡◌, ◌⊎◌, ℕ, ◌+◌, ◌≤◌, ◌<◌, true, false, cond, is_none, List, [], ◌∷◌, ◌++◌, length, Option, Ok, Err}
use Rattle.std.proofs.Common.{refl, sym, ◌∙◌, ap, subst, inl, inr, append_assoc, append-nil, arith, suc}
use Rattle.std.proofs.lemmas.List.{length-append}
use Rattle.std.specs.List.{AllByRecursion, list_any}
use Rattle.ua_builtin.specs.declared.date_time.DateTime.{DateTime}
use Rattle.ua_frame.specs.After.{AllAfter, AllFrom}
use Rattle.ua_frame.specs.Frames.{IsSized, frames_octets}
use Rattle.ua_frame.specs.Run.{Fits, Rules}
use Rattle.ua_frame.specs.declared.frame.Frame.{Frame}
use Rattle.ua_channel.specs.Asks.{Placed}
use Rattle.ua_channel.specs.Client.{ClientGoes, ClientGoesTelling, client_rules_of}
use Rattle.ua_channel.specs.ClientTold.{ClientTold}
use Rattle.ua_channel.specs.Line.{Traffic, one_more}
use Rattle.ua_channel.specs.declared.client.channel.ClientChannel.{ClientChannel}
use Rattle.ua_channel.specs.declared.client.event.ClientEvent.{ClientEvent}
use Rattle.ua_services.specs.declared.request.Request.{Request}
use Rattle.ua_client.specs.Calls.{AreFrames, AreUntold, Collects, CollectsAfter, ClientGoesOn, LastCame, none_for}
use Rattle.ua_client.specs.Hearing.{channel_of_connection, KeepsClient, MovesConnection, Says, Hears, HearsAfter, StopsByTraffic, is_line_fault}
use Rattle.ua_client.specs.Replies.{AreSlots, IsFront, IsUntoldBefore, LacksAnswer, IsMisanswered, FillsSlots, front_of, is_reading_fault}
use Rattle.ua_client.specs.Told.{IsFirstOf}
use Rattle.ua_client.specs.declared.connection.Connection.{Connection}
use Rattle.ua_client.specs.declared.fault.ClientFault.{ClientFault}
use Rattle.ua_client.specs.declared.fault.ClientFault.TheVariants as fault
use Rattle.ua_client.specs.declared.reply.Reply.{Reply}
use Rattle.ua_client.proofs.Carrying.{carried-nothing}
use Rattle.ua_client.proofs.Fronts.{front-untold, front-before, front-unread}
use Rattle.ua_client.proofs.Hearings.{keeps-all, keeps-then, moves-behind, moves-writing, GoesOnBehind}

-- ---- slots

untold-slots : (requests : List Request) (first : ℕ) (told : List ClientTold) → AreUntold requests first told → AreSlots requests first told (none_for requests)
untold-slots [] first told h = tt
untold-slots (r ∷ rs) first told h = (h.0, untold-slots rs (first + 1) told h.1)

-- a fault of reading an answer is none of the line
pub reading-failures : (x : ClientFault) → is_reading_fault x ≡ true → (n : ℕ) → cond (is_line_fault x) (one_more n) n ≡ n
reading-failures fault.UnknownResponse h n = refl
reading-failures fault.OutOfMemory h n = refl
reading-failures fault.Read h n = absurd cc
reading-failures fault.Write h n = absurd cc
reading-failures fault.Ended h n = refl
reading-failures (fault.Peer code) h n = refl
reading-failures (fault.Refused code) h n = refl
reading-failures (fault.Service code) h n = refl
reading-failures fault.TooLarge h n = refl
reading-failures fault.NotWritable h n = refl
reading-failures fault.Exhausted h n = refl
reading-failures fault.Closed h n = refl
reading-failures fault.TooManyTokens h n = refl
reading-failures fault.TooLong h n = refl

-- ---- one event more

-- no reply came, or the last that was told was told while a reply was missing, and nothing stands behind its frame
abbrev pub IsLast : List Request → ℕ → Connection → List Placed → List ℕ → List (Option Reply) → List ClientTold → Type 0
IsLast requests first now asks octets slots all = (slots ≡ none_for requests) ⊎ LastCame (channel_of_connection now) requests first asks octets all

-- so far these replies came
pub record Waiting (requests : List Request) (first : ℕ) (old now : Connection) (before at : Option Traffic) (reads left : ℕ)
    (slots : List (Option Reply)) : Type 0 where
  pub moves : MovesConnection old now [] before at
  pub keeps : KeepsClient old now
  pub goes : (asks : List Placed) (octets : List ℕ) (told : List ClientTold) → ClientGoes (channel_of_connection old) asks octets told
      → AreUntold requests first told
      → ClientGoesOn (channel_of_connection now) asks (octets ++ moves.taken) told (λ all. AreSlots requests first all slots
      × IsLast requests first now asks (octets ++ moves.taken) slots all)
  pub spent : reads ≤ left + length moves.got
  pub count : length slots ≡ length requests

length-none : (requests : List Request) → length (none_for requests) ≡ length requests
length-none [] = refl
length-none (r ∷ rs) = ap suc (length-none rs)

pub waits-first : (requests : List Request) (first : ℕ) (x : Connection) (t : Option Traffic) (reads : ℕ) (slots : List (Option Reply))
    → slots ≡ none_for requests → Waiting requests first x x t t reads reads slots
waits-first requests first x t reads slots e = record {
  moves = moves-writing x x [] t t refl (carried-nothing t);
  keeps = keeps-all x;
  goes = λ asks octets told g none. (
    [],
    subst (λ (o : List ℕ). ClientGoes (channel_of_connection x) asks o (told ++ [])) (sym (append-nil octets))
        (subst (λ (h : List ClientTold). ClientGoes (channel_of_connection x) asks octets h) (sym (append-nil told)) g),
    (
      subst (λ (h : List ClientTold). AreSlots requests first h slots) (sym (append-nil told))
          (subst (λ (ss : List (Option Reply)). AreSlots requests first told ss) (sym e) (untold-slots requests first told none)),
      inl e,
    ),
  );
  spent = omega arith;
  count = ap length e ∙ length-none requests;
}

-- frames that are taken are of sizes that a header can name
sized-from : {E X : Type 0} (R : Rules E X) (start frames : List Frame) → AllFrom (Fits R) start frames → AllByRecursion IsSized frames
sized-from R start [] h = tt
sized-from R start (f ∷ fs) h = (h.0.sized, sized-from R (start ++ f ∷ []) fs h.1)

sized-all : {E X : Type 0} (R : Rules E X) (frames : List Frame) → AllAfter (Fits R) frames → AllByRecursion IsSized frames
unfolding AllAfter
sized-all R frames h = sized-from R [] frames h

pub told-whole : (x : ClientChannel) (asks : List Placed) (octets : List ℕ) (told : List ClientTold) (t : ClientTold) → ClientGoesTelling x asks octets told t
    → AreFrames octets
told-whole x asks octets told t g = (
  g.frames ++ g.frame ∷ [],
  g.stands.run.whole ∙ append-nil (frames_octets (g.frames ++ g.frame ∷ [])),
  sized-all (client_rules_of x asks) (g.frames ++ g.frame ∷ []) g.stands.run.good,
)

none-missing : (requests : List Request) → 0 < length requests → list_any is_none (none_for requests) ≡ false → ⊥
none-missing [] some e = absurd (omega (arith, some))
none-missing (r ∷ rs) some e = absurd cc

-- where no reply is missing, the last of them came
last-came : (requests : List Request) (first : ℕ) (now : Connection) (asks : List Placed) (octets : List ℕ) (slots : List (Option Reply))
    (all : List ClientTold) → 0 < length requests → list_any is_none slots ≡ false
    → IsLast requests first now asks octets slots all → LastCame (channel_of_connection now) requests first asks octets all
last-came requests first now asks octets slots all some none (inl e) =
    absurd (none-missing requests some (subst (λ (ss : List (Option Reply)). list_any is_none ss ≡ false) e none))
last-came requests first now asks octets slots all some none (inr k) = k

abbrev pub ToldOnce : Type 0
ToldOnce = (x : ClientChannel) (asks : List Placed) (octets : List ℕ) (told : List ClientTold) (t : ClientTold) → ClientGoesTelling x asks octets told t
    → IsFirstOf told t

module _ (requests : List Request) (first : ℕ) (old now new : Connection) (before at then : Option Traffic) (reads left less : ℕ) (slots : List (Option Reply))
    (moment : DateTime)
    (w : Waiting requests first old now before at reads left slots) where
  spent-more : (more : List ℕ) → left ≤ less + length more → reads ≤ less + length (w.moves.got ++ more)
  spent-more more h = let l = length-append w.moves.got more in let s = w.spent in omega (arith, l, s, h)

  module _ (e : ClientEvent) (h : Hears now new moment at then left less (Ok e)) (goes_on : GoesOnBehind) (once : ToldOnce) where
    -- the history behind an event
    behind : (P : List ClientTold → Type 0) (asks : List Placed) (octets : List ℕ) (told : List ClientTold)
        → ClientGoes (channel_of_connection old) asks octets told
        → AreUntold requests first told
        → ((all : List ClientTold) (t : ClientTold) → Says moment e t
        → ClientGoesTelling (channel_of_connection new) asks (octets ++ (w.moves.taken ++ h.moves.taken)) all t → AreSlots requests first all slots
        → P (all ++ t ∷ []))
        → ClientGoesOn (channel_of_connection new) asks (octets ++ (w.moves.taken ++ h.moves.taken)) told P
    behind P asks octets told g none filled =
        let on = w.goes asks octets told g none in
        let heard : List ClientTold = on.0 in
        let says = h.answers asks (octets ++ w.moves.taken) (told ++ heard) on.1 in
        let t : ClientTold = says.0 in
        let whole : List ℕ = octets ++ (w.moves.taken ++ h.moves.taken) in
        let tells : ClientGoesTelling (channel_of_connection new) asks whole (told ++ heard) t =
        subst (λ (o : List ℕ). ClientGoesTelling (channel_of_connection new) asks o (told ++ heard) t) (append_assoc octets w.moves.taken h.moves.taken) says.2
        in
        let is : P ((told ++ heard) ++ t ∷ []) = filled (told ++ heard) t says.1 tells on.2.0 in (
          heard ++ t ∷ [],
          subst (λ (all : List ClientTold). ClientGoes (channel_of_connection new) asks whole all) (append_assoc told heard (t ∷ []))
              (goes_on (channel_of_connection new) asks whole (told ++ heard) t tells),
          subst P (append_assoc told heard (t ∷ [])) is,
        )

    -- what is told is the first that is told of its call
    first-filled : (P : List ClientTold → Type 0)
        → ((m : DateTime) (all : List ClientTold) (t : ClientTold) → Says m e t → IsFirstOf all t → AreSlots requests first all slots → P (all ++ t ∷ []))
        → (asks : List Placed) (octets : List ℕ) (all : List ClientTold) (t : ClientTold) → Says moment e t
        → ClientGoesTelling (channel_of_connection new) asks octets all t → AreSlots requests first all slots → P (all ++ t ∷ [])
    first-filled P filled asks octets all t says tells s = filled moment all t says (once (channel_of_connection new) asks octets all t tells) s

    pub waits-more : (next : List (Option Reply)) → length next ≡ length slots → list_any is_none slots ≡ true
        → ((m : DateTime) (all : List ClientTold) (t : ClientTold) → Says m e t → IsFirstOf all t → AreSlots requests first all slots
        → AreSlots requests first (all ++ t ∷ []) next)
        → Waiting requests first old new before then reads less next
    waits-more next same missing filled = record {
      moves = moves-behind old now new [] [] before at then w.moves h.moves;
      keeps = keeps-then old now new w.keeps h.keeps;
      goes = λ asks octets told g none.
          let whole : List ℕ = octets ++ (w.moves.taken ++ h.moves.taken) in
          behind (λ all. AreSlots requests first all next × IsLast requests first new asks whole next all) asks octets told g none
          (λ all t says tells s. (
            first-filled (λ all. AreSlots requests first all next) filled asks whole all t says tells s,
            inr (record { before = all; last = t; told_is = refl; awaited = record { slots = slots; slots_are = s; missing = missing }; tells = tells }),
          ));
      spent = spent-more h.moves.got h.stops;
      count = same ∙ w.count;
    }

    no-filling : ((m : DateTime) (all : List ClientTold) (t : ClientTold) → Says m e t → IsFirstOf all t → AreSlots requests first all slots → ⊥)
        → (asks : List Placed) (octets : List ℕ) (told : List ClientTold)
        → ClientGoes (channel_of_connection old) asks octets told → AreUntold requests first told → ⊥
    no-filling filled asks octets told g none =
        (behind (λ all. ⊥) asks octets told g none (first-filled (λ all. ⊥) filled asks (octets ++ (w.moves.taken ++ h.moves.taken)))).2

    misread-by : (A : Type 0) (x : ClientFault) (next : List (Option Reply)) → next ≡ slots → list_any is_none slots ≡ true
        → ((m : DateTime) (all : List ClientTold) (t : ClientTold) → Says m e t → IsFirstOf all t → AreSlots requests first all slots
        → FillsSlots requests first (all ++ t ∷ []) next (Err x))
        → (asks : List Placed) (octets : List ℕ) (told : List ClientTold) → ClientGoes (channel_of_connection old) asks octets told
        → AreUntold requests first told
        → CollectsAfter {A = A} next requests first new then (Err x) asks (octets ++ (w.moves.taken ++ h.moves.taken)) told
    misread-by A fault.UnknownResponse next same missing filled asks octets told g none =
        behind (λ all. IsMisanswered requests first all × IsFront LacksAnswer (front_of next) requests first all) asks octets told g none
        (first-filled (λ all. IsMisanswered requests first all × IsFront LacksAnswer (front_of next) requests first all) filled asks
        (octets ++ (w.moves.taken ++ h.moves.taken)))
    misread-by A fault.OutOfMemory next same missing filled asks octets told g none =
        let on = behind (IsFront IsUntoldBefore (front_of next) requests first) asks octets told g none
        (λ all t says tells s. subst (λ (ss : List (Option Reply)). IsFront IsUntoldBefore (front_of ss) requests first (all ++ t ∷ [])) (sym same)
        (front-unread requests first all t slots (once (channel_of_connection new) asks (octets ++ (w.moves.taken ++ h.moves.taken)) all t tells) s missing)) in
        (on.0, inr on.1, on.2)
    misread-by A fault.Read next same missing filled asks octets told g none = absurd (no-filling filled asks octets told g none)
    misread-by A fault.Write next same missing filled asks octets told g none = absurd (no-filling filled asks octets told g none)
    misread-by A fault.Ended next same missing filled asks octets told g none = absurd (no-filling filled asks octets told g none)
    misread-by A (fault.Peer code) next same missing filled asks octets told g none = absurd (no-filling filled asks octets told g none)
    misread-by A (fault.Refused code) next same missing filled asks octets told g none = absurd (no-filling filled asks octets told g none)
    misread-by A (fault.Service code) next same missing filled asks octets told g none = absurd (no-filling filled asks octets told g none)
    misread-by A fault.TooLarge next same missing filled asks octets told g none = absurd (no-filling filled asks octets told g none)
    misread-by A fault.NotWritable next same missing filled asks octets told g none = absurd (no-filling filled asks octets told g none)
    misread-by A fault.Exhausted next same missing filled asks octets told g none = absurd (no-filling filled asks octets told g none)
    misread-by A fault.Closed next same missing filled asks octets told g none = absurd (no-filling filled asks octets told g none)
    misread-by A fault.TooManyTokens next same missing filled asks octets told g none = absurd (no-filling filled asks octets told g none)
    misread-by A fault.TooLong next same missing filled asks octets told g none = absurd (no-filling filled asks octets told g none)

  -- a fault of the line or of the channel while replies are missing
  heard-fault : (A : Type 0) (x : ClientFault) (h : Hears now new moment at then left less (Err x)) → list_any is_none slots ≡ true
      → (asks : List Placed) (octets : List ℕ) (told : List ClientTold) → ClientGoes (channel_of_connection old) asks octets told
      → AreUntold requests first told
      → CollectsAfter {A = A} slots requests first new then (Err x) asks (octets ++ (w.moves.taken ++ h.moves.taken)) told
  heard-fault A x h missing asks octets told g none =
      by x (subst (λ (o : List ℕ). HearsAfter moment (Err x) (channel_of_connection new) asks o (told ++ on.0))
      (append_assoc octets w.moves.taken h.moves.taken)
      (h.answers asks (octets ++ w.moves.taken) (told ++ on.0) on.1))
    where
      on : ClientGoesOn (channel_of_connection now) asks (octets ++ w.moves.taken) told (λ all. AreSlots requests first all slots
          × IsLast requests first now asks (octets ++ w.moves.taken) slots all)
      on = w.goes asks octets told g none

      some : AreSlots requests first (told ++ on.0) slots × (list_any is_none slots ≡ true)
      some = (on.2.0, missing)

      by : (y : ClientFault) → HearsAfter moment (Err y) (channel_of_connection new) asks (octets ++ (w.moves.taken ++ h.moves.taken)) (told ++ on.0)
          → CollectsAfter {A = A} slots requests first new then (Err y) asks (octets ++ (w.moves.taken ++ h.moves.taken)) told
      by (fault.Peer code) k = (on.0, k, some)
      by (fault.Refused code) k = (on.0, k, some)
      by fault.Ended k = (on.0, k, some)
      by fault.Read k = (on.0, k, some)
      by fault.TooLong k = (on.0, k, some)
      by fault.OutOfMemory k =
          (on.0, inl k, front-before requests first (told ++ on.0) (front_of slots) (front-untold requests first (told ++ on.0) slots on.2.0 missing))
      by fault.UnknownResponse k = absurd k
      by fault.Write k = absurd k
      by (fault.Service code) k = absurd k
      by fault.TooLarge k = absurd k
      by fault.NotWritable k = absurd k
      by fault.Exhausted k = absurd k
      by fault.Closed k = absurd k
      by fault.TooManyTokens k = absurd k

  stops-behind : (A : Type 0) (x : ClientFault) (got : List ℕ) → StopsByTraffic {A = ClientEvent} left less got new then (Err x)
      → StopsByTraffic {A = A} reads less (w.moves.got ++ got) new then (Err x)
  stops-behind A fault.TooLong got h = (h.0, let l = length-append w.moves.got got in let s = w.spent in let few = h.1 in omega (arith, l, s, few))
  stops-behind A fault.Ended got h = h
  stops-behind A fault.Read got h = h
  stops-behind A fault.Write got h = tt
  stops-behind A (fault.Peer code) got h = tt
  stops-behind A (fault.Refused code) got h = tt
  stops-behind A fault.UnknownResponse got h = tt
  stops-behind A (fault.Service code) got h = tt
  stops-behind A fault.TooLarge got h = tt
  stops-behind A fault.NotWritable got h = tt
  stops-behind A fault.Exhausted got h = tt
  stops-behind A fault.Closed got h = tt
  stops-behind A fault.TooManyTokens got h = tt
  stops-behind A fault.OutOfMemory got h = tt

  pub collects-heard : {A : Type 0} (x : ClientFault) → Hears now new moment at then left less (Err x) → list_any is_none slots ≡ true
      → Collects {A = A} slots requests first old new before then reads less (Err x)
  collects-heard {A} x h missing = record {
    moves = moves-behind old now new [] [] before at then w.moves h.moves;
    keeps = keeps-then old now new w.keeps h.keeps;
    answers = heard-fault A x h missing;
    stops = stops-behind A x h.moves.got h.stops;
  }

  pub collects-misread : {A : Type 0} (e : ClientEvent) (x : ClientFault) (next : List (Option Reply)) → next ≡ slots → list_any is_none slots ≡ true
      → Hears now new moment at then left less (Ok e) → GoesOnBehind → ToldOnce
      → ((m : DateTime) (all : List ClientTold) (t : ClientTold) → Says m e t → IsFirstOf all t → AreSlots requests first all slots
      → FillsSlots requests first (all ++ t ∷ []) next (Err x))
      → is_reading_fault x ≡ true → Collects {A = A} next requests first old new before then reads less (Err x)
  collects-misread {A} e x next same missing h goes_on once filled few = record {
    moves = moves-behind old now new [] [] before at then w.moves h.moves;
    keeps = keeps-then old now new w.keeps h.keeps;
    answers = misread-by e h goes_on once A x next same missing filled;
    stops = reading-stops A x (w.moves.got ++ h.moves.got) few;
  }
    where
      reading-stops : (B : Type 0) (y : ClientFault) (got : List ℕ) → is_reading_fault y ≡ true → StopsByTraffic {A = B} reads less got new then (Err y)
      reading-stops B fault.UnknownResponse got f = tt
      reading-stops B fault.OutOfMemory got f = tt
      reading-stops B fault.TooLong got f = absurd cc
      reading-stops B fault.Ended got f = absurd cc
      reading-stops B fault.Read got f = absurd cc
      reading-stops B fault.Write got f = tt
      reading-stops B (fault.Peer code) got f = tt
      reading-stops B (fault.Refused code) got f = tt
      reading-stops B (fault.Service code) got f = tt
      reading-stops B fault.TooLarge got f = tt
      reading-stops B fault.NotWritable got f = tt
      reading-stops B fault.Exhausted got f = tt
      reading-stops B fault.Closed got f = tt
      reading-stops B fault.TooManyTokens got f = tt

  pub collects-all : {A : Type 0} (found : A) → list_any is_none slots ≡ false → 0 < length requests
      → Collects slots requests first old now before at reads left (Ok found)
  collects-all found none some = record {
    moves = w.moves;
    keeps = w.keeps;
    answers = λ asks octets told g n.
        let on = w.goes asks octets told g n in
        (on.0, on.1, (on.2.0, none, last-came requests first now asks (octets ++ w.moves.taken) slots (told ++ on.0) some none on.2.1));
    stops = w.spent;
  }

-- How a connection is opened.
use Rattle.std.specs.Prelude.{◌≡◌, ℕ, ◌<◌, ◌+◌, ◌≤◌, Bool, true, false, ◌||◌, List, [], ◌∷◌, ◌++◌, length, Option, Result, Ok, Err}
use Rattle.std.proofs.Common.{refl, sym, ◌∙◌, ap, subst, inl, inr, append_assoc, append-nil, arith}
use Rattle.std.proofs.lemmas.List.{length-append}
use Rattle.std.specs.List.{list_any}
use Rattle.ua_builtin.specs.declared.date_time.DateTime.{DateTime}
use Rattle.ua_frame.specs.After.{each_after}
use Rattle.ua_frame.specs.declared.ack.Ack.{Ack}
use Rattle.ua_channel.specs.Asks.{Placed}
use Rattle.ua_channel.specs.Client.{ClientGoes, ClientGoesTelling, ClientEnded, ClientStands, client_limits, url_of}
use Rattle.ua_channel.specs.ClientTold.{ClientTold, Why, ours, peers}
use Rattle.ua_channel.specs.ClientTold.ClientTold.{Agreed, Opened, Answered, GaveUp, Renewed}
use Rattle.ua_channel.specs.Line.{Traffic, IfTrafficKnown}
use Rattle.ua_channel.specs.declared.client.channel.ClientChannel.{ClientChannel}
use Rattle.ua_channel.specs.declared.client.event.ClientEvent.{ClientEvent}
use Rattle.ua_channel.specs.declared.client.event.ClientEvent.TheVariants as event
use Rattle.ua_client.specs.Carried.{Carries, IsPart, WritesFront}
use Rattle.ua_client.specs.Hearing.{channel_of_connection, BreaksOff, KeepsClient, MovesConnection}
use Rattle.ua_client.specs.Hearing.{Says, Starved, Hears, HearsAfter, StopsByTraffic, most_reads}
use Rattle.ua_client.specs.Opening.{is_agreed, is_opened, EndsWithout, GoesWithout, GoesUntil, StarvesWithout, WaitsAfter}
use Rattle.ua_client.specs.Opening.{Waits, any_done, hello_octets, open_frame_octets, BreaksOpening, IsOpened, Opens}
use Rattle.ua_client.specs.declared.connection.Connection.{Connection}
use Rattle.ua_client.specs.declared.fault.ClientFault.{ClientFault}
use Rattle.ua_client.specs.declared.fault.ClientFault.TheVariants as fault
use Rattle.ua_client.proofs.Carrying.{carried-nothing, carried-then, carried-as, sends-part}
use Rattle.ua_client.proofs.Greetings.{IsGreeting, greeting}
use Rattle.ua_client.proofs.Hearings.{keeps-all, keeps-then, moves-behind, moves-from, moves-writing, GoesOnBehind}

-- ---- events

-- an event is the one that is waited for
abbrev pub is_send : ClientEvent → Bool
is_send event.NeedMore = false
is_send (event.Send sent) = true
is_send event.Open = false
is_send (event.Answered id message) = false
is_send (event.Aborted id code) = false
is_send (event.Failed code peer) = false
is_send (event.Renewed token) = false

abbrev pub is_open : ClientEvent → Bool
is_open event.NeedMore = false
is_open (event.Send sent) = false
is_open event.Open = true
is_open (event.Answered id message) = false
is_open (event.Aborted id code) = false
is_open (event.Failed code peer) = false
is_open (event.Renewed token) = false

-- a test of events is one of what was told
abbrev pub Tests : (ClientEvent → Bool) → (ClientTold → Bool) → Type 0
Tests test wanted = (moment : DateTime) (e : ClientEvent) (t : ClientTold) → Says moment e t → wanted t ≡ test e

pub tests-agreed : Tests is_send is_agreed
tests-agreed moment event.NeedMore t h = absurd h
tests-agreed moment (event.Send sent) t h = ap is_agreed h.1.1
tests-agreed moment event.Open t h = ap is_agreed h.1.1
tests-agreed moment (event.Answered id message) t h = ap is_agreed h
tests-agreed moment (event.Aborted id code) t h = ap is_agreed h
tests-agreed moment (event.Failed code peer) t h = absurd h
tests-agreed moment (event.Renewed token) t h = ap is_agreed h

pub tests-opened : Tests is_open is_opened
tests-opened moment event.NeedMore t h = absurd h
tests-opened moment (event.Send sent) t h = ap is_opened h.1.1
tests-opened moment event.Open t h = ap is_opened h.1.1
tests-opened moment (event.Answered id message) t h = ap is_opened h
tests-opened moment (event.Aborted id code) t h = ap is_opened h
tests-opened moment (event.Failed code peer) t h = absurd h
tests-opened moment (event.Renewed token) t h = ap is_opened h

pub not-send : (e : ClientEvent) → ((octets : _) → e ≡ event.Send octets → ⊥) → is_send e ≡ false
not-send event.NeedMore h = refl
not-send (event.Send sent) h = absurd (h sent refl)
not-send event.Open h = refl
not-send (event.Answered id message) h = refl
not-send (event.Aborted id code) h = refl
not-send (event.Failed code peer) h = refl
not-send (event.Renewed token) h = refl

pub not-open : (e : ClientEvent) → (e ≡ event.Open → ⊥) → is_open e ≡ false
not-open event.NeedMore h = refl
not-open (event.Send sent) h = refl
not-open event.Open h = absurd (h refl)
not-open (event.Answered id message) h = refl
not-open (event.Aborted id code) h = refl
not-open (event.Failed code peer) h = refl
not-open (event.Renewed token) h = refl

any-either : (b : Bool) (rest more : Bool) → (b || rest) ≡ false → (rest ≡ false → more ≡ false) → (b || more) ≡ false
any-either true rest more h k = absurd cc
any-either false rest more h k = k h

any-push : (wanted : ClientTold → Bool) (told : List ClientTold) (t : ClientTold) → list_any wanted told ≡ false → wanted t ≡ false
    → list_any wanted (told ++ t ∷ []) ≡ false
any-push wanted [] t h k = ap (λ (b : Bool). b || false) k
any-push wanted (u ∷ told) t h k = any-either (wanted u) (list_any wanted told) (list_any wanted (told ++ t ∷ [])) h (λ e. any-push wanted told t e k)

or-more : (b rest more : Bool) → (b || rest) ≡ true → (rest ≡ true → more ≡ true) → (b || more) ≡ true
or-more true rest more h k = refl
or-more false rest more h k = k h

pub any-left : (wanted : ClientTold → Bool) (us vs : List ClientTold) → list_any wanted us ≡ true → list_any wanted (us ++ vs) ≡ true
any-left wanted [] vs i = absurd cc
any-left wanted (y ∷ us) vs i = or-more (wanted y) (list_any wanted us) (list_any wanted (us ++ vs)) i (λ e. any-left wanted us vs e)

-- ---- waiting

-- so far nothing was told that is waited for
pub record Lacks (wanted : ClientTold → Bool) (old now : Connection) (before at : Option Traffic) (reads left : ℕ) : Type 0 where
  pub moves : MovesConnection old now [] before at
  pub keeps : KeepsClient old now
  pub goes : (asks : List Placed) (octets : List ℕ) (told : List ClientTold) → ClientGoes (channel_of_connection old) asks octets told
      → GoesWithout wanted (channel_of_connection now) asks (octets ++ moves.taken) told
  pub spent : reads ≤ left + length moves.got

pub lacks-first : (wanted : ClientTold → Bool) (x : Connection) (t : Option Traffic) (reads : ℕ) → Lacks wanted x x t t reads reads
lacks-first wanted x t reads = record {
  moves = moves-writing x x [] t t refl (carried-nothing t);
  keeps = keeps-all x;
  goes = λ asks octets told g. record {
    heard = [];
    none = refl;
    goes = subst (λ (o : List ℕ). ClientGoes (channel_of_connection x) asks o (told ++ [])) (sym (append-nil octets))
        (subst (λ (h : List ClientTold). ClientGoes (channel_of_connection x) asks octets h) (sym (append-nil told)) g);
  };
  spent = omega arith;
}

module _ (test : ClientEvent → Bool) (wanted : ClientTold → Bool) (tests : Tests test wanted) (old now new : Connection) (before at then : Option Traffic)
    (reads left less : ℕ) (moment : DateTime)
    (w : Lacks wanted old now before at reads left) where
  spent-more : (more : List ℕ) → left ≤ less + length more → reads ≤ less + length (w.moves.got ++ more)
  spent-more more h = let l = length-append w.moves.got more in let s = w.spent in omega (arith, l, s, h)

  pub lacks-more : (goes_on : GoesOnBehind) (e : ClientEvent) → test e ≡ false → Hears now new moment at then left less (Ok e)
      → Lacks wanted old new before then reads less
  lacks-more goes_on e other h = record {
    moves = moves-behind old now new [] [] before at then w.moves h.moves;
    keeps = keeps-then old now new w.keeps h.keeps;
    goes = λ asks octets told g.
        let on = w.goes asks octets told g in
        let says = h.answers asks (octets ++ w.moves.taken) (told ++ on.heard) on.goes in
        record {
          heard = on.heard ++ says.0 ∷ [];
          none = any-push wanted on.heard says.0 on.none (tests moment e says.0 says.1 ∙ other);
          goes = subst (λ (o : List ℕ). ClientGoes (channel_of_connection new) asks o (told ++ (on.heard ++ says.0 ∷ [])))
              (append_assoc octets w.moves.taken h.moves.taken)
              (subst (λ (all : List ClientTold). ClientGoes (channel_of_connection new) asks ((octets ++ w.moves.taken) ++ h.moves.taken) all)
              (append_assoc told on.heard (says.0 ∷ []))
              (goes_on (channel_of_connection new) asks ((octets ++ w.moves.taken) ++ h.moves.taken) (told ++ on.heard) says.0 says.2));
        };
    spent = spent-more h.moves.got h.stops;
  }

  pub waits-found : {A : Type 0} (P : A → Type 0) (e : ClientEvent) (found : A) → test e ≡ true → ((t : ClientTold) → Says moment e t → P found)
      → Hears now new moment at then left less (Ok e) → Waits wanted P old new before then reads less (Ok found)
  waits-found P e found own holds h = record {
    moves = moves-behind old now new [] [] before at then w.moves h.moves;
    keeps = keeps-then old now new w.keeps h.keeps;
    answers = λ asks octets told g.
        let on = w.goes asks octets told g in
        let says = h.answers asks (octets ++ w.moves.taken) (told ++ on.heard) on.goes in (
          record {
            heard = on.heard;
            none = on.none;
            last = says.0;
            is_wanted = tests moment e says.0 says.1 ∙ own;
            tells = subst (λ (o : List ℕ). ClientGoesTelling (channel_of_connection new) asks o (told ++ on.heard) says.0)
                (append_assoc octets w.moves.taken h.moves.taken) says.2;
          },
          holds says.0 says.1,
        );
    faults = tt;
    stops = spent-more h.moves.got h.stops;
  }

  pub waits-fault : {A : Type 0} (P : A → Type 0) (x : ClientFault) → Hears now new moment at then left less (Err x)
      → Waits wanted P old new before then reads less (Err x)
  waits-fault {A} P x h = record {
    moves = moves-behind old now new [] [] before at then w.moves h.moves;
    keeps = keeps-then old now new w.keeps h.keeps;
    answers = λ asks octets told g.
        let on = w.goes asks octets told g in
        by x asks (octets ++ (w.moves.taken ++ h.moves.taken)) told on.heard on.none
        (subst (λ (o : List ℕ). HearsAfter moment (Err x) (channel_of_connection new) asks o (told ++ on.heard))
        (append_assoc octets w.moves.taken h.moves.taken)
        (h.answers asks (octets ++ w.moves.taken) (told ++ on.heard) on.goes));
    faults = h.faults;
    stops = stops x h.moves.got h.stops;
  }
    where
      by : (y : ClientFault) (asks : List Placed) (octets : List ℕ) (told heard : List ClientTold) → list_any wanted heard ≡ false
          → HearsAfter moment (Err y) (channel_of_connection new) asks octets (told ++ heard)
          → WaitsAfter wanted P (Err y) (channel_of_connection new) asks octets told
      by (fault.Peer code) asks octets told heard none k = record { heard = heard; none = none; ended = k }
      by (fault.Refused code) asks octets told heard none k = record { heard = heard; none = none; ended = k }
      by fault.Ended asks octets told heard none k = record { heard = heard; none = none; goes = k }
      by fault.Read asks octets told heard none k = record { heard = heard; none = none; goes = k }
      by fault.TooLong asks octets told heard none k = record { heard = heard; none = none; goes = k }
      by fault.OutOfMemory asks octets told heard none k = record { heard = heard; none = none; starved = k }
      by fault.UnknownResponse asks octets told heard none k = absurd k
      by fault.Write asks octets told heard none k = absurd k
      by (fault.Service code) asks octets told heard none k = absurd k
      by fault.TooLarge asks octets told heard none k = absurd k
      by fault.NotWritable asks octets told heard none k = absurd k
      by fault.Exhausted asks octets told heard none k = absurd k
      by fault.TooManyTokens asks octets told heard none k = absurd k
      by fault.Closed asks octets told heard none k = absurd k

      stops : (y : ClientFault) (got : List ℕ) → StopsByTraffic {A = ClientEvent} left less got new then (Err y)
          → StopsByTraffic {A = A} reads less (w.moves.got ++ got) new then (Err y)
      stops fault.TooLong got k = (k.0, let l = length-append w.moves.got got in let s = w.spent in let few = k.1 in omega (arith, l, s, few))
      stops fault.Ended got k = k
      stops fault.Read got k = k
      stops fault.Write got k = tt
      stops (fault.Peer code) got k = tt
      stops (fault.Refused code) got k = tt
      stops fault.UnknownResponse got k = tt
      stops (fault.Service code) got k = tt
      stops fault.TooLarge got k = tt
      stops fault.NotWritable got k = tt
      stops fault.Exhausted got k = tt
      stops fault.TooManyTokens got k = tt
      stops fault.Closed got k = tt
      stops fault.OutOfMemory got k = tt

-- ---- what is told first

shape-of : (x : ClientChannel) (asks : List Placed) (octets : List ℕ) (told : List ClientTold) → ClientGoes x asks octets told → IsGreeting told
shape-of x asks octets told g = subst IsGreeting g.told_is (greeting (client_limits x) asks g.frames g.stands.run.good)

shape-ended : (x : ClientChannel) (asks : List Placed) (octets : List ℕ) (told : List ClientTold) (why : Why) → ClientEnded x asks octets told why
    → IsGreeting told
shape-ended x asks octets told why g = subst IsGreeting g.told_is (greeting (client_limits x) asks g.frames g.run.good)

shape-starved : (x : ClientChannel) (asks : List Placed) (octets : List ℕ) (told : List ClientTold) → Starved x asks octets told → IsGreeting told
shape-starved x asks octets told g = subst IsGreeting g.told_is (greeting (client_limits x) asks g.frames g.run.good)

none-agreed : (heard : List ClientTold) → list_any is_agreed heard ≡ false → IsGreeting heard → heard ≡ []
none-agreed [] none h = refl
none-agreed (t ∷ ts) none h = let e = sym (ap (λ (b : Bool). b || list_any is_agreed ts) h.0) ∙ none in absurd cc

none-behind : (heard : List ClientTold) (last : ClientTold) → list_any is_agreed heard ≡ false → IsGreeting (heard ++ last ∷ []) → heard ≡ []
none-behind [] last none h = refl
none-behind (t ∷ ts) last none h = let e = sym (ap (λ (b : Bool). b || list_any is_agreed ts) h.0) ∙ none in absurd cc

none-opened : (ack : Ack) (heard : List ClientTold) → list_any is_opened heard ≡ false → IsGreeting (Agreed ack ∷ heard) → heard ≡ []
none-opened ack [] none h = refl
none-opened ack (t ∷ ts) none h = let e = sym (ap (λ (b : Bool). b || list_any is_opened ts) h.1) ∙ none in absurd cc

the-ack : (t : ClientTold) → is_agreed t ≡ true → (ack : Ack) × (t ≡ Agreed ack)
the-ack (Agreed ack) h = (ack, refl)
the-ack (Opened channel token) h = absurd cc
the-ack (Answered id octets) h = absurd cc
the-ack (GaveUp id code) h = absurd cc
the-ack (Renewed token) h = absurd cc

-- an ACK is the first that is told
agreed-alone : GoesOnBehind → (x : ClientChannel) (octets : List ℕ) → GoesUntil is_agreed x [] octets []
    → (ack : Ack) × ClientGoesTelling x [] octets [] (Agreed ack)
agreed-alone goes_on x octets u =
    let a = the-ack u.last u.is_wanted in
    let shape = shape-of x [] octets (u.heard ++ u.last ∷ []) (goes_on x [] octets u.heard u.last u.tells) in
    let first : u.heard ≡ [] = none-behind u.heard u.last u.none shape in (
      a.0,
      subst (λ (t : ClientTold). ClientGoesTelling x [] octets [] t) a.1
          (subst (λ (heard : List ClientTold). ClientGoesTelling x [] octets heard u.last) first u.tells),
    )

-- that the channel is open is the next
none-between : (ack : Ack) (heard : List ClientTold) (last : ClientTold) → list_any is_opened heard ≡ false → IsGreeting (Agreed ack ∷ (heard ++ last ∷ []))
    → heard ≡ []
none-between ack [] last none h = refl
none-between ack (t ∷ ts) last none h = let e = sym (ap (λ (b : Bool). b || list_any is_opened ts) h.1) ∙ none in absurd cc

the-opening : (t : ClientTold) → is_opened t ≡ true → (channel : ℕ) × (token : ℕ) × (t ≡ Opened channel token)
the-opening (Agreed ack) h = absurd cc
the-opening (Opened channel token) h = (channel, token, refl)
the-opening (Answered id octets) h = absurd cc
the-opening (GaveUp id code) h = absurd cc
the-opening (Renewed token) h = absurd cc

opened-next : GoesOnBehind → (x : ClientChannel) (octets : List ℕ) (ack : Ack) → GoesUntil is_opened x [] octets (Agreed ack ∷ []) → IsOpened x octets
opened-next goes_on x octets ack u =
    let found = the-opening u.last u.is_wanted in
    let next : u.heard ≡ [] =
    none-between ack u.heard u.last u.none
    (shape-of x [] octets (Agreed ack ∷ (u.heard ++ u.last ∷ [])) (goes_on x [] octets (Agreed ack ∷ u.heard) u.last u.tells)) in
    record {
      ack = ack;
      channel = found.0;
      token = found.1;
      tells = subst (λ (t : ClientTold). ClientGoesTelling x [] octets (Agreed ack ∷ []) t) found.2
          (subst (λ (heard : List ClientTold). ClientGoesTelling x [] octets (Agreed ack ∷ heard) u.last) next u.tells);
    }

-- what is waited for is what would be told next, so where it was not told nothing was
told-none : {A : Type 0} (wanted : ClientTold → Bool) (P : A → Type 0) (told : List ClientTold)
    → ((heard : List ClientTold) → list_any wanted heard ≡ false → IsGreeting (told ++ heard) → heard ≡ [])
    → (x : ClientChannel) (asks : List Placed) (octets : List ℕ) (f : ClientFault) → WaitsAfter wanted P (Err f) x asks octets told
    → BreaksOff f x asks octets told
told-none wanted P told next x asks octets f h = by f h
  where
    no-more : (heard : List ClientTold) → list_any wanted heard ≡ false → IsGreeting (told ++ heard) → told ++ heard ≡ told
    no-more heard none shape = ap (λ (ts : List ClientTold). told ++ ts) (next heard none shape) ∙ append-nil told

    goes : GoesWithout wanted x asks octets told → ClientGoes x asks octets told
    goes k = subst (λ (all : List ClientTold). ClientGoes x asks octets all) (no-more k.heard k.none (shape-of x asks octets (told ++ k.heard) k.goes)) k.goes

    ends : (why : Why) → EndsWithout wanted x asks octets told why → ClientEnded x asks octets told why
    ends why k = subst (λ (all : List ClientTold). ClientEnded x asks octets all why)
        (no-more k.heard k.none (shape-ended x asks octets (told ++ k.heard) why k.ended)) k.ended

    starves : StarvesWithout wanted x asks octets told → Starved x asks octets told
    starves k = subst (λ (all : List ClientTold). Starved x asks octets all) (no-more k.heard k.none (shape-starved x asks octets (told ++ k.heard) k.starved))
        k.starved

    by : (y : ClientFault) → WaitsAfter wanted P (Err y) x asks octets told → BreaksOff y x asks octets told
    by fault.Read k = goes k
    by fault.Ended k = goes k
    by fault.TooLong k = goes k
    by (fault.Peer code) k = ends (peers code.code) k
    by (fault.Refused code) k = ends (ours code.code) k
    by fault.OutOfMemory k = starves k
    by fault.Write k = absurd k
    by fault.UnknownResponse k = absurd k
    by (fault.Service code) k = absurd k
    by fault.TooLarge k = absurd k
    by fault.NotWritable k = absurd k
    by fault.Exhausted k = absurd k
    by fault.TooManyTokens k = absurd k
    by fault.Closed k = absurd k

-- ---- the opening

-- no memory for the HEL
pub opens-nothing : {A : Type 0} (moment : DateTime) (x : Connection) (t : Option Traffic) → Opens {A = A} moment x x t t (Err fault.OutOfMemory)
opens-nothing moment x t = record {
  sent = [];
  moves = moves-writing x x [] t t refl (carried-nothing t);
  keeps = keeps-all x;
  answers = λ g. inl (refl, refl);
  stops = tt;
}

-- the HEL was not written whole
pub opens-unwritten : {A : Type 0} (moment : DateTime) (x : Connection) (hello : List ℕ) (before after : Option Traffic)
    → hello ≡ hello_octets (client_limits (channel_of_connection x)) (url_of (channel_of_connection x)) → 0 < length hello
    → IfTrafficKnown (WritesFront hello) before after
    → Opens {A = A} moment x x before after (Err fault.Write)
opens-unwritten moment x hello before after is some h =
    let front = sends-part hello before after some h in
    record {
      sent = front.0;
      moves = moves-writing x x front.0 before after refl front.2;
      keeps = keeps-all x;
      answers = λ g. inl (subst (IsPart front.0) is front.1, refl);
      stops = tt;
    }

abbrev pub sent-first : (x mid : Connection) (hello : List ℕ) (a b c : Option Traffic) → IfTrafficKnown (Carries [] hello) a b → MovesConnection x mid [] b c
    → MovesConnection x mid hello a c
sent-first x mid hello a b c w m =
    moves-from x x mid hello [] a b c c refl m
    (carried-as m.got (hello ++ []) m.got hello a c refl (append-nil hello) (carried-then [] hello m.got [] a b c w m.carried))

module _ (moment : DateTime) (x mid : Connection) (hello : List ℕ) (a b c : Option Traffic) (left : ℕ)
    (is : hello ≡ hello_octets (client_limits (channel_of_connection x)) (url_of (channel_of_connection x))) (w : IfTrafficKnown (Carries [] hello) a b) where
  -- no ACK came
  pub opens-unagreed : {A B : Type 0} (P : B → Type 0) (f : ClientFault) → Waits is_agreed P x mid b c most_reads left (Err f)
      → Opens {A = A} moment x mid a c (Err f)
  opens-unagreed {A} {B} P f h = record {
    sent = hello;
    moves = sent-first x mid hello a b c w h.moves;
    keeps = h.keeps;
    answers = λ g. by f (h.answers [] [] [] g);
    stops = stops f h.stops;
  }
    where
      by : (y : ClientFault) → WaitsAfter is_agreed P (Err y) (channel_of_connection mid) [] h.moves.taken []
          → BreaksOpening (hello_octets (client_limits (channel_of_connection x)) (url_of (channel_of_connection x))) (open_frame_octets moment)
          (channel_of_connection mid) hello h.moves.taken y
      by fault.Read k = inl (is, told-none is_agreed P [] none-agreed (channel_of_connection mid) [] h.moves.taken fault.Read k)
      by fault.Ended k = inl (is, told-none is_agreed P [] none-agreed (channel_of_connection mid) [] h.moves.taken fault.Ended k)
      by fault.TooLong k = inl (is, told-none is_agreed P [] none-agreed (channel_of_connection mid) [] h.moves.taken fault.TooLong k)
      by (fault.Peer code) k = inl (is, told-none is_agreed P [] none-agreed (channel_of_connection mid) [] h.moves.taken (fault.Peer code) k)
      by (fault.Refused code) k = inl (is, told-none is_agreed P [] none-agreed (channel_of_connection mid) [] h.moves.taken (fault.Refused code) k)
      by fault.OutOfMemory k = inr (inl (is, told-none is_agreed P [] none-agreed (channel_of_connection mid) [] h.moves.taken fault.OutOfMemory k))
      by fault.Write k = absurd k
      by fault.UnknownResponse k = absurd k
      by (fault.Service code) k = absurd k
      by fault.TooLarge k = absurd k
      by fault.NotWritable k = absurd k
      by fault.Exhausted k = absurd k
      by fault.TooManyTokens k = absurd k
      by fault.Closed k = absurd k

      stops : (y : ClientFault) → StopsByTraffic {A = B} most_reads left h.moves.got mid c (Err y)
          → StopsByTraffic {A = A} most_reads most_reads h.moves.got mid c (Err y)
      stops fault.TooLong k = k
      stops fault.Ended k = k
      stops fault.Read k = k
      stops fault.Write k = tt
      stops (fault.Peer code) k = tt
      stops (fault.Refused code) k = tt
      stops fault.UnknownResponse k = tt
      stops (fault.Service code) k = tt
      stops fault.TooLarge k = tt
      stops fault.NotWritable k = tt
      stops fault.Exhausted k = tt
      stops fault.TooManyTokens k = tt
      stops fault.Closed k = tt
      stops fault.OutOfMemory k = tt

  module _ {B : Type 0} (P : B → Type 0) (found : B) (h : Waits is_agreed P x mid b c most_reads left (Ok found)) (opening : List ℕ) (open_is : P found
      → opening ≡ open_frame_octets moment) where
    -- the ACK
    agreed-first : GoesOnBehind → ClientGoes (channel_of_connection x) [] [] []
        → (ack : Ack) × ClientGoesTelling (channel_of_connection mid) [] h.moves.taken [] (Agreed ack)
    agreed-first goes_on g = agreed-alone goes_on (channel_of_connection mid) h.moves.taken (h.answers [] [] [] g).0

    -- what it told
    agreed-told : GoesOnBehind → ClientGoes (channel_of_connection x) [] [] []
        → (ack : Ack) × ClientGoes (channel_of_connection mid) [] h.moves.taken (Agreed ack ∷ [])
    agreed-told goes_on g = let a = agreed-first goes_on g in (a.0, goes_on (channel_of_connection mid) [] h.moves.taken [] (Agreed a.0) a.1)

    opening-is : ClientGoes (channel_of_connection x) [] [] [] → opening ≡ open_frame_octets moment
    opening-is g = open_is (h.answers [] [] [] g).1

    both-sent : ClientGoes (channel_of_connection x) [] [] []
        → hello ++ opening ≡ hello_octets (client_limits (channel_of_connection x)) (url_of (channel_of_connection x))
        ++ open_frame_octets moment
    both-sent g = ap (λ (o : List ℕ). o ++ opening) is
        ∙ ap (λ (o : List ℕ). hello_octets (client_limits (channel_of_connection x)) (url_of (channel_of_connection x)) ++ o)
        (opening-is g)

    -- the OPN was not written whole
    pub opens-unasked : {A : Type 0} → GoesOnBehind → (d : Option Traffic) → 0 < length opening → IfTrafficKnown (WritesFront opening) c d
        → Opens {A = A} moment x mid a d (Err fault.Write)
    opens-unasked goes_on d some k =
        let front = sends-part opening c d some k in
        let m : MovesConnection x mid (hello ++ front.0) a d = moves-behind x mid mid hello front.0 a c d (sent-first x mid hello a b c w h.moves)
        (moves-writing mid mid front.0 c d refl front.2) in
        record {
          sent = hello ++ front.0;
          moves = m;
          keeps = h.keeps;
          answers = λ g.
              let t = agreed-first goes_on g in
              inr (
                front.0,
                ap (λ (o : List ℕ). o ++ front.0) is,
                subst (IsPart front.0) (opening-is g) front.1,
                (t.0, subst (λ (o : List ℕ). ClientGoesTelling (channel_of_connection mid) [] o [] (Agreed t.0)) (sym (append-nil h.moves.taken)) t.1),
              );
          stops = tt;
        }

    module _ (goes_on : GoesOnBehind) (d e : Option Traffic) (new : Connection) (less : ℕ) (v : IfTrafficKnown (Carries [] opening) c d) where
      abbrev both-moves : MovesConnection mid new [] d e → MovesConnection x new (hello ++ opening) a e
      both-moves m = moves-behind x mid new hello opening a c e (sent-first x mid hello a b c w h.moves) (sent-first mid new opening c d e v m)

      -- the channel is open
      opens-open : (done : Unit {0}) → Waits is_opened any_done mid new d e left less (Ok done) → Opens moment x new a e (Ok done)
      opens-open done k = record {
        sent = hello ++ opening;
        moves = both-moves k.moves;
        keeps = keeps-then x mid new h.keeps k.keeps;
        answers = λ g.
            let t = agreed-told goes_on g in (
              both-sent g,
              opened-next goes_on (channel_of_connection new) (h.moves.taken ++ k.moves.taken) t.0
                  (k.answers [] h.moves.taken (Agreed t.0 ∷ []) t.1).0,
            );
        stops = omega arith;
      }

      -- the channel did not open
      opens-unopened : (f : ClientFault) → Waits is_opened any_done mid new d e left less (Err f) → Opens {A = Unit {0}} moment x new a e (Err f)
      opens-unopened f k = record {
        sent = hello ++ opening;
        moves = both-moves k.moves;
        keeps = keeps-then x mid new h.keeps k.keeps;
        answers = λ g. let t = agreed-told goes_on g in by f g t.0 (k.answers [] h.moves.taken (Agreed t.0 ∷ []) t.1);
        stops = stops f k.stops;
      }
        where
          by : (y : ClientFault) → ClientGoes (channel_of_connection x) [] [] [] → (ack : Ack)
              → WaitsAfter is_opened any_done (Err y) (channel_of_connection new) [] (h.moves.taken ++ k.moves.taken) (Agreed ack ∷ [])
              → BreaksOpening (hello_octets (client_limits (channel_of_connection x)) (url_of (channel_of_connection x))) (open_frame_octets moment)
              (channel_of_connection new) (hello ++ opening)
              (h.moves.taken ++ k.moves.taken) y
          by fault.Read g ack i =
              inr (
                both-sent g,
                (
                  ack,
                  told-none is_opened any_done (Agreed ack ∷ []) (none-opened ack) (channel_of_connection new) [] (h.moves.taken ++ k.moves.taken)
                      fault.Read i,
                ),
              )
          by fault.Ended g ack i =
              inr (
                both-sent g,
                (
                  ack,
                  told-none is_opened any_done (Agreed ack ∷ []) (none-opened ack) (channel_of_connection new) [] (h.moves.taken ++ k.moves.taken)
                      fault.Ended i,
                ),
              )
          by fault.TooLong g ack i =
              inr (
                both-sent g,
                (
                  ack,
                  told-none is_opened any_done (Agreed ack ∷ []) (none-opened ack) (channel_of_connection new) [] (h.moves.taken ++ k.moves.taken)
                      fault.TooLong i,
                ),
              )
          by (fault.Peer code) g ack i =
              inr (
                both-sent g,
                (
                  ack,
                  told-none is_opened any_done (Agreed ack ∷ []) (none-opened ack) (channel_of_connection new) [] (h.moves.taken ++ k.moves.taken)
                      (fault.Peer code) i,
                ),
              )
          by (fault.Refused code) g ack i =
              inr (
                both-sent g,
                (
                  ack,
                  told-none is_opened any_done (Agreed ack ∷ []) (none-opened ack) (channel_of_connection new) [] (h.moves.taken ++ k.moves.taken)
                      (fault.Refused code) i,
                ),
              )
          by fault.OutOfMemory g ack i =
              inr (inr (
                both-sent g,
                (
                  ack,
                  told-none is_opened any_done (Agreed ack ∷ []) (none-opened ack) (channel_of_connection new) [] (h.moves.taken ++ k.moves.taken)
                      fault.OutOfMemory
                      i,
                ),
              ))
          by fault.Write g ack i = absurd i
          by fault.UnknownResponse g ack i = absurd i
          by (fault.Service code) g ack i = absurd i
          by fault.TooLarge g ack i = absurd i
          by fault.NotWritable g ack i = absurd i
          by fault.Exhausted g ack i = absurd i
          by fault.TooManyTokens g ack i = absurd i
          by fault.Closed g ack i = absurd i

          stops : (y : ClientFault) → StopsByTraffic {A = Unit {0}} left less k.moves.got new e (Err y)
              → StopsByTraffic {A = Unit {0}} most_reads most_reads (h.moves.got ++ k.moves.got) new e (Err y)
          stops fault.TooLong i = (i.0, let l = length-append h.moves.got k.moves.got in let s = h.stops in let few = i.1 in omega (arith, l, s, few))
          stops fault.Ended i = i
          stops fault.Read i = i
          stops fault.Write i = tt
          stops (fault.Peer code) i = tt
          stops (fault.Refused code) i = tt
          stops fault.UnknownResponse i = tt
          stops (fault.Service code) i = tt
          stops fault.TooLarge i = tt
          stops fault.NotWritable i = tt
          stops fault.Exhausted i = tt
          stops fault.TooManyTokens i = tt
          stops fault.Closed i = tt
          stops fault.OutOfMemory i = tt

      pub opens-last : (r : Result (Unit {0}) ClientFault) → Waits is_opened any_done mid new d e left less r → Opens moment x new a e r
      opens-last (Ok done) k = opens-open done k
      opens-last (Err f) k = opens-unopened f k

-- ---- a client

-- a channel of which nothing was sent and nothing came
pub fresh-goes : (x : ClientChannel) → ClientStands x [] [] [] [] → ClientGoes x [] [] []
unfolding each_after
fresh-goes x s = record { frames = []; rest = []; stands = s; told_is = refl }

pub opens-as : {A B : Type 0} (moment : DateTime) (old new : Connection) (before after : Option Traffic) (done : A) (found : B)
    → Opens moment old new before after (Ok done) → Opens moment old new before after (Ok found)
opens-as moment old new before after done found h = record { sent = h.sent; moves = h.moves; keeps = h.keeps; answers = h.answers; stops = h.stops }

pub breaks-as : {A B : Type 0} (moment : DateTime) (old new : Connection) (before after : Option Traffic) (f : ClientFault)
    → Opens {A = A} moment old new before after (Err f) → Opens {A = B} moment old new before after (Err f)
breaks-as {A} {B} moment old new before after f h = record { sent = h.sent; moves = h.moves; keeps = h.keeps; answers = h.answers; stops = stops f h.stops }
  where
    stops : (y : ClientFault) → StopsByTraffic {A = A} most_reads most_reads h.moves.got new after (Err y)
        → StopsByTraffic {A = B} most_reads most_reads h.moves.got new after (Err y)
    stops fault.TooLong i = i
    stops fault.Ended i = i
    stops fault.Read i = i
    stops fault.Write i = i
    stops (fault.Peer code) i = i
    stops (fault.Refused code) i = i
    stops fault.UnknownResponse i = i
    stops (fault.Service code) i = i
    stops fault.TooLarge i = i
    stops fault.NotWritable i = i
    stops fault.Exhausted i = i
    stops fault.TooManyTokens i = i
    stops fault.Closed i = i
    stops fault.OutOfMemory i = i

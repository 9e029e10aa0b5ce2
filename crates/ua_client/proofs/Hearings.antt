-- What is heard, one read and one call of the channel behind another.
use Rattle.std.specs.Prelude.{◌≡◌, ◌⊎◌, ℕ, ◌+◌, ◌-◌, ◌*◌, ◌≤◌, ◌<◌, Bool, true, false, List, []}
use Rattle.std.specs.Prelude.{◌∷◌, ◌++◌, length, take, drop, Option, Some, None, Result, Ok, Err}
use Rattle.std.proofs.Common.{refl, sym, ◌∙◌, ap, subst, inl, inr, append_assoc, append-nil, arith}
use Rattle.std.proofs.lemmas.List.{length-append, length-drop, take-append-drop}
use Rattle.std.specs.List.{concat}
use Rattle.ua_wire.specs.Format.{Extends}
use Rattle.ua_builtin.specs.declared.date_time.DateTime.{DateTime}
use Rattle.ua_builtin.specs.declared.status_code.StatusCode.{StatusCode}
use Rattle.ua_frame.specs.Run.{Run, Going, events}
use Rattle.ua_frame.specs.declared.limits.Limits.{Limits}
use Rattle.ua_channel.specs.Asks.{Placed}
use Rattle.ua_channel.specs.Client.{ClientGoes, ClientGoesTelling, ClientEnded, IsClientDone, SameClient, client_limits, url_of, client_next}
use Rattle.ua_channel.specs.ClientAnswers.{ClientAnswers, ClientProgress}
use Rattle.ua_channel.specs.ClientTable.{client_rules}
use Rattle.ua_channel.specs.ClientTold.{ClientTold}
use Rattle.ua_channel.specs.ClientTold.ClientTold.{Agreed, Opened, Answered, GaveUp, Renewed}
use Rattle.ua_channel.specs.Line.{Traffic, IfTrafficKnown}
use Rattle.ua_channel.specs.declared.client.channel.ClientChannel.{ClientChannel}
use Rattle.ua_channel.specs.declared.client.event.ClientEvent.{ClientEvent}
use Rattle.ua_channel.specs.declared.client.event.ClientEvent.TheVariants as event
use Rattle.ua_channel.specs.declared.client.fault.ClientTakeFault.{ClientTakeFault}
use Rattle.ua_channel.specs.declared.client.fault.ClientTakeFault.TheVariants as take_fault
use Rattle.ua_client.specs.Carried.{Carries}
use Rattle.ua_client.specs.Hearing.{channel_of_connection, untaken_of, most_fragment_octets, failure_of}
use Rattle.ua_client.specs.Hearing.{effort, KeepsClient, TellsEvent, MovesConnection, Starved, Listens}
use Rattle.ua_client.specs.Hearing.{ListensAfter, is_channel_fault, of_take_fault, failures_behind, Fills}
use Rattle.ua_client.specs.Hearing.{FillsByTraffic, Hears, HearsAfter, is_hearing_fault, StopsByTraffic}
use Rattle.ua_client.specs.declared.connection.Connection.{Connection}
use Rattle.ua_client.specs.declared.fault.ClientFault.{ClientFault}
use Rattle.ua_client.specs.declared.fault.ClientFault.TheVariants as fault
use Rattle.ua_client.proofs.Carrying.{carried-nothing, carried-then}

-- ---- one call of the channel

told-at : (moment : DateTime) (piece : List ℕ) (n : ℕ) (e : ClientEvent) (new : ClientChannel) (asks : List Placed) (octets : List ℕ) (told : List ClientTold)
    → (e ≡ event.NeedMore → ⊥) → ((code : StatusCode) (peer : Bool) → e ≡ event.Failed code peer → ⊥)
    → ClientAnswers moment piece (Ok (n, e)) new asks octets told → TellsEvent moment e new asks (octets ++ take n piece) told
told-at moment piece n event.NeedMore new asks octets told not good h = absurd (not refl)
told-at moment piece n (event.Send sent) new asks octets told not good h = (Agreed h.ack, (h.sent_is, (h.ack, refl)), h.goes)
told-at moment piece n event.Open new asks octets told not good h = (Opened h.channel h.token, (h.channel, (h.token, refl)), h.goes)
told-at moment piece n (event.Answered id message) new asks octets told not good h = (Answered id (concat message), refl, h.0)
told-at moment piece n (event.Aborted id code) new asks octets told not good h = (GaveUp id code, refl, h)
told-at moment piece n (event.Failed code peer) new asks octets told not good h = absurd (good code peer refl)
told-at moment piece n (event.Renewed token) new asks octets told not good h = (Renewed token, refl, h)

-- a channel took this of what was untaken
abbrev pub Took : Connection → DateTime → ClientChannel → Result (ℕ × ClientEvent) ClientTakeFault → Type 0
Took old moment new found = (asks : List Placed) (octets : List ℕ) (told : List ClientTold) → ClientGoes (channel_of_connection old) asks octets told
    → ClientAnswers moment (untaken_of old) found new asks octets told

-- the same by what was given to the channel, and by its event
pub took-as : (old : Connection) (moment : DateTime) (new : ClientChannel) (piece : List ℕ) (found : Result (ℕ × ClientEvent) ClientTakeFault)
    → piece ≡ untaken_of old
    → ((asks : List Placed) (octets : List ℕ) (told : List ClientTold) → ClientGoes (channel_of_connection old) asks octets told
    → ClientAnswers moment piece found new asks octets told) → Took old moment new found
took-as old moment new piece found e h = λ asks octets told g. subst (λ (p : List ℕ). ClientAnswers moment p found new asks octets told) e
    (h asks octets told g)

pub took-event : (old : Connection) (moment : DateTime) (new : ClientChannel) (n : ℕ) (e f : ClientEvent) → e ≡ f → Took old moment new (Ok (n, e))
    → Took old moment new (Ok (n, f))
took-event old moment new n e f same h = λ asks octets told g.
    subst (λ (x : ClientEvent). ClientAnswers moment (untaken_of old) (Ok (n, x)) new asks octets told) same (h asks octets told g)

pub listens-none : (old new : Connection) (moment : DateTime) (n : ℕ) → KeepsClient old new → untaken_of new ≡ []
    → Took old moment (channel_of_connection new) (Ok (n, event.NeedMore)) → Listens old new moment (Ok None)
listens-none old new moment n keeps none h = record {
  keeps = keeps;
  taken = untaken_of old;
  parts = sym (ap (λ (t : List ℕ). untaken_of old ++ t) none ∙ append-nil (untaken_of old));
  left = none;
  faults = tt;
  answers = λ asks octets told g. (h asks octets told g).1;
}

less-left : (n l : ℕ) → n ≤ l → (0 < l → 0 < n) → 0 < l → l - n < l
less-left n l few some more = let k = some more in omega (arith, few, k, more)

pub listens-some : (old new : Connection) (moment : DateTime) (n : ℕ) (e : ClientEvent) → KeepsClient old new → (e ≡ event.NeedMore → ⊥)
    → ((code : StatusCode) (peer : Bool) → e ≡ event.Failed code peer → ⊥) → ClientProgress {A = ClientEvent} (untaken_of old) (Ok (n, e))
    → untaken_of new ≡ drop n (untaken_of old)
    → Took old moment (channel_of_connection new) (Ok (n, e)) → Listens old new moment (Ok (Some e))
listens-some old new moment n e keeps not good few rest h = record {
  keeps = keeps;
  taken = take n (untaken_of old);
  parts = sym (ap (λ (t : List ℕ). take n (untaken_of old) ++ t) rest ∙ take-append-drop n (untaken_of old));
  left = λ some. subst (λ (k : ℕ). k < length (untaken_of old)) (sym (ap length rest ∙ length-drop n (untaken_of old)))
      (less-left n (length (untaken_of old)) few.0 few.1 some);
  faults = tt;
  answers = λ asks octets told g. told-at moment (untaken_of old) n e (channel_of_connection new) asks octets told not good (h asks octets told g);
}

failed-at : (moment : DateTime) (code : StatusCode) (peer : Bool) (new : ClientChannel) (asks : List Placed) (octets : List ℕ) (told : List ClientTold)
    → ClientEnded new asks octets told (record { code = code.code; peer = peer }) → ListensAfter moment (Err (failure_of code peer)) new asks octets told
failed-at moment code true new asks octets told h = h
failed-at moment code false new asks octets told h = h

failure-faults : (code : StatusCode) (peer : Bool) → is_channel_fault (failure_of code peer) ≡ true
failure-faults code true = refl
failure-faults code false = refl

pub listens-failed : (old new : Connection) (moment : DateTime) (n : ℕ) (code : StatusCode) (peer : Bool) → KeepsClient old new
    → untaken_of new ≡ drop n (untaken_of old)
    → Took old moment (channel_of_connection new) (Ok (n, event.Failed code peer)) → Listens old new moment (Err (failure_of code peer))
listens-failed old new moment n code peer keeps rest h = record {
  keeps = keeps;
  taken = take n (untaken_of old);
  parts = sym (ap (λ (t : List ℕ). take n (untaken_of old) ++ t) rest ∙ take-append-drop n (untaken_of old));
  left = tt;
  faults = failure-faults code peer;
  answers = λ asks octets told g. failed-at moment code peer (channel_of_connection new) asks (octets ++ take n (untaken_of old)) told (h asks octets told g);
}

-- memory was refused where a channel went on
starves : (x y : ClientChannel) (asks : List Placed) (octets : List ℕ) (told : List ClientTold) → SameClient x y → ClientGoes x asks octets told
    → IsClientDone y → Starved y asks (octets ++ []) told
starves x y asks octets told same g done = record {
  done = done;
  frames = g.frames;
  rest = g.rest;
  run = subst (λ (o : List ℕ). Run (client_rules (client_limits y) asks) o g.frames g.rest Going) (sym (append-nil octets))
      (subst (λ (l : Limits). Run (client_rules l asks) octets g.frames g.rest Going) same.limits g.stands.run);
  told_is = subst (λ (l : Limits). events (client_rules l asks) g.frames ≡ told) same.limits g.told_is;
}

fault-at : (f : ClientTakeFault) (old new : Connection) (moment : DateTime) (asks : List Placed) (octets : List ℕ) (told : List ClientTold)
    → KeepsClient old new
    → ClientGoes (channel_of_connection old) asks octets told
    → ClientAnswers moment (untaken_of old) (Err f) (channel_of_connection new) asks octets told
    → ListensAfter moment (Err (of_take_fault f)) (channel_of_connection new) asks (octets ++ []) told
fault-at take_fault.Closed old new moment asks octets told keeps g h = h
fault-at take_fault.OutOfMemory old new moment asks octets told keeps g h = starves (channel_of_connection old) (channel_of_connection new) asks octets told
    keeps.same g h.2.done

of-channel : (f : ClientTakeFault) → is_channel_fault (of_take_fault f) ≡ true
of-channel take_fault.Closed = refl
of-channel take_fault.OutOfMemory = refl

pub listens-fault : (old new : Connection) (moment : DateTime) (f : ClientTakeFault) → KeepsClient old new → untaken_of new ≡ untaken_of old
    → Took old moment (channel_of_connection new) (Err f) → Listens old new moment (Err (of_take_fault f))
listens-fault old new moment f keeps same h = record {
  taken = [];
  parts = sym same;
  keeps = keeps;
  left = tt;
  faults = of-channel f;
  answers = λ asks octets told g. fault-at f old new moment asks octets told keeps g (h asks octets told g);
}

-- ---- one move behind another

pub parts-behind : (u got taken v more part w : List ℕ) → u ++ got ≡ taken ++ v → v ++ more ≡ part ++ w → u ++ (got ++ more) ≡ (taken ++ part) ++ w
parts-behind u got taken v more part w h k =
    sym (append_assoc u got more)
    ∙ (ap (λ (t : List ℕ). t ++ more) h
    ∙ (append_assoc taken v more
    ∙ (ap (λ (t : List ℕ). taken ++ t) k
    ∙ sym (append_assoc taken part w))))

pub first-behind : (u got taken v more part : List ℕ) → u ++ got ≡ taken ++ v → (got ≡ []) ⊎ Extends u taken → (more ≡ []) ⊎ Extends v part
    → (got ++ more ≡ []) ⊎ Extends u (taken ++ part)
first-behind u got taken v more part h (inr e) k =
    inr (record { more = e.more ++ part; parts = ap (λ (t : List ℕ). t ++ part) e.parts ∙ append_assoc u e.more part })
first-behind u got taken v more part h (inl e) (inl f) = inl (ap (λ (t : List ℕ). t ++ more) e ∙ f)
first-behind u got taken v more part h (inl e) (inr f) = inr (record {
  more = f.more;
  parts = ap (λ (t : List ℕ). taken ++ t) f.parts
      ∙ (sym (append_assoc taken v f.more)
      ∙ (ap (λ (t : List ℕ). t ++ f.more) (sym h)
      ∙ ap (λ (t : List ℕ). t ++ f.more) (ap (λ (g : List ℕ). u ++ g) e ∙ append-nil u)));
})

abbrev pub moves-behind : (a b c : Connection) (sent out : List ℕ) (before at then : Option Traffic) → MovesConnection a b sent before at
    → MovesConnection b c out at then → MovesConnection a c (sent ++ out) before then
moves-behind a b c sent out before at then m n = record {
  got = m.got ++ n.got;
  taken = m.taken ++ n.taken;
  parts = parts-behind (untaken_of a) m.got m.taken (untaken_of b) n.got n.taken (untaken_of c) m.parts n.parts;
  first = first-behind (untaken_of a) m.got m.taken (untaken_of b) n.got n.taken m.parts m.first n.first;
  few = λ h. n.few (m.few h);
  carried = carried-then m.got sent n.got out before at then m.carried n.carried;
}

-- nothing was read and taken
abbrev pub moves-writing : (x y : Connection) (sent : List ℕ) (a b : Option Traffic) → untaken_of y ≡ untaken_of x → IfTrafficKnown (Carries [] sent) a b
    → MovesConnection x y sent a b
moves-writing x y sent a b same carried = record {
  got = [];
  taken = [];
  parts = append-nil (untaken_of x) ∙ sym same;
  first = inl refl;
  few = λ h. subst (λ (o : List ℕ). length o ≤ most_fragment_octets) (sym same) h;
  carried = carried;
}

-- the same octets were untaken before, and more was written
abbrev pub moves-from : (x mid new : Connection) (sent out : List ℕ) (a b c d : Option Traffic) → untaken_of mid ≡ untaken_of x
    → (m : MovesConnection mid new out b c) → IfTrafficKnown (Carries m.got sent) a d → MovesConnection x new sent a d
moves-from x mid new sent out a b c d same m carried = record {
  got = m.got;
  taken = m.taken;
  parts = ap (λ (o : List ℕ). o ++ m.got) (sym same) ∙ m.parts;
  first = subst (λ (o : List ℕ). (m.got ≡ []) ⊎ Extends o m.taken) same m.first;
  few = λ h. m.few (subst (λ (o : List ℕ). length o ≤ most_fragment_octets) (sym same) h);
  carried = carried;
}

-- where all was taken, what is taken of a read is the first
first-read : (u got part : List ℕ) → (got ≡ []) ⊎ (u ≡ []) → (got ≡ []) ⊎ Extends u part
first-read u got part (inl e) = inl e
first-read u got part (inr e) = inr (record { more = part; parts = ap (λ (o : List ℕ). o ++ part) (sym e) })

fewer-left : (part rest all : List ℕ) → all ≡ part ++ rest → length all ≤ most_fragment_octets → length rest ≤ most_fragment_octets
fewer-left part rest all e few = let l = ap length e ∙ length-append part rest in omega (arith, l, few)

-- a read, and what the channel took of it
abbrev moves-reading : {A : Type 0} (now mid new : Connection) (at then : Option Traffic) (left less : ℕ) (result : Result A ClientFault) (part : List ℕ)
    → Fills now mid at then left less result → untaken_of mid ≡ part ++ untaken_of new → MovesConnection now new [] at then
moves-reading now mid new at then left less result part f l = record {
  got = f.got;
  taken = part;
  parts = sym f.untaken ∙ l;
  first = first-read (untaken_of now) f.got part f.next;
  few = λ h. fewer-left part (untaken_of new) (untaken_of mid) l (f.few h);
  carried = f.carried;
}

-- ---- up to an event

pub keeps-all : (x : Connection) → KeepsClient x x
keeps-all x = record { same = record { limits = refl; url = refl }; next = refl }

pub keeps-then : (a b c : Connection) → KeepsClient a b → KeepsClient b c → KeepsClient a c
keeps-then a b c h k = record { same = record { limits = h.same.limits ∙ k.same.limits; url = h.same.url ∙ k.same.url }; next = k.next ∙ h.next }

-- a read does not touch the channel
keeps-channel : (a b : Connection) → channel_of_connection b ≡ channel_of_connection a → KeepsClient a b
keeps-channel a b e = record { same = record { limits = ap client_limits (sym e); url = ap url_of (sym e) }; next = ap client_next e }

-- so far nothing was told
pub record Quiet (old now : Connection) (before at : Option Traffic) (reads left : ℕ) : Type 0 where
  pub moves : MovesConnection old now [] before at
  pub keeps : KeepsClient old now
  pub goes : (asks : List Placed) (octets : List ℕ) (told : List ClientTold) → ClientGoes (channel_of_connection old) asks octets told
      → ClientGoes (channel_of_connection now) asks (octets ++ moves.taken) told
  pub no_more : effort left now ≤ effort reads old
  pub spent : reads ≤ left + length moves.got

pub quiet-nothing : (x : Connection) (t : Option Traffic) (reads : ℕ) → Quiet x x t t reads reads
quiet-nothing x t reads = record {
  moves = moves-writing x x [] t t refl (carried-nothing t);
  keeps = keeps-all x;
  goes = λ asks octets told g. subst (λ (o : List ℕ). ClientGoes (channel_of_connection x) asks o told) (sym (append-nil octets)) g;
  no_more = omega arith;
  spent = omega arith;
}

pub less-effort : (left reads more : ℕ) (v w : List ℕ) → 4097 * left + length w ≤ 4097 * reads + length v → 0 < length w → more ≡ 0
    → 4097 * left + more < 4097 * reads + length v
less-effort left reads more v w h some none = omega (arith, h, some, none)

module _ (old now mid : Connection) (before at then : Option Traffic) (reads left less : ℕ) (q : Quiet old now before at reads left) where
  -- a read, and what the channel took of it
  abbrev moves-then : {A : Type 0} (result : Result A ClientFault) (new : Connection) (part : List ℕ) → Fills now mid at then left less result
      → untaken_of mid ≡ part ++ untaken_of new → MovesConnection old new [] before then
  moves-then result new part f l = moves-behind old now new [] [] before at then q.moves (moves-reading now mid new at then left less result part f l)

  goes-then : {A : Type 0} (result : Result A ClientFault) → Fills now mid at then left less result
      → (asks : List Placed) (octets : List ℕ) (told : List ClientTold) → ClientGoes (channel_of_connection old) asks octets told
      → ClientGoes (channel_of_connection mid) asks (octets ++ q.moves.taken) told
  goes-then result f asks octets told g = subst (λ (c : ClientChannel). ClientGoes c asks (octets ++ q.moves.taken) told) (sym f.channel)
      (q.goes asks octets told g)

  keeps-here : {A : Type 0} (result : Result A ClientFault) → Fills now mid at then left less result → (new : Connection) → KeepsClient mid new
      → KeepsClient old new
  keeps-here result f new k = keeps-then old mid new (keeps-then old now mid q.keeps (keeps-channel now mid f.channel)) k

  spent-then : (more : List ℕ) → left ≤ less + length more → reads ≤ less + length (q.moves.got ++ more)
  spent-then more h = let l = length-append q.moves.got more in let s = q.spent in omega (arith, l, s, h)

  module _ {A : Type 0} (done : A) (f : Fills now mid at then left less (Ok done)) (new : Connection) (moment : DateTime) where
    listened : (result : Result (Option ClientEvent) ClientFault) (l : Listens mid new moment result) (asks : List Placed) (octets : List ℕ)
        (told : List ClientTold) → ClientGoes (channel_of_connection old) asks octets told
        → ListensAfter moment result (channel_of_connection new) asks (octets ++ (q.moves.taken ++ l.taken)) told
    listened result l asks octets told g =
        subst (λ (o : List ℕ). ListensAfter moment result (channel_of_connection new) asks o told) (append_assoc octets q.moves.taken l.taken)
        (l.answers asks (octets ++ q.moves.taken) told (goes-then (Ok done) f asks octets told g))

    pub quiet-then : Listens mid new moment (Ok None) → Quiet old new before then reads less
    quiet-then l =
        let none : length (untaken_of new) ≡ 0 = ap length l.left in
        let fewer = f.no_more in
        let few = q.no_more in
        record {
          moves = moves-then (Ok done) new l.taken f l.parts;
          keeps = keeps-here (Ok done) f new l.keeps;
          goes = listened (Ok None) l;
          no_more = omega (arith, none, fewer, few);
          spent = spent-then f.got f.found.1;
        }

    pub quiet-less : Listens mid new moment (Ok None) → effort less new < effort left now
    quiet-less l = less-effort less left (length (untaken_of new)) (untaken_of now) (untaken_of mid) f.no_more f.found.0 (ap length l.left)

    pub hears-event : (e : ClientEvent) → Listens mid new moment (Ok (Some e)) → Hears old new moment before then reads less (Ok e)
    hears-event e l =
        let smaller = l.left f.found.0 in
        let fewer = f.no_more in
        let few = q.no_more in
        record {
          moves = moves-then (Ok done) new l.taken f l.parts;
          keeps = keeps-here (Ok done) f new l.keeps;
          answers = listened (Ok (Some e)) l;
          less = omega (arith, smaller, fewer, few);
          faults = tt;
          stops = spent-then f.got f.found.1;
        }

    listen-fault : (x : ClientFault) (asks : List Placed) (octets : List ℕ) (told : List ClientTold)
        → ListensAfter moment (Err x) (channel_of_connection new) asks octets told → HearsAfter moment (Err x) (channel_of_connection new) asks octets told
    listen-fault (fault.Peer code) asks octets told h = h
    listen-fault (fault.Refused code) asks octets told h = h
    listen-fault fault.OutOfMemory asks octets told h = h
    listen-fault fault.Read asks octets told h = absurd h
    listen-fault fault.Write asks octets told h = absurd h
    listen-fault fault.Ended asks octets told h = absurd h
    listen-fault fault.UnknownResponse asks octets told h = absurd h
    listen-fault (fault.Service code) asks octets told h = absurd h
    listen-fault fault.TooLarge asks octets told h = absurd h
    listen-fault fault.NotWritable asks octets told h = absurd h
    listen-fault fault.Exhausted asks octets told h = absurd h
    listen-fault fault.TooManyTokens asks octets told h = absurd h
    listen-fault fault.Closed asks octets told h = absurd h
    listen-fault fault.TooLong asks octets told h = absurd h

    channel-stops : (x : ClientFault) (got : List ℕ) → is_channel_fault x ≡ true → StopsByTraffic {A = ClientEvent} reads less got new then (Err x)
    channel-stops (fault.Peer code) got h = tt
    channel-stops (fault.Refused code) got h = tt
    channel-stops fault.OutOfMemory got h = tt
    channel-stops fault.Closed got h = tt
    channel-stops fault.Read got h = absurd cc
    channel-stops fault.Write got h = tt
    channel-stops fault.Ended got h = absurd cc
    channel-stops fault.UnknownResponse got h = tt
    channel-stops (fault.Service code) got h = tt
    channel-stops fault.TooLarge got h = tt
    channel-stops fault.NotWritable got h = tt
    channel-stops fault.Exhausted got h = tt
    channel-stops fault.TooManyTokens got h = tt
    channel-stops fault.TooLong got h = absurd cc

    channel-heard : (x : ClientFault) → is_channel_fault x ≡ true → is_hearing_fault x ≡ true
    channel-heard (fault.Peer code) h = refl
    channel-heard (fault.Refused code) h = refl
    channel-heard fault.OutOfMemory h = refl
    channel-heard fault.Closed h = refl
    channel-heard fault.Read h = refl
    channel-heard fault.Write h = absurd cc
    channel-heard fault.Ended h = refl
    channel-heard fault.UnknownResponse h = absurd cc
    channel-heard (fault.Service code) h = absurd cc
    channel-heard fault.TooLarge h = absurd cc
    channel-heard fault.NotWritable h = absurd cc
    channel-heard fault.Exhausted h = absurd cc
    channel-heard fault.TooManyTokens h = absurd cc
    channel-heard fault.TooLong h = refl

    pub hears-failure : (x : ClientFault) → Listens mid new moment (Err x) → Hears old new moment before then reads less (Err x)
    hears-failure x l = record {
      moves = moves-then (Ok done) new l.taken f l.parts;
      keeps = keeps-here (Ok done) f new l.keeps;
      answers = λ asks octets told g. listen-fault x asks (octets ++ (q.moves.taken ++ l.taken)) told (listened (Err x) l asks octets told g);
      less = tt;
      faults = channel-heard x l.faults;
      stops = channel-stops x (q.moves.got ++ f.got) l.faults;
    }

  moment-free : (moment : DateTime) (x : ClientFault) (got : List ℕ) → FillsByTraffic {A = Unit {0}} left less got mid then (Err x)
      → (asks : List Placed) (octets : List ℕ) (told : List ClientTold) → ClientGoes (channel_of_connection mid) asks octets told
      → HearsAfter moment (Err x) (channel_of_connection mid) asks octets told
  moment-free moment fault.TooLong got h asks octets told g = g
  moment-free moment fault.Ended got h asks octets told g = g
  moment-free moment fault.Read got h asks octets told g = g
  moment-free moment fault.Write got h asks octets told g = absurd h
  moment-free moment (fault.Peer code) got h asks octets told g = absurd h
  moment-free moment (fault.Refused code) got h asks octets told g = absurd h
  moment-free moment fault.UnknownResponse got h asks octets told g = absurd h
  moment-free moment (fault.Service code) got h asks octets told g = absurd h
  moment-free moment fault.TooLarge got h asks octets told g = absurd h
  moment-free moment fault.NotWritable got h asks octets told g = absurd h
  moment-free moment fault.Exhausted got h asks octets told g = absurd h
  moment-free moment fault.TooManyTokens got h asks octets told g = absurd h
  moment-free moment fault.Closed got h asks octets told g = absurd h
  moment-free moment fault.OutOfMemory got h asks octets told g = absurd h

  read-stops : (x : ClientFault) (got : List ℕ) → FillsByTraffic {A = Unit {0}} left less got mid then (Err x)
      → StopsByTraffic {A = ClientEvent} reads less (q.moves.got ++ got) mid then (Err x)
  read-stops fault.TooLong got h = (h.0, let l = length-append q.moves.got got in let s = q.spent in let few = h.1 in omega (arith, l, s, few))
  read-stops fault.Ended got h = h
  read-stops fault.Read got h = h
  read-stops fault.Write got h = absurd h
  read-stops (fault.Peer code) got h = absurd h
  read-stops (fault.Refused code) got h = absurd h
  read-stops fault.UnknownResponse got h = absurd h
  read-stops (fault.Service code) got h = absurd h
  read-stops fault.TooLarge got h = absurd h
  read-stops fault.NotWritable got h = absurd h
  read-stops fault.Exhausted got h = absurd h
  read-stops fault.TooManyTokens got h = absurd h
  read-stops fault.Closed got h = absurd h
  read-stops fault.OutOfMemory got h = absurd h

  read-heard : (x : ClientFault) (got : List ℕ) → FillsByTraffic {A = Unit {0}} left less got mid then (Err x) → is_hearing_fault x ≡ true
  read-heard (fault.Peer code) got h = refl
  read-heard (fault.Refused code) got h = refl
  read-heard fault.OutOfMemory got h = refl
  read-heard fault.Closed got h = refl
  read-heard fault.Read got h = refl
  read-heard fault.Write got h = absurd h
  read-heard fault.Ended got h = refl
  read-heard fault.UnknownResponse got h = absurd h
  read-heard (fault.Service code) got h = absurd h
  read-heard fault.TooLarge got h = absurd h
  read-heard fault.NotWritable got h = absurd h
  read-heard fault.Exhausted got h = absurd h
  read-heard fault.TooManyTokens got h = absurd h
  read-heard fault.TooLong got h = refl

  pub hears-read : (moment : DateTime) (x : ClientFault) → Fills {A = Unit {0}} now mid at then left less (Err x)
      → Hears old mid moment before then reads less (Err x)
  hears-read moment x f = record {
    moves = moves-then (Err x) mid [] f refl;
    keeps = keeps-here (Err x) f mid (keeps-all mid);
    answers = λ asks octets told g. moment-free moment x f.got f.found asks (octets ++ (q.moves.taken ++ [])) told
        (subst (λ (t : List ℕ). ClientGoes (channel_of_connection mid) asks (octets ++ t) told) (sym (append-nil q.moves.taken))
        (goes-then (Err x) f asks octets told g));
    less = tt;
    faults = read-heard x f.got f.found;
    stops = read-stops x f.got f.found;
  }

-- ---- laws

-- behind a frame that tells something a channel goes on
abbrev pub GoesOnBehind : Type 0
GoesOnBehind = (x : ClientChannel) (asks : List Placed) (octets : List ℕ) (told : List ClientTold) (e : ClientTold) → ClientGoesTelling x asks octets told e
    → ClientGoes x asks octets (told ++ e ∷ [])

-- a fault of the channel is none of the line
pub channel-failures : (A : Type 0) (x : ClientFault) → is_channel_fault x ≡ true → (n : ℕ) → failures_behind {A = A} n (Err x) ≡ n
channel-failures A (fault.Peer code) h n = refl
channel-failures A (fault.Refused code) h n = refl
channel-failures A fault.OutOfMemory h n = refl
channel-failures A fault.Closed h n = refl
channel-failures A fault.Read h n = absurd cc
channel-failures A fault.Write h n = absurd cc
channel-failures A fault.Ended h n = refl
channel-failures A fault.UnknownResponse h n = refl
channel-failures A (fault.Service code) h n = refl
channel-failures A fault.TooLarge h n = refl
channel-failures A fault.NotWritable h n = refl
channel-failures A fault.Exhausted h n = refl
channel-failures A fault.TooManyTokens h n = refl
channel-failures A fault.TooLong h n = refl

pub none-of : {A : Type 0} (o : Option A) → ((x : A) → o ≡ Some x → ⊥) → o ≡ None
none-of None h = refl
none-of (Some x) h = absurd (h x refl)

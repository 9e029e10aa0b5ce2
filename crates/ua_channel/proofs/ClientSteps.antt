-- A client's channel, as an end of a connection.
use Rattle.std.proofs.Common.{◌≡◌, ℕ, ◌≤◌, List, ◌++◌, Result, Ok, Err, length, take, sym, ap, subst}
use Rattle.ua_builtin.specs.declared.date_time.DateTime.{DateTime}
use Rattle.ua_frame.specs.declared.limits.Limits.{Limits}
use Rattle.ua_channel.specs.Asks.{Placed}
use Rattle.ua_channel.specs.Client.{client_side, ClientGoesTelling, ClientStarvedAt, client_limits}
use Rattle.ua_channel.specs.inside.ClientParts.{AnswersEvent, outcome_counted, failure_of_step}
use Rattle.ua_channel.specs.inside.Ends.{EndNexts}
use Rattle.ua_channel.specs.ClientAnswers.{ClientAnswers}
use Rattle.ua_channel.specs.ClientTold.{ClientTold}
use Rattle.ua_channel.specs.declared.client.channel.ClientChannel.{ClientChannel}
use Rattle.ua_channel.specs.declared.client.event.ClientEvent.{ClientEvent}
use Rattle.ua_channel.specs.declared.client.event.ClientEvent.TheVariants as client_event
use Rattle.ua_channel.specs.declared.client.fault.ClientTakeFault.{ClientTakeFault}
use Rattle.ua_channel.specs.declared.client.fault.ClientTakeFault.TheVariants as take_fault
use Rattle.ua_channel.specs.declared.client.phase.Phase.{Phase}
use Rattle.ua_channel.specs.declared.client.rules.ClientRules.{ClientRules}
use Rattle.ua_channel.specs.declared.end_core.EndCore.{EndCore}
use Rattle.ua_channel.specs.declared.end_fault.EndFault.{EndFault}
use Rattle.ua_channel.specs.declared.end_fault.EndFault.TheVariants.{Refused, Peer, Closed, OutOfMemory}
use Rattle.ua_channel.proofs.Ends.{starved_behind}

abbrev rules_with : Limits → ClientRules
rules_with limits = record { limits = limits }

abbrev pub with_end : ClientChannel → EndCore ClientRules Phase → ClientChannel
with_end x new = record x { end = new }

-- ---- what is answered

-- an event
pub answers_event : (moment : DateTime) (piece : List ℕ) (n : ℕ) (answer : Result ClientEvent ClientTakeFault) (mid new : ClientChannel) (asks : List Placed)
    (octets : List ℕ) (told : List ClientTold) (e : ClientTold) → n ≤ length piece → client_limits new ≡ client_limits mid
    → ClientGoesTelling mid asks (octets ++ take n piece) told e → AnswersEvent moment answer new asks (octets ++ take n piece) told
    → ClientAnswers moment piece (outcome_counted n answer) new asks octets told
answers_event moment piece n (Ok client_event.NeedMore) mid new asks octets told e within limits g h = absurd h
answers_event moment piece n (Ok (client_event.Send sent)) mid new asks octets told e within limits g h = h
answers_event moment piece n (Ok client_event.Open) mid new asks octets told e within limits g h = h
answers_event moment piece n (Ok (client_event.Answered id message)) mid new asks octets told e within limits g h = h
answers_event moment piece n (Ok (client_event.Aborted id code)) mid new asks octets told e within limits g h = h
answers_event moment piece n (Ok (client_event.Failed code peer)) mid new asks octets told e within limits g h = h
answers_event moment piece n (Ok (client_event.Renewed token)) mid new asks octets told e within limits g h = h
answers_event moment piece n (Err take_fault.OutOfMemory) mid new asks octets told e within limits g h =
    (n, within, starved_behind client_side mid.end new.end asks (octets ++ take n piece) told e (ap rules_with limits) h g)
answers_event moment piece n (Err take_fault.Closed) mid new asks octets told e within limits g h = h

-- a fault
pub answers_fault : (moment : DateTime) (piece : List ℕ) (n : ℕ) (fault : EndFault) (new : ClientChannel) (asks : List Placed) (octets : List ℕ)
    (told : List ClientTold) → EndNexts client_side piece n (Err fault) new.end asks octets told
    → ClientAnswers moment piece (outcome_counted n (failure_of_step fault)) new asks octets told
answers_fault moment piece n (Refused code) new asks octets told h = h.1
answers_fault moment piece n (Peer code) new asks octets told h = h.1
answers_fault moment piece n OutOfMemory new asks octets told h = (n, h.0, h.1)
answers_fault moment piece n Closed new asks octets told h = absurd h.1

-- with another bound
starved_bound : (x new : ClientChannel) (bound : ℕ) (asks : List Placed) (octets : List ℕ) (told : List ClientTold)
    → new ≡ record x { end = record x.end { bound = bound } } → ClientStarvedAt x asks octets told → ClientStarvedAt new asks octets told
starved_bound x new bound asks octets told is s =
    subst (λ (z : ClientChannel). ClientStarvedAt z asks octets told) (sym is)
    (record {
      done = record { phase = s.done.phase; empty = s.done.empty };
      frames = s.frames;
      rest = s.rest;
      whole = s.whole;
      good = s.good;
      told_is = s.told_is;
      header = s.header;
      sound = s.sound;
      within = s.within;
    })

pub answers_bound : (moment : DateTime) (piece : List ℕ) (x new : ClientChannel) (bound : ℕ) (asks : List Placed) (octets : List ℕ) (told : List ClientTold)
    (f : ClientTakeFault) → new ≡ record x { end = record x.end { bound = bound } } → ClientAnswers moment piece (Err f) x asks octets told
    → ClientAnswers moment piece (Err f) new asks octets told
answers_bound moment piece x new bound asks octets told take_fault.OutOfMemory is h =
    (h.0, h.1, starved_bound x new bound asks (octets ++ take h.0 piece) told is h.2)
answers_bound moment piece x new bound asks octets told take_fault.Closed is h = absurd h

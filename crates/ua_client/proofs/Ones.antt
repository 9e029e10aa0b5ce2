-- A call of one request is a call of all of one.
use Rattle.std.specs.Prelude.{◌≡◌, ◌++◌, ℕ, List, [], ◌∷◌, Option, Result, Ok, Err}
use Rattle.std.proofs.Common.{◌∙◌, sym, ap, subst}
use Rattle.ua_services.specs.declared.request.Request.{Request}
use Rattle.ua_channel.specs.Line.{Traffic}
use Rattle.ua_client.specs.Calls.{AnsweredAll, BrokenAll, CallsAll}
use Rattle.ua_client.specs.Hearing.{channel_of_connection, most_reads, StopsByTraffic}
use Rattle.ua_client.specs.Kept.{CallsInto}
use Rattle.ua_client.specs.declared.connection.Connection.{Connection}
use Rattle.ua_client.specs.declared.fault.CallsFault.{CallsFault}
use Rattle.ua_client.specs.declared.fault.ClientFault.{ClientFault}
use Rattle.ua_client.specs.declared.fault.ClientFault.TheVariants as fault
use Rattle.ua_client.specs.declared.reply.Reply.{Reply}

-- whatever would have been answered
stops-as : (A B : Type 0) (reads left : ℕ) (got : List ℕ) (new : Connection) (after : Option Traffic) (f : ClientFault)
    → StopsByTraffic {A = A} reads left got new after (Err f) → StopsByTraffic {A = B} reads left got new after (Err f)
stops-as A B reads left got new after fault.TooLong h = h
stops-as A B reads left got new after fault.Ended h = h
stops-as A B reads left got new after fault.Read h = h
stops-as A B reads left got new after fault.Write h = tt
stops-as A B reads left got new after (fault.Peer code) h = tt
stops-as A B reads left got new after (fault.Refused code) h = tt
stops-as A B reads left got new after fault.UnknownResponse h = tt
stops-as A B reads left got new after (fault.Service code) h = tt
stops-as A B reads left got new after fault.TooLarge h = tt
stops-as A B reads left got new after fault.NotWritable h = tt
stops-as A B reads left got new after fault.Exhausted h = tt
stops-as A B reads left got new after fault.Closed h = tt
stops-as A B reads left got new after fault.TooManyTokens h = tt
stops-as A B reads left got new after fault.OutOfMemory h = tt

-- the reply to one request
pub calls-one : {A : Type 0} (view : A → List Reply) (requests : List Request) (request : Request) (old new : Connection) (before after : Option Traffic)
    (found : A) (reply : Reply)
    → requests ≡ request ∷ [] → view found ≡ reply ∷ [] → CallsAll view requests old new before after (Ok found)
    → CallsAll (λ (r : Reply). r ∷ []) (request ∷ []) old new before after (Ok reply)
calls-one view requests request old new before after found reply e k c = record {
  sent = c.sent;
  moves = c.moves;
  same = c.same;
  answers = λ s at.
      subst (λ (rs : List Reply). AnsweredAll (request ∷ []) s (channel_of_connection new) c.sent c.moves.taken rs) k
      (subst (λ (ms : List Request). AnsweredAll ms s (channel_of_connection new) c.sent c.moves.taken (view found)) e (c.answers s at));
  stops = c.stops;
}

-- the fault of one request
pub breaks-one : {A B : Type 0} (view : A → List Reply) (other : B → List Reply) (requests : List Request) (request : Request) (old new : Connection)
    (before after : Option Traffic) (f : ClientFault)
    → requests ≡ request ∷ [] → CallsAll view requests old new before after (Err f) → CallsAll other (request ∷ []) old new before after (Err f)
breaks-one {A} {B} view other requests request old new before after f e c = record {
  sent = c.sent;
  moves = c.moves;
  same = c.same;
  answers = λ s at. subst (λ (ms : List Request). BrokenAll ms s new c.sent c.moves.taken f) e (c.answers s at);
  stops = stops-as A B most_reads most_reads c.moves.got new after f c.stops;
}

-- a call that answers a fault answers the same fault
pub fault-as : {A B : Type 0} (f g : ClientFault) → ◌≡◌ {A = Result A ClientFault} (Err f) (Err g) → ◌≡◌ {A = Result B ClientFault} (Err f) (Err g)
fault-as {A} {B} f g e = ap (λ (x : ClientFault). Err x) (ap fault_in e)
  where
    fault_in : Result A ClientFault → ClientFault
    fault_in (Ok found) = g
    fault_in (Err x) = x

-- what is found is no fault
pub found-none : {A : Type 0} {P : Type 0} (found : A) (f : ClientFault) → ◌≡◌ {A = Result A ClientFault} (Ok found) (Err f) → P
found-none found f e = absurd cc

-- ---- the replies alone

-- where all are answered
pub all-answered : {A : Type 0} (view : A → List Reply) (requests : List Request) (old new : Connection) (before after : Option Traffic) (done : Unit {0})
    (found : A) (had have : List Reply) → had ≡ [] → have ≡ view found
    → CallsInto requests old new before after (Ok done) had have → CallsAll view requests old new before after (Ok found)
all-answered view requests old new before after done found had have none same c = record {
  sent = c.sent;
  moves = c.moves;
  same = c.same;
  answers = λ s at. subst (λ (rs : List Reply). AnsweredAll requests s (channel_of_connection new) c.sent c.moves.taken rs)
      (sym (sym same ∙ (c.have_is ∙ ap (λ (rs : List Reply). rs ++ c.added) none))) (c.answers s at);
  stops = c.stops;
}

-- where one is not
pub all-broken : {A : Type 0} (view : A → List Reply) (requests : List Request) (old new : Connection) (before after : Option Traffic) (f : CallsFault)
    (had have : List Reply)
    → CallsInto {A = Unit {0}} requests old new before after (Err f) had have → CallsAll view requests old new before after (Err f.fault)
all-broken {A} view requests old new before after f had have c = record {
  sent = c.sent;
  moves = c.moves;
  same = c.same;
  answers = λ s at. (c.answers s at).broken;
  stops = stops-as (Unit {0}) A most_reads most_reads c.moves.got new after f.fault c.stops;
}

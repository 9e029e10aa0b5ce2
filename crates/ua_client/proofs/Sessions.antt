-- How a session begins: one service, and another behind it.
use Rattle.std.specs.Prelude.{◌≡◌, ℕ, Bool, true, false, nat_le, not, IsFalse, Some, ◌+◌, ◌≤◌, List}
use Rattle.std.specs.Prelude.{[], ◌∷◌, ◌++◌, length, Option, None, Result, Ok, Err, IfOk, IfErr}
use Rattle.std.proofs.Common.{refl, sym, ◌∙◌, ap, subst, arith, inl, inr}
use Rattle.std.proofs.Math.Logic.{∥∥₁_map}
use Rattle.std.proofs.lemmas.List.{length-append}
use Rattle.ua_builtin.specs.Reasons.{first_reason}
use Rattle.ua_builtin.specs.declared.date_time.DateTime.{DateTime}
use Rattle.ua_builtin.specs.declared.node_id.NodeId.{NodeId}
use Rattle.ua_services.specs.Request.{request as message}
use Rattle.ua_services.specs.Response.{Answers, ResponseStructure, kind_of_response, responses, response_parts}
use Rattle.ua_services.proofs.ResponseLawful.{are_responses}
use Rattle.ua_services.specs.declared.request.Request.{Request}
use Rattle.ua_services.specs.declared.request.RequestKind.TheVariants as request_kind
use Rattle.ua_services.specs.declared.response.Response.{Response}
use Rattle.ua_services.specs.declared.response.Response.TheVariants as response
use Rattle.ua_services.specs.declared.response.ResponseKind.{ResponseKind}
use Rattle.ua_opening.specs.declared.header.ServiceFault.{ServiceFault}
use Rattle.ua_structures.specs.declared.session.CreateSessionResponse.{CreateSessionResponse}
use Rattle.ua_frame.specs.declared.ack.Ack.{Ack}
use Rattle.ua_channel.specs.Client.{SameClient, url_of}
use Rattle.ua_channel.specs.ClientAsks.{is_too_large, no_id}
use Rattle.ua_channel.specs.ClientTable.{of_ack}
use Rattle.ua_channel.specs.Line.{Traffic}
use Rattle.ua_channel.specs.declared.client.channel.ClientChannel.{ClientChannel}
use Rattle.ua_client.specs.Calls.{Answered, BreaksAt}
use Rattle.ua_client.specs.Kept.{CallsGroup, CallsGroupAt}
use Rattle.ua_client.specs.Hearing.{channel_of_connection, most_reads, StopsByTraffic}
use Rattle.ua_client.specs.Session.{ActivatesBehind, BeginsSessionAs, BeginsSessionAt, CallsOneAt, DoesIdle, FailsSessionAt, IsFailure}
use Rattle.ua_client.specs.Session.{IsReplied, LacksToken, MakesRequest, Replies, ServesAt, TriesSession, activating_at}
use Rattle.ua_client.specs.Session.{brings_any, brings_token, creating_at, is_reply, reply_failure, session_alone, token_in}
use Rattle.ua_client.specs.Renewing.{IsIdle, IsSettled, StandsSettled}
use Rattle.ua_client.specs.ClientPlace.{ClientPlace, StandsAt, id_at}
use Rattle.ua_client.specs.declared.connection.Connection.{Connection}
use Rattle.ua_client.specs.declared.fault.CallsFault.{CallsFault}
use Rattle.ua_client.specs.declared.fault.ClientFault.{ClientFault}
use Rattle.ua_client.specs.declared.fault.ClientFault.TheVariants as fault
use Rattle.ua_client.specs.declared.fault.SessionFault.{SessionFault}
use Rattle.ua_client.specs.declared.reply.Reply.{Reply}
use Rattle.ua_client.specs.declared.reply.Reply.TheVariants.{Response as Responds, Aborted}
use Rattle.ua_client.proofs.GroupCalls.{moves-nothing}
use Rattle.ua_client.proofs.Hearings.{moves-behind}
use Rattle.ua_client.proofs.Idle.{IdleStanding}
use Rattle.ua_client.proofs.Settled.{answered-settled}

-- ---- reads, one call behind another

-- a fault behind a call that spent so many reads
stops-then : (A B : Type 0) (reads left less more : ℕ) (got further : List ℕ) (new : Connection) (after : Option Traffic) (f : ClientFault)
    → reads ≤ left + length got
    → StopsByTraffic {A = A} left less further new after (Err f) → StopsByTraffic {A = B} reads more (got ++ further) new after (Err f)
stops-then A B reads left less more got further new after fault.TooLong spent h =
    (h.0, let l = length-append got further in let few = h.1 in omega (arith, l, spent, few))
stops-then A B reads left less more got further new after fault.Ended spent h = h
stops-then A B reads left less more got further new after fault.Read spent h = h
stops-then A B reads left less more got further new after fault.Write spent h = tt
stops-then A B reads left less more got further new after (fault.Peer code) spent h = tt
stops-then A B reads left less more got further new after (fault.Refused code) spent h = tt
stops-then A B reads left less more got further new after fault.UnknownResponse spent h = tt
stops-then A B reads left less more got further new after (fault.Service code) spent h = tt
stops-then A B reads left less more got further new after fault.TooLarge spent h = tt
stops-then A B reads left less more got further new after fault.NotWritable spent h = tt
stops-then A B reads left less more got further new after fault.Exhausted spent h = tt
stops-then A B reads left less more got further new after fault.Closed spent h = tt
stops-then A B reads left less more got further new after fault.TooManyTokens spent h = tt
stops-then A B reads left less more got further new after fault.OutOfMemory spent h = tt

stops-as : (A B : Type 0) (reads left more : ℕ) (got : List ℕ) (new : Connection) (after : Option Traffic) (f : ClientFault)
    → StopsByTraffic {A = A} reads left got new after (Err f) → StopsByTraffic {A = B} reads more got new after (Err f)
stops-as A B reads left more got new after f h = stops-then A B reads reads left more [] got new after f (omega arith) h

-- ---- one request

pub one-replied : (request : Request) (requests : List Request) (old new : Connection) (before after : Option Traffic) (reads left : ℕ) (had have : List Reply)
    (reply : Reply)
    → requests ≡ request ∷ [] → had ≡ [] → have ≡ reply ∷ [] → CallsGroup {A = Unit {0}} requests old new before after reads left (Ok tt) had have
    → DoesIdle {A = Reply} (λ s sent taken. CallsOneAt request s new sent taken (Ok reply)) old new before after reads left (Ok reply)
one-replied request requests old new before after reads left had have reply e none one g = record {
  sent = g.sent;
  moves = g.moves;
  same = g.same;
  answers = λ s at idle.
      replied s (subst (λ (ms : List Request). CallsGroupAt {A = Unit {0}} ms s new g.sent g.moves.taken (Ok tt) g.added) e (g.answers s at idle));
  stops = g.stops;
}
  where
    replied : (s : ClientPlace) → CallsGroupAt {A = Unit {0}} (request ∷ []) s new g.sent g.moves.taken (Ok tt) g.added
        → Replies request s (channel_of_connection new) g.sent g.moves.taken (is_reply reply)
    replied s a =
        let alone : g.added ≡ reply ∷ [] = sym (sym one ∙ (g.have_is ∙ ap (λ (rs : List Reply). rs ++ g.added) none)) in
        record {
          behind = a.1.0;
          at = a.1.1;
          settled = λ settled. answered-settled (request ∷ []) s a.1.0 g.moves.taken g.added settled a.1.3;
          reply = reply;
          replied =
              record { sent_is = a.0; came = a.1.2; answered = subst (λ (rs : List Reply). Answered (request ∷ []) s a.1.0 g.moves.taken rs) alone a.1.3 };
          says = refl;
        }

pub one-broken : (request : Request) (requests : List Request) (old new : Connection) (before after : Option Traffic) (reads left : ℕ) (had have : List Reply)
    (c : CallsFault)
    → requests ≡ request ∷ [] → CallsGroup {A = Unit {0}} requests old new before after reads left (Err c) had have
    → DoesIdle {A = Reply} (λ s sent taken. CallsOneAt request s new sent taken (Err c.fault)) old new before after reads left (Err c.fault)
one-broken request requests old new before after reads left had have c e g = record {
  sent = g.sent;
  moves = g.moves;
  same = g.same;
  answers = λ s at idle. subst (λ (ms : List Request). BreaksAt ms s new g.sent g.moves.taken c.fault) e (g.answers s at idle).0;
  stops = stops-as (Unit {0}) Reply reads left left g.moves.got new after c.fault g.stops;
}

-- ---- a service

-- a fault of the call
broken : {A : Type 0} (request : Request) (brings : A → Reply → Type 0) (s : ClientPlace) (new : Connection) (sent taken : List ℕ) (f : ClientFault)
    → BreaksAt (request ∷ []) s new sent taken f → ServesAt {A = A} request brings s new sent taken (Err f)
broken request brings s new sent taken fault.Read h = h
broken request brings s new sent taken fault.Write h = h
broken request brings s new sent taken fault.Ended h = h
broken request brings s new sent taken (fault.Peer code) h = h
broken request brings s new sent taken (fault.Refused code) h = h
broken request brings s new sent taken fault.UnknownResponse h = h
broken request brings s new sent taken (fault.Service code) h = absurd h
broken request brings s new sent taken fault.TooLarge h = h
broken request brings s new sent taken fault.NotWritable h = h
broken request brings s new sent taken fault.Exhausted h = h
broken request brings s new sent taken fault.Closed h = h
broken request brings s new sent taken fault.OutOfMemory h = h
broken request brings s new sent taken fault.TooLong h = h
broken request brings s new sent taken fault.TooManyTokens h = h

-- a fault is the same whatever a reply would have brought
faulted : {A B : Type 0} (request : Request) (brings : A → Reply → Type 0) (other : B → Reply → Type 0) (s : ClientPlace) (new : Connection)
    (sent taken : List ℕ) (f : ClientFault)
    → ServesAt {A = A} request brings s new sent taken (Err f) → ServesAt {A = B} request other s new sent taken (Err f)
faulted request brings other s new sent taken fault.Read h = h
faulted request brings other s new sent taken fault.Write h = h
faulted request brings other s new sent taken fault.Ended h = h
faulted request brings other s new sent taken (fault.Peer code) h = h
faulted request brings other s new sent taken (fault.Refused code) h = h
faulted request brings other s new sent taken fault.UnknownResponse h = h
faulted request brings other s new sent taken (fault.Service code) h = h
faulted request brings other s new sent taken fault.TooLarge h = h
faulted request brings other s new sent taken fault.NotWritable h = h
faulted request brings other s new sent taken fault.Exhausted h = h
faulted request brings other s new sent taken fault.Closed h = h
faulted request brings other s new sent taken fault.OutOfMemory h = h
faulted request brings other s new sent taken fault.TooLong h = h
faulted request brings other s new sent taken fault.TooManyTokens h = h

module _ (request : Request) (old new : Connection) (before after : Option Traffic) (reads left : ℕ) where
  pub serves-broken : (f : ClientFault) → DoesIdle {A = Reply} (λ s sent taken. CallsOneAt request s new sent taken (Err f)) old new before after reads left
      (Err f)
      → DoesIdle {A = Reply} (λ s sent taken. ServesAt request is_reply s new sent taken (Err f)) old new before after reads left (Err f)
  serves-broken f d = record {
    sent = d.sent;
    moves = d.moves;
    same = d.same;
    answers = λ s at idle. broken request is_reply s new d.sent d.moves.taken f (d.answers s at idle);
    stops = d.stops;
  }

  -- the reply is judged
  pub serves-judged : (reply : Reply) (result : Result Reply ClientFault)
      → DoesIdle {A = Reply} (λ s sent taken. CallsOneAt request s new sent taken (Ok reply)) old new before after reads left (Ok reply)
      → IfOk result (λ r. (r ≡ reply) × (reply_failure reply ≡ None)) → IfErr result (λ f. IsFailure reply f)
      → DoesIdle {A = Reply} (λ s sent taken. ServesAt request is_reply s new sent taken result) old new before after reads left result
  serves-judged reply (Ok r) d good bad = record {
    sent = d.sent;
    moves = d.moves;
    same = d.same;
    answers = λ s at idle.
        let a = d.answers s at idle in
        record {
          behind = a.behind;
          at = a.at;
          settled = a.settled;
          reply = a.reply;
          replied = a.replied;
          says = (sym (ap reply_failure a.says) ∙ good.1, good.0 ∙ a.says);
        };
    stops = d.stops;
  }
  serves-judged reply (Err f) d good bad =
      subst (λ (x : ClientFault). DoesIdle {A = Reply} (λ s sent taken. ServesAt request is_reply s new sent taken (Err x)) old new before after reads left
      (Err x)) (sym bad.1) (record {
        sent = d.sent;
        moves = d.moves;
        same = d.same;
        answers = λ s at idle.
            let a = d.answers s at idle in
            record { behind = a.behind; at = a.at; settled = a.settled; reply = a.reply; replied = a.replied; says = sym (ap reply_failure a.says) ∙ bad.2 };
        stops = tt;
      })

  -- a request that is made where the client stands
  module _ (made : ClientPlace → Request) (is : (s : ClientPlace) → StandsAt (channel_of_connection old) s → request ≡ made s) where
    -- the fault of its service
    pub made-broken : {A : Type 0} (brings : A → Reply → Type 0) (f : ClientFault)
        → DoesIdle {A = Reply} (λ s sent taken. ServesAt request is_reply s new sent taken (Err f)) old new before after reads left (Err f)
        → DoesIdle {A = A} (λ s sent taken. ServesAt (made s) brings s new sent taken (Err f)) old new before after reads left (Err f)
    made-broken {A} brings f d = record {
      sent = d.sent;
      moves = d.moves;
      same = d.same;
      answers = λ s at idle.
          subst (λ (r : Request). ServesAt {A = A} r brings s new d.sent d.moves.taken (Err f)) (is s at)
          (faulted request is_reply brings s new d.sent d.moves.taken f (d.answers s at idle));
      stops = stops-as Reply A reads left left d.moves.got new after f d.stops;
    }

    -- the reply by which its service did not fail, and what that brings
    pub made-served : {A : Type 0} (brings : A → Reply → Type 0) (reply : Reply) (found : A) → brings found reply
        → DoesIdle {A = Reply} (λ s sent taken. ServesAt request is_reply s new sent taken (Ok reply)) old new before after reads left (Ok reply)
        → DoesIdle {A = A} (λ s sent taken. ServesAt (made s) brings s new sent taken (Ok found)) old new before after reads left (Ok found)
    made-served {A} brings reply found b d = record {
      sent = d.sent;
      moves = d.moves;
      same = d.same;
      answers = λ s at idle.
          let a = d.answers s at idle in
          subst (λ (r : Request). Replies r s (channel_of_connection new) d.sent d.moves.taken (λ x. (reply_failure x ≡ None) × brings found x)) (is s at)
          (record {
            behind = a.behind;
            at = a.at;
            settled = a.settled;
            reply = a.reply;
            replied = a.replied;
            says = (a.says.0, subst (λ (x : Reply). brings found x) a.says.1 b);
          });
      stops = d.stops;
    }

-- no memory to ask
pub made-unasked : {A : Type 0} (made : ClientPlace → Request) (brings : A → Reply → Type 0) (x : Connection) (t : Option Traffic) (reads : ℕ)
    → DoesIdle {A = A} (λ s sent taken. ServesAt (made s) brings s x sent taken (Err fault.OutOfMemory)) x x t t reads reads (Err fault.OutOfMemory)
made-unasked made brings x t reads = record {
  sent = [];
  moves = moves-nothing x x t refl;
  same = record { limits = refl; url = refl };
  answers = λ s at idle. inl (refl, refl);
  stops = tt;
}

-- a request that cannot be encoded
made-unwritable : {A : Type 0} (made : ClientPlace → Request) (brings : A → Reply → Type 0) (x : Connection) (t : Option Traffic) (reads : ℕ)
    → ((s : ClientPlace) → StandsAt (channel_of_connection x) s → IsFalse (message.encodable (made s)))
    → DoesIdle {A = A} (λ s sent taken. ServesAt (made s) brings s x sent taken (Err fault.NotWritable)) x x t t reads reads (Err fault.NotWritable)
made-unwritable made brings x t reads unfit = record {
  sent = [];
  moves = moves-nothing x x t refl;
  same = record { limits = refl; url = refl };
  answers = λ s at idle. (refl, refl, at, first-reason (message.encodable (made s)) fault.NotWritable (reasons-behind (made s) s) (unfit s at));
  stops = tt;
}
  where
    first-reason : (fits : Bool) (reason : ClientFault) (more : List (ClientFault × Bool)) → IsFalse fits
        → first_reason ((reason, not fits) ∷ more) ≡ Some reason
    first-reason true reason more h = absurd cc
    first-reason false reason more h = refl

    -- the reasons against a request that can be encoded
    reasons-behind : Request → ClientPlace → List (ClientFault × Bool)
    reasons-behind m s = (fault.Exhausted, nat_le no_id (id_at s)) ∷ (fault.TooLarge, of_ack (λ (a : Ack). is_too_large a (message.canonical m)) s.before.ack)
        ∷ []

-- a request that was not made
pub made-not : {A : Type 0} (made : ClientPlace → Request) (brings : A → Reply → Type 0) (x : Connection) (t : Option Traffic) (reads : ℕ) (f : ClientFault)
    → MakesRequest made (channel_of_connection x) (Err f)
    → DoesIdle {A = A} (λ s sent taken. ServesAt (made s) brings s x sent taken (Err f)) x x t t reads reads (Err f)
made-not made brings x t reads fault.NotWritable h = made-unwritable made brings x t reads h
made-not made brings x t reads fault.OutOfMemory h = made-unasked made brings x t reads
made-not made brings x t reads fault.Read h = absurd h
made-not made brings x t reads fault.Write h = absurd h
made-not made brings x t reads fault.Ended h = absurd h
made-not made brings x t reads (fault.Peer code) h = absurd h
made-not made brings x t reads (fault.Refused code) h = absurd h
made-not made brings x t reads fault.UnknownResponse h = absurd h
made-not made brings x t reads (fault.Service code) h = absurd h
made-not made brings x t reads fault.TooLarge h = absurd h
made-not made brings x t reads fault.Exhausted h = absurd h
made-not made brings x t reads fault.Closed h = absurd h
made-not made brings x t reads fault.TooLong h = absurd h
made-not made brings x t reads fault.TooManyTokens h = absurd h

-- ---- CreateSession

-- a response to CreateSession by which it did not fail brings a token
abbrev Brings : Response → Type 0
Brings m = reply_failure (Responds m) ≡ None → token_in (Responds m) ≡ None → ⊥

brings-session : (s : CreateSessionResponse) → Brings (response.CreateSession s)
brings-session s good none = absurd cc

brings-fault : (s : ServiceFault) → Brings (response.ServiceFault s)
brings-fault s good none = absurd cc

brings-of : (k : ResponseKind) (s : ResponseStructure k) → Answers k request_kind.CreateSession → Brings (responses.make k s)
brings-of k s (inl e) = subst (λ (t : ResponseKind). (s : ResponseStructure t) → Brings (responses.make t s)) (sym e) brings-session s
brings-of k s (inr e) = subst (λ (t : ResponseKind). (s : ResponseStructure t) → Brings (responses.make t s)) (sym e) brings-fault s

has-token : (m : Response) → Answers (kind_of_response m) request_kind.CreateSession → Brings m
has-token m a = subst Brings (sym (are_responses.back m)) (brings-of (kind_of_response m) (response_parts m).1 a)

brings-some : (x : ClientChannel) (url : Option (List ℕ)) (moment : DateTime) (s t : ClientPlace) (sent taken : List ℕ) (reply : Reply)
    → IsReplied x (creating_at url moment s) s t sent taken reply
    → reply_failure reply ≡ None → token_in reply ≡ None → ⊥
brings-some x url moment s t sent taken (Aborted code) h good none = absurd cc
brings-some x url moment s t sent taken (Responds m) h good none = has-token m h.answered.replies_are.0.2.2.1 good none

module _ (url : Option (List ℕ)) (moment : DateTime) (request : Request) (old new : Connection) (before after : Option Traffic) (reads left : ℕ)
    (is : (s : ClientPlace) → StandsAt (channel_of_connection old) s → request ≡ creating_at url moment s) (reply : Reply)
    (d : DoesIdle {A = Reply} (λ s sent taken. ServesAt request is_reply s new sent taken (Ok reply)) old new before after reads left (Ok reply)) where
  -- what becomes of it by the reply
  pub created : (result : Result NodeId ClientFault) → IfOk result (λ token. brings_token token reply) → IfErr result (λ f. LacksToken reply f)
      → DoesIdle {A = NodeId} (λ s sent taken. ServesAt (creating_at url moment s) brings_token s new sent taken result) old new before after reads left result
  created (Ok token) found lacks = made-served request old new before after reads left (creating_at url moment) is brings_token reply token found d
  created (Err f) found (e, none) =
      subst (λ (x : ClientFault). DoesIdle {A = NodeId} (λ s sent taken. ServesAt (creating_at url moment s) brings_token s new sent taken (Err x)) old new
      before after reads left (Err x)) (sym e) (record {
        sent = d.sent;
        moves = d.moves;
        same = d.same;
        answers = λ s at idle.
            let a = d.answers s at idle in
            absurd (brings-some (channel_of_connection new) url moment s a.behind d.sent d.moves.taken a.reply
            (subst (λ (r : Request). IsReplied (channel_of_connection new) r s a.behind d.sent d.moves.taken a.reply) (is s at) a.replied) a.says.0
            (sym (ap token_in a.says.1) ∙ none));
        stops = tt;
      })

-- ---- both services

-- CreateSession failed
pub begins-first : (policy_id : Option (List ℕ)) (moment : DateTime) (old new : Connection) (before after : Option Traffic) (left : ℕ) (f : ClientFault)
    → DoesIdle {A = NodeId} (λ s sent taken. ServesAt (creating_at (url_of (channel_of_connection old)) moment s) brings_token s new sent taken (Err f)) old new
    before
    after most_reads left (Err f)
    → ((s : ClientPlace) → StandsAt (channel_of_connection old) s → IsIdle (channel_of_connection old) s)
    → TriesSession policy_id moment old new before after (Err (record { token = None; fault = f }))
begins-first policy_id moment old new before after left f d idle = record {
  sent = d.sent;
  moves = d.moves;
  same = d.same;
  answers = λ s at. d.answers s at (idle s at);
  stops = stops-as NodeId NodeId most_reads left most_reads d.moves.got new after f d.stops;
}

-- no memory before anything is asked
pub begins-unasked : (policy_id : Option (List ℕ)) (moment : DateTime) (x : Connection) (t : Option Traffic)
    → BeginsSessionAs policy_id moment x x t t (Err fault.OutOfMemory)
begins-unasked policy_id moment x t = record {
  sent = [];
  moves = moves-nothing x x t refl;
  same = record { limits = refl; url = refl };
  answers = λ s at. inl (inl (refl, refl));
  stops = tt;
}

module _ (policy_id : Option (List ℕ)) (moment : DateTime) (old mid new : Connection) (before between after : Option Traffic) (left less : ℕ) (token : NodeId)
    (d : DoesIdle {A = NodeId} (λ s sent taken. ServesAt (creating_at (url_of (channel_of_connection old)) moment s) brings_token s mid sent taken (Ok token))
    old mid
    before between most_reads left (Ok token))
    (stands : StandsSettled (channel_of_connection old)) (idle : IdleStanding) where
  -- behind CreateSession it may be called again
  stands-between : StandsSettled (channel_of_connection mid)
  stands-between = ∥∥₁_map stands (λ (w : (s : ClientPlace) × StandsAt (channel_of_connection old) s × IsSettled s).
      let a = d.answers w.0 w.1 (idle (channel_of_connection old) w.0 stands w.1) in
      (a.behind, a.at, a.settled w.2))

  -- what becomes of ActivateSession
  second : (result : Result (Unit {0}) ClientFault) (P : NodeId → Type 0) → P token
      → (e : DoesIdle {A = Unit {0}} (λ s sent taken. ServesAt (activating_at policy_id token moment s) brings_any s new sent taken result) mid new between
      after left less result)
      → (s : ClientPlace) → StandsAt (channel_of_connection old) s → ActivatesBehind (url_of (channel_of_connection old)) policy_id moment s new
      (d.sent ++ e.sent)
      (d.moves.taken ++ e.moves.taken) P result
  second result P p e s at =
      let a = d.answers s at (idle (channel_of_connection old) s stands at) in
      record {
        token = token;
        between = a.behind;
        channel = channel_of_connection mid;
        same = e.same;
        at = a.at;
        settled = a.settled;
        reply = a.reply;
        sent_before = d.sent;
        sent_then = e.sent;
        sent_parts = refl;
        taken_before = d.moves.taken;
        taken_then = e.moves.taken;
        taken_parts = refl;
        created = a.replied;
        good = a.says.0;
        brought = a.says.1;
        further = (p, e.answers a.behind a.at (idle (channel_of_connection mid) a.behind stands-between a.at));
      }

  same-then : SameClient (channel_of_connection mid) (channel_of_connection new) → SameClient (channel_of_connection old) (channel_of_connection new)
  same-then k = record { limits = d.same.limits ∙ k.limits; url = d.same.url ∙ k.url }

  -- both are done
  pub begins-both : DoesIdle {A = Unit {0}} (λ s sent taken. ServesAt (activating_at policy_id token moment s) brings_any s new sent taken (Ok tt)) mid new
      between after left less (Ok tt)
      → TriesSession policy_id moment old new before after (Ok token)
  begins-both e = record {
    sent = d.sent ++ e.sent;
    moves = moves-behind old mid new d.sent e.sent before between after d.moves e.moves;
    same = same-then e.same;
    answers = λ s at. second (Ok tt) (λ given. given ≡ token) refl e s at;
    stops = omega arith;
  }

  -- ActivateSession failed
  pub begins-second : (f : ClientFault)
      → DoesIdle {A = Unit {0}} (λ s sent taken. ServesAt (activating_at policy_id token moment s) brings_any s new sent taken (Err f)) mid new between after
      left less (Err f)
      → TriesSession policy_id moment old new before after (Err (record { token = Some token; fault = f }))
  begins-second f e = record {
    sent = d.sent ++ e.sent;
    moves = moves-behind old mid new d.sent e.sent before between after d.moves e.moves;
    same = same-then e.same;
    answers = λ s at. second (Err f) (λ given. given ≡ token) refl e s at;
    stops = stops-then (Unit {0}) NodeId most_reads left less most_reads d.moves.got e.moves.got new after f d.stops e.stops;
  }

-- ---- without the token

-- whatever the token is
behind-any : (url policy_id : Option (List ℕ)) (moment : DateTime) (s : ClientPlace) (new : Connection) (sent taken : List ℕ) (P : NodeId → Type 0)
    (result : Result (Unit {0}) ClientFault)
    → ActivatesBehind url policy_id moment s new sent taken P result → ActivatesBehind url policy_id moment s new sent taken (λ given. Unit {0}) result
behind-any url policy_id moment s new sent taken P result a = record {
  token = a.token;
  between = a.between;
  channel = a.channel;
  same = a.same;
  at = a.at;
  settled = a.settled;
  reply = a.reply;
  sent_before = a.sent_before;
  sent_then = a.sent_then;
  sent_parts = a.sent_parts;
  taken_before = a.taken_before;
  taken_then = a.taken_then;
  taken_parts = a.taken_parts;
  created = a.created;
  good = a.good;
  brought = a.brought;
  further = (tt, a.further.1);
}

failed-there : (url policy_id : Option (List ℕ)) (moment : DateTime) (s : ClientPlace) (new : Connection) (sent taken : List ℕ) (token : Option NodeId)
    (f : ClientFault)
    → FailsSessionAt url policy_id moment s new sent taken token f → BeginsSessionAt url policy_id moment s new sent taken (Err f)
failed-there url policy_id moment s new sent taken None f h = inl h
failed-there url policy_id moment s new sent taken (Some token) f a = inr (behind-any url policy_id moment s new sent taken (λ given. given ≡ token) (Err f) a)

-- a session that is begun, without the token of one that was created and not activated
pub begins-told : (policy_id : Option (List ℕ)) (moment : DateTime) (old new : Connection) (before after : Option Traffic) (result : Result NodeId SessionFault)
    → TriesSession policy_id moment old new before after result → BeginsSessionAs policy_id moment old new before after (session_alone result)
begins-told policy_id moment old new before after (Ok token) d = record { sent = d.sent; moves = d.moves; same = d.same; answers = d.answers; stops = d.stops }
begins-told policy_id moment old new before after (Err c) d = record {
  sent = d.sent;
  moves = d.moves;
  same = d.same;
  answers = λ s at. failed-there (url_of (channel_of_connection old)) policy_id moment s new d.sent d.moves.taken c.token c.fault (d.answers s at);
  stops = d.stops;
}

-- A channel of which a client may be called stands at a settled place; so it does behind each call after which the client is not done.
use Rattle.std.specs.Prelude.{◌≡◌, ℕ, false, List, [], Option, Some, None, Ok, Err}
use Rattle.std.proofs.Common.{sym, subst}
use Rattle.std.proofs.Math.Logic.{∥∥₁_map}
use Rattle.ua_builtin.specs.declared.date_time.DateTime.{DateTime}
use Rattle.ua_builtin.specs.declared.node_id.NodeId.{NodeId}
use Rattle.ua_services.specs.declared.request.Request.{Request}
use Rattle.ua_channel.specs.Client.{ClientGoes, url_of}
use Rattle.ua_channel.specs.Line.{Traffic}
use Rattle.ua_channel.specs.declared.client.channel.ClientChannel.{ClientChannel}
use Rattle.ua_client.specs.Calls.{BreaksAt}
use Rattle.ua_client.specs.Client.{ends_client}
use Rattle.ua_client.specs.Hearing.{channel_of_connection}
use Rattle.ua_client.specs.Kept.{CallsInto}
use Rattle.ua_client.specs.Opening.{IsOpened, Opens}
use Rattle.ua_client.specs.Renewing.{IsRefusal, IsSettled, Renews, RenewsAt, StandsSettled}
use Rattle.ua_client.specs.Session.{FailsSessionAt, ServesAt, TriesSession, activating_at, brings_any, brings_token, creating_at}
use Rattle.ua_client.specs.ClientPlace.{ClientPlace, StandsAt}
use Rattle.ua_client.specs.declared.connection.Connection.{Connection}
use Rattle.ua_client.specs.declared.fault.CallsFault.{CallsFault}
use Rattle.ua_client.specs.declared.fault.ClientFault.{ClientFault}
use Rattle.ua_client.specs.declared.fault.ClientFault.TheVariants as fault
use Rattle.ua_client.specs.declared.fault.SessionFault.{SessionFault}
use Rattle.ua_client.specs.declared.reply.Reply.{Reply}

-- a settled place at which a channel stands
abbrev Settled : ClientChannel → Type 0
Settled x = (s : ClientPlace) × StandsAt x s × IsSettled s

-- ---- opening

pub stands-opened : ((x : ClientChannel) (octets : List ℕ) → IsOpened x octets → (s : ClientPlace) × (s.octets ≡ octets) × (s.asks ≡ []) × StandsAt x s
    × IsSettled s)
    → (moment : DateTime) (old new : Connection) (before after : Option Traffic) (done : Unit {0}) → ClientGoes (channel_of_connection old) [] [] []
    → Opens moment old new before after (Ok done) → StandsSettled (channel_of_connection new)
stands-opened law moment old new before after done goes o =
    let there = law (channel_of_connection new) o.moves.taken (o.answers goes).1 in
    ∣ (there.0, there.3, there.4) ∣₁

-- ---- calls

-- a group that was not asked left the channel where it stood
group-standing : (requests : List Request) (s : ClientPlace) (new : Connection) (sent taken : List ℕ) (f : ClientFault) → ends_client f ≡ false
    → BreaksAt requests s new sent taken f → StandsAt (channel_of_connection new) s
group-standing requests s new sent taken (fault.Service code) e h = absurd h
group-standing requests s new sent taken fault.TooLarge e h = h.2
group-standing requests s new sent taken fault.NotWritable e h = h.2
group-standing requests s new sent taken fault.Exhausted e h = h.2
group-standing requests s new sent taken fault.TooManyTokens e h = absurd h
group-standing requests s new sent taken fault.Read e h = absurd cc
group-standing requests s new sent taken fault.Write e h = absurd cc
group-standing requests s new sent taken fault.Ended e h = absurd cc
group-standing requests s new sent taken (fault.Peer code) e h = absurd cc
group-standing requests s new sent taken (fault.Refused code) e h = absurd cc
group-standing requests s new sent taken fault.UnknownResponse e h = absurd cc
group-standing requests s new sent taken fault.Closed e h = absurd cc
group-standing requests s new sent taken fault.OutOfMemory e h = absurd cc
group-standing requests s new sent taken fault.TooLong e h = absurd cc

module _ (requests : List Request) (old new : Connection) (before after : Option Traffic) (had have : List Reply)
    (stands : StandsSettled (channel_of_connection old)) where
  pub stands-called : {A : Type 0} (done : A) → CallsInto requests old new before after (Ok done) had have → StandsSettled (channel_of_connection new)
  stands-called done c = ∥∥₁_map stands (λ (w : Settled (channel_of_connection old)). let a = c.answers w.0 w.1 in (a.behind, a.at, a.settled w.2))

  pub stands-broken : {A : Type 0} (f : CallsFault) → ends_client f.fault ≡ false → CallsInto {A = A} requests old new before after (Err f) had have
      → StandsSettled (channel_of_connection new)
  stands-broken f e c = ∥∥₁_map stands (λ (w : Settled (channel_of_connection old)).
      let a = (c.answers w.0 w.1).broken in
      (a.behind, group-standing a.group a.behind new a.sent_then a.taken_then f.fault e a.breaks, a.settled w.2))

-- ---- a session

-- behind a service whose fault does not end the client
service-standing : {A : Type 0} (request : Request) (brings : A → Reply → Type 0) (s : ClientPlace) (new : Connection) (sent taken : List ℕ) (f : ClientFault)
    → ends_client f ≡ false → IsSettled s
    → ServesAt {A = A} request brings s new sent taken (Err f) → Settled (channel_of_connection new)
service-standing request brings s new sent taken (fault.Service code) e settled h = (h.behind, h.at, h.settled settled)
service-standing request brings s new sent taken fault.TooLarge e settled h = (s, h.2, settled)
service-standing request brings s new sent taken fault.NotWritable e settled h = (s, h.2, settled)
service-standing request brings s new sent taken fault.Exhausted e settled h = (s, h.2, settled)
service-standing request brings s new sent taken fault.TooManyTokens e settled h = absurd h
service-standing request brings s new sent taken fault.Read e settled h = absurd cc
service-standing request brings s new sent taken fault.Write e settled h = absurd cc
service-standing request brings s new sent taken fault.Ended e settled h = absurd cc
service-standing request brings s new sent taken (fault.Peer code) e settled h = absurd cc
service-standing request brings s new sent taken (fault.Refused code) e settled h = absurd cc
service-standing request brings s new sent taken fault.UnknownResponse e settled h = absurd cc
service-standing request brings s new sent taken fault.Closed e settled h = absurd cc
service-standing request brings s new sent taken fault.OutOfMemory e settled h = absurd cc
service-standing request brings s new sent taken fault.TooLong e settled h = absurd cc

module _ (policy_id : Option (List ℕ)) (moment : DateTime) (old new : Connection) (before after : Option Traffic)
    (stands : StandsSettled (channel_of_connection old)) where
  pub stands-begun : (token : NodeId) → TriesSession policy_id moment old new before after (Ok token) → StandsSettled (channel_of_connection new)
  stands-begun token c = ∥∥₁_map stands (λ (w : Settled (channel_of_connection old)).
      let a = c.answers w.0 w.1 in
      let b = a.further.1 in
      (b.behind, b.at, b.settled (a.settled w.2)))

  pub stands-unbegun : (failed : SessionFault) → ends_client failed.fault ≡ false → TriesSession policy_id moment old new before after (Err failed)
      → StandsSettled (channel_of_connection new)
  stands-unbegun failed e c = ∥∥₁_map stands (λ (w : Settled (channel_of_connection old)). by w.0 w.2 failed.token (c.answers w.0 w.1))
    where
      by : (s : ClientPlace) → IsSettled s → (token : Option NodeId)
          → FailsSessionAt (url_of (channel_of_connection old)) policy_id moment s new c.sent c.moves.taken token failed.fault
          → Settled (channel_of_connection new)
      by s settled None h = service-standing (creating_at (url_of (channel_of_connection old)) moment s) brings_token s new c.sent c.moves.taken failed.fault e
          settled h
      by s settled (Some token) a = service-standing (activating_at policy_id a.token moment a.between) brings_any a.between new a.sent_then a.taken_then
          failed.fault e (a.settled settled) a.further.1

-- ---- a renewal

module _ (moment : DateTime) (old new : Connection) (before after : Option Traffic) (stands : StandsSettled (channel_of_connection old)) where
  pub stands-renewed : {A : Type 0} (done : A) → Renews moment old new before after (Ok done) → StandsSettled (channel_of_connection new)
  stands-renewed done c = ∥∥₁_map stands (λ (w : Settled (channel_of_connection old)). let a = (c.answers w.0 w.1).1 in (a.0, a.1.at, a.1.settled w.2))

  pub stands-unrenewed : {A : Type 0} (f : ClientFault) → ends_client f ≡ false → Renews {A = A} moment old new before after (Err f)
      → (IsRefusal {A = A} (Err f) → new ≡ old) → StandsSettled (channel_of_connection new)
  stands-unrenewed {A} f e c same = by f e same (λ w. c.answers w.0 w.1)
    where
      unmoved : new ≡ old → StandsSettled (channel_of_connection new)
      unmoved is = subst (λ (x : Connection). StandsSettled (channel_of_connection x)) (sym is) stands

      by : (y : ClientFault) → ends_client y ≡ false → (IsRefusal {A = A} (Err y) → new ≡ old)
          → ((w : Settled (channel_of_connection old)) → RenewsAt {A = A} w.0 moment (channel_of_connection new) c.sent c.moves.taken (Err y))
          → StandsSettled (channel_of_connection new)
      by fault.TooManyTokens k is h = unmoved (is tt)
      by fault.Exhausted k is h = unmoved (is tt)
      by (fault.Service code) k is h = ∥∥₁_map stands (λ (w : Settled (channel_of_connection old)). absurd (h w))
      by fault.TooLarge k is h = ∥∥₁_map stands (λ (w : Settled (channel_of_connection old)). absurd (h w))
      by fault.NotWritable k is h = ∥∥₁_map stands (λ (w : Settled (channel_of_connection old)). absurd (h w))
      by fault.Read k is h = absurd cc
      by fault.Write k is h = absurd cc
      by fault.Ended k is h = absurd cc
      by (fault.Peer code) k is h = absurd cc
      by (fault.Refused code) k is h = absurd cc
      by fault.UnknownResponse k is h = absurd cc
      by fault.Closed k is h = absurd cc
      by fault.OutOfMemory k is h = absurd cc
      by fault.TooLong k is h = absurd cc

-- What a client of `ua_client` does: it opens its channel, and then makes operations, each after it
-- took the answers to those before; of the last operation it may have sent a part, and have taken a
-- part of the answers.
use Rattle.std.specs.Prelude.{◌≡◌, ℕ, ◌<◌, ◌≤◌, ◌++◌, IsTrue, List, [], ◌∷◌, length, map, Option, Some, None}
use Rattle.ua_builtin.specs.DateTime.{date_time}
use Rattle.ua_builtin.specs.declared.date_time.DateTime.{DateTime}
use Rattle.ua_frame.specs.Run.{Going}
use Rattle.ua_frame.specs.declared.limits.Limits.{Limits}
use Rattle.ua_channel.specs.Asks.{Placed}
use Rattle.ua_channel.specs.Client.{client_limits}
use Rattle.ua_channel.specs.Received.{listed}
use Rattle.ua_channel.specs.ServerStands.{Goes, channel_of, limits_of}
use Rattle.ua_channel.specs.ServerTold.{Told}
use Rattle.ua_channel.specs.declared.client.channel.ClientChannel.{ClientChannel}
use Rattle.ua_channel.specs.declared.server.ServerChannel.{ServerChannel}
use Rattle.ua_channel_laws.specs.Outgoing.Outgoing.{CallWith, RenewalAt}
use Rattle.ua_channel_laws.specs.Outgoing.{Outgoing}
use Rattle.ua_server.specs.Said.{output_of}
use Rattle.ua_services.specs.declared.request.Request.{Request}
use Rattle.ua_client.specs.Calls.{Answered, LastCame, asked_at, refusal_at, sent_at}
use Rattle.ua_client.specs.ClientPlace.{ClientPlace, StandsAt, id_at}
use Rattle.ua_client.specs.Opening.{IsOpened, hello_octets, open_frame_octets}
use Rattle.ua_client.specs.Renewing.{IsRenewed, asks_renewed, renewal_at, renewal_refusal}
use Rattle.ua_client.specs.Sent.{bodies_of}
use Rattle.ua_client.specs.declared.reply.Reply.{Reply}
use Rattle.ua_headline.specs.Talk.{CanOpen, Ends, IsPrefix}

-- one operation: the client calls these requests at once, or renews the token of its channel at
-- this time
pub data Deed : Type 0 where
  Calls : (requests : List Request) → Deed
  Renews : (time : DateTime) → Deed

-- what it sends in that operation
abbrev pub turn_of : Deed → List Outgoing
turn_of (Calls requests) = map CallWith (bodies_of requests)
turn_of (Renews time) = RenewalAt time ∷ []

-- there is nothing against it in the state of the client; it calls 1 to 64 requests at once
abbrev pub IsAskable : ClientPlace → Deed → Type 0
IsAskable m (Calls requests) = (0 < length requests) × (length requests ≤ 64) × (refusal_at m requests ≡ None)
IsAskable m (Renews time) = IsTrue (date_time.encodable time) × (renewal_refusal m ≡ None)

-- its bytes there
abbrev pub deed_octets : ClientPlace → Deed → List ℕ
deed_octets m (Calls requests) = sent_at m requests
deed_octets m (Renews time) = renewal_at m time

-- the client's operations after this one there
abbrev pub asks_with : ClientPlace → Deed → List Placed
asks_with m (Calls requests) = asked_at m requests
asks_with m (Renews time) = asks_renewed m

-- calls that were made in the first state are answered, and a client with these limits has the
-- second, in which the last reply came
pub record AreAnswered (limits : Limits) (m t : ClientPlace) (requests : List Request) : Type 0 where
  pub x : ClientChannel
  pub limits_are : client_limits x ≡ limits
  pub at : StandsAt x t
  pub came : LastCame x requests (id_at m) t.asks t.octets t.told
  pub taken : List ℕ
  pub replies : List Reply
  pub answered : Answered requests m t taken replies

-- a renewal is
pub record HasRenewed (limits : Limits) (m t : ClientPlace) : Type 0 where
  pub x : ClientChannel
  pub limits_are : client_limits x ≡ limits
  pub taken : List ℕ
  pub renewed : IsRenewed x m t taken

-- an operation is answered
abbrev pub IsAnsweredAt : Limits → ClientPlace → ClientPlace → Deed → Type 0
IsAnsweredAt limits m t (Calls requests) = AreAnswered limits m t requests
IsAnsweredAt limits m t (Renews time) = HasRenewed limits m t

-- a client with these limits in the first state did these operations, each after it took the
-- answers to those before; it sent these bytes, and then has the second state
abbrev pub Did : Limits → ClientPlace → List Deed → ClientPlace → List ℕ → Type 0
Did limits m [] t sent = (t ≡ m) × (sent ≡ [])
Did limits m (d ∷ deeds) t sent =
    IsAskable m d
    × ((next : ClientPlace) × (more : List ℕ) × IsAnsweredAt limits m next d × (sent ≡ deed_octets m d ++ more) × Did limits next deeds t more)

-- of an operation that it makes there now, if it makes one, it asked this, and sent these bytes,
-- all or a part
abbrev pub IsDoing : ClientPlace → Option Deed → List Placed → List ℕ → Type 0
IsDoing m None asks sent = (asks ≡ m.asks) × (sent ≡ [])
IsDoing m (Some d) asks sent = IsAskable m d × (asks ≡ asks_with m d) × IsPrefix sent (deed_octets m d)

-- its operations
abbrev pub turns_of : List Deed → Option Deed → List (List Outgoing)
turns_of deeds now = map turn_of (deeds ++ listed now)

-- a client that opened its channel did these operations, and makes this one: what it asked, what it
-- took and what it sent
pub record DidSoFar (e : Ends) (deeds : List Deed) (now : Option Deed) (asks : List Placed) (got sent : List ℕ) : Type 0 where
  pub x : ClientChannel
  pub limits_are : client_limits x ≡ e.client
  pub first : ClientPlace
  pub at : StandsAt x first
  pub opens : IsOpened x first.octets
  pub none_asked : first.asks ≡ []
  pub number_is : first.number ≡ 2
  pub last : ClientPlace
  pub done : List ℕ
  pub did : Did e.client first deeds last done
  pub part : List ℕ
  pub doing : IsDoing last now asks part
  pub taken : List ℕ
  pub got_is : got ≡ last.octets ++ taken
  pub sent_is : sent ≡ (hello_octets e.client e.url ++ open_frame_octets e.opened) ++ (done ++ part)

-- such a client over an honest link to such a server: what the server took is a prefix of what the
-- client sent, and what the client received a prefix of what the server wrote, by what it was told
pub record IsLinked (e : Ends) (deeds : List Deed) (now : Option Deed) (x : ServerChannel) (asks : List Placed) (got : List ℕ) : Type 0 where
  pub can : CanOpen e
  pub limits_are : limits_of x ≡ e.server
  pub channel_is : channel_of x ≡ e.channel
  pub sent : List ℕ
  pub did : DidSoFar e deeds now asks got sent
  pub took : List ℕ
  pub took_is : IsPrefix took sent
  pub told : List Told
  pub goes : Goes x took told
  pub got_is : IsPrefix got (output_of e.channel e.first told Going e.times)

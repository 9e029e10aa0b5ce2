-- What a program did that calls a `Client`, over any transport, also one that does not tell its bytes,
-- as a socket.
use Rattle.std.specs.Prelude.{◌≡◌, ◌⊎◌, ◌<◌, ◌++◌, ℕ, false, List, [], ◌∷◌, length, map, Option, Some, None}
use Rattle.ua_builtin.specs.declared.date_time.DateTime.{DateTime}
use Rattle.ua_builtin.specs.declared.node_id.NodeId.{NodeId}
use Rattle.ua_frame.specs.Run.{Going}
use Rattle.ua_channel.specs.Asks.{Placed}
use Rattle.ua_channel.specs.Client.{client_limits, url_of}
use Rattle.ua_channel.specs.ServerStands.{Goes, channel_of, limits_of}
use Rattle.ua_channel.specs.ServerTold.{Told}
use Rattle.ua_channel.specs.declared.server.ServerChannel.{ServerChannel}
use Rattle.ua_channel_laws.specs.Outgoing.Outgoing.{CallWith}
use Rattle.ua_channel_laws.specs.Outgoing.{Outgoing}
use Rattle.ua_server.specs.Said.{output_of}
use Rattle.ua_services.specs.Request.{kind_of_request, request}
use Rattle.ua_services.specs.SessionRequests.{activate_session_as, create_session}
use Rattle.ua_services.specs.declared.request.Request.{Request}
use Rattle.ua_client.specs.Calls.{AreGroups, all_of}
use Rattle.ua_client.specs.Client.{client_channel, connection_of, ends_client}
use Rattle.ua_client.specs.ClientPlace.{StandsAt}
use Rattle.ua_client.specs.Hearing.{untaken_of}
use Rattle.ua_client.specs.Replies.{IsReplyBy}
use Rattle.ua_client.specs.declared.client.Client.{Client}
use Rattle.ua_client.specs.declared.fault.ClientFault.{ClientFault}
use Rattle.ua_client.specs.declared.fault.ClientFault.TheVariants as fault
use Rattle.ua_client.specs.declared.reply.Reply.{Reply}
use Rattle.ua_headline.specs.Clients.{Deed, DidSoFar, turn_of}
use Rattle.ua_headline.specs.Clients.Deed.{Calls}
use Rattle.ua_headline.specs.EachCall.{id_after, operations_of, reply_to_call}
use Rattle.ua_headline.specs.Talk.{CanOpen, Ends, IsPrefix}

-- ---- so far

-- so far a client read these bytes from its transport and wrote those: it did these operations, and
-- makes this one; of what it read its channel took the first, and the client still has the others
pub record HasDone (e : Ends) (deeds : List Deed) (now : Option Deed) (x : Client) (read written : List ℕ) : Type 0 where
  pub limits_are : client_limits (client_channel x) ≡ e.client
  pub url_is : url_of (client_channel x) ≡ e.url
  pub asks : List Placed
  pub taken : List ℕ
  pub did : DidSoFar e deeds now asks taken written
  pub read_is : read ≡ taken ++ untaken_of (connection_of x)

-- it did these operations and makes none: its channel has the state behind the answers to all of
-- them, and took nothing more
pub record HasDoneAll (e : Ends) (deeds : List Deed) (x : Client) (read written : List ℕ) : Type 0 where
  pub done : HasDone e deeds None x read written
  pub at : StandsAt (client_channel x) done.did.last
  pub just_taken : done.taken ≡ done.did.last.octets

-- ---- faults

-- what a client still makes after a fault of an operation: none, if it refused that; if an
-- allocation failed, none or that; after each other fault that
abbrev pub MakesStill : ClientFault → Deed → Option Deed → Type 0
MakesStill fault.TooLarge d now = now ≡ None
MakesStill fault.NotWritable d now = now ≡ None
MakesStill fault.Exhausted d now = now ≡ None
MakesStill fault.TooManyTokens d now = now ≡ None
MakesStill fault.OutOfMemory d now = (now ≡ None) ⊎ (now ≡ Some d)
MakesStill other d now = now ≡ Some d

-- after these operations this one failed; if the client may be called after such a fault, it makes
-- none
pub record FailsAfter (e : Ends) (deeds : List Deed) (d : Deed) (f : ClientFault) (x : Client) (read written : List ℕ) : Type 0 where
  pub now : Option Deed
  pub now_is : MakesStill f d now
  pub done : HasDone e deeds now x read written
  pub rests : ends_client f ≡ false → HasDoneAll e deeds x read written

-- the server sent an ERR, or the client refused what came
abbrev pub IsRejected : ClientFault → Type 0
IsRejected (fault.Peer code) = Unit {0}
IsRejected (fault.Refused code) = Unit {0}
IsRejected other = ⊥

-- ---- calls of requests

-- requests are called in these groups: each but the last has 64
abbrev pub AreGroupsOf : List Request → List (List Request) → Type 0
AreGroupsOf requests groups = (requests ≡ all_of groups) × AreGroups groups

-- after these operations a call of requests failed: in a group, after those before it
pub record FailsInGroup (e : Ends) (deeds : List Deed) (requests : List Request) (f : ClientFault) (x : Client) (read written : List ℕ) : Type 0 where
  pub groups : List (List Request)
  pub group : List Request
  pub others : List Request
  pub parts : requests ≡ all_of groups ++ (group ++ others)
  pub sized : AreGroups (groups ++ group ∷ [])
  pub full : 0 < length others → length group ≡ 64
  pub fails : FailsAfter e (deeds ++ map Calls groups) (Calls group) f x read written

-- each reply is the server's, to its own request, after these operations: its response to that
-- request, or that it aborted this as too large
abbrev pub AreServersReplies : Ends → List Outgoing → List Request → List Reply → Type 0
AreServersReplies e before [] [] = Unit {0}
AreServersReplies e before [] (reply ∷ replies) = ⊥
AreServersReplies e before (m ∷ requests) [] = ⊥
AreServersReplies e before (m ∷ requests) (reply ∷ replies) =
    IsReplyBy (kind_of_request m) (id_after before) (reply_to_call e before (request.canonical m)) reply
    × AreServersReplies e (before ++ CallWith (request.canonical m) ∷ []) requests replies

-- ---- a session

-- a session is begun at this time after these operations: by CreateSession
abbrev pub creating_after : Ends → List Deed → DateTime → Deed
creating_after e deeds moment = Calls (create_session e.url moment (id_after (operations_of (map turn_of deeds))) ∷ [])

-- and after that by ActivateSession, by the token policy with this PolicyId, under the token that
-- CreateSession brought
abbrev pub activating_after : List Deed → Option (List ℕ) → NodeId → DateTime → Deed
activating_after deeds policy_id token moment = Calls (activate_session_as policy_id token moment (id_after (operations_of (map turn_of deeds))) ∷ [])

-- these operations and CreateSession
abbrev pub with_creating : Ends → List Deed → DateTime → List Deed
with_creating e deeds moment = deeds ++ creating_after e deeds moment ∷ []

-- after these operations this one failed; where its service failed, by Service, it was answered
abbrev pub FailsService : Ends → List Deed → Deed → ClientFault → Client → List ℕ → List ℕ → Type 0
FailsService e deeds d (fault.Service code) x read written = HasDoneAll e (deeds ++ d ∷ []) x read written
FailsService e deeds d other x read written = FailsAfter e deeds d other x read written

-- ---- a connection

-- a client and such a server are at the ends of one connection, as TCP gives it: what the server
-- took is a prefix of what the client wrote, and what the client read is a prefix of what the
-- server wrote, by what it was told
pub record IsOneConnection (e : Ends) (x : ServerChannel) (read written : List ℕ) : Type 0 where
  pub can : CanOpen e
  pub limits_are : limits_of x ≡ e.server
  pub channel_is : channel_of x ≡ e.channel
  pub took : List ℕ
  pub took_is : IsPrefix took written
  pub told : List Told
  pub goes : Goes x took told
  pub read_is : IsPrefix read (output_of e.channel e.first told Going e.times)

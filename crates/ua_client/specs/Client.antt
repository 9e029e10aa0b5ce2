-- A client: when it is done, its state, how it is opened and closed.
use Rattle.std.specs.Prelude.{◌≡◌, ℕ, Bool, true, false, List, [], Option, Some, None, Result, Ok, Err}
use Rattle.ua_builtin.specs.declared.date_time.DateTime.{DateTime}
use Rattle.ua_frame.specs.Frames.{frame_octets}
use Rattle.ua_frame.specs.declared.limits.Limits.{Limits}
use Rattle.ua_chunk.specs.declared.lane.Lane.{Lane}
use Rattle.ua_channel.specs.Client.{ClientGoes, client_limits, url_of, client_next}
use Rattle.ua_channel.specs.ClientSends.{close_frame}
use Rattle.ua_channel.specs.Line.{Traffic, IfTrafficKnown}
use Rattle.ua_channel.specs.declared.client.channel.ClientChannel.{ClientChannel}
use Rattle.ua_client.specs.ClientPlace.{ClientPlace, StandsAt, id_at, lane_behind}
use Rattle.ua_client.specs.Carried.{Carries, IsPart}
use Rattle.ua_client.specs.Hearing.{channel_of_connection, untaken_of}
use Rattle.ua_client.specs.Opening.{Opens}
use Rattle.ua_client.specs.declared.client.Client.{Client}
use Rattle.ua_client.specs.declared.connection.Connection.{Connection}
use Rattle.ua_client.specs.declared.fault.ClientFault.{ClientFault}
use Rattle.ua_client.specs.declared.fault.ClientFault.TheVariants as fault

-- ---- a client, which is a channel over a transport and whether it is done

-- the connection of a client
abbrev pub connection_of : Client → Connection
connection_of x = x.connection

-- the channel of a client
abbrev pub client_channel : Client → ClientChannel
client_channel x = x.connection.channel

-- a client that failed or was closed
abbrev pub HasFailedOrClosed : Client → Type 0
HasFailedOrClosed x = x.is_done ≡ true

-- a client that may be called
abbrev pub IsReady : Client → Type 0
IsReady x = x.is_done ≡ false

-- a client is done after this fault: after all faults except those of calls that were refused, and
-- that of a service that failed
abbrev pub ends_client : ClientFault → Bool
ends_client (fault.Service code) = false
ends_client fault.TooLarge = false
ends_client fault.NotWritable = false
ends_client fault.Exhausted = false
ends_client fault.TooManyTokens = false
ends_client other = true

-- a client after a call: it may be called again, except after a fault after which it is done
abbrev pub IsLeft : {A : Type 0} → Result A ClientFault → Client → Type 0
IsLeft (Ok found) x = x.is_done ≡ false
IsLeft (Err f) x = x.is_done ≡ ends_client f

-- ---- opening

-- a connection over which nothing was sent and nothing came, to the server of a URL
pub record IsFresh (limits : Limits) (url : Option (List ℕ)) (x : Connection) : Type 0 where
  pub goes : ClientGoes (channel_of_connection x) [] [] []
  pub untaken : untaken_of x ≡ []
  pub limits_are : client_limits (channel_of_connection x) ≡ limits
  pub url_is : url_of (channel_of_connection x) ≡ url
  pub next_is : client_next (channel_of_connection x) ≡ 2

-- a client was opened over this connection
abbrev pub IsOpenedOver : Result Client ClientFault → Connection → Type 0
IsOpenedOver (Ok x) last = (connection_of x ≡ last) × (x.is_done ≡ false)
IsOpenedOver (Err f) last = Unit {0}

-- what was done to open a client
pub record OpensClient (limits : Limits) (url : Option (List ℕ)) (moment : DateTime) (before after : Option Traffic)
    (result : Result Client ClientFault) : Type 0 where
  pub begun : Connection
  pub fresh : IsFresh limits url begun
  pub last : Connection
  pub opens : Opens moment begun last before after result
  pub over : IsOpenedOver result last

-- nothing was done, since an allocation failed
abbrev pub OpensNothing : Option Traffic → Option Traffic → Result Client ClientFault → Type 0
OpensNothing before after result = (result ≡ Err fault.OutOfMemory) × (after ≡ before)

-- ---- closing

-- the CLO of a channel at this time, after what was received and requested, with this
-- SequenceNumber (OPC 10000-6, 7.1.4)
abbrev pub closing_by : Option Lane → ℕ → ℕ → DateTime → List ℕ
closing_by None number id moment = []
closing_by (Some lane) number id moment = frame_octets (close_frame lane.channel lane.token number id moment)

-- the CLO of a client in this state
abbrev pub closing_at : ClientPlace → DateTime → List ℕ
closing_at s moment = closing_by (lane_behind s.before) s.number (id_at s) moment

-- what a close writes: the CLO, or after a fault a part of it, or none of it
abbrev pub ClosesChannelAt : {A : Type 0} → ClientPlace → DateTime → List ℕ → Result A ClientFault → Type 0
ClosesChannelAt s moment sent (Ok done) = sent ≡ closing_at s moment
ClosesChannelAt s moment sent (Err fault.Write) = IsPart sent (closing_at s moment)
ClosesChannelAt s moment sent (Err fault.OutOfMemory) = sent ≡ []
ClosesChannelAt s moment sent (Err other) = ⊥

-- a close: nothing is read
pub record Closes {A : Type 0} (moment : DateTime) (old : ClientChannel) (before after : Option Traffic) (result : Result A ClientFault) : Type 0 where
  pub sent : List ℕ
  pub carried : IfTrafficKnown (Carries [] sent) before after
  pub answers : (s : ClientPlace) → StandsAt old s → ClosesChannelAt s moment sent result

-- The channel of a server, and the state that a connection sees.
use Rattle.std.specs.Prelude.{Option}
use Rattle.ua_channel.specs.declared.server.ServerChannel.{ServerChannel}
use Rattle.ua_server.specs.State.{State, with_session}
use Rattle.ua_server.specs.declared.connection.Connection.{Connection}
use Rattle.ua_server.specs.declared.server.Server.{Server}
use Rattle.ua_server.specs.declared.session.Session.{Session}
use Rattle.ua_server.specs.declared.session.SessionSlot.{SessionSlot}

-- the channel of a server
abbrev pub channel_in : Server → ServerChannel
channel_in x = x.channel

-- the channel of a connection
abbrev pub channel_at : Connection → ServerChannel
channel_at x = x.server.channel

-- the session in a slot, if there is one
abbrev pub session_in : SessionSlot → Option Session
session_in x = x.session

-- the session of a connection, if there is one
abbrev pub session_at : Connection → Option Session
session_at x = x.slot.session

-- the state as a connection sees it: with its own session
abbrev pub with_own_session : Connection → State → State
with_own_session x s = with_session s x.slot.session

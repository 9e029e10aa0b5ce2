-- The states of both ends of a connection that keep to the protocol.
use Rattle.std.specs.Prelude.{◌≡◌, ℕ, List, Option, IsTrue}
use Rattle.ua_frame.specs.Agreement.{ack_to}
use Rattle.ua_frame.specs.declared.limits.Limits.{Limits}
use Rattle.ua_chunk.specs.declared.lane.Lane.{Lane}
use Rattle.ua_channel.specs.Agreement.{agreement_of, lane_of}
use Rattle.ua_channel.specs.Asks.{is_in}
use Rattle.ua_channel_laws.specs.ClientReads.{AtClient}
use Rattle.ua_channel.specs.ClientSends.{hello_to}
use Rattle.ua_channel_laws.specs.ServerReads.{AtServer, IsTakenAt}

-- a server and a client with these limits, for this URL and on this channel, are in step in these
-- states
pub record AreInStep (server client : Limits) (url : Option (List ℕ)) (channel : ℕ) (s : AtServer) (c : AtClient) : Type 0 where
  -- the server has the client's Hello, and the client the Acknowledge of it
  pub hello_is : s.hello ≡ hello_to client url
  pub ack_is : c.ack ≡ ack_to (hello_to client url) server
  pub channel_is : c.channel ≡ channel
  -- the server accepts the client's newest token, and the client holds the one that the server last
  -- saw used
  pub taken : IsTakenAt s c.newest
  pub held : IsTrue (is_in s.used c.tokens)

-- the lane of the server's replies there: under the last token used
abbrev pub lane_back : Limits → ℕ → AtServer → Lane
lane_back server channel s = lane_of channel s.used (agreement_of server s.hello)

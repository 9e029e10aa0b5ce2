-- What a channel was told of octets that an end reads.
use Rattle.std.proofs.Common.{◌≡◌, ℕ, List, [], ◌++◌}
use Rattle.ua_frame.specs.Run.{Going}
use Rattle.ua_channel.specs.Asks.{Placed}
use Rattle.ua_channel.specs.Client.{client_limits, client_rules_of, ClientEnded, ClientGoes}
use Rattle.ua_channel_laws.specs.ClientReads.{AtClient, ClientReads}
use Rattle.ua_channel.specs.ClientTold.{ClientTold, Why}
use Rattle.ua_channel_laws.specs.ServerReads.{AtServer, ServerReads}
use Rattle.ua_channel.specs.ServerStands.{ClosedAt, Goes, RefusedAt, channel_of, limits_of, rules_of}
use Rattle.ua_channel.specs.ServerTold.{Told}
use Rattle.ua_channel.specs.declared.client.channel.ClientChannel.{ClientChannel}
use Rattle.ua_channel.specs.declared.server.ServerChannel.{ServerChannel}
use Rattle.ua_channel_laws.proofs.ReadOn.{begins, never_refused, not_over, same_told}

-- ---- a server

pub server_begins : (x : ServerChannel) (octets more : List ℕ) (told all : List Told) (at : AtServer) → Goes x octets told
    → ServerReads (limits_of x) (channel_of x) (octets ++ more) all at → (later : List Told) × (all ≡ told ++ later)
server_begins x octets more told all at g r = begins (rules_of x) octets more g.frames r.frames g.rest told all Going g.stands.run g.told_is r.run r.told_is

pub server_told : (x : ServerChannel) (octets : List ℕ) (told all : List Told) (at : AtServer) → Goes x octets told
    → ServerReads (limits_of x) (channel_of x) octets all at → told ≡ all
server_told x octets told all at g r = same_told (rules_of x) octets g.frames r.frames g.rest [] told all g.stands.run r.run g.told_is r.told_is

pub server_not_refused : (x : ServerChannel) (octets more : List ℕ) (told all : List Told) (at : AtServer) (code : ℕ) → RefusedAt x octets told code
    → ServerReads (limits_of x) (channel_of x) (octets ++ more) all at → ⊥
server_not_refused x octets more told all at code e r = never_refused (rules_of x) octets more e.frames r.frames e.rest code Going (λ s. cc) e.run r.run

pub server_not_closed : (x : ServerChannel) (octets more : List ℕ) (told all : List Told) (at : AtServer) → ClosedAt x octets told
    → ServerReads (limits_of x) (channel_of x) (octets ++ more) all at → ⊥
server_not_closed x octets more told all at e r = not_over (rules_of x) octets more e.frames r.frames [] e.run r.run

-- ---- a client

pub client_begins : (x : ClientChannel) (asks : List Placed) (octets more : List ℕ) (told all : List ClientTold) (at : AtClient) → ClientGoes x asks octets told
    → ClientReads (client_limits x) asks (octets ++ more) all at
    → (later : List ClientTold) × (all ≡ told ++ later)
client_begins x asks octets more told all at g r = begins (client_rules_of x asks) octets more g.frames r.frames g.rest told all Going g.stands.run g.told_is
    r.run r.told_is

pub client_told : (x : ClientChannel) (asks : List Placed) (octets : List ℕ) (told all : List ClientTold) (at : AtClient) → ClientGoes x asks octets told
    → ClientReads (client_limits x) asks octets all at → told ≡ all
client_told x asks octets told all at g r = same_told (client_rules_of x asks) octets g.frames r.frames g.rest [] told all g.stands.run r.run g.told_is
    r.told_is

pub client_not_failed : (x : ClientChannel) (asks : List Placed) (octets more : List ℕ) (told all : List ClientTold) (at : AtClient) (why : Why)
    → ClientEnded x asks octets told why → ClientReads (client_limits x) asks (octets ++ more) all at → ⊥
client_not_failed x asks octets more told all at why e r = never_refused (client_rules_of x asks) octets more e.frames r.frames e.rest why Going
    (λ s. cc) e.run r.run

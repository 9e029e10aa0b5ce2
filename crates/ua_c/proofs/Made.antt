-- Servers and clients as they begin.
use Rattle.std.proofs.Common.{◌≡◌, ◌∙◌, ℕ, List, [], Option, Some, IsTrue, refl, subst, inl}
use Rattle.ua_channel.specs.Client.{ClientStands, client_limits, client_next, url_of}
use Rattle.ua_channel.specs.declared.client.channel.ClientChannel.{ClientChannel}
use Rattle.ua_frame.specs.declared.limits.Limits.{Limits}
use Rattle.ua_wire.specs.Counted.{text}
use Rattle.ua_c.specs.Limits.{AreEnough, AreThese}
use Rattle.ua_c.specs.Making.{IsStation, MakesClient, MakesServer, Seats}
use Rattle.ua_c.specs.Texts.{IsStringOf}
use Rattle.ua_c.specs.declared.holding.Holding.{Holding}
use Rattle.ua_c.specs.declared.holding.Machine.TheVariants as machine
use Rattle.ua_c.specs.declared.limits.UaLimits.{UaLimits}
use Rattle.ua_c.specs.declared.station.Station.{Station}

-- the same URL, as it came
as_it_came : (octets : List ℕ) (url : Option (List ℕ)) → IsStringOf octets url → IsStringOf octets (Some octets)
as_it_came octets url u = record { is = refl; utf8 = u.utf8; writable = subst (λ (t : Option (List ℕ)). IsTrue (text.encodable t)) u.is u.writable }

-- a client was made
pub client_made : (limits : UaLimits) (octets : List ℕ) (old new : Option Holding) (status : ℕ) (these : Limits) (url : Option (List ℕ))
    (client : ClientChannel)
    → AreEnough limits → AreThese limits these → IsStringOf octets url → ClientStands client [] [] [] [] → client_limits client ≡ these → url_of client ≡ url
    → client_next client ≡ 2
    → Seats (machine.Client client) old new status → MakesClient limits octets old new status
client_made limits octets old new status these url client enough are u stands limits_is url_is next_is seated = inl (record {
  these = these;
  client = client;
  enough = enough;
  are_these = are;
  is_url = as_it_came octets url u;
  made = record { stands = stands; limits_is = limits_is; url_is = url_is ∙ u.is; next_is = next_is };
  seated = seated;
})

-- a server was made
pub server_made : (nodes : List ℕ) (limits : UaLimits) (url : List ℕ) (channel : ℕ) (old new : Option Holding) (line status : ℕ) (these : Limits)
    (station : Station)
    → AreEnough limits → AreThese limits these → IsStation nodes these url channel station → line ≡ 0 → Seats (machine.Server station) old new status
    → MakesServer nodes limits url channel old new line status
server_made nodes limits url channel old new line status these station enough are made no_line seated = inl (record {
  these = these;
  station = station;
  enough = enough;
  are_these = are;
  made = made;
  no_line = no_line;
  seated = seated;
})

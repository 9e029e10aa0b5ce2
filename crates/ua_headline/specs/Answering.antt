-- When a call of a client over a transport to a server is answered.
use Rattle.std.specs.Prelude.{ℕ, ◌<◌, ◌++◌, List, length, Option, Result, Ok, Err}
use Rattle.ua_channel.specs.Line.{Traffic}
use Rattle.ua_client.specs.Hearing.{most_reads}
use Rattle.ua_client.specs.declared.fault.ClientFault.{ClientFault}
use Rattle.ua_client.specs.declared.fault.ClientFault.TheVariants as fault
use Rattle.ua_loopback.specs.Beginning.{Beginning}
use Rattle.ua_loopback.specs.Says.{server_output}
use Rattle.ua_loopback.specs.Talking.{IsSentOver}

-- in a call neither the transport failed nor an allocation
abbrev pub HasNoFailure : {A : Type 0} → Result A ClientFault → Type 0
HasNoFailure (Ok found) = Unit {0}
HasNoFailure (Err fault.Read) = ⊥
HasNoFailure (Err fault.Write) = ⊥
HasNoFailure (Err fault.OutOfMemory) = ⊥
HasNoFailure (Err other) = Unit {0}

-- for these bytes and those that were sent after them, between two times, such a server sends fewer
-- bytes than a call may make reads
abbrev pub SendsFew : Beginning → List ℕ → Option Traffic → Option Traffic → Type 0
SendsFew b octets before after = (sent : List ℕ) → IsSentOver sent before after → length (server_output b (octets ++ sent)) < most_reads

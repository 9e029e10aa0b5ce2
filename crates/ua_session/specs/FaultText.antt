-- The names of faults of a client, as they are told.
use Rattle.std.specs.Prelude.{ℕ, List, Option, Some, None, codes}
use Rattle.ua_builtin.specs.declared.status_code.StatusCode.{StatusCode}
use Rattle.ua_client.specs.declared.fault.ClientFault.{ClientFault}
use Rattle.ua_client.specs.declared.fault.ClientFault.TheVariants as client

-- the name of a fault
abbrev pub name_of : ClientFault → List ℕ
name_of client.Read = codes "Read"
name_of client.Write = codes "Write"
name_of client.Ended = codes "Ended"
name_of (client.Peer code) = codes "Peer"
name_of (client.Refused code) = codes "Refused"
name_of client.UnknownResponse = codes "UnknownResponse"
name_of (client.Service code) = codes "Service"
name_of client.TooLarge = codes "TooLarge"
name_of client.NotWritable = codes "NotWritable"
name_of client.Exhausted = codes "Exhausted"
name_of client.Closed = codes "Closed"
name_of client.OutOfMemory = codes "OutOfMemory"
name_of client.TooLong = codes "TooLong"
name_of client.TooManyTokens = codes "TooManyTokens"

-- the code that a fault has, if it has one
abbrev pub code_in : ClientFault → Option StatusCode
code_in (client.Peer code) = Some code
code_in (client.Refused code) = Some code
code_in (client.Service code) = Some code
code_in other = None

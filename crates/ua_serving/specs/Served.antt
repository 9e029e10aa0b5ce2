-- The lines of `ua serve`, and what it answers from.
use Rattle.std.specs.Prelude.{◌≡◌, ◌<◌, ◌+◌, ◌⊎◌, ℕ, ℤ, pos, suc, Bool, true, false, ◌||◌, ⊤, List, []}
use Rattle.std.specs.Prelude.{◌∷◌, ◌++◌, length, flat_map, Option, Some, None, Result, Ok, Err, codes}
use Rattle.std.specs.Fmt.{decimal}
use Rattle.std.specs.Io.KnownBytes.{Appends}
use Rattle.std.specs.List.{AllByRecursion}
use Rattle.std.specs.Ordering.{int_eq}
use Rattle.ua_exchange.specs.Programs.{AreOurs, message_size}
use Rattle.ua_frame.specs.declared.limits.Limits.{Limits}
use Rattle.ua_frame.specs.Limits.{with_responses}
use Rattle.ua_nodes.specs.NodeFile.{WriteNodes, node_lines}
use Rattle.ua_nodes.specs.Table.{Nodes}
use Rattle.ua_services.specs.SessionRequests.{local_url}
use Rattle.ua_pair.specs.Encodings.{encodings}
use Rattle.ua_texts.specs.Names.{name_in, name_part}
use Rattle.ua_server.specs.State.{State, fresh, with_memory_limit}
use Rattle.ua_server.specs.declared.endpoint.Endpoint.{Endpoint}
use Rattle.ua_server.specs.declared.serve_fault.ServeFault.{ServeFault}
use Rattle.ua_server.specs.declared.serve_fault.ServeFault.TheVariants.{Read, Write, OutOfMemory, TooLong}
use Rattle.ua_server.specs.declared.step.End.{End}
use Rattle.ua_server.specs.declared.step.End.TheVariants.{Closed, NoClose, Cut, Refused}
use Rattle.ua_server.specs.declared.watch.AnsweredRequest.{AnsweredRequest}
use Rattle.ua_services.specs.Request.{request_kind_name}
use Rattle.ua_services.specs.declared.request.RequestKind.{RequestKind}
use Rattle.ua_texts.specs.Shown.{code_text}
use Rattle.ua_serving.specs.declared.serve.Halt.{Halt}
use Rattle.ua_serving.specs.declared.serve.Halt.TheVariants.{Memory, Output}
use Rattle.ua_serving.specs.declared.serve.RequestLines.{RequestLines}

-- ---- what is served

-- how the program describes itself on a port of this machine
abbrev pub endpoint_on : ℕ → Endpoint
endpoint_on port = record {
  url = Some (local_url port);
  application_uri = Some (codes "urn:ua:server");
  name = Some (codes "ua");
  message_limit = message_size;
}

-- no session was made yet, over the nodes that the lines of this text define
pub record BeginsWith (text : List ℕ) (port : ℕ) (services : State) : Type 0 where
  pub nodes : Nodes
  pub written : WriteNodes (node_lines text) nodes
  pub is : services ≡ fresh nodes (endpoint_on port)

-- the services with this limit of memory, if there is one
abbrev pub limited_to : Option ℕ → State → State
limited_to None s = s
limited_to (Some most) s = with_memory_limit s most

-- ---- lines

-- the outcome of a connection; nothing is printed of one at which an allocation failed
abbrev pub outcome_text : Result End ServeFault → Option (List ℕ)
outcome_text (Ok Closed) = Some (codes "Closed")
outcome_text (Ok NoClose) = Some (codes "NoClose")
outcome_text (Ok Cut) = Some (codes "Cut")
outcome_text (Ok (Refused status)) = Some (codes "Refused " ++ code_text status.code)
outcome_text (Err Read) = Some (codes "Read")
outcome_text (Err (Write n)) = Some (codes "Write")
outcome_text (Err TooLong) = Some (codes "TooLong")
outcome_text (Err OutOfMemory) = None

-- the outcome of a connection is appended to a text
pub record AddsOutcome (outcome : Result End ServeFault) (old new : List ℕ) : Type 0 where
  pub text : List ℕ
  pub text_is : outcome_text outcome ≡ Some text
  pub added : new ≡ old ++ text

-- the line of a connection: its number, and its outcome
unfoldable pub connection_line : ℕ → List ℕ → List ℕ
connection_line number outcome = codes "connection " ++ decimal number ++ codes " " ++ outcome ++ codes "\n"

-- the limits of the program, with so many bytes as the most of a response's body, 0 for any
pub record IsLimitedTo (most : ℕ) (limits : Limits) : Type 0 where
  pub own : Limits
  pub ours : AreOurs own
  pub limits_are : limits ≡ with_responses own most

-- the line of a connection that was served with this outcome, under these limits
pub record TellsOf (number most : ℕ) (Served : Limits → Result End ServeFault → Type 0) (line : List ℕ) : Type 0 where
  pub limits : Limits
  pub limited : IsLimitedTo most limits
  pub outcome : Result End ServeFault
  pub served : Served limits outcome
  pub text : List ℕ
  pub text_is : outcome_text outcome ≡ Some text
  pub line_is : line ≡ connection_line number text

-- the line of a connection that ended in this way
pub record SaysOutcome (number : ℕ) (outcome : Result End ServeFault) (line : List ℕ) : Type 0 where
  pub text : List ℕ
  pub text_is : outcome_text outcome ≡ Some text
  pub line_is : line ≡ connection_line number text

-- the text tells the outcome of a connection
pub record IsOutcomeText (text : List ℕ) : Type 0 where
  pub outcome : Result End ServeFault
  pub text_is : outcome_text outcome ≡ Some text

-- the text for a connection at which an allocation failed, if the next one is served
abbrev pub no_memory_text : List ℕ
no_memory_text = codes "NoMemory"

-- the text for a connection: its outcome, or that an allocation failed at it, if the server goes on
abbrev pub IsSaid : Bool → List ℕ → Type 0
IsSaid goes_on text = IsOutcomeText text ⊎ ((goes_on ≡ true) × (text ≡ no_memory_text))

-- the line of a connection, whatever its outcome
pub record IsConnectionLine (number : ℕ) (line : List ℕ) : Type 0 where
  pub text : List ℕ
  pub is : IsOutcomeText text
  pub line_is : line ≡ connection_line number text

-- ---- lines of requests

-- the name of a kind of request; none is that of a message that is no request of these services
abbrev pub kind_name : Option RequestKind → List ℕ
kind_name None = codes "unknown"
kind_name (Some kind) = request_kind_name kind

-- the id of the encoding of what is no request, and its name if the table has one, each after a
-- space
abbrev pub encoding_part : Option ℕ → List ℕ
encoding_part None = []
encoding_part (Some number) = codes " i=" ++ decimal number ++ name_part (name_in encodings number)

-- the line of a request that was answered on a connection: its name, the number of its items,
-- the code of its response, and the encoding of what is no request
unfoldable pub request_line : ℕ → AnsweredRequest → List ℕ
request_line number r = codes "connection " ++ decimal number ++ codes " " ++ kind_name r.kind ++ codes " " ++ decimal r.items ++ codes " "
    ++ code_text r.code.code ++ encoding_part r.encoding ++ codes "\n"

-- the lines of requests that were answered on a connection, one after the other
abbrev pub request_lines : ℕ → List AnsweredRequest → List ℕ
request_lines number requests = flat_map (request_line number) requests

-- the outcome of printing the line of a request: it is appended, or nothing is if an allocation
-- failed
abbrev pub Prints : Option Halt → List ℕ → Option (List ℕ) → Option (List ℕ) → Type 0
Prints None line old new = Appends old new line
Prints (Some Memory) line old new = new ≡ old
Prints (Some (Output error)) line old new = ⊤

-- the same, unless a line before it could not be printed: then no line more is
abbrev pub PrintsUnlessHalted : Option Halt → Option Halt → List ℕ → Option (List ℕ) → Option (List ℕ) → Type 0
PrintsUnlessHalted None after line old new = Prints after line old new
PrintsUnlessHalted (Some halt) after line old new = (after ≡ Some halt) × (new ≡ old)

-- the lines of requests went on by this one, over the same writer
pub record PrintsRequest {O : Type 0} (contents : O → Option (List ℕ)) (old : RequestLines O) (request : AnsweredRequest) (new : RequestLines O) : Type 0 where
  pub same_writer : new.out.ghost_name ≡ old.out.ghost_name
  pub same_number : new.number ≡ old.number
  pub printed : PrintsUnlessHalted old.halt new.halt (request_line old.number request) (contents old.out.now) (contents new.out.now)

-- the lines of some requests of a connection are appended; of none if they are not wanted
pub record HasTold (requests : Bool) (number : ℕ) (old new : Option (List ℕ)) : Type 0 where
  pub told : List AnsweredRequest
  pub wanted : requests ≡ false → told ≡ []
  pub added : Appends old new (request_lines number told)

-- ---- a listener that fails

-- an error of `accept` is one of the connection that would have been next, by its number in Linux
-- (accept(2)): EPERM, EINTR, ENONET, EPROTO, ENOPROTOOPT, EOPNOTSUPP, ENETUNREACH, ECONNABORTED,
-- EHOSTDOWN and EHOSTUNREACH; one without a number is none
abbrev pub is_of_connection : Option ℤ → Bool
is_of_connection None = false
is_of_connection (Some code) =
    int_eq code (pos 1) || (int_eq code (pos 4) || (int_eq code (pos 64) || (int_eq code (pos 71) || (int_eq code (pos 92)
    || (int_eq code (pos 95) || (int_eq code (pos 101) || (int_eq code (pos 103) || (int_eq code (pos 112) || int_eq code (pos 113)))))))))

-- ---- all lines

-- what is printed of a connection: which requests were answered, and its outcome
pub record Connection : Type 0 where
  pub told : List AnsweredRequest
  pub outcome : List ℕ

-- its outcome is printed, and requests only if they are wanted
pub record IsConnection (requests goes_on : Bool) (c : Connection) : Type 0 where
  pub is : IsSaid goes_on c.outcome
  pub wanted : requests ≡ false → c.told ≡ []

-- the lines of a connection: those of its requests, and its own after them
abbrev pub connection_text : ℕ → Connection → List ℕ
connection_text number c = request_lines number c.told ++ connection_line number c.outcome

-- the lines of connections, from this number on
abbrev pub connection_lines : ℕ → List Connection → List ℕ
connection_lines number [] = []
connection_lines number (c ∷ cs) = connection_text number c ++ connection_lines (suc number) cs

-- the first line of `ua serve`
unfoldable pub listening_line : ℕ → List ℕ
listening_line port = codes "listening " ++ decimal port ++ codes "\n"

-- a writer that had the old bytes then has the lines of this many connections on a port after them
pub record HasServed (requests goes_on : Bool) (port connections : ℕ) (old new : Option (List ℕ)) : Type 0 where
  pub served : List Connection
  pub each : AllByRecursion (IsConnection requests goes_on) served
  pub count : length served ≡ connections
  pub added : Appends old new (listening_line port ++ connection_lines 1 served)

-- the same for some connections, fewer than this, and after them the lines of requests of the next
-- one
pub record HasServedSome (requests goes_on : Bool) (port connections : ℕ) (old new : Option (List ℕ)) : Type 0 where
  pub served : ℕ
  pub fewer : served < connections
  pub between : Option (List ℕ)
  pub lines : HasServed requests goes_on port served old between
  pub next : HasTold requests (served + 1) between new

-- one more connection was served on a port: its lines are appended
pub record ServesOne (requests goes_on : Bool) (number : ℕ) (old new : Option (List ℕ)) : Type 0 where
  pub connection : Connection
  pub is : IsConnection requests goes_on connection
  pub added : Appends old new (connection_text number connection)

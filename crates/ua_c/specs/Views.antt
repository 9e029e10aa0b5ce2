-- The results of a Read, as views of the body of its response.
use Rattle.std.specs.Prelude.{◌≡◌, ◌⊎◌, ℕ, ◌+◌, ◌<◌, ◌≤◌, List, [], ◌∷◌, ◌++◌, length, take, drop, Option, Some, None, Result, Ok, Err}
use Rattle.ua_builtin.specs.NodeId.{node_id}
use Rattle.ua_builtin.specs.declared.node_id.NodeId.{NodeId}
use Rattle.ua_services.specs.Response.{response_kind}
use Rattle.ua_services.specs.declared.response.Response.{Response}
use Rattle.ua_services.specs.declared.response.Response.TheVariants.{Read}
use Rattle.ua_services.specs.declared.response.ResponseKind.TheVariants.{Read as ReadKind}
use Rattle.ua_variant.specs.Data.{VariantData}
use Rattle.ua_variant.specs.Encoding.{EncodesVariant}
use Rattle.ua_variant.specs.declared.values.DataValue.{DataValue}
use Rattle.ua_wire.specs.declared.fault.ReadFault.{ReadFault}
use Rattle.ua_wire.specs.declared.fault.ReadFault.TheVariants.{NoValue, OutOfMemory}
use Rattle.ua_c.specs.Readings.{code_or_none, flag_of_optional, number_or_none, ticks_or_none}
use Rattle.ua_c.specs.Responses.{IsNoResponse, OfResponse, TellsNone}
use Rattle.ua_c.specs.Status.{ok, no_memory, bad_octets, too_small}
use Rattle.ua_c.specs.declared.readings.UaReading.{UaReading}

-- ---- views

-- the number if present, otherwise 0
abbrev pub if_there : {A : Type 0} → Option A → ℕ → ℕ
if_there None n = 0
if_there (Some a) n = n

-- the content of a DataValue (OPC 10000-4, 7.11), with a value that takes this many bytes from an
-- offset on
abbrev pub reading_of : DataValue → ℕ → ℕ → UaReading
reading_of d at size = record {
  value_at = if_there d.value at;
  value_len = if_there d.value size;
  source_time = ticks_or_none d.source_timestamp;
  server_time = ticks_or_none d.server_timestamp;
  status = code_or_none d.status;
  source_picoseconds = number_or_none d.source_picoseconds;
  server_picoseconds = number_or_none d.server_picoseconds;
  has_value = flag_of_optional d.value;
  has_status = flag_of_optional d.status;
  has_source_time = flag_of_optional d.source_timestamp;
  has_server_time = flag_of_optional d.server_timestamp;
  has_source_picoseconds = flag_of_optional d.source_picoseconds;
  has_server_picoseconds = flag_of_optional d.server_picoseconds;
}

-- this many bytes of a body from an offset on encode the value, if there is one
abbrev pub EncodesAt : List ℕ → Option VariantData → ℕ → ℕ → Type 0
EncodesAt body None at size = Unit {0}
EncodesAt body (Some v) at size = (at + size ≤ length body) × EncodesVariant v (take size (drop at body))

-- a reading has the content of a DataValue, and the offset of its encoded value in the body
pub record IsView (body : List ℕ) (d : DataValue) (reading : UaReading) : Type 0 where
  pub at : ℕ
  pub size : ℕ
  pub is : reading ≡ reading_of d at size
  pub stands : EncodesAt body d.value at size

-- each reading has the content of the DataValue at its index
abbrev pub AreViews : List ℕ → List DataValue → List UaReading → Type 0
AreViews body [] [] = Unit {0}
AreViews body [] (reading ∷ readings) = ⊥
AreViews body (d ∷ ds) [] = ⊥
AreViews body (d ∷ ds) (reading ∷ readings) = IsView body d reading × AreViews body ds readings

-- the same of an array of them; of a null one there are no readings
abbrev pub AreViewsOf : List ℕ → Option (List DataValue) → List UaReading → Type 0
AreViewsOf body None readings = readings ≡ []
AreViewsOf body (Some ds) readings = AreViews body ds readings

-- ---- of a response

-- the results of a response to a Read, which may be null
abbrev pub results_in : Response → Option (Option (List DataValue))
results_in (Read m) = Some m.results
results_in r = None

-- readings are views of the results of a response to a Read
pub record AreResults (body : List ℕ) (readings : List UaReading) (r : Response) : Type 0 where
  pub results : Option (List DataValue)
  pub given : results_in r ≡ Some results
  pub are : AreViewsOf body results readings

-- a response is that to another request
abbrev pub HasNoResults : Response → Type 0
HasNoResults r = results_in r ≡ None

-- the readings in the response to a Read that bytes are the body of, or why there are none
abbrev pub ReadingsBy : List ℕ → ℕ → Result (List UaReading) ℕ → Type 0
ReadingsBy body code (Ok readings) = (code ≡ 0) × OfResponse body (AreResults body readings)
ReadingsBy body code (Err status) = (IsNoResponse body status × (code ≡ 0)) ⊎ OfResponse body (λ r. TellsNone HasNoResults r code status)

-- ---- a buffer of readings

-- readings are put at the start of a buffer if they fit, and the rest of it is unchanged; otherwise
-- the buffer is unchanged, and too small
abbrev pub PutsReadings : List UaReading → List UaReading → List UaReading → ℕ → ℕ → Type 0
PutsReadings readings before after count status = (count ≡ length readings)
    × (length readings ≤ length before → (status ≡ ok) × (after ≡ readings ++ drop (length readings) before))
    × (length before < length readings → (status ≡ too_small) × (after ≡ before))

-- readings are put into a buffer, if there are any
abbrev pub PutsViews : Result (List UaReading) ℕ → List UaReading → List UaReading → ℕ → ℕ → Type 0
PutsViews (Ok readings) before after count status = PutsReadings readings before after count status
PutsViews (Err why) before after count status = (count ≡ 0) × (after ≡ before) × (status ≡ why)

-- the views of the results of the Read whose response bytes are the body of are put into a buffer,
-- or it is told why there are none
pub record Views (body : List ℕ) (before after : List UaReading) (count code status : ℕ) : Type 0 where
  pub made : Result (List UaReading) ℕ
  pub is : ReadingsBy body code made
  pub puts : PutsViews made before after count status

-- ---- inside

-- decoding on lists of bytes gives something of which readings are views
pub record Sees {A : Type 0} (read : List ℕ → Option (A × List ℕ)) (Are : A → Type 0) (old new : List ℕ) : Type 0 where
  pub value : A
  pub read_is : read old ≡ Some (value, new)
  pub are : Are value

-- the outcome of a decoder that makes views
abbrev pub SeesBy : {A X : Type 0} → (List ℕ → Option (A × List ℕ)) → (X → A → Type 0) → List ℕ → List ℕ → Result X ReadFault → Type 0
SeesBy read Are old new (Ok x) = Sees read (Are x) old new
SeesBy read Are old new (Err NoValue) = read old ≡ None
SeesBy read Are old new (Err OutOfMemory) = Unit {0}

-- the bytes of the fields of a DataValue except its value
abbrev pub fields_size : DataValue → ℕ
fields_size d = if_there d.status 4 + if_there d.source_timestamp 8 + if_there d.source_picoseconds 2 + if_there d.server_timestamp 8
    + if_there d.server_picoseconds 2

-- what is told of a fault
abbrev pub status_of_read_fault : ReadFault → ℕ
status_of_read_fault NoValue = bad_octets
status_of_read_fault OutOfMemory = no_memory

-- bytes begin with a NodeId that announces no response to a Read
pub record AnnouncesOther (body : List ℕ) : Type 0 where
  pub id : NodeId
  pub rest : List ℕ
  pub found : node_id.decode body ≡ Some (id, rest)
  pub other : response_kind id ≡ Some ReadKind → ⊥

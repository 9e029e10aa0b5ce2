-- Readings of nodes by the bytes of their values, and how they are set and got.
use Rattle.std.specs.Prelude.{◌≡◌, ◌≢◌, ◌⊎◌, ◌+◌, ◌≤◌, ℕ, ℤ, pos, cond, nat_eq, List, length, take, drop, slice_get, Option, Some, None}
use Rattle.std.specs.Option.{option_map}
use Rattle.ua_builtin.specs.declared.date_time.DateTime.{DateTime}
use Rattle.ua_builtin.specs.declared.node_id.NodeId.{NodeId}
use Rattle.ua_builtin.specs.declared.status_code.StatusCode.{StatusCode}
use Rattle.ua_nodes.specs.Set.{after_set, set_refusal}
use Rattle.ua_nodes.specs.Table.{node_id_at, index_of_id, node_at}
use Rattle.ua_nodes.specs.declared.fault.SetFault.{SetFault}
use Rattle.ua_nodes.specs.declared.fault.SetFault.TheVariants.{Unknown, Mismatch, NotWritable}
use Rattle.ua_nodes.specs.declared.node.Variable.{Variable}
use Rattle.ua_nodes.specs.declared.set.Reading.{Reading}
use Rattle.ua_server.specs.State.{with_nodes}
use Rattle.ua_variant.specs.Formats.{variant_format}
use Rattle.ua_variant.specs.View.{variant_of}
use Rattle.ua_variant.specs.declared.values.Variant.{Variant}
use Rattle.ua_wire.specs.Format.{IsWhole}
use Rattle.ua_c.specs.Handled.{OfNodes}
use Rattle.ua_c.specs.Requests.{IsNoNode, IsNodeText}
use Rattle.ua_c.specs.Status.{ok, no_memory, bad_octets, unknown, other_handle, mismatch, bad_reading}
use Rattle.ua_c.specs.Texts.{IsEncodingOf, IsBufferKept, Puts}
use Rattle.ua_c.specs.declared.holding.Holding.{Holding}
use Rattle.ua_c.specs.declared.holding.Machine.TheVariants as machine
use Rattle.ua_c.specs.declared.readings.UaReading.{UaReading}
use Rattle.ua_c.specs.declared.shared.SharedNodes.{SharedNodes}

-- ---- readings

-- a field is present if its flag is not 0
abbrev pub given_if : {A : Type 0} → ℕ → A → Option A
given_if flag a = cond (nat_eq flag 0) None (Some a)

-- the flag of what is present or absent
abbrev pub flag_of_optional : {A : Type 0} → Option A → ℕ
flag_of_optional None = 0
flag_of_optional (Some a) = 1

-- the value if present, otherwise 0
abbrev pub ticks_or_none : Option DateTime → ℤ
ticks_or_none None = pos 0
ticks_or_none (Some time) = time.ticks

abbrev pub code_or_none : Option StatusCode → ℕ
code_or_none None = 0
code_or_none (Some status) = status.code

abbrev pub number_or_none : Option ℕ → ℕ
number_or_none None = 0
number_or_none (Some n) = n

-- nothing is there
abbrev pub no_reading : UaReading
no_reading = record {
  value_at = 0;
  value_len = 0;
  source_time = pos 0;
  server_time = pos 0;
  status = 0;
  source_picoseconds = 0;
  server_picoseconds = 0;
  has_value = 0;
  has_status = 0;
  has_source_time = 0;
  has_server_time = 0;
  has_source_picoseconds = 0;
  has_server_picoseconds = 0;
}

-- what a node holds, with a value of this many bytes at the start
abbrev pub reading_held : Variable → ℕ → UaReading
reading_held v size = record {
  value_at = 0;
  value_len = size;
  source_time = ticks_or_none v.source_time;
  server_time = pos 0;
  status = code_or_none v.status;
  source_picoseconds = number_or_none v.source_picoseconds;
  server_picoseconds = 0;
  has_value = 1;
  has_status = flag_of_optional v.status;
  has_source_time = flag_of_optional v.source_time;
  has_server_time = 0;
  has_source_picoseconds = flag_of_optional v.source_picoseconds;
  has_server_picoseconds = 0;
}

-- a reading has a value, whose bytes lie within these
pub record HasPart (octets : List ℕ) (given : UaReading) : Type 0 where
  pub some : given.has_value ≢ 0
  pub within : given.value_at + given.value_len ≤ length octets

-- the bytes of its value
abbrev pub value_octets_of : List ℕ → UaReading → List ℕ
value_octets_of octets given = take given.value_len (drop given.value_at octets)

-- what C passes is this reading: it has a value of nesting depth at most 100 that its bytes encode,
-- and a source timestamp
pub record IsReadingOf (octets : List ℕ) (given : UaReading) (reading : Reading) : Type 0 where
  pub part : HasPart octets given
  pub value_is : IsWhole variant_format (value_octets_of octets given) (Some reading.value)
  pub timed : given.has_source_time ≢ 0
  pub source_time_is : reading.source_time ≡ record { ticks = given.source_time }
  pub status_is : reading.status ≡ given_if given.has_status (record { code = given.status })
  pub source_picoseconds_is : reading.source_picoseconds ≡ given_if given.has_source_picoseconds given.source_picoseconds

-- it has no value or no source timestamp
abbrev pub LacksPart : List ℕ → UaReading → Type 0
LacksPart octets given = (given.has_source_time ≡ 0) ⊎ ¬ (HasPart octets given)

-- an allocation failed, or it is none
abbrev pub IsNoReading : List ℕ → UaReading → ℕ → Type 0
IsNoReading octets given status =
    (status ≡ no_memory) ⊎ ((status ≡ bad_reading) × LacksPart octets given)
    ⊎ ((status ≡ bad_octets) × IsWhole variant_format (value_octets_of octets given) None)

-- ---- the place of a node

-- the text names a node, with this index
pub record IsNodeFound (shared : SharedNodes) (text : List ℕ) (index : ℕ) : Type 0 where
  pub id : NodeId
  pub named : IsNodeText text id
  pub at : index_of_id shared.services.nodes id ≡ Some index

-- the text names a NodeId, but no node
pub record IsMissing (shared : SharedNodes) (text : List ℕ) : Type 0 where
  pub id : NodeId
  pub named : IsNodeText text id
  pub none : index_of_id shared.services.nodes id ≡ None

abbrev pub FindsIn : SharedNodes → List ℕ → ℕ → ℕ → Type 0
FindsIn shared text index status = ((status ≡ ok) × IsNodeFound shared text index)
    ⊎ ((index ≡ 0) × (((status ≡ unknown) × IsMissing shared text) ⊎ IsNoNode text status))

-- what finding a node does with the content of a handle: nothing
abbrev pub FindsNode : Holding → List ℕ → ℕ → ℕ → Type 0
FindsNode held text index status = OfNodes held.machine ((status ≡ other_handle) × (index ≡ 0)) (λ shared. FindsIn shared text index status)

-- ---- setting

-- what is told of a reading that was taken, or rejected
abbrev pub status_of_set : Option SetFault → ℕ
status_of_set None = ok
status_of_set (Some Unknown) = unknown
status_of_set (Some Mismatch) = mismatch
status_of_set (Some NotWritable) = bad_octets

-- the nodes with that of a NodeId set to a reading, and all else unchanged
abbrev pub with_set : SharedNodes → NodeId → Reading → SharedNodes
with_set shared id reading = record { services = with_nodes shared.services (after_set id reading shared.services.nodes) }

-- the reading is one, and is set; or it is rejected, and nothing changed
pub record SetsReading (old new : SharedNodes) (id : NodeId) (octets : List ℕ) (given : UaReading) (status : ℕ) : Type 0 where
  pub reading : Reading
  pub is : IsReadingOf octets given reading
  pub status_is : status ≡ status_of_set (set_refusal (node_at old.services.nodes id) reading)
  pub left : new ≡ with_set old id reading
  pub kept : (status ≡ ok → ⊥) → new ≡ old

-- the node at this index is set to the reading; or there is none, or no reading, and nothing
-- changed
abbrev pub SetsAt : Option NodeId → SharedNodes → SharedNodes → List ℕ → UaReading → ℕ → Type 0
SetsAt None old new octets given status = (status ≡ unknown) × (new ≡ old)
SetsAt (Some id) old new octets given status = SetsReading old new id octets given status ⊎ (IsNoReading octets given status × (new ≡ old))

-- what setting a node does with the content of a handle
pub record SetsHeld (shared : SharedNodes) (old new : Holding) (index : ℕ) (octets : List ℕ) (given : UaReading) (status : ℕ) : Type 0 where
  pub left : SharedNodes
  pub new_is : new ≡ record { machine = machine.Nodes left; waiting = old.waiting }
  pub sets : SetsAt (node_id_at shared.services.nodes index) shared left octets given status

abbrev pub SetsNode : Holding → Holding → ℕ → List ℕ → UaReading → ℕ → Type 0
SetsNode old new index octets given status = OfNodes old.machine ((status ≡ other_handle) × (new ≡ old))
    (λ shared. SetsHeld shared old new index octets given status)

-- ---- getting

-- the node at an index
abbrev pub node_at_index : SharedNodes → ℕ → Option Variable
node_at_index shared index = option_map (λ node. node.1) (slice_get shared.services.nodes index)

-- the encoding of the value of a node is put into a buffer, and what the node holds is told
pub record GetsValue (node : Variable) (before after : List ℕ) (needed : ℕ) (reading : UaReading) (status : ℕ) : Type 0 where
  pub value : Variant
  pub value_is : variant_of value ≡ node.value
  pub octets : List ℕ
  pub are : IsEncodingOf value octets
  pub puts : Puts octets before after needed status
  pub told : reading ≡ reading_held node (length octets)

-- nothing was written and nothing is told
abbrev pub GetsNone : List ℕ → List ℕ → ℕ → UaReading → Type 0
GetsNone before after needed reading = IsBufferKept before after needed × (reading ≡ no_reading)

-- what is told of the node at an index, if there is one
abbrev pub GetsAt : Option Variable → List ℕ → List ℕ → ℕ → UaReading → ℕ → Type 0
GetsAt None before after needed reading status = (status ≡ unknown) × GetsNone before after needed reading
GetsAt (Some node) before after needed reading status = GetsValue node before after needed reading status
    ⊎ ((status ≡ no_memory) × GetsNone before after needed reading)

-- what getting a node does with the content of a handle: nothing
abbrev pub GetsNode : Holding → ℕ → List ℕ → List ℕ → ℕ → UaReading → ℕ → Type 0
GetsNode held index before after needed reading status =
    OfNodes held.machine ((status ≡ other_handle) × GetsNone before after needed reading)
    (λ shared. GetsAt (node_at_index shared index) before after needed reading status)

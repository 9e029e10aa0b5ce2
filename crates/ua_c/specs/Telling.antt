-- What the Write of a step stored, told item by item.
use Rattle.std.specs.Prelude.{◌≡◌, ◌⊎◌, ℕ, List, [], ◌∷◌, length, drop, Option, Some, None, IsFalse}
use Rattle.ua_nodes.specs.Table.{index_of_id}
use Rattle.ua_structures.specs.declared.attribute.WriteValue.{WriteValue}
use Rattle.ua_variant.specs.Data.{VariantData}
use Rattle.ua_variant.specs.Formats.{variant_format}
use Rattle.ua_variant.specs.View.{variant_of}
use Rattle.ua_variant.specs.declared.values.Variant.{Variant}
use Rattle.ua_c.specs.Handled.{OfShared}
use Rattle.ua_c.specs.Readings.{no_reading}
use Rattle.ua_c.specs.Status.{ok, no_memory, bad_octets, unknown, no_more, other_handle}
use Rattle.ua_c.specs.Texts.{IsEncodingOf, Puts}
use Rattle.ua_c.specs.Views.{reading_of}
use Rattle.ua_c.specs.declared.holding.Holding.{Holding}
use Rattle.ua_c.specs.declared.holding.Machine.TheVariants as machine
use Rattle.ua_c.specs.declared.untold.ServedConnection.{ServedConnection}
use Rattle.ua_c.specs.declared.shared.SharedNodes.{SharedNodes}
use Rattle.ua_c.specs.declared.untold.ToldItem.{ToldItem}
use Rattle.ua_c.specs.declared.untold.Untold.{Untold}

-- ---- what is to be told

-- what a step stored, if none of it was told, else the items that are left
abbrev pub not_told : Option (List WriteValue) → List WriteValue → List WriteValue
not_told None items = items
not_told (Some written) items = written

-- the items that were not told yet, in the order of the Write
abbrev pub untold_in : Untold → List WriteValue
untold_in u = not_told u.written (drop u.told u.items.items)

-- ---- what is told of one

-- only a status
abbrev pub no_item : ℕ → ToldItem
no_item status = record { status = status; index = 0; needed = 0; reading = no_reading }

-- bytes are the canonical encoding of a value, and none if there is no value
pub record EncodesValue (v : VariantData) (octets : List ℕ) : Type 0 where
  pub value : Variant
  pub value_is : variant_of value ≡ v
  pub are : IsEncodingOf value octets

abbrev pub EncodesHeld : Option VariantData → List ℕ → Type 0
EncodesHeld None octets = octets ≡ []
EncodesHeld (Some v) octets = EncodesValue v octets

-- a value cannot be encoded
pub record IsUnwritable (v : VariantData) : Type 0 where
  pub value : Variant
  pub value_is : variant_of value ≡ v
  pub not : IsFalse (variant_format.encodable value)

abbrev pub HoldsUnwritable : Option VariantData → Type 0
HoldsUnwritable None = ⊥
HoldsUnwritable (Some v) = IsUnwritable v

-- an allocation failed, or it cannot be encoded
abbrev pub EncodesNone : Option VariantData → ℕ → Type 0
EncodesNone held status = (status ≡ no_memory) ⊎ ((status ≡ bad_octets) × HoldsUnwritable held)

-- an item is told: the index of its node, the encoding of its value in a buffer, and what the
-- client sent beside the value
pub record TellsItem (shared : SharedNodes) (item : WriteValue) (before after : List ℕ) (told : ToldItem) : Type 0 where
  pub index_is : index_of_id shared.services.nodes item.node_id ≡ Some told.index
  pub octets : List ℕ
  pub are : EncodesHeld item.value.value octets
  pub puts : Puts octets before after told.needed told.status
  pub reading_is : told.reading ≡ reading_of item.value 0 (length octets)

-- none is told, and the buffer is unchanged
abbrev pub SaysNoItem : List ℕ → List ℕ → ToldItem → ℕ → Type 0
SaysNoItem before after told why = (told ≡ no_item why) × (after ≡ before)

-- why an item is not told: these nodes have none of its NodeId, an allocation failed, or its value
-- cannot be encoded
abbrev pub IsUntellable : SharedNodes → WriteValue → ℕ → Type 0
IsUntellable shared item why = ((why ≡ unknown) × (index_of_id shared.services.nodes item.node_id ≡ None)) ⊎ EncodesNone item.value.value why

-- it is told, or not
abbrev pub TellsWrite : SharedNodes → WriteValue → List ℕ → List ℕ → ToldItem → Type 0
TellsWrite shared item before after told = TellsItem shared item before after told
    ⊎ (SaysNoItem before after told told.status × IsUntellable shared item told.status)

-- the first of what is to be told is told, and is then no more to be told if its bytes did fit;
-- otherwise it still is
abbrev pub TellsFirst : SharedNodes → List WriteValue → List WriteValue → List ℕ → List ℕ → ToldItem → Type 0
TellsFirst shared [] left before after told = SaysNoItem before after told no_more × (left ≡ [])
TellsFirst shared (item ∷ items) left before after told = TellsWrite shared item before after told
    × (told.status ≡ ok → left ≡ items)
    × ((told.status ≡ ok → ⊥) → left ≡ item ∷ items)

-- or an allocation failed, and nothing changed
abbrev pub TellsNext : SharedNodes → List WriteValue → List WriteValue → List ℕ → List ℕ → ToldItem → Type 0
TellsNext shared old left before after told = TellsFirst shared old left before after told ⊎ (SaysNoItem before after told no_memory × (left ≡ old))

-- ---- what handles hold

-- of what a connection holds only what is to be told changes
pub record TellsHeld (served : ServedConnection) (shared : SharedNodes) (old new : Holding) (before after : List ℕ) (told : ToldItem) : Type 0 where
  pub left : Untold
  pub new_is : new ≡ record { machine = machine.Connection (record { connection = served.connection; written = left }); waiting = old.waiting }
  pub tells : TellsNext shared (untold_in served.written) (untold_in left) before after told

-- what telling the next item does with the contents of two handles; nodes stay
abbrev pub TellsWritten : Holding → Holding → Holding → List ℕ → List ℕ → ToldItem → Type 0
TellsWritten old new nodes before after told =
    OfShared old.machine nodes.machine (SaysNoItem before after told other_handle × (new ≡ old))
    (λ served shared. TellsHeld served shared old new before after told)

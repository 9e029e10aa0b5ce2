-- What the assembler returns, as what chunks deliver.
use Rattle.std.specs.Prelude.{◌≡◌, ℕ, Option, Some, None, List, [], ◌∷◌}
use Rattle.std.specs.List.{concat}
use Rattle.ua_chunk.specs.declared.delivered.Delivered.{Delivered}
use Rattle.ua_chunk.specs.declared.delivered.Delivered.TheVariants.{Whole, Aborted}
use Rattle.ua_chunk.specs.Item.{Item, Item as items}

-- a delivered message as an item of the definitions: its bytes are its parts, joined
abbrev pub item_of : Delivered → Item
item_of (Whole id message) = items.Whole id (concat message)
item_of (Aborted id code reason) = items.Aborted id code reason

-- what was returned, or nothing
abbrev pub delivered_items : Option Delivered → List Item
delivered_items None = []
delivered_items (Some d) = item_of d ∷ []

-- if a whole message was returned, these are its parts
abbrev pub HasParts : Option Delivered → List (List ℕ) → Type 0
HasParts None parts = Unit {0}
HasParts (Some (Whole id message)) parts = message ≡ parts
HasParts (Some (Aborted id code reason)) parts = Unit {0}

-- The lines of `ua serve --writes`: what clients' Writes stored.
use Rattle.std.specs.Prelude.{◌≡◌, ℕ, Bool, true, false, List, [], ◌∷◌, ◌++◌, Option, codes}
use Rattle.ua_builtin.specs.NodeText.{node_text}
use Rattle.ua_structures.specs.declared.attribute.WriteValue.{WriteValue}
use Rattle.ua_answers.specs.Answers.{value_part}
use Rattle.ua_answers.specs.PlainAnswers.{IsPlainValuePart}
use Rattle.ua_variant.specs.Data.{VariantData}

-- a value after a space, if there is one, as `ua read` prints it: by its bits, or in the
-- human-readable form
abbrev pub IsValuePart : Bool → Option VariantData → List ℕ → Type 0
IsValuePart false value text = text ≡ value_part value
IsValuePart true value text = IsPlainValuePart false value text

-- the line of an item that was stored: `write NODE TYPE VALUE`
pub record IsStoredLine (plain : Bool) (item : WriteValue) (line : List ℕ) : Type 0 where
  pub value : List ℕ
  pub value_is : IsValuePart plain item.value.value value
  pub line_is : line ≡ codes "write " ++ (node_text item.node_id ++ (value ++ codes "\n"))

-- the lines of these items, each once and in their order
abbrev pub AreStoredLines : Bool → List WriteValue → List ℕ → Type 0
AreStoredLines plain [] text = text ≡ []
AreStoredLines plain (item ∷ items) text = (line : List ℕ) × (rest : List ℕ) × (text ≡ line ++ rest) × IsStoredLine plain item line
    × AreStoredLines plain items rest

-- the line for items whose lines could not be made, since an allocation failed
abbrev pub lost_line : List ℕ
lost_line = codes "write NoMemory\n"

-- The lines of node files and of scripts, in which people write decimals and times: each line with
-- the value at its end in its exact form.
use Rattle.std.specs.Prelude.{ℕ, Bool, List, [], ◌∷◌, ◌++◌, Option, Some, None}
use Rattle.std.specs.List.{flat_map}
use Rattle.ua_nodes.specs.NodeFile.{fields, lines_of}
use Rattle.ua_nodes.specs.TypeName.{type_denoted}
use Rattle.ua_answers.specs.PlainRead.{exact_text}

-- the text of a value in the exact form of a type; unchanged if there is no type
abbrev pub exact_at : Option (ℕ × Bool) → List ℕ → List ℕ
exact_at None text = text
exact_at (Some t) text = exact_text t.0 t.1 text

-- the text of a value after the name of its type
abbrev pub exact_typed : List ℕ → List ℕ → List ℕ
exact_typed kind text = exact_at (type_denoted kind) text

-- the fields of a line with the last one in its exact form, by the type that the field before it
-- names; a single field is unchanged
abbrev pub exact_last : List (List ℕ) → List (List ℕ)
exact_last [] = []
exact_last (text ∷ []) = text ∷ []
exact_last (kind ∷ (text ∷ [])) = kind ∷ (exact_typed kind text ∷ [])
exact_last (first ∷ (second ∷ (third ∷ rest))) = first ∷ exact_last (second ∷ (third ∷ rest))

-- fields separated by tabs
abbrev pub tabbed : List (List ℕ) → List ℕ
tabbed [] = []
tabbed (field ∷ rest) = field ++ flat_map (λ f. 9 ∷ f) rest

-- the fields of a line, with the last one in its exact form
unfoldable pub exact_fields : List ℕ → List ℕ
exact_fields line = tabbed (exact_last (fields line))

-- the line of these fields, which ends in LF
abbrev pub exact_line : List ℕ → List ℕ
exact_line line = exact_fields line ++ 10 ∷ []

-- the lines of a text in this form, each by its number
abbrev pub exact_lines : List ℕ → List ℕ
exact_lines text = flat_map exact_line (lines_of text)

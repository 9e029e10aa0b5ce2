-- The standard's names of StatusCodes.
use Rattle.std.specs.Prelude.{ℕ, suc, Bool, true, false, ◌&&◌, cond, nat_eq, nat_le, List, [], ◌∷◌, ◌++◌, Option, Some, None, codes}
use Rattle.ua_builtin.specs.declared.status_code.StatusCode.{StatusCode}
use Rattle.ua_texts.specs.Shown.{code_text}
use Rattle.ua_texts.specs.StatusCodes.{status_codes}

-- the number of a StatusCode; an absent one is Good, 0 (OPC 10000-6, 5.2.2.17)
abbrev pub number_of : Option StatusCode → ℕ
number_of None = 0
number_of (Some status) = status.code

-- the name in the first row with this code, none if no row has it
unfoldable pub name_in : List (ℕ × List ℕ) → ℕ → Option (List ℕ)
name_in [] code = None
name_in (row ∷ rows) code = cond (nat_eq row.0 code) (Some row.1) (name_in rows code)

-- whether the codes of these rows ascend, and are at least this number
unfoldable pub rises_from : ℕ → List (ℕ × List ℕ) → Bool
rises_from least [] = true
rises_from least (row ∷ rows) = nat_le least row.0 && rises_from (suc row.0) rows

-- the name of a code in the table of the standard; no other code has one, not even one that differs
-- from a code of the table in its lower 16 bits alone
abbrev pub name_of_code : ℕ → Option (List ℕ)
name_of_code code = name_in status_codes code

-- a name after a space, if there is one
abbrev pub name_part : Option (List ℕ) → List ℕ
name_part None = []
name_part (Some name) = codes " " ++ name

-- a StatusCode, and if names are wanted its name after it
abbrev pub named_code : Bool → ℕ → List ℕ
named_code false code = code_text code
named_code true code = code_text code ++ name_part (name_of_code code)

-- Texts that stand among others.
use Rattle.std.specs.Prelude.{ℕ, Bool, List, ◌||◌, ◌==◌}
use Rattle.std.specs.Char.{is_ascii_alphanumeric}
use Rattle.std.specs.List.{AllPass}

-- a letter or a digit of ASCII, `+`, `-`, `.` or `:`; so no space, comma, bracket, quotation mark
-- or backslash
abbrev pub is_word_octet : ℕ → Bool
is_word_octet c = is_ascii_alphanumeric c || ((c == 43 || c == 45) || (c == 46 || c == 58))

-- each byte is one of these
abbrev pub IsWord : List ℕ → Type 0
IsWord text = AllPass is_word_octet text

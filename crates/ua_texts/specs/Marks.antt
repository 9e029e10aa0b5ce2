-- Texts between delimiters, which are called marks.
use Rattle.std.specs.Prelude.{ℕ, ◌==◌, if◌then◌else◌, Bool, true, false, ◌&&◌, ◌||◌, List, Option, Some, None, encode_utf8, codes}
use Rattle.std.specs.List.{flat_map}
use Rattle.std.specs.Str.{chars}
use Rattle.ua_texts.specs.Shown.{escaped_octet, shown}
use Rattle.ua_texts.specs.declared.marks.Marks.{Marks}

-- whether a character is a mark: a bar or a semicolon if the text is followed by one; and if the
-- text is within an array or brackets, a comma, a round or a curly bracket
abbrev pub is_mark : Marks → ℕ → Bool
is_mark marks c =
    (marks.bar && c == 124) || ((marks.semicolon && c == 59) || (marks.within && ((c == 44 || c == 40) || (c == 41 || (c == 123 || c == 125)))))

-- the marks of a text alone, or within an array or brackets
abbrev pub of : Bool → Marks
of within = record { bar = false; semicolon = false; within = within }

-- the marks of a text before a bar
abbrev pub before_bar : Bool → Marks
before_bar within = record { bar = true; semicolon = false; within = within }

-- the marks of a text before a semicolon
abbrev pub before_semicolon : Bool → Marks
before_semicolon within = record { bar = false; semicolon = true; within = within }

-- a character: a mark by its hexadecimal digits, any other as it is shown
abbrev pub marked_char : Marks → ℕ → List ℕ
marked_char marks c = if is_mark marks c then escaped_octet c else shown (encode_utf8 c)

-- the characters of a text, with the marks escaped
unfoldable pub marked : Marks → List ℕ → List ℕ
marked marks text = flat_map (marked_char marks) (chars text)

-- a String: its text with the marks escaped, or `null`
abbrev pub marked_string : Marks → Option (List ℕ) → List ℕ
marked_string marks None = codes "null"
marked_string marks (Some text) = marked marks text

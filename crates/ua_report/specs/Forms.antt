-- The content of a file of text, as it is read.
use Rattle.std.specs.Prelude.{ℕ, Bool, cond, List}
use Rattle.ua_answers.specs.PlainLines.{exact_lines}

-- a text unchanged, or its lines with bit patterns and ticks in place of decimals and times
abbrev pub form_given : Bool → List ℕ → List ℕ
form_given plain text = cond plain (exact_lines text) text

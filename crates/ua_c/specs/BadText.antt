-- Which text of a call is not acceptable.
use Rattle.std.specs.Prelude.{◌≡◌, ℕ, Result, Ok, Err}
use Rattle.ua_c.specs.declared.bad_text.BadText.{BadText}

-- a text by its number, with a status; it is no list of lines
abbrev pub bad_whole_text : ℕ → ℕ → BadText
bad_whole_text text status = record { status = status; text = text; index = 0 }

-- it is the text of this number, and the status is `P`
abbrev pub IsBad : ℕ → (ℕ → Type 0) → BadText → Type 0
IsBad text P bad = (bad.text ≡ text) × (bad.index ≡ 0) × P bad.status

-- the index of the line, 0 if nothing is bad
abbrev pub index_in : {A : Type 0} → Result A BadText → ℕ
index_in (Ok made) = 0
index_in (Err bad) = bad.index

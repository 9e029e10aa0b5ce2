-- Parts that are present if a mask flags them.
use Rattle.std.specs.Prelude.{◌≡◌, ℕ, List, [], Bool, true, false, Option, Some, None, cond, not, nat_eq, bit_and}
use Rattle.ua_wire.specs.Format.{Flat}
use Rattle.ua_wire.specs.Join.{only}
use Rattle.ua_wire.specs.Counted.{text}

-- the mask has this bit
abbrev pub has : ℕ → ℕ → Bool
has mask bit = not (nat_eq (bit_and mask bit) 0)

-- the bit if the flag is set, else 0
abbrev pub flag_bit : ℕ → Bool → ℕ
flag_bit bit set = cond set bit 0

-- a part if it is flagged; otherwise its absent value, which has no bytes; is tells that
-- value from the others
abbrev pub flagged : {A : Type 0} → Flat A → A → (A → Bool) → Bool → Flat A
flagged f absent is set = cond set f (only absent is)

-- the text is null
abbrev pub is_null : Option (List ℕ) → Bool
is_null None = true
is_null (Some v) = false

-- a text if it is flagged, else null
abbrev pub flagged_text : Bool → Flat (Option (List ℕ))
flagged_text = flagged text None is_null

-- a text if it is flagged; else it is null, and has no bytes
abbrev pub EncodesFlagged : Bool → Option (List ℕ) → List ℕ → Type 0
EncodesFlagged true v b = text.encodes v b
EncodesFlagged false v b = (v ≡ None) × (b ≡ [])

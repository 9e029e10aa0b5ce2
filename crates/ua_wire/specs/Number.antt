-- Whole numbers as bytes, the least significant first (OPC 10000-6, 5.2.2.2): 1000 as UInt16 is
-- E8 03.
use Rattle.std.specs.Prelude.{◌≡◌, ◌<◌, ◌%◌, ◌/◌, ◌*◌, ◌+◌, ◌^◌, ℕ, zero, suc, List, [], ◌∷◌, cond, nat_lt, Option, Some, None}
use Rattle.ua_wire.specs.Exact.{◌>>=◌}

-- the k bytes of a number, the least significant first
unfoldable pub number_octets : ℕ → ℕ → List ℕ
number_octets zero n = []
number_octets (suc k) n = n % 256 ∷ number_octets k (n / 256)

-- these are the k bytes of the number
abbrev pub IsNumber : ℕ → ℕ → List ℕ → Type 0
IsNumber k n b = (n < 256 ^ k) × (b ≡ number_octets k n)

-- the number in the first k bytes, and the bytes after them
unfoldable pub number_at : ℕ → List ℕ → Option (ℕ × List ℕ)
number_at zero octets = Some (0, octets)
number_at (suc k) [] = None
number_at (suc k) (x ∷ octets) = cond (nat_lt x 256) (number_at k octets >>= λ high. Some (x + 256 * high.0, high.1)) None

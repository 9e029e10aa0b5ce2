-- Parts of encodings: one after another, single bytes, counts, and what a mask announces.
use Rattle.std.specs.Prelude.{◌≡◌, ℕ, ◌<◌, ◌≤◌, Bool, true, false, cond, IsTrue, leb, List, [], ◌∷◌, ◌++◌, Option, Some, None}
use Rattle.ua_builtin.specs.Exact.{◌>>=◌}
use Rattle.ua_builtin.specs.Number.{IsNumber}
use Rattle.ua_builtin.specs.Format.{Flat}
use Rattle.ua_builtin.specs.Counted.{first_negative}

-- the value at the start and the bytes after it, or nothing
abbrev pub Decoder : Type 0 → Type 0
Decoder A = List ℕ → Option (A × List ℕ)

-- ---- which bytes

-- bytes of the first and then bytes of the second
abbrev pub Joins : (List ℕ → Type 0) → (List ℕ → Type 0) → List ℕ → Type 0
Joins P Q b = (front : List ℕ) × (back : List ℕ) × (b ≡ front ++ back) × P front × Q back

-- no bytes
abbrev pub Nothing : List ℕ → Type 0
Nothing b = b ≡ []

-- this byte alone
abbrev pub IsOctet : ℕ → List ℕ → Type 0
IsOctet n b = (n < 0x100) × (b ≡ n ∷ [])

-- an Int32 count that is not negative: 3 is 03 00 00 00
abbrev pub IsCount : ℕ → List ℕ → Type 0
IsCount n b = IsNumber 4 n b × (n < first_negative)

-- an Int32 count that is negative: -1 is FF FF FF FF
abbrev pub IsNegative : List ℕ → Type 0
IsNegative b = (n : ℕ) × IsNumber 4 n b × (first_negative ≤ n)

-- a mask byte of at most this value, and after it what the mask announces
abbrev pub Masked : ℕ → (ℕ → List ℕ → Type 0) → List ℕ → Type 0
Masked most P b = (m : ℕ) × Joins (IsOctet m) (λ c. IsTrue (leb m most) × P m c) b

-- a value if it is announced, else none and no bytes
abbrev pub Optional : {A : Type 0} → (A → List ℕ → Type 0) → Bool → Option A → List ℕ → Type 0
Optional p true None b = ⊥
Optional p true (Some x) b = p x b
Optional p false None b = Nothing b
Optional p false (Some x) b = ⊥

-- ---- counts, and which can be encoded

-- 1 if there is a field
abbrev pub there : {A : Type 0} → Option A → ℕ
there None = 0
there (Some x) = 1

-- the value, if present, passes the test
abbrev pub optional_fits : {A : Type 0} → (A → Bool) → Option A → Bool
optional_fits t None = true
optional_fits t (Some x) = t x

-- a value that passes the test if it is announced, and none if it is not
abbrev pub optional_encodable : {A : Type 0} → (A → Bool) → Bool → Option A → Bool
optional_encodable t true None = false
optional_encodable t true (Some x) = t x
optional_encodable t false None = true
optional_encodable t false (Some x) = false

-- the canonical encoding of a value if there is one, else none
abbrev pub optional_canonical : {A : Type 0} → (A → List ℕ) → Option A → List ℕ
optional_canonical c None = []
optional_canonical c (Some x) = c x

-- ---- reading on lists

-- the value if the test passes, else nothing
abbrev pub when : {A : Type 0} → Bool → Option A → Option A
when b r = cond b r None

-- decodes a value if it is announced; otherwise there is none, and no byte is taken
abbrev pub optional_read : {A : Type 0} → Bool → Decoder A → Decoder (Option A)
optional_read b r octets = cond b (r octets >>= λ x. Some (Some x.0, x.1)) (Some (None, octets))

-- ---- formats

-- a field that is present if the flag is set
abbrev pub optional : {A : Type 0} → Bool → Flat A → Flat (Option A)
optional b f = record {
  encodes = Optional f.encodes b;
  encodable = optional_encodable f.encodable b;
  canonical = optional_canonical f.canonical;
  decode = optional_read b f.decode;
}

-- a format that is decoded and never encoded
abbrev pub unwritten : {A : Type 0} → Flat A → Flat A
unwritten f = record {
  encodes = f.encodes;
  encodable = λ v. false;
  canonical = λ v. [];
  decode = f.decode;
}

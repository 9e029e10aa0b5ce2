-- What holds of every format.
use Rattle.std.specs.Prelude.{◌≡◌, ℕ, ◌≤◌, List, ◌++◌, IsTrue, Some}
use Rattle.ua_wire.specs.Format.{Format}

-- the canonical encoding of a value encodes it
abbrev pub CanonicalEncodes : {A : Type 0} → Format A → Type 0
CanonicalEncodes {A = A} format = (v : A) → IsTrue (format.encodable v) → format.encodes v (format.canonical v)

-- encodings are prefix-free, and no bytes encode two values
abbrev pub EncodesOnce : {A : Type 0} → (A → List ℕ → Type 0) → Type 0
EncodesOnce {A = A} encodes = (v w : A) (a c x y : List ℕ) → encodes v a → encodes w c → a ++ x ≡ c ++ y → (v ≡ w) × (a ≡ c)

-- decoding gives back the value that was encoded, whatever follows
abbrev pub ReadsBack : {A : Type 0} → Format A → Type 0
ReadsBack {A = A} format = (v : A) (rest : List ℕ) (levels : ℕ) → IsTrue (format.encodable v) → format.depth v ≤ levels
    → format.decode levels (format.canonical v ++ rest) ≡ Some (v, rest)

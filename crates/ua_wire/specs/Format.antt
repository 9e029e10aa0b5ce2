-- How bytes encode the values of a type: the relation, the canonical encoding, the decoder on lists
-- of bytes, and the laws that they keep.
use Rattle.std.specs.Prelude.{◌≡◌, ℕ, ◌≤◌, List, [], ◌++◌, length, Bool, IsTrue, Option, Some, None, Result, Ok, Err}
use Rattle.ua_wire.specs.declared.fault.ReadFault.{ReadFault}
use Rattle.ua_wire.specs.declared.fault.ReadFault.TheVariants.{NoValue, OutOfMemory}
use Rattle.ua_wire.specs.Exact.{Exact}

-- ---- formats

-- the format of values without nesting
pub record Flat (A : Type 0) : Type 1 where
  -- these bytes encode the value; a value may have several encodings
  pub encodes : A → List ℕ → Type 0
  -- the value has a canonical encoding
  pub encodable : A → Bool
  pub canonical : A → List ℕ
  -- the value at the start of bytes, and the bytes after it
  pub decode : List ℕ → Option (A × List ℕ)

-- the format of values that may be nested
pub record Format (A : Type 0) : Type 1 where
  -- these bytes encode the value; a value may have several encodings
  pub encodes : A → List ℕ → Type 0
  -- the nesting depth of the value
  pub depth : A → ℕ
  -- the count of values: a Variant, DataValue or DiagnosticInfo is 1 plus what it contains; a
  -- structure or a list is the sum; each other value is 1
  pub count : A → ℕ
  -- the value has a canonical encoding
  pub encodable : A → Bool
  pub canonical : A → List ℕ
  -- the value of at most this nesting depth at the start of bytes, and the bytes after it
  pub decode : ℕ → List ℕ → Option (A × List ℕ)

-- a flat format as a format: each value has nesting depth 0, and counts as one
abbrev pub flat : {A : Type 0} → Flat A → Format A
flat f = record {
  encodes = f.encodes;
  depth = λ v. 0;
  count = λ v. 1;
  encodable = f.encodable;
  canonical = f.canonical;
  decode = λ levels. f.decode;
}

-- ---- laws

-- no value is encoded by no bytes
abbrev pub TakesSome : {A : Type 0} → (A → List ℕ → Type 0) → Type 0
TakesSome {A = A} encodes = (v : A) → encodes v [] → ⊥

-- the bytes encode the value, whose nesting depth is at most this
abbrev pub Within : {A : Type 0} → (A → List ℕ → Type 0) → (A → ℕ) → ℕ → A → List ℕ → Type 0
Within encodes depth levels v b = encodes v b × (depth v ≤ levels)

-- the greatest nesting depth of a value that is decoded or encoded
abbrev pub most_levels : ℕ
most_levels = 100

-- the laws of a flat format
pub record IsSound {A : Type 0} (f : Flat A) : Type 0 where
  -- decoding finds exactly what is encoded
  pub exact : Exact f.encodes f.decode
  -- the canonical encoding is an encoding of the value
  pub canonical_encodes : (v : A) → IsTrue (f.encodable v) → f.encodes v (f.canonical v)

-- the laws of a format
pub record IsLawful {A : Type 0} (f : Format A) : Type 0 where
  -- decoding finds exactly what is encoded and has at most the allowed nesting depth
  pub exact : (levels : ℕ) → Exact (Within f.encodes f.depth levels) (f.decode levels)
  -- the canonical encoding is an encoding of the value
  pub canonical_encodes : (v : A) → IsTrue (f.encodable v) → f.encodes v (f.canonical v)
  -- what is encoded can be decoded again
  pub encodable_depth : (v : A) → IsTrue (f.encodable v) → f.depth v ≤ most_levels
  -- the count of values of a value is at most the number of bytes of its encoding
  pub counted : (v : A) (b : List ℕ) → f.encodes v b → f.count v ≤ length b
  -- no encoding is empty
  pub starts : TakesSome f.encodes

-- ---- what readers and writers leave

-- what decoding left is a suffix of what was there
pub record Behind (old new : List ℕ) : Type 0 where
  pub taken : List ℕ
  pub parts : old ≡ taken ++ new

-- whatever the bytes before were a suffix of, what is left is a suffix of it too
abbrev pub StaysBehind : List ℕ → List ℕ → Type 0
StaysBehind old new = (start : List ℕ) → Behind start old → Behind start new

-- these bytes encode the value, which may be decoded; or, if there is none, no value that may be
-- decoded
abbrev pub IsWhole : {A : Type 0} → Format A → List ℕ → Option A → Type 0
IsWhole f octets (Some v) = Within f.encodes f.depth most_levels v octets
IsWhole {A = A} f octets None = (v : A) → f.depth v ≤ most_levels → ¬ (f.encodes v octets)

-- new begins with old
pub record Extends (old new : List ℕ) : Type 0 where
  pub more : List ℕ
  pub parts : new ≡ old ++ more

-- what a function returned is the result of decoding on lists of bytes, unless an allocation failed
abbrev pub Gives : {A : Type 0} → (List ℕ → Option (A × List ℕ)) → List ℕ → List ℕ → Result A ReadFault → Type 0
Gives read old new (Ok v) = read old ≡ Some (v, new)
Gives read old new (Err NoValue) = read old ≡ None
Gives read old new (Err OutOfMemory) = Unit {0}

-- the same for a value that view makes of what was returned
abbrev pub GivesBy : {X A : Type 0} → (X → A) → (List ℕ → Option (A × List ℕ)) → List ℕ → List ℕ → Result X ReadFault → Type 0
GivesBy view read old new (Ok v) = read old ≡ Some (view v, new)
GivesBy view read old new (Err NoValue) = read old ≡ None
GivesBy view read old new (Err OutOfMemory) = Unit {0}

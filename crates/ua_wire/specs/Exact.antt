-- Decoders on lists of bytes, when such a decoder is exact, and the relations and decoders that
-- formats are made of.
use Rattle.std.specs.Prelude.{◌≡◌, ℕ, List, [], ◌++◌, Bool, cond, IsTrue, Option, Some, None}

-- the bytes begin with an encoding of the value, and rest follows it
pub record Begins {A : Type 0} (encodes : A → List ℕ → Type 0) (octets : List ℕ) (v : A) (rest : List ℕ) : Type 0 where
  pub front : List ℕ
  pub parts : octets ≡ front ++ rest
  pub encoded : encodes v front

-- decoding finds each value whose encoding the bytes begin with, and no other
pub record Exact {A : Type 0} (encodes : A → List ℕ → Type 0) (decode : List ℕ → Option (A × List ℕ)) : Type 0 where
  pub sound : (octets : List ℕ) (v : A) (rest : List ℕ) → decode octets ≡ Some (v, rest) → Begins encodes octets v rest
  pub complete : (v : A) (front rest : List ℕ) → encodes v front → decode (front ++ rest) ≡ Some (v, rest)

infixl 10 ◌>>=◌
-- what a second step finds by what a first one found; nothing where either finds nothing
abbrev pub ◌>>=◌ : {A B : Type 0} → Option A → (A → Option B) → Option B
None >>= f = None
(Some x) >>= f = f x

-- ---- no value, and one value without bytes

-- no bytes encode any value
abbrev pub Never : {A : Type 0} → A → List ℕ → Type 0
Never v b = ⊥

-- finds nothing
abbrev pub never_read : {A : Type 0} → List ℕ → Option (A × List ℕ)
never_read octets = None

-- the value is x, and it has no bytes
abbrev pub IsOnly : {A : Type 0} → A → A → List ℕ → Type 0
IsOnly x v b = (v ≡ x) × (b ≡ [])

-- finds x, and takes no bytes
abbrev pub only_read : {A : Type 0} → A → List ℕ → Option (A × List ℕ)
only_read x octets = Some (x, octets)

-- ---- one after the other, the second by what the first is

-- an encoding of a head, and after it one of the value, by what the head is
pub record Follows {A B : Type 0} (first : A → List ℕ → Type 0) (second : A → B → List ℕ → Type 0) (v : B) (b : List ℕ) : Type 0 where
  pub head : A
  pub front : List ℕ
  pub back : List ℕ
  pub parts : b ≡ front ++ back
  pub head_encoded : first head front
  pub rest_encoded : second head v back

-- decodes a head and then, by what the head is, the value after it
abbrev pub then_read : {A B : Type 0} → (List ℕ → Option (A × List ℕ)) → (A → List ℕ → Option (B × List ℕ)) → List ℕ → Option (B × List ℕ)
then_read first second octets = first octets >>= λ x. second x.0 x.1

-- ---- one after the other

-- an encoding of the first of two values, and after it one of the second
pub record Joined {A B : Type 0} (first : A → List ℕ → Type 0) (second : B → List ℕ → Type 0) (v : A × B) (b : List ℕ) : Type 0 where
  pub front : List ℕ
  pub back : List ℕ
  pub parts : b ≡ front ++ back
  pub first_encoded : first v.0 front
  pub second_encoded : second v.1 back

-- decodes two values, one after the other
abbrev pub pair_read : {A B : Type 0} → (List ℕ → Option (A × List ℕ)) → (List ℕ → Option (B × List ℕ)) → List ℕ → Option ((A × B) × List ℕ)
pair_read first second octets = first octets >>= λ x. second x.1 >>= λ y. Some ((x.0, y.0), y.1)

-- ---- the same encodings for other values

-- the value is made of another one, which the bytes encode
pub record Image {A B : Type 0} (make : A → B) (encodes : A → List ℕ → Type 0) (v : B) (b : List ℕ) : Type 0 where
  pub of : A
  pub is : v ≡ make of
  pub encoded : encodes of b

-- decodes a value and makes another one of it
abbrev pub image_read : {A B : Type 0} → (A → B) → (List ℕ → Option (A × List ℕ)) → List ℕ → Option (B × List ℕ)
image_read make read octets = read octets >>= λ x. Some (make x.0, x.1)

-- finds what follows a value, and nothing of the value
abbrev pub skipped : {A : Type 0} → (List ℕ → Option (A × List ℕ)) → List ℕ → Option (Unit {0} × List ℕ)
skipped read = image_read (λ v. tt) read

-- ---- those values alone that pass a test

-- the value passes the test, and the bytes encode it
abbrev pub Passing : {A : Type 0} → (A → Bool) → (A → List ℕ → Type 0) → A → List ℕ → Type 0
Passing test encodes v b = IsTrue (test v) × encodes v b

-- decodes a value, and finds nothing if it fails the test
abbrev pub such_read : {A : Type 0} → (A → Bool) → (List ℕ → Option (A × List ℕ)) → List ℕ → Option (A × List ℕ)
such_read test read octets = read octets >>= λ x. cond (test x.0) (Some x) None

-- Formats made of formats.
use Rattle.std.specs.Prelude.{ℕ, ◌+◌, ◌^◌, max, [], ◌++◌, Bool, false, ◌&&◌, nat_lt}
use Rattle.ua_wire.specs.Exact.{Never, never_read, IsOnly, only_read, Joined, pair_read, Image, image_read, Passing, such_read}
use Rattle.ua_wire.specs.Number.{IsNumber, number_at, number_octets}
use Rattle.ua_wire.specs.Format.{Flat, Format}

-- ---- flat formats

-- a whole number of k bytes, the least significant first: number 4 encodes 258 by 02 01 00 00 (OPC
-- 10000-6, 5.2.2.2)
abbrev pub number : ℕ → Flat ℕ
number k = record {
  encodes = IsNumber k;
  encodable = λ n. nat_lt n (256 ^ k);
  canonical = number_octets k;
  decode = number_at k;
}

-- the format of no value: nothing is decoded, and nothing can be encoded
abbrev pub nothing : {A : Type 0} → Flat A
nothing = record {
  encodes = Never;
  encodable = λ v. false;
  canonical = λ v. [];
  decode = never_read;
}

-- one value alone, without bytes; is tells it from the others
abbrev pub only : {A : Type 0} → A → (A → Bool) → Flat A
only x is = record {
  encodes = IsOnly x;
  encodable = is;
  canonical = λ v. [];
  decode = only_read x;
}

-- two values, one after the other: both (number 2) (number 1) encodes (258, 7) by 02 01 07
abbrev pub both : {A B : Type 0} → Flat A → Flat B → Flat (A × B)
both f g = record {
  encodes = Joined f.encodes g.encodes;
  encodable = λ v. f.encodable v.0 && g.encodable v.1;
  canonical = λ v. f.canonical v.0 ++ g.canonical v.1;
  decode = pair_read f.decode g.decode;
}

-- the values made of those of f; one that passes the test can be encoded, as the value of f that it
-- is made of
abbrev pub image : {A B : Type 0} → (A → B) → (B → A) → (B → Bool) → Flat A → Flat B
image make parts is f = record {
  encodes = Image make f.encodes;
  encodable = λ v. is v && f.encodable (parts v);
  canonical = λ v. f.canonical (parts v);
  decode = image_read make f.decode;
}

-- the values made of those of f, where each has its parts: a structure, as the tuple of its fields
-- in order
abbrev pub made : {A B : Type 0} → (A → B) → (B → A) → Flat A → Flat B
made make parts f = record {
  encodes = Image make f.encodes;
  encodable = λ v. f.encodable (parts v);
  canonical = λ v. f.canonical (parts v);
  decode = image_read make f.decode;
}

-- those values of f alone that pass a test
abbrev pub such : {A : Type 0} → (A → Bool) → Flat A → Flat A
such test f = record {
  encodes = Passing test f.encodes;
  encodable = λ v. test v && f.encodable v;
  canonical = f.canonical;
  decode = such_read test f.decode;
}

-- ---- formats with levels

-- the nesting depth of a pair: that of the deeper of the two
abbrev pub pair_depth : {A B : Type 0} → (A → ℕ) → (B → ℕ) → A × B → ℕ
pair_depth first second v = max (first v.0) (second v.1)

-- the count of values of a pair: the sum of both
abbrev pub pair_count : {A B : Type 0} → (A → ℕ) → (B → ℕ) → A × B → ℕ
pair_count first second v = first v.0 + second v.1

-- two values, one after the other
abbrev pub pair : {A B : Type 0} → Format A → Format B → Format (A × B)
pair f g = record {
  encodes = Joined f.encodes g.encodes;
  depth = pair_depth f.depth g.depth;
  count = pair_count f.count g.count;
  encodable = λ v. f.encodable v.0 && g.encodable v.1;
  canonical = λ v. f.canonical v.0 ++ g.canonical v.1;
  decode = λ levels. pair_read (f.decode levels) (g.decode levels);
}

-- a structure with nested values, as the tuple of its fields in order
abbrev pub struct : {A B : Type 0} → (A → B) → (B → A) → Format A → Format B
struct make parts f = record {
  encodes = Image make f.encodes;
  depth = λ v. f.depth (parts v);
  count = λ v. f.count (parts v);
  encodable = λ v. f.encodable (parts v);
  canonical = λ v. f.canonical (parts v);
  decode = λ levels. image_read make (f.decode levels);
}

-- How many octets the encodings of each format take at least.
use Rattle.std.specs.Prelude.{◌≡◌, ℕ, suc, ◌+◌, ◌≤◌, List, [], ◌++◌, length, Option, Some, None}
use Rattle.std.proofs.Common.{ap, ◌∙◌, arith, length-append}
use Rattle.std.specs.Int.{Width}
use Rattle.ua_wire.specs.Exact.{Joined, Image}
use Rattle.ua_wire.specs.Number.{IsNumber, number_octets}
use Rattle.ua_wire.specs.Format.{TakesSome}
use Rattle.ua_wire.specs.Least.{TakesLeast}
use Rattle.ua_wire.specs.Signed.{signed, width_octets}
use Rattle.ua_wire.specs.FloatBits.{float_bits}
use Rattle.ua_wire.specs.DoubleBits.{double_bits}
use Rattle.ua_wire.specs.Counted.{AreOctets, EncodesCounted, counted, text}
use Rattle.ua_wire.proofs.NumbersRead.{length-number_octets}

-- an encoding of one octet or more is not empty
pub least_starts : {A : Type 0} (n : ℕ) (p : A → List ℕ → Type 0) → TakesLeast (suc n) p → TakesSome p
least_starts n p least v h = absurd (let some : suc n ≤ length {A = ℕ} [] = least v [] h in omega arith)

pub number_least : (k : ℕ) → TakesLeast k (IsNumber k)
number_least k v b h = let len : length b ≡ k = ap length h.1 ∙ length-number_octets k v in omega arith

pub octets_least : (n : ℕ) → TakesLeast n (AreOctets n)
octets_least n v b h = omega (arith, h.0, ap length h.1)

both_least : (m n : ℕ) (b front back : List ℕ) → b ≡ front ++ back → m ≤ length front → n ≤ length back → m + n ≤ length b
both_least m n b front back e h k = omega (arith, ap length e, length-append front back)

pub pair_least : {A B : Type 0} (m n : ℕ) (p : A → List ℕ → Type 0) (q : B → List ℕ → Type 0) → TakesLeast m p → TakesLeast n q
    → TakesLeast (m + n) (Joined p q)
pair_least m n p q first second v b h = both_least m n b h.front h.back h.parts (first v.0 h.front h.first_encoded) (second v.1 h.back h.second_encoded)

pub image_least : {A B : Type 0} (n : ℕ) (make : A → B) (p : A → List ℕ → Type 0) → TakesLeast n p → TakesLeast n (Image make p)
image_least n make p least v b h = least h.of b h.encoded

pub signed_least : (w : Width) → TakesLeast (width_octets w) (signed w).encodes
signed_least w v b h = number_least (width_octets w) h.of b h.encoded

pub float_bits_least : TakesLeast 4 float_bits.encodes
unfolding float_bits
float_bits_least v b h = number_least 4 h.of b h.encoded

pub double_bits_least : TakesLeast 8 double_bits.encodes
unfolding double_bits
double_bits_least v b h = number_least 8 h.of b h.encoded

encodes_least : (v : Option (List ℕ)) (b : List ℕ) → EncodesCounted v b → 4 ≤ length b
encodes_least None b h = number_least 4 h.0 b h.2
encodes_least (Some v) b h = omega (arith, ap length h.1, length-append (number_octets 4 (length v)) v, length-number_octets 4 (length v))

pub counted_least : TakesLeast 4 counted.encodes
unfolding counted
counted_least = encodes_least

pub text_least : TakesLeast 4 text.encodes
unfolding text
text_least v b h = counted_least v b h.1

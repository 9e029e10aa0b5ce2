-- The formats of Booleans, signed numbers, Floats and Doubles are lawful.
use Rattle.std.specs.Prelude.{◌≡◌, ◌^◌, ℕ, ℤ, pos, negsuc, suc, Bool, true, false, IsTrue}
use Rattle.std.specs.Int.{Width, w8, w16, w32, w64, cast_signed, cast_unsigned}
use Rattle.std.specs.Int.RustNames.{FitsSigned}
use Rattle.std.proofs.Common.{refl, sym}
use Rattle.std.proofs.lemmas.Bool.{ltb-true}
use Rattle.std.proofs.lemmas.Int.{to_z-of_z}
use mir.Val.{hbits}
use Rattle.ua_wire.specs.Number.{IsNumber}
use Rattle.ua_wire.specs.Format.{flat, IsSound, IsLawful, TakesSome}
use Rattle.ua_wire.specs.Boolean.{boolean, is_set, octet_of}
use Rattle.ua_wire.specs.Signed.{signed, in_range, width_octets}
use Rattle.ua_wire.specs.FloatBits.{float_bits, float_from_bits}
use Rattle.ua_wire.specs.DoubleBits.{double_bits, double_from_bits as double_of_bits}
use Rattle.ua_wire.proofs.Lawfulness.{sound_number, sound_made, sound_image, lawful_flat, number_starts, image_starts}

-- ---- Booleans

octet_back : (v : Bool) → v ≡ is_set (octet_of v)
octet_back false = refl
octet_back true = refl

pub sound_boolean : IsSound boolean
unfolding boolean
sound_boolean = sound_made is_set octet_of octet_back (sound_number 1)

pub boolean_starts : TakesSome boolean.encodes
unfolding boolean
boolean_starts = image_starts is_set (IsNumber 1) (number_starts 0)

pub lawful_boolean : IsLawful (flat boolean)
lawful_boolean = lawful_flat sound_boolean boolean_starts

-- ---- signed numbers

fits_in_range : (w : Width) (z : ℤ) → IsTrue (in_range w z) → FitsSigned w z
fits_in_range w (pos n) h = record { sfits = ltb-true n (2 ^ hbits w) h }
fits_in_range w (negsuc n) h = record { sfits = ltb-true n (2 ^ hbits w) h }

pub signed_back : (w : Width) (z : ℤ) → IsTrue (in_range w z) → z ≡ cast_signed w (cast_unsigned w z)
signed_back w z h = sym (to_z-of_z w z (fits_in_range w z h))

pub sound_signed : (w : Width) → IsSound (signed w)
sound_signed w = sound_image (cast_signed w) (cast_unsigned w) (in_range w) (signed_back w) (sound_number (width_octets w))

signed_some : (w : Width) (k : ℕ) → width_octets w ≡ suc k → TakesSome (IsNumber (width_octets w))
signed_some w k e = rw e (number_starts k)

pub signed_starts : (w : Width) (k : ℕ) → width_octets w ≡ suc k → TakesSome (signed w).encodes
signed_starts w k e = image_starts (cast_signed w) (IsNumber (width_octets w)) (signed_some w k e)

pub lawful_signed_8 : IsLawful (flat (signed w8))
lawful_signed_8 = lawful_flat (sound_signed w8) (signed_starts w8 0 refl)

pub lawful_signed_16 : IsLawful (flat (signed w16))
lawful_signed_16 = lawful_flat (sound_signed w16) (signed_starts w16 1 refl)

pub lawful_signed_32 : IsLawful (flat (signed w32))
lawful_signed_32 = lawful_flat (sound_signed w32) (signed_starts w32 3 refl)

pub lawful_signed_64 : IsLawful (flat (signed w64))
lawful_signed_64 = lawful_flat (sound_signed w64) (signed_starts w64 7 refl)

-- ---- Floats and Doubles

pub sound_float_bits : IsSound float_bits
unfolding float_bits
sound_float_bits = sound_made float_from_bits (λ v. v.bits) (λ v. refl) (sound_number 4)

pub float_bits_starts : TakesSome float_bits.encodes
unfolding float_bits
float_bits_starts = image_starts float_from_bits (IsNumber 4) (number_starts 3)

pub lawful_float_bits : IsLawful (flat float_bits)
lawful_float_bits = lawful_flat sound_float_bits float_bits_starts

pub sound_double_bits : IsSound double_bits
unfolding double_bits
sound_double_bits = sound_made double_of_bits (λ v. v.bits) (λ v. refl) (sound_number 8)

pub double_bits_starts : TakesSome double_bits.encodes
unfolding double_bits
double_bits_starts = image_starts double_of_bits (IsNumber 8) (number_starts 7)

pub lawful_double_bits : IsLawful (flat double_bits)
lawful_double_bits = lawful_flat sound_double_bits double_bits_starts

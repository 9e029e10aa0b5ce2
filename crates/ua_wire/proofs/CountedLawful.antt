-- The formats of octets, and of octets and texts behind their count, are sound and lawful.
use Rattle.std.specs.Prelude.{ℕ, List, IsTrue, length, Option, Some, None}
use Rattle.std.proofs.Common.{refl, arith}
use Rattle.std.proofs.lemmas.Bool.{eqb-true, ltb-true}
use Rattle.ua_wire.specs.Format.{flat, IsSound, IsLawful, TakesSome}
use Rattle.ua_wire.specs.Counted.{octets, counted, text, is_text, first_negative, null_count, EncodesCounted, counted_fits, counted_octets}
use Rattle.ua_wire.proofs.CountedRead.{exact_octets, exact_counted}
use Rattle.ua_wire.proofs.Lawfulness.{sound_such, lawful_flat}
use Rattle.ua_wire.proofs.Leasts.{least_starts, counted_least, text_least}

pub sound_octets : (n : ℕ) → IsSound (octets n)
sound_octets n = record { exact = exact_octets n; canonical_encodes = λ v h. (eqb-true (length v) n h, refl) }

counted_encodes : (v : Option (List ℕ)) → IsTrue (counted_fits v) → EncodesCounted v (counted_octets v)
counted_encodes None h = (null_count, omega arith, (omega arith, refl))
counted_encodes (Some v) h = (ltb-true (length v) first_negative h, refl)

pub sound_counted : IsSound counted
unfolding counted
sound_counted = record { exact = exact_counted; canonical_encodes = counted_encodes }

pub sound_text : IsSound text
unfolding text
sound_text = sound_such is_text sound_counted

pub counted_starts : TakesSome counted.encodes
counted_starts = least_starts 3 counted.encodes counted_least

pub text_starts : TakesSome text.encodes
text_starts = least_starts 3 text.encodes text_least

pub lawful_counted : IsLawful (flat counted)
lawful_counted = lawful_flat sound_counted counted_starts

pub lawful_text : IsLawful (flat text)
lawful_text = lawful_flat sound_text text_starts

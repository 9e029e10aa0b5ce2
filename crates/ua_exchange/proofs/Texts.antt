-- Texts of ASCII can be written.
use Rattle.std.specs.Prelude.{◌≡◌, ℕ, zero, suc, nat_lt, length, List, [], ◌∷◌, Bool, true, IsTrue, Some}
use Rattle.std.specs.List.{list_all}
use Rattle.std.specs.Str.{is_utf8, IsAscii}
use Rattle.std.proofs.Common.{lit<}
use Rattle.std.proofs.lemmas.Bool.{ltb-true}
use Rattle.std.proofs.lemmas.Str.{is_utf8-from_IsUtf8, IsUtf8-from_ascii}
use Rattle.ua_builtin.specs.Counted.{text, counted, first_negative}
use Rattle.ua_nodes.proofs.Fits.{both_are}
use Rattle.ua_wire.proofs.Readers.{both_true}

-- each octet is ASCII
abbrev pub are_ascii : List ℕ → Bool
are_ascii octets = list_all (λ octet. nat_lt octet 128) octets

ascii : (octets : List ℕ) → are_ascii octets ≡ true → IsAscii octets
ascii [] h i = lit< tt
ascii (octet ∷ octets) h zero = ltb-true octet 128 (both_true (nat_lt octet 128) (are_ascii octets) h).0
ascii (octet ∷ octets) h (suc i) = ascii octets (both_true (nat_lt octet 128) (are_ascii octets) h).1 i

pub word_fits : (octets : List ℕ) → are_ascii octets ≡ true → nat_lt (length octets) first_negative ≡ true → IsTrue (text.encodable (Some octets))
unfolding text counted
word_fits octets h few = both_are (is_utf8 octets) _ (is_utf8-from_IsUtf8 octets (IsUtf8-from_ascii octets (ascii octets h))) few

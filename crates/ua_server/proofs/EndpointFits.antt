-- What a server says of itself can be written, where the texts of its endpoint can.
use Rattle.std.specs.Prelude.{◌≡◌, ℕ, zero, suc, pos, nat_lt, length, List, [], ◌∷◌, Bool, true, IsTrue, Option, Some, None, codes}
use Rattle.std.specs.List.{list_all}
use Rattle.std.specs.Str.{is_utf8, IsAscii}
use Rattle.std.proofs.Common.{refl, lit<}
use Rattle.std.proofs.lemmas.Bool.{ltb-true}
use Rattle.std.proofs.lemmas.Str.{is_utf8-from_IsUtf8, IsUtf8-from_ascii}
use Rattle.ua_builtin.specs.Counted.{text, counted, first_negative}
use Rattle.ua_builtin.specs.Format.{Format}
use Rattle.ua_builtin.specs.LocalizedText.{localized_text}
use Rattle.ua_nodes.proofs.Fits.{both_are}
use Rattle.ua_wire.proofs.Readers.{both_true}
use Rattle.ua_opening.specs.Array.{array}
use Rattle.ua_structures.specs.Discovery.{application_description, user_token_policy, endpoint_description}
use Rattle.ua_opening.specs.Field.{byte_string, int32, string}
use Rattle.ua_server.specs.Endpoint.{none_security_policy, transport_profile, anonymous, description_of, IsEndpointEncodable}
use Rattle.ua_server.specs.declared.endpoint.Endpoint.{Endpoint}

pub no_text : IsTrue (string.encodable None)
unfolding text counted
no_text = refl

pub no_octets : IsTrue (byte_string.encodable None)
unfolding counted
no_octets = refl

pub no_array : {A : Type 0} (f : Format A) → IsTrue ((array f).encodable None)
unfolding array
no_array f = refl

pub one_fits : {A : Type 0} (f : Format A) (x : A) → IsTrue (f.encodable x) → IsTrue ((array f).encodable (Some (x ∷ [])))
unfolding array
one_fits f x h = both_are (f.encodable x) true h refl

-- each octet is ASCII
abbrev are_ascii : List ℕ → Bool
are_ascii octets = list_all (λ octet. nat_lt octet 128) octets

ascii : (octets : List ℕ) → are_ascii octets ≡ true → IsAscii octets
ascii [] h i = lit< tt
ascii (octet ∷ octets) h zero = ltb-true octet 128 (both_true (nat_lt octet 128) (are_ascii octets) h).0
ascii (octet ∷ octets) h (suc i) = ascii octets (both_true (nat_lt octet 128) (are_ascii octets) h).1 i

word_fits : (octets : List ℕ) → are_ascii octets ≡ true → nat_lt (length octets) first_negative ≡ true → IsTrue (string.encodable (Some octets))
unfolding text counted
word_fits octets h few = both_are (is_utf8 octets) _ (is_utf8-from_IsUtf8 octets (IsUtf8-from_ascii octets (ascii octets h))) few

anonymous_fits : IsTrue (user_token_policy.encodable anonymous)
unfolding user_token_policy
anonymous_fits =
    both_are (string.encodable (Some (codes "anonymous"))) _ (word_fits (codes "anonymous") refl refl)
    (both_are (int32.encodable (pos 0)) _ refl
    (both_are (string.encodable None) _ no_text
    (both_are (string.encodable None) _ no_text no_text)))

name_fits : (name : Option (List ℕ)) → IsTrue (text.encodable name) → IsTrue (localized_text.encodable (record { locale = None; text = name }))
unfolding localized_text
name_fits None h = refl
name_fits (Some name) h = h

application_fits : (e : Endpoint) → IsEndpointEncodable e → IsTrue (application_description.encodable (description_of e).server)
unfolding application_description
application_fits e w =
    both_are (string.encodable e.application_uri) _ w.application_uri
    (both_are (string.encodable None) _ no_text
    (both_are (localized_text.encodable (record { locale = None; text = e.name })) _ (name_fits e.name w.name)
    (both_are (string.encodable None) _ no_text
    (both_are (string.encodable None) _ no_text (one_fits string e.url w.url)))))

pub description_fits : (e : Endpoint) → IsEndpointEncodable e → IsTrue (endpoint_description.encodable (description_of e))
unfolding endpoint_description
description_fits e w =
    both_are (string.encodable e.url) _ w.url
    (both_are (application_description.encodable (description_of e).server) _ (application_fits e w)
    (both_are (byte_string.encodable None) _ no_octets
    (both_are (string.encodable (Some none_security_policy)) _ (word_fits none_security_policy refl refl)
    (both_are ((array user_token_policy).encodable (Some (anonymous ∷ []))) _ (one_fits user_token_policy anonymous anonymous_fits)
    (both_are (string.encodable (Some transport_profile)) _ (word_fits transport_profile refl refl) refl)))))

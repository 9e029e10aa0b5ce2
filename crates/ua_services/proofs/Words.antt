-- Words that the program sends can be written.
use Rattle.std.specs.Prelude.{◌≡◌, ◌<◌, ◌≤◌, ◌^◌, ◌++◌, ℕ, zero, suc, nat_lt, length, List, [], ◌∷◌, Bool, true, false, ◌&&◌, IsErrOf}
use Rattle.std.specs.Prelude.{IsFalse, IsTrue, ◌↔◌, Option, Some, None, Result, Ok, Err, option_map, String, string_bytes, codes}
use Rattle.std.specs.Fmt.{decimal}
use Rattle.std.specs.List.{list_all}
use Rattle.std.specs.Str.{is_utf8, IsAscii, IsUtf8}
use Rattle.std.proofs.Common.{refl, sym, ap, subst, ◌∙◌, lit<, arith, length-append, Global}
use Rattle.std.proofs.lemmas.Bool.{ltb-true, ltb-false, lt-ltb, le-ltb}
use Rattle.std.proofs.lemmas.Fmt.{IsAscii-decimal, length-decimal-le}
use Rattle.std.proofs.lemmas.Str.{is_utf8-from_IsUtf8, IsUtf8-from_ascii, IsUtf8-append}
use Rattle.ua_builtin.specs.Counted.{text, counted, first_negative, is_text}
use Rattle.ua_builtin.specs.ExtensionObject.{extension_object}
use Rattle.ua_builtin.specs.NodeId.{node_id, null_id}
use Rattle.ua_wire.specs.Number.{number_octets}
use Rattle.ua_wire.proofs.FrontsRead.{is_utf8_string}
use Rattle.ua_wire.proofs.Readers.{both_true}
use Rattle.ua_wire.specs.declared.fault.WriteFault.{WriteFault}
use Rattle.ua_wire.specs.declared.fault.WriteFault.TheVariants.{NotWritable, OutOfMemory}
use Rattle.ua_services.specs.Identity.{identity_object}
use Rattle.ua_opening.specs.Message.{standard}
use Rattle.ua_opening.specs.Field.{string}
use Rattle.ua_structures.specs.Session.{anonymous_identity_token}
use Rattle.ua_structures.specs.declared.session.AnonymousIdentityToken.{AnonymousIdentityToken}
use Rattle.ua_services.specs.SessionRequests.{anonymous_id, anonymous_identity, local_url}

pub and_false : (a b : Bool) → IsFalse b → IsFalse (a && b)
and_false true b h = h
and_false false b h = refl

pub first_false : (a b : Bool) → IsFalse a → IsFalse (a && b)
first_false true b h = absurd cc
first_false false b h = refl

pub both_are : (a b : Bool) → a ≡ true → b ≡ true → a && b ≡ true
both_are a b p q = ap (λ (t : Bool). t && b) p ∙ q

text_fits : (v : List ℕ) → IsUtf8 v → length v < 2 ^ 31 → text.encodable (Some v) ≡ true
unfolding text counted
text_fits v u few = both_are (is_utf8 v) (nat_lt (length v) first_negative) (is_utf8-from_IsUtf8 v u) (lt-ltb (length v) first_negative (omega arith))

-- each octet is ASCII
abbrev are_ascii : List ℕ → Bool
are_ascii octets = list_all (λ octet. nat_lt octet 128) octets

ascii : (octets : List ℕ) → are_ascii octets ≡ true → IsAscii octets
ascii [] h i = lit< tt
ascii (octet ∷ octets) h zero = ltb-true octet 128 (both_true (nat_lt octet 128) (are_ascii octets) h).0
ascii (octet ∷ octets) h (suc i) = ascii octets (both_true (nat_lt octet 128) (are_ascii octets) h).1 i

word_fits : (octets : List ℕ) → are_ascii octets ≡ true → nat_lt (length octets) first_negative ≡ true → IsTrue (string.encodable (Some octets))
unfolding text counted
word_fits octets h few = both_are (is_utf8 octets) _ (is_utf8-from_IsUtf8 octets (IsUtf8-from_ascii octets (ascii octets h))) few

pub client_uri_fits : IsTrue (string.encodable (Some (codes "urn:ua:client")))
client_uri_fits = word_fits (codes "urn:ua:client") refl refl

pub server_uri_fits : IsTrue (string.encodable (Some (codes "urn:ua:server")))
server_uri_fits = word_fits (codes "urn:ua:server") refl refl

pub name_fits : IsTrue (string.encodable (Some (codes "ua")))
name_fits = word_fits (codes "ua") refl refl

pub local_url_fits : (port : ℕ) → port < 2 ^ 16 → IsTrue (string.encodable (Some (local_url port)))
unfolding local_url
local_url_fits port small =
    let front = codes "opc.tcp://localhost:" in
    let few = length-decimal-le 5 port (omega arith) (omega arith) (omega arith) in
    let long = length-append front (decimal port) in
    text_fits (front ++ decimal port)
    (IsUtf8-append front (decimal port) (IsUtf8-from_ascii front (ascii front refl)) (IsUtf8-from_ascii (decimal port) (IsAscii-decimal port (omega arith))))
    (omega arith)

pub null_id_fits : IsTrue (node_id.encodable null_id)
unfolding node_id
null_id_fits = refl

-- ---- identities

pub anonymous_fits : IsTrue (string.encodable anonymous_id)
anonymous_fits = word_fits (codes "anonymous") refl refl

pub identity_fits : IsTrue (extension_object.encodable (anonymous_identity anonymous_id))
unfolding extension_object node_id anonymous_identity_token text counted number_octets
identity_fits = refl

-- what refuses the token of a policy refuses its PolicyId
pub refused_by : {A B : Type 0} (fault : WriteFault) (policy_id : Option (List ℕ)) (token : AnonymousIdentityToken) → token.policy_id ≡ policy_id
    → IsErrOf {T = A} (Err fault) NotWritable ↔ IsFalse (anonymous_identity_token.encodable token)
    → IsErrOf {T = B} (Err fault) NotWritable ↔ IsFalse (string.encodable policy_id)
unfolding anonymous_identity_token
refused_by NotWritable policy_id token e h = (λ same. subst (λ (p : Option (List ℕ)). IsFalse (string.encodable p)) e (h.0 refl), λ unfit. refl)
refused_by OutOfMemory policy_id token e h =
    (λ same. absurd cc, λ unfit. let same = h.1 (subst (λ (p : Option (List ℕ)). IsFalse (string.encodable p)) (sym e) unfit) in absurd cc)

pub not_refused_by : {A B : Type 0} (x : A) (y : B) (policy_id : Option (List ℕ)) (token : AnonymousIdentityToken) → token.policy_id ≡ policy_id
    → IsErrOf {E = WriteFault} (Ok x) NotWritable ↔ IsFalse (anonymous_identity_token.encodable token)
    → IsErrOf {E = WriteFault} (Ok y) NotWritable ↔ IsFalse (string.encodable policy_id)
unfolding anonymous_identity_token
not_refused_by x y policy_id token e h =
    (λ same. absurd cc, λ unfit. let same = h.1 (subst (λ (p : Option (List ℕ)). IsFalse (string.encodable p)) (sym e) unfit) in absurd cc)

-- where the PolicyId fits nothing is refused
pub not_refused : {A : Type 0} (r : Result A WriteFault) (fault : WriteFault) (policy_id : Option (List ℕ)) → policy_id ≡ anonymous_id
    → IsErrOf r NotWritable ↔ IsFalse (string.encodable policy_id) → r ≡ Err fault → fault ≡ NotWritable → ⊥
not_refused r fault policy_id e h failed is_that =
    let never : false ≡ true = sym (h.0 (failed ∙ ap Err is_that)) ∙ (ap (λ (p : Option (List ℕ)). (string).encodable p) e ∙ anonymous_fits) in
    absurd cc

pub identity_named : (policy_id : Option (List ℕ)) (token : AnonymousIdentityToken) → token.policy_id ≡ policy_id
    → identity_object (anonymous_identity_token.canonical token) ≡ anonymous_identity policy_id
identity_named policy_id token e = ap (λ (p : Option (List ℕ)). anonymous_identity p) e

-- octets that are too many for a count are so with the count before them
long_before : (v : List ℕ) (n : ℕ) → IsFalse (nat_lt (length v) n) → IsFalse (nat_lt (length (number_octets 4 (length v) ++ v)) n)
long_before v n unfit =
    let long : n ≤ length v = ltb-false (length v) n unfit in
    let whole = length-append (number_octets 4 (length v)) v in
    le-ltb (length (number_octets 4 (length v) ++ v)) n (omega (arith, long, whole))

text_part : (a b : Bool) → IsTrue a → IsFalse (a && b) → IsFalse b
text_part true b holds unfit = unfit
text_part false b holds unfit = absurd cc

-- a text that no String holds is too long for the object that carries it, too
pub too_long : (policy_id : Option (List ℕ)) → IsTrue (is_text policy_id) → IsFalse (string.encodable policy_id)
    → IsFalse (extension_object.encodable (anonymous_identity policy_id))
unfolding extension_object anonymous_identity_token text counted
too_long None utf8 unfit = absurd cc
too_long (Some v) utf8 unfit =
    and_false (node_id.encodable (standard 321)) _ (long_before v first_negative (text_part (is_utf8 v) (nat_lt (length v) first_negative) utf8 unfit))

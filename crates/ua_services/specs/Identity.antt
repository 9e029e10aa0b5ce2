-- The identity of a user, in the object that carries it.
use Rattle.std.specs.Prelude.{◌≡◌, ℕ, List, Some}
use Rattle.ua_builtin.specs.declared.extension_object.ExtensionObject.{ExtensionObject}
use Rattle.ua_builtin.specs.declared.extension_object.ExtensionBody.TheVariants.{ByteString}
use Rattle.ua_structures.specs.Session.{anonymous_identity_token}
use Rattle.ua_structures.specs.declared.session.AnonymousIdentityToken.{AnonymousIdentityToken}
use Rattle.ua_opening.specs.Message.{IsBody, standard}

-- the object of an AnonymousIdentityToken: the type i=321, and these bytes as its body (OPC
-- 10000-6, A.3)
abbrev pub identity_object : List ℕ → ExtensionObject
identity_object octets = record { type_id = standard 321; body = ByteString (Some octets) }

-- the object holds bytes that are an encoding of the token, with nothing after it (OPC 10000-4,
-- 7.41.3)
abbrev pub CarriesToken : ExtensionObject → AnonymousIdentityToken → Type 0
CarriesToken object token = (octets : List ℕ) × (object ≡ identity_object octets) × IsBody anonymous_identity_token token octets

-- the object carries no token
abbrev pub CarriesNone : ExtensionObject → Type 0
CarriesNone object = (token : AnonymousIdentityToken) → CarriesToken object token → ⊥

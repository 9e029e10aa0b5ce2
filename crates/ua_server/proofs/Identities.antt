-- Who one is, in the object that carries it.
use Rattle.std.specs.Prelude.{◌≡◌, ℕ, List, Bool, true, false, ◌&&◌, nat_eq, Option, Some, None}
use Rattle.std.proofs.Common.{refl, sym, ◌∙◌, ap}
use Rattle.std.proofs.lemmas.Bool.{eqb-true}
use Rattle.ua_builtin.specs.NodeId.{node}
use Rattle.ua_builtin.specs.declared.extension_object.ExtensionBody.{ExtensionBody}
use Rattle.ua_builtin.specs.declared.extension_object.ExtensionBody.TheVariants.{Absent, ByteString, Xml}
use Rattle.ua_builtin.specs.declared.extension_object.ExtensionObject.{ExtensionObject}
use Rattle.ua_builtin.specs.declared.node_id.NodeId.{NodeId}
use Rattle.ua_builtin.specs.declared.node_id.Identifier.{Identifier}
use Rattle.ua_builtin.specs.declared.node_id.Identifier.TheVariants.{Numeric, Text, Guid as Global, Opaque}
use Rattle.ua_builtin.specs.NodeId.{null_id}
use Rattle.ua_structures.specs.Session.{anonymous_identity_token}
use Rattle.ua_structures.specs.declared.session.AnonymousIdentityToken.{AnonymousIdentityToken}
use Rattle.ua_structures.proofs.SessionLawful.{lawful_anonymous_identity_token}
use Rattle.ua_services.specs.Identity.{CarriesToken, CarriesNone}
use Rattle.ua_opening.specs.Message.{IsBody, body_of, standard, standard_number}
use Rattle.ua_opening.proofs.BodyRead.{body_found, body_is}
use Rattle.ua_server.specs.Sessions.{is_token, is_anonymous_by, is_anonymous_token}

token_found : (token : AnonymousIdentityToken) (octets : List ℕ) → IsBody anonymous_identity_token token octets → is_token (Some octets) ≡ true
token_found token octets h = rw (body_found anonymous_identity_token lawful_anonymous_identity_token octets token h)

pub carried : (object : ExtensionObject) (token : AnonymousIdentityToken) → CarriesToken object token → true ≡ is_anonymous_token object
carried object token h = sym (ap is_anonymous_token h.1 ∙ token_found token h.0 h.2)

-- the NodeId of the standard's namespace with this number
standard_is : (id : NodeId) (n : ℕ) → standard_number id ≡ Some n → id ≡ standard n
standard_is id n e = by id.namespace id.identifier (nat_eq id.namespace 0) refl e
  where
    by : (ns : ℕ) (i : Identifier) (t : Bool) → nat_eq ns 0 ≡ t → standard_number (node ns i) ≡ Some n → node ns i ≡ standard n
    by ns i false f g = absurd (let none : standard_number (node ns i) ≡ None = rw f refl in cc)
    by ns (Numeric m) true f g = let zero = eqb-true ns 0 f in let is : standard_number (node ns (Numeric m)) ≡ Some m = rw f refl in cc
    by ns (Text x) true f g = absurd (let none : standard_number (node ns (Text x)) ≡ None = rw f refl in cc)
    by ns (Global x) true f g = absurd (let none : standard_number (node ns (Global x)) ≡ None = rw f refl in cc)
    by ns (Opaque x) true f g = absurd (let none : standard_number (node ns (Opaque x)) ≡ None = rw f refl in cc)

and_false : (a : Bool) → a && false ≡ false
and_false true = refl
and_false false = refl

no_token : (id : NodeId) (octets : List ℕ) (o : Option AnonymousIdentityToken) → body_of anonymous_identity_token octets ≡ o → id ≡ standard 321
    → CarriesNone (record { type_id = id; body = ByteString (Some octets) }) → is_token (Some octets) ≡ false
no_token id octets None e same none = rw e
no_token id octets (Some token) e same none =
    absurd (none token (
      octets,
      rw same,
      body_is anonymous_identity_token lawful_anonymous_identity_token octets token e,
    ))

not_carried_by : (id : NodeId) (body : ExtensionBody) → (id ≡ null_id → ⊥) → CarriesNone (record { type_id = id; body = body })
    → is_anonymous_token (record { type_id = id; body = body }) ≡ false
not_carried_by id body other none = by (standard_number id) body refl none
  where
    zero : (n : ℕ) (t : Bool) → nat_eq n 0 ≡ t → standard_number id ≡ Some n → t ≡ false
    zero n true f e = absurd (other (standard_is id n e ∙ ap standard (eqb-true n 0 f)))
    zero n false f e = refl

    held : (n : ℕ) (octets : List ℕ) (t : Bool) → nat_eq n 321 ≡ t → standard_number id ≡ Some n
        → CarriesNone (record { type_id = id; body = ByteString (Some octets) }) → t && is_token (Some octets) ≡ false
    held n octets true f e c = no_token id octets (body_of anonymous_identity_token octets) refl (standard_is id n e ∙ ap standard (eqb-true n 321 f)) c
    held n octets false f e c = refl

    by : (o : Option ℕ) (b : ExtensionBody) → standard_number id ≡ o → CarriesNone (record { type_id = id; body = b }) → is_anonymous_by o b ≡ false
    by None b e c = refl
    by (Some n) Absent e c = zero n (nat_eq n 0) refl e
    by (Some n) (ByteString None) e c = and_false (nat_eq n 321)
    by (Some n) (ByteString (Some octets)) e c = held n octets (nat_eq n 321) refl e c
    by (Some n) (Xml x) e c = refl

pub not_carried : (object : ExtensionObject) → (object.type_id ≡ null_id → ⊥) → CarriesNone object → false ≡ is_anonymous_token object
not_carried object other none = sym (not_carried_by object.type_id object.body other none)

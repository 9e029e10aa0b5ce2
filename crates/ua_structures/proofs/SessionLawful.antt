-- The identity of an anonymous user is lawful.
use Rattle.std.proofs.Common.{refl}
use Rattle.ua_builtin.specs.Format.{IsLawful}
use Rattle.ua_structures.specs.Session.{anonymous_identity_token}
use Rattle.ua_wire.proofs.CountedLawful.{lawful_text}
use Rattle.ua_wire.proofs.Lawfulness.{lawful_struct}

pub lawful_anonymous_identity_token : IsLawful anonymous_identity_token
unfolding anonymous_identity_token
lawful_anonymous_identity_token = lawful_struct _ _ (λ v. refl) (λ p. refl) lawful_text

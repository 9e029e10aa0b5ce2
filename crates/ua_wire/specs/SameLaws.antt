-- The laws of equality and of hashes, which the standard library's traits require of an impl.
use Rattle.std.specs.Prelude.{◌≡◌, ℕ, List, true, Option, Some, None}
use Rattle.std.proofs.Common.{refl, sym, ap}
use Rattle.std.specs.Bool.{Decides}
use Rattle.std.specs.Cmp.{IsEquivalence, unsigned_Decides}
use Rattle.std.specs.Cmp.Lexicographic.{pointwise_decides, options_equiv}
use Rattle.std.proofs.lemmas.Bool.{false≢true}
use Rattle.std.proofs.lemmas.Cmp.{nat_list_eq_equiv}
use Rattle.std.proofs.lemmas.Option.{none-some, same_Some}
use Rattle.ua_wire.specs.Same.{is_same, octets_hashed, text_hashed}

pub is_same_equivalence : IsEquivalence is_same
is_same_equivalence = options_equiv nat_list_eq_equiv

pub is_same_decides : (a b : Option (List ℕ)) → Decides (is_same a b) (a ≡ b)
is_same_decides None None = ((λ h. refl), (λ e. refl))
is_same_decides None (Some y) = ((λ h. absurd (false≢true h)), (λ e. absurd (none-some y e)))
is_same_decides (Some x) None = ((λ h. absurd (false≢true h)), (λ e. absurd (none-some x (sym e))))
is_same_decides (Some x) (Some y) =
    let d = pointwise_decides unsigned_Decides x y in
    ((λ h. ap Some (d.0 h)), (λ e. d.1 (same_Some x y e)))

pub octets_alike : (a b : Option (List ℕ)) → is_same a b ≡ true → octets_hashed a ≡ octets_hashed b
octets_alike a b h = ap octets_hashed ((is_same_decides a b).0 h)

pub text_alike : (a b : Option (List ℕ)) → is_same a b ≡ true → text_hashed a ≡ text_hashed b
text_alike a b h = ap text_hashed ((is_same_decides a b).0 h)

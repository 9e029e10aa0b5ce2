-- What holds of every lawful format.
use Rattle.std.specs.Prelude.{◌≡◌, ℕ, max, List, ◌++◌, length, take}
use Rattle.std.proofs.Common.{refl, sym, ◌∙◌, ap, subst, arith, length-append}
use Rattle.std.proofs.lemmas.List.{take_at}
use Rattle.ua_wire.specs.Format.{Format, IsLawful, Within}
use Rattle.ua_wire.specs.Laws.{EncodesOnce, ReadsBack}
use Rattle.ua_wire.proofs.Readers.{some_is}

append_same_end : (a c y : List ℕ) → a ++ y ≡ c ++ y → a ≡ c
append_same_end a c y e =
    let len : length a ≡ length c = omega (arith, ap length e, length-append a y, length-append c y) in
    sym (take_at a y (length c) len) ∙ ap (take (length c)) e ∙ take_at c y (length c) refl

pub encodes_once_of : {A : Type 0} (f : Format A) → IsLawful f → EncodesOnce f.encodes
encodes_once_of {A = A} f lawful v w a c x y p q e =
    let levels = max (f.depth v) (f.depth w) in
    let one : Within f.encodes f.depth levels v a = (p, omega arith) in
    let two : Within f.encodes f.depth levels w c = (q, omega arith) in
    let same : ◌≡◌ {A = A × List ℕ} (v, x) (w, y) = some_is (v, x) (w, y) (sym ((lawful.exact levels).complete v a x one) ∙ ap (f.decode levels) e
    ∙ (lawful.exact levels).complete w c y two) in
    let rests : x ≡ y = ap (λ (u : A × List ℕ). u.1) same in
    (ap (λ (u : A × List ℕ). u.0) same, append_same_end a c y (subst (λ (t : List ℕ). a ++ t ≡ c ++ y) rests e))

pub reads_back_of : {A : Type 0} (f : Format A) → IsLawful f → ReadsBack f
reads_back_of f lawful v rest levels h deep = (lawful.exact levels).complete v (f.canonical v) rest (lawful.canonical_encodes v h, deep)

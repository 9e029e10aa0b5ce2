-- What is appended to a list of bytes, part by part.
use Rattle.std.proofs.Common.{◌≡◌, ℕ, List, ◌++◌, Result, Ok, Err, ap, ◌∙◌, append_assoc}
use Rattle.std.specs.Result.{OnErr, OnOk}
use Rattle.std.proofs.lemmas.Result.{on_err_weaker, on_ok_weaker}
use Rattle.ua_wire.specs.Format.{Extends}

-- some bytes and then others
pub then_more : (old mid new more last : List ℕ) → mid ≡ old ++ more → new ≡ mid ++ last → new ≡ old ++ (more ++ last)
then_more old mid new more last p q = q ∙ ap (λ (t : List ℕ). t ++ last) p ∙ append_assoc old more last

-- the same, where a call says so if it succeeds
pub then_ok : {T E : Type 0} (r : Result T E) (old mid new more last : List ℕ) → mid ≡ old ++ more → OnOk r (new ≡ mid ++ last)
    → OnOk r (new ≡ old ++ (more ++ last))
then_ok r old mid new more last p q = on_ok_weaker r (λ e. then_more old mid new more last p e) q

-- and behind two parts, or behind fields
pub pair_more : {T E : Type 0} (r : Result T E) (old mid new a b rest : List ℕ) → mid ≡ old ++ (a ++ b) → OnOk r (new ≡ mid ++ rest)
    → OnOk r (new ≡ old ++ (a ++ (b ++ rest)))
pair_more r old mid new a b rest p q =
    on_ok_weaker r (λ e. then_more old mid new (a ++ b) rest p e ∙ ap (λ (t : List ℕ). old ++ t) (append_assoc a b rest)) q

-- some bytes and then a part of others
pub then_some : (old mid new more : List ℕ) → mid ≡ old ++ more → Extends mid new → Extends old new
then_some old mid new more p e =
    record { more = more ++ e.more; parts = then_more old mid new more e.more p e.parts }

-- the same, where a call says so if it fails
pub more_then : {T E : Type 0} (r : Result T E) (old mid new more : List ℕ) → mid ≡ old ++ more → OnErr r (Extends mid new)
    → OnErr r (Extends old new)
more_then r old mid new more p q = on_err_weaker r (λ e. then_some old mid new more p e) q

-- what there is, where there is an error
pub on_err : {T E P : Type 0} (r : Result T E) → P → OnErr r P
on_err (Ok x) p = tt
on_err (Err e) p = p

-- What readers that are made of readers pass over.
use Rattle.std.specs.Prelude.{◌≡◌, List, ℕ, Option, Some, None, Result, Ok, Err}
use Rattle.std.proofs.Common.{refl, ◌∙◌}
use Rattle.ua_wire.specs.Exact.{◌>>=◌, image_read, skipped}
use Rattle.ua_wire.specs.Format.{Gives}
use Rattle.ua_wire.specs.declared.fault.ReadFault.{ReadFault}
use Rattle.ua_wire.specs.declared.fault.ReadFault.TheVariants.{NoValue, OutOfMemory}
use Rattle.ua_diagnostic.specs.Parts.{Decoder}

-- what stands behind what was found
abbrev pub rest : {A : Type 0} → Option (A × List ℕ) → Option (Unit {0} × List ℕ)
rest found = found >>= λ x. Some (tt, x.1)

rest_image : {A B : Type 0} (make : A → B) (found : Option (A × List ℕ)) → rest (found >>= λ x. Some (make x.0, x.1)) ≡ rest found
rest_image make None = refl
rest_image make (Some x) = refl

-- other values of the same octets
pub skipped_image : {A B : Type 0} (make : A → B) (r : Decoder A) (octets : List ℕ) → skipped (image_read make r) octets ≡ skipped r octets
skipped_image make r octets = rest_image make (r octets)

rest_then : {A B C : Type 0} (make : A → B → C) (s : Decoder B) (found : Option (A × List ℕ)) → rest (found >>= λ x. s x.1 >>= λ y. Some (make x.0 y.0, y.1))
    ≡ (rest found >>= λ x. skipped s x.1)
rest_then make s None = refl
rest_then make s (Some x) = rest_image (make x.0) (s x.1)

-- two values, one behind the other
pub skipped_then : {A B C : Type 0} (make : A → B → C) (r : Decoder A) (s : Decoder B) (octets : List ℕ)
    → skipped (λ o. r o >>= λ x. s x.1 >>= λ y. Some (make x.0 y.0, y.1)) octets ≡ (skipped r octets >>= λ x. skipped s x.1)
skipped_then make r s octets = rest_then make s (r octets)

-- an answer that is exact for a reader is so for one that reads the same elsewhere
pub gives_on : {A : Type 0} (r s : Decoder A) (old middle new : List ℕ) (answer : Result A ReadFault) → r old ≡ s middle → Gives s middle new answer
    → Gives r old new answer
gives_on r s old middle new (Ok v) e h = e ∙ h
gives_on r s old middle new (Err NoValue) e h = e ∙ h
gives_on r s old middle new (Err OutOfMemory) e h = tt

-- The format of DiagnosticInfo is lawful.
use Rattle.std.specs.Prelude.{◌≡◌, ℕ, List, [], ◌∷◌, ◌++◌, Option, Some, Result, Ok, Err}
use Rattle.std.proofs.Common.{sym, subst, ap, ◌∙◌}
use Rattle.ua_wire.specs.Exact.{Exact, ◌>>=◌, image_read}
use Rattle.ua_wire.specs.Format.{IsLawful, Within, Gives, GivesBy}
use Rattle.ua_wire.specs.declared.fault.ReadFault.{ReadFault}
use Rattle.ua_wire.specs.declared.fault.ReadFault.TheVariants.{NoValue, OutOfMemory}
use Rattle.ua_diagnostic.specs.Parts.{IsOctet}
use Rattle.ua_diagnostic.specs.Diagnostic.{DiagnosticData, innermost, around, diagnostic_depth, EncodesDiagnostic, diagnostic_at}
use Rattle.ua_diagnostic.specs.Formats.{diagnostic_format}
use Rattle.ua_diagnostic.specs.View.{diagnostic_of, diagnostic_value}
use Rattle.ua_diagnostic.proofs.PartsRead.{exact_map, exact_as}
use Rattle.ua_diagnostic.proofs.Viewed.{diagnostic_forth, diagnostic_value_of}
use Rattle.ua_diagnostic.proofs.DiagnosticsRead.{Shallow, exact_diagnostic}
use Rattle.ua_diagnostic.proofs.DiagnosticsWritten.{diagnostic_canonical_encodes, diagnostic_encodable_depth}
use Rattle.ua_diagnostic.proofs.Lengths.{diagnostic_takes}

-- ---- values of the code, by the data that they stand for

pub exact_made : {A B : Type 0} (view : B → A) (make : A → B) (p : A → List ℕ → Type 0) (r : List ℕ → Option (A × List ℕ)) → ((v : B) → make (view v) ≡ v)
    → ((a : A) → view (make a) ≡ a) → Exact p r
    → Exact (λ (v : B) (b : List ℕ). p (view v) b) (image_read make r)
exact_made {A} {B} view make p r back forth e =
    exact_as (λ (v : B) (b : List ℕ). p (view v) b) (exact_map make e) (λ v b h. subst (λ a. p a b) (sym (ap view h.1 ∙ forth h.0)) h.2)
    (λ v b h. (view v, sym (back v), h))

pub exact_diagnostic_value : (n : ℕ) → Exact (Within (λ v. EncodesDiagnostic (diagnostic_of v)) (λ v. diagnostic_depth (diagnostic_of v)) n)
    (image_read diagnostic_value (diagnostic_at n))
exact_diagnostic_value n = exact_made diagnostic_of diagnostic_value (Shallow n) (diagnostic_at n) diagnostic_value_of diagnostic_forth (exact_diagnostic n)

-- an answer that is exact for the data is exact for the values
pub gives_made : {A B : Type 0} (view : B → A) (make : A → B) (r : List ℕ → Option (A × List ℕ)) → ((v : B) → make (view v) ≡ v)
    → (old new : List ℕ) (answer : Result B ReadFault) → GivesBy view r old new answer → Gives (image_read make r) old new answer
gives_made view make r back old new (Ok v) h = ap (λ o. o >>= λ x. Some (make x.0, x.1)) h ∙ ap (λ y. Some (y, new)) (back v)
gives_made view make r back old new (Err NoValue) h = ap (λ o. o >>= λ x. Some (make x.0, x.1)) h
gives_made view make r back old new (Err OutOfMemory) h = tt

-- ---- no encoding is empty

pub no_octet : (k : ℕ) (a c : List ℕ) → [] ≡ a ++ c → IsOctet k a → ⊥
no_octet k a c e o = absurd (let h : [] ≡ k ∷ c = e ∙ ap (λ (x : List ℕ). x ++ c) o.1 in cc)

pub diagnostic_some : (d : DiagnosticData) → EncodesDiagnostic d [] → ⊥
diagnostic_some (innermost f) h = let j = h.1 in no_octet h.0 j.0 j.1 j.2 j.3
diagnostic_some (around f d) h = let j = h.1 in no_octet h.0 j.0 j.1 j.2 j.3

-- ---- and the format

pub lawful_diagnostic : IsLawful diagnostic_format
unfolding diagnostic_format
lawful_diagnostic = record {
  exact = exact_diagnostic_value;
  canonical_encodes = λ v h. diagnostic_canonical_encodes (diagnostic_of v) h;
  encodable_depth = λ v h. diagnostic_encodable_depth (diagnostic_of v) h;
  counted = λ v b h. diagnostic_takes (diagnostic_of v) b h;
  starts = λ v h. diagnostic_some (diagnostic_of v) h;
}

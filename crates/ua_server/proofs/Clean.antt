-- No frame and no message is unfinished where nothing is counted and nothing held.
use Rattle.std.specs.Prelude.{◌≡◌, ◌↔◌, ℕ, ◌+◌, IsTrue, nat_eq, List, [], ◌∷◌, length}
use Rattle.std.proofs.Common.{refl, sym, ◌∙◌, ap, arith}
use Rattle.std.proofs.lemmas.Bool.{eq-eqb, eqb-true}
use Rattle.ua_chunk.specs.Open.{open_ids, open_octets}
use Rattle.ua_chunk.specs.declared.chunk.Chunk.{Chunk}

nothing-in : {A : Type 0} (xs : List A) → length xs ≡ 0 → xs ≡ []
nothing-in [] e = refl
nothing-in (x ∷ xs) e = absurd (omega (arith, e))

none-held : (cs : List Chunk) → open_ids cs ≡ [] → open_octets cs ≡ 0
none-held cs e = rw e

first-zero : (h l o : ℕ) → h ≡ l + o → h ≡ 0 → l ≡ 0
first-zero h l o e z = omega (arith, e, z)

both-zero : (h l o : ℕ) → h ≡ l + o → l ≡ 0 → o ≡ 0 → h ≡ 0
both-zero h l o e z y = omega (arith, e, z, y)

pub clean-by-held : (cs : List Chunk) (rest : List ℕ) (count held : ℕ) → count ≡ length (open_ids cs) → held ≡ length rest + open_octets cs → count ≡ 0
    → IsTrue (nat_eq held 0) ↔ ((rest ≡ []) × (open_ids cs ≡ []))
clean-by-held cs rest count held c h zero =
    let none = nothing-in (open_ids cs) (sym c ∙ zero) in (
      λ t. (nothing-in rest (first-zero held (length rest) (open_octets cs) h (eqb-true held 0 t)), none),
      λ clean. eq-eqb held 0 (both-zero held (length rest) (open_octets cs) h (ap length clean.0) (none-held cs clean.1)),
    )

pub not-clean : (cs : List Chunk) (rest : List ℕ) (count : ℕ) → count ≡ length (open_ids cs) → (count ≡ 0 → ⊥)
    → IsTrue (nat_eq count 0) ↔ ((rest ≡ []) × (open_ids cs ≡ []))
not-clean cs rest count c some = (λ t. absurd (some (eqb-true count 0 t)), λ clean. absurd (some (c ∙ ap length clean.1)))

use Rattle.std.proofs.Common.{◌++◌, ℕ, List, drop, length, arith, sym, ap, ◌∙◌}
use Rattle.std.proofs.lemmas.Result.{err_from_is_err_and}
use Rattle.ua_chunk.specs.Opening.{open_refusal}
use Rattle.ua_chunk.proofs.Carried.{opening_found, opening_none}
use Rattle.ua_chunk.proofs.open_chunk.read_open.Goals as goal

pub returns-in_err-headers-clause-found : goal.returns-in_err-headers-clause-found
returns-in_err-headers-clause-found c =
    let p = err_from_is_err_and c.from_residual.result c.from_residual.ensures.1 in
    rw p.1 (opening_none c.args.frame c.in_err-headers.field-0.0 (ap open_refusal (sym c.deref.ensures) ∙ c.in_err-headers.ensures))

pub returns-in_err-headers-clause-faults : goal.returns-in_err-headers-clause-faults
returns-in_err-headers-clause-faults c =
    let p = err_from_is_err_and c.from_residual.result c.from_residual.ensures.1 in
    rw (p.1, p.2) (ap open_refusal (sym c.deref.ensures) ∙ c.in_err-headers.ensures)

pub advance-requires : goal.advance-requires
advance-requires c = omega (arith, c.in_ok-headers.ensures.within, ap (λ (t : List ℕ). length t) c.deref.ensures)

pub returns-clause-chunk : goal.returns-clause-chunk
returns-clause-chunk c =
    let h = c.in_ok-headers.ensures in
    record {
      certificate = h.certificate;
      thumbprint = h.thumbprint;
      security = h.security;
      sequence = h.numbers;
      octets =
          sym c.deref.ensures
          ∙ h.parts
          ∙ ap (λ (t : List ℕ). h.security ++ (h.numbers ++ t)) (ap (λ (t : List ℕ). drop c.in_ok-headers.headers.len t) c.deref.ensures
          ∙ sym c.advance.ensures);
      security_encoded = h.security_encoded;
      sequence_encoded = h.sequence_encoded;
    }

pub returns-clause-found : goal.returns-clause-found
returns-clause-found c = opening_found c.args.frame _ (returns-clause-chunk c)

pub returns-clause-faults : goal.returns-clause-faults
returns-clause-faults c = ap open_refusal (sym c.deref.ensures) ∙ c.in_ok-headers.ensures.good

-- The laws of bodies.
use Rattle.std.specs.Prelude.{◌≡◌, ℕ, List, []}
use Rattle.std.proofs.Common.{sym, ◌∙◌, ap}
use Rattle.ua_wire.proofs.Readers.{some_is}
use Rattle.ua_builtin.specs.Format.{Format, IsLawful}
use Rattle.ua_opening.specs.Message.{IsBody}
use Rattle.ua_opening.specs.Laws.{BodyReadsBack, OneMessage}
use Rattle.ua_opening.proofs.BodyRead.{body_reads}

pub one_message : {A : Type 0} (f : Format A) → IsLawful f → OneMessage f
one_message {A = A} f lawful m w octets p q =
    let same : ◌≡◌ {A = A × List ℕ} (m, []) (w, []) = some_is (m, []) (w, []) (sym (body_reads f lawful octets m p) ∙ body_reads f lawful octets w q) in
    ap (λ (u : A × List ℕ). u.0) same

pub body_reads_back : {A : Type 0} (f : Format A) → IsLawful f → BodyReadsBack f
body_reads_back f lawful m h =
    let body : IsBody f m (f.canonical m) = (lawful.canonical_encodes m h, lawful.encodable_depth m h) in
    (body, λ w other. one_message f lawful w m (f.canonical m) other body)

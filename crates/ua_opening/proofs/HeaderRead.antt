-- The end of a header that says no more is read as nothing.
use Rattle.std.specs.Prelude.{◌≡◌, ◌<◌, ℕ, zero, suc, List, [], ◌++◌, cond, Option, Some, None}
use Rattle.std.proofs.Common.{refl, sym, ◌∙◌, ap, arith}
use Rattle.ua_wire.proofs.NumbersRead.{exact_number}
use Rattle.ua_builtin.specs.Counted.{counted, text, behind_count, is_text}
use Rattle.ua_builtin.specs.Exact.{◌>>=◌, pair_read}
use Rattle.ua_builtin.specs.ExtensionObject.{extension_object, null_object}
use Rattle.ua_builtin.specs.NodeId.{node_id}
use Rattle.ua_builtin.specs.Number.{number_at, number_octets}
use Rattle.ua_diagnostic.specs.Diagnostic.{diagnostic_at, diagnostic_step, diagnostic_fields}
use Rattle.ua_diagnostic.specs.Formats.{diagnostic_format}
use Rattle.ua_diagnostic.specs.View.{no_diagnostics}
use Rattle.ua_opening.specs.Array.{array, items_at}
use Rattle.ua_opening.specs.inside.HeaderEnds.{behind_diagnostics, behind_result}

-- the octets of a number that was read, and what stands behind it
number_front : (k n : ℕ) (octets rest : List ℕ) → number_at k octets ≡ Some (n, rest) → octets ≡ number_octets k n ++ rest
number_front k n octets rest e =
    let found = (exact_number k).sound octets n rest e in
    found.parts ∙ ap (λ (t : List ℕ). t ++ rest) found.encoded.1

-- ---- responses

null_texts_at : (levels : ℕ) (rest : List ℕ) → 0 < levels
    → behind_result levels (number_octets 8 0xFFFF_FFFF_00 ++ rest) ≡ Some ((no_diagnostics, (None, null_object)), rest)
unfolding number_octets number_at diagnostic_format diagnostic_at diagnostic_step diagnostic_fields array extension_object node_id
null_texts_at zero rest h = absurd (omega arith)
null_texts_at (suc n) rest h = refl

pub nothing_more : (levels : ℕ) (octets rest : List ℕ) → 0 < levels → number_at 8 octets ≡ Some (0xFFFF_FFFF_00, rest)
    → behind_result levels octets ≡ Some ((no_diagnostics, (None, null_object)), rest)
nothing_more levels octets rest h e =
    ap (λ (t : List ℕ). behind_result levels t) (number_front 8 0xFFFF_FFFF_00 octets rest e) ∙ null_texts_at levels rest h

no_texts_at : (levels : ℕ) (rest : List ℕ) → 0 < levels
    → behind_result levels (number_octets 8 0 ++ rest) ≡ Some ((no_diagnostics, (Some [], null_object)), rest)
unfolding number_octets number_at diagnostic_format diagnostic_at diagnostic_step diagnostic_fields array items_at extension_object node_id
no_texts_at zero rest h = absurd (omega arith)
no_texts_at (suc n) rest h = refl

pub no_texts : (levels : ℕ) (octets rest : List ℕ) → 0 < levels → number_at 8 octets ≡ Some (0, rest)
    → behind_result levels octets ≡ Some ((no_diagnostics, (Some [], null_object)), rest)
no_texts levels octets rest h e =
    ap (λ (t : List ℕ). behind_result levels t) (number_front 8 0 octets rest e) ∙ no_texts_at levels rest h

-- ---- requests

nothing_added_at : (rest : List ℕ) → extension_object.decode (number_octets 2 0 ++ (number_octets 1 0 ++ rest)) ≡ Some (null_object, rest)
unfolding number_octets number_at extension_object node_id
nothing_added_at rest = refl

nothing_added : (octets middle rest : List ℕ) → number_at 2 octets ≡ Some (0, middle) → number_at 1 middle ≡ Some (0, rest)
    → extension_object.decode octets ≡ Some (null_object, rest)
nothing_added octets middle rest e f =
    let at_body = ap (λ (t : List ℕ). number_octets 2 0 ++ t) (number_front 1 0 middle rest f) in
    ap (λ (t : List ℕ). extension_object.decode t) (number_front 2 0 octets middle e ∙ at_body) ∙ nothing_added_at rest

null_text : (octets rest : List ℕ) → number_at 4 octets ≡ Some (0xFFFF_FFFF, rest) → text.decode octets ≡ Some (None, rest)
unfolding text counted
null_text octets rest e =
    ap (λ (o : Option (ℕ × List ℕ)). (o >>= λ count. behind_count count.0 count.1) >>= λ x. cond (is_text x.0) (Some x) None) e

pair_found : {A B : Type 0} (first : List ℕ → Option (A × List ℕ)) (second : List ℕ → Option (B × List ℕ)) (x : A) (y : B)
    (octets middle rest : List ℕ) → first octets ≡ Some (x, middle) → second middle ≡ Some (y, rest)
    → pair_read first second octets ≡ Some ((x, y), rest)
pair_found {A = A} {B = B} first second x y octets middle rest e f =
    ap (λ (o : Option (A × List ℕ)). o >>= λ u. second u.1 >>= λ v. Some ((u.0, v.0), v.1)) e
    ∙ ap (λ (o : Option (B × List ℕ)). o >>= λ v. Some ((x, v.0), v.1)) f

pub timeout_alone : (audit timeout id body : ℕ) (octets ahead a b c rest : List ℕ) → ahead ≡ octets
    → number_at 4 ahead ≡ Some (audit, a) → audit ≡ 0xFFFF_FFFF → number_at 4 a ≡ Some (timeout, b)
    → number_at 2 b ≡ Some (id, c) → id ≡ 0 → number_at 1 c ≡ Some (body, rest) → body ≡ 0
    → behind_diagnostics octets ≡ Some ((None, (timeout, null_object)), rest)
timeout_alone audit timeout id body octets ahead a b c rest same e null f g zero_id h zero_body =
    let at_audit = ap (λ (t : List ℕ). number_at 4 t) (sym same) ∙ e ∙ ap (λ (n : ℕ). Some (n, a)) null in
    let at_id = g ∙ ap (λ (n : ℕ). Some (n, c)) zero_id in
    let at_body = h ∙ ap (λ (n : ℕ). Some (n, rest)) zero_body in
    let added = nothing_added b c rest at_id at_body in
    let behind_audit = pair_found (number_at 4) extension_object.decode timeout null_object a b rest f added in
    pair_found text.decode (pair_read (number_at 4) extension_object.decode) None (timeout, null_object) octets a rest
    (null_text octets a at_audit) behind_audit

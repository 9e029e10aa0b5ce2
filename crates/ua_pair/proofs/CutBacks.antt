-- A text that went on, cut back to what it was.
use Rattle.std.proofs.Common.{◌≡◌, ◌≤◌, ℕ, Result, Ok, Err, OnErr, is_err, true, String, string_bytes}
use Rattle.std.proofs.Common.{string_len, length, take, IsUtf8, sym, ap, subst, ◌∙◌, arith, length-append}
use Rattle.std.proofs.Math.Seq.{take-append_seam}
use Rattle.std.proofs.lemmas.Str.{IsUtf8-string_bytes, IsCharBoundary-from_take}
use Rattle.std.specs.String.Boundary.{IsSplitPoint}
use Rattle.ua_wire.specs.Format.{Extends}

-- it may be cut where it went on
pub cut_back : {Z : Type 0} (old new : String Z) → Extends (string_bytes old) (string_bytes new) → IsSplitPoint (string_bytes new) (string_len old)
cut_back old new e =
    let within : length (string_bytes old) ≤ length (string_bytes new) = omega (arith, ap length e.parts, length-append (string_bytes old) e.more) in
    let front : take (length (string_bytes old)) (string_bytes new) ≡ string_bytes old = ap (take (length (string_bytes old))) e.parts
    ∙ take-append_seam (string_bytes old) e.more in
    let edge = IsCharBoundary-from_take (string_bytes new) (length (string_bytes old)) (IsUtf8-string_bytes new) within
    (subst IsUtf8 (sym front) (IsUtf8-string_bytes old)) in
    subst (λ (n : ℕ). IsSplitPoint (string_bytes new) n) (sym old.bytes.ok.0) (within, λ _. edge.1)

-- what holds on an error holds where there is one
pub on_err : {T E P : Type 0} (r : Result T E) → true ≡ is_err r → OnErr r P → P
on_err (Ok x) e p = absurd cc
on_err (Err x) e p = p

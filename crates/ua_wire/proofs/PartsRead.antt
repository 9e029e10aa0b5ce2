-- Octets that lie in several parts.
use Rattle.std.proofs.Common.{◌≡◌, ℕ, ◌+◌, ◌<◌, ◌≤◌, List, [], ◌∷◌, ◌++◌, sym, ◌∙◌, ap, arith}
use Rattle.std.proofs.Common.{length, take, drop, get_or, take-append-drop, append-nil, append_assoc}
use Rattle.std.specs.List.{concat}
use Rattle.std.proofs.Math.Seq.{drop-append_seam}
use Rattle.std.proofs.lemmas.List.{length-append, drop-drop, take_more}
use Rattle.std.proofs.lemmas.List.Folds.{concat-append}
use Rattle.std.proofs.lemmas.Slice.{take-put_mid}
use borrow.Rule.Slice.PartMut.{put_mid}

-- ---- the lengths of parts, one after another

concat_more : (parts : List (List ℕ)) (i : ℕ) (part : List ℕ) → i < length parts → concat (take (i + 1) parts) ≡ concat (take i parts) ++ get_or parts i part
concat_more parts i part h =
    ap concat (take_more parts i part h)
    ∙ (concat-append (take i parts) (get_or parts i part ∷ []) ∙ ap (λ (t : List ℕ). concat (take i parts) ++ t) (append-nil (get_or parts i part)))

pub length_more : (parts : List (List ℕ)) (i : ℕ) (part : List ℕ) → i < length parts → part ≡ get_or parts i part
    → length (concat (take (i + 1) parts)) ≡ length (concat (take i parts)) + length part
length_more parts i part h is =
    omega (arith, ap length (concat_more parts i part h), length-append (concat (take i parts)) (get_or parts i part), ap length is)

pub length_front : (parts : List (List ℕ)) (n : ℕ) → length (concat (take n parts)) ≤ length (concat parts)
length_front parts n =
    omega (
      arith,
      ap (λ (t : List (List ℕ)). length (concat t)) (take-append-drop n parts),
      ap length (concat-append (take n parts) (drop n parts)),
      length-append (concat (take n parts)) (concat (drop n parts)),
    )

-- ---- octets taken run by run

pub passed_more : (whole old run new : List ℕ) (n : ℕ) → drop n whole ≡ old → old ≡ run ++ new → drop (n + length run) whole ≡ new
passed_more whole old run new n so parts = sym (drop-drop (length run) n whole) ∙ (ap (drop (length run)) (so ∙ parts) ∙ drop-append_seam run new)

pub filled_more : (whole out old run copied new : List ℕ) (n k : ℕ) → n ≤ length out → whole ≡ take n out ++ old → old ≡ run ++ new → copied ≡ run
    → whole ≡ take (n + length run) (put_mid n k out copied) ++ new
filled_more whole out old run copied new n k h so parts same =
    so
    ∙ (ap (λ (t : List ℕ). take n out ++ t) (parts ∙ ap (λ (t : List ℕ). t ++ new) (sym same))
    ∙ (sym (append_assoc (take n out) copied new)
    ∙ ap (λ (t : List ℕ). t ++ new) (sym (take-put_mid n k out copied (n + length run) (omega (arith, ap length same)) h))))

-- The bodies of aborts.
use Rattle.std.proofs.Common.{◌≡◌, ℕ, Bool, true, false, cond, ◌&&◌, nat_eq, Option, Some, None, List, [], ◌∷◌, refl, sym, ap, arith, length, is_some}
use Rattle.std.proofs.lemmas.Bool.{ne_eqb}
use Rattle.ua_wire.specs.Counted.{counted, text, is_text}
use Rattle.ua_wire.specs.Exact.{◌>>=◌}
use Rattle.ua_wire.specs.Format.{flat}
use Rattle.ua_wire.specs.Join.{pair}
use Rattle.ua_wire.specs.Number.{number_at}
use Rattle.ua_builtin.specs.Status.{status_code, of_code}
use Rattle.ua_builtin.specs.declared.status_code.StatusCode.{StatusCode}
use Rattle.ua_wire.specs.Format.{IsWhole}
use Rattle.ua_frame.specs.Whole.{if_nothing_left, whole_of}
use Rattle.ua_frame.proofs.Wholes.{whole_read}
use Rattle.ua_chunk.proofs.HeadersLawful.{sound_abort_body}
use Rattle.ua_chunk.specs.Abort.{abort_body, abort_of, is_readable_abort}

-- what was read of the whole body is what the abort is
pub read_is : (b : List ℕ) (read : Option (StatusCode × Option (List ℕ))) → IsWhole (pair (flat status_code) (flat text)) b read → read ≡ abort_of b
unfolding abort_body
read_is b None h = sym (whole_read abort_body sound_abort_body b None h)
read_is b (Some a) h = sym (whole_read abort_body sound_abort_body b (Some a) (h.0, omega arith))

-- ---- found without memory

pub unreadable_code : (b : List ℕ) → number_at 4 b ≡ None → false ≡ is_readable_abort b
unfolding whole_of abort_body status_code
unreadable_code b e = rw e refl

pub unreadable_reason : (b rest : List ℕ) (n : ℕ) → number_at 4 b ≡ Some (n, rest) → counted.decode rest ≡ None → false ≡ is_readable_abort b
unfolding whole_of abort_body status_code text
unreadable_reason b rest n e f = rw (e, f) refl

-- a reason behind the code
abbrev with_code : StatusCode → Option (List ℕ) × List ℕ → Option ((StatusCode × Option (List ℕ)) × List ℕ)
with_code code y = Some ((code, y.0), y.1)

not_empty : (x : ℕ) (xs : List ℕ) → nat_eq (length (x ∷ xs)) 0 ≡ false
not_empty x xs = ne_eqb (length (x ∷ xs)) 0 (λ h. absurd (omega arith))

readable_by : (t : Bool) (code : StatusCode) (v : Option (List ℕ)) (rest : List ℕ)
    → (nat_eq (length rest) 0 && t) ≡ is_some (if_nothing_left (cond t (Some (v, rest)) None >>= with_code code))
readable_by true code v [] = refl
readable_by true code v (x ∷ rest) = ap (λ (b : Bool). b && true) (not_empty x rest)
readable_by false code v [] = refl
readable_by false code v (x ∷ rest) = ap (λ (b : Bool). b && false) (not_empty x rest)

pub readable_whole : (b rest left : List ℕ) (n : ℕ) (v : Option (List ℕ)) → number_at 4 b ≡ Some (n, rest) → counted.decode rest ≡ Some (v, left)
    → (nat_eq (length left) 0 && is_text v) ≡ is_readable_abort b
unfolding whole_of abort_body status_code text
readable_whole b rest left n v e f = rw (e, f) (readable_by (is_text v) (of_code n) v left)

-- Whether bytes are the response to an OpenSecureChannel request, which is skipped.
use Rattle.std.specs.Prelude.{◌≡◌, ℕ, List, cond, nat_eq, Option, Some, None}
use Rattle.std.proofs.Common.{refl, ap}
use Rattle.std.proofs.lemmas.Bool.{ne_eqb}
use Rattle.ua_wire.proofs.Readers.{some_is}
use Rattle.ua_builtin.specs.Exact.{◌>>=◌}
use Rattle.ua_builtin.specs.Format.{Format, most_levels}
use Rattle.ua_builtin.specs.NodeId.{node_id}
use Rattle.ua_builtin.specs.declared.node_id.NodeId.{NodeId}
use Rattle.ua_opening.specs.Message.{alone, body_of, if_last, kind_at, message, standard_number}
use Rattle.ua_opening.specs.declared.header.ResponseHeader.{ResponseHeader}
use Rattle.ua_opening.specs.declared.header.ServiceFault.{ServiceFault}

-- ---- a structure that was skipped, by what is left

-- what stands behind what was found
abbrev pub rest : {A : Type 0} → Option (A × List ℕ) → Option (Unit {0} × List ℕ)
rest found = found >>= λ x. Some (tt, x.1)

-- what was found, if no bytes follow it
abbrev pub last : {A : Type 0} → Option (A × List ℕ) → Option A
last found = found >>= λ x. if_last x.0 x.1

pub same_rest : {A : Type 0} (x : A × List ℕ) (new : List ℕ) → rest (Some x) ≡ Some (tt, new) → x.1 ≡ new
same_rest x new e = ap (λ (p : Unit {0} × List ℕ). p.1) (some_is (tt, x.1) (tt, new) e)

abbrev pub with_header : ResponseHeader → ServiceFault
with_header header = record { response_header = header }

-- ---- by the NodeId

-- a structure behind a NodeId with this number; nothing behind another one
abbrev pub behind_number : {A : Type 0} → ℕ → Format A → List ℕ → Option ℕ → Option (A × List ℕ)
behind_number number f rest o = kind_at (alone number f) most_levels (o >>= λ n. cond (nat_eq n number) (Some tt) None) rest

pub behind_id : {A : Type 0} (number : ℕ) (f : Format A) (old rest : List ℕ) (id : NodeId) → node_id.decode old ≡ Some (id, rest)
    → body_of (message number f) old ≡ last (behind_number number f rest (standard_number id))
behind_id number f old rest id found = ap (λ (o : Option (NodeId × List ℕ)). last (o >>= λ x. behind_number number f x.1 (standard_number x.0))) found

-- an image that changes nothing
pub same_last : {A : Type 0} (found : Option (A × List ℕ)) → last (found >>= λ x. Some (x.0, x.1)) ≡ last found
same_last None = refl
same_last (Some x) = refl

pub other_number : {A : Type 0} (number : ℕ) (f : Format A) (rest : List ℕ) (o : Option ℕ) → (o ≡ Some number → ⊥) → behind_number number f rest o ≡ None
other_number number f rest None other = refl
other_number number f rest (Some n) other = ap (λ (test : _). kind_at (alone number f) most_levels (cond test (Some tt) None) rest)
    (ne_eqb n number (λ e. other (ap Some e)))

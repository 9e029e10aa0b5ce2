-- What an answer by the reader on lists says of encodings.
use Rattle.std.proofs.Common.{◌≡◌, ◌≤◌, ◌++◌, ◌+◌, ℕ, List, [], length, Option, Some, None, Result}
use Rattle.std.proofs.Common.{Ok, Err, IfOk, IsErrOf, sym, ◌∙◌, ap, arith, length-append, append-nil}
use Rattle.ua_wire.specs.declared.fault.ReadFault.{ReadFault}
use Rattle.ua_wire.specs.declared.fault.ReadFault.TheVariants.{NoValue, OutOfMemory}
use Rattle.ua_wire.specs.Exact.{Begins}
use Rattle.ua_wire.specs.Format.{Format, IsLawful, most_levels, Gives, IsWhole}
use Rattle.ua_wire.proofs.Readers.{some_is}

-- what is read is encoded by a front
pub found_by : {A : Type 0} (f : Format A) → IsLawful f → (levels : ℕ) (old new : List ℕ) (answer : Result A ReadFault) → Gives (f.decode levels) old new answer
    → IfOk answer (λ v. Begins f.encodes old v new)
found_by f lawful levels old new (Ok v) h =
    let s = (lawful.exact levels).sound old v new h in
    record { front = s.front; parts = s.parts; encoded = s.encoded.0 }
found_by f lawful levels old new (Err NoValue) h = tt
found_by f lawful levels old new (Err OutOfMemory) h = tt

-- what is read has at most the levels allowed
pub levels_by : {A : Type 0} (f : Format A) → IsLawful f → (levels : ℕ) (old new : List ℕ) (answer : Result A ReadFault)
    → Gives (f.decode levels) old new answer → IfOk answer (λ v. f.depth v ≤ levels)
levels_by f lawful levels old new (Ok v) h = ((lawful.exact levels).sound old v new h).encoded.1
levels_by f lawful levels old new (Err NoValue) h = tt
levels_by f lawful levels old new (Err OutOfMemory) h = tt

-- what is read is at most as many values as octets were taken
pub counted_by : {A : Type 0} (f : Format A) → IsLawful f → (levels : ℕ) (old new : List ℕ) (answer : Result A ReadFault)
    → Gives (f.decode levels) old new answer → IfOk answer (λ v. f.count v + length new ≤ length old)
counted_by f lawful levels old new (Ok v) h =
    let s = (lawful.exact levels).sound old v new h in
    let within : f.count v ≤ length s.front = lawful.counted v s.front s.encoded.0 in
    omega (arith, ap length s.parts, length-append s.front new)
counted_by f lawful levels old new (Err NoValue) h = tt
counted_by f lawful levels old new (Err OutOfMemory) h = tt

no_front : {A : Type 0} (f : Format A) → IsLawful f → (levels : ℕ) (old : List ℕ) → f.decode levels old ≡ None → (v : A) (front rest : List ℕ)
    → old ≡ front ++ rest → f.depth v ≤ levels → f.encodes v front → ⊥
no_front {A = A} f lawful levels old none v front rest parts within encoded =
    let some : f.decode levels old ≡ Some (v, rest) = ap (f.decode levels) parts ∙ (lawful.exact levels).complete v front rest (encoded, within) in
    let apart : ◌≡◌ {A = Option (A × List ℕ)} None (Some (v, rest)) = sym none ∙ some in
    absurd cc

-- no value is read only where no front encodes one within the levels allowed
pub none_by : {A : Type 0} (f : Format A) → IsLawful f → (levels : ℕ) (old new : List ℕ) (answer : Result A ReadFault) → Gives (f.decode levels) old new answer
    → IsErrOf answer NoValue
    → (v : A) (front rest : List ℕ) → old ≡ front ++ rest → f.depth v ≤ levels → f.encodes v front → ⊥
none_by f lawful levels old new (Ok w) h is = absurd cc
none_by f lawful levels old new (Err NoValue) h is = no_front f lawful levels old h
none_by f lawful levels old new (Err OutOfMemory) h is = absurd cc

-- ---- the whole of some octets

-- a value with octets behind it isn't the whole of them, and then no value is
pub not_whole : {A : Type 0} (f : Format A) → IsLawful f → (octets rest : List ℕ) (w : A) → Begins f.encodes octets w rest → f.depth w ≤ most_levels
    → (rest ≡ [] → ⊥) → IsWhole f octets None
not_whole {A = A} f lawful octets rest w b within more v v_within encoded =
    let one : f.decode most_levels octets ≡ Some (w, rest) = ap (f.decode most_levels) b.parts
    ∙ (lawful.exact most_levels).complete w b.front rest (b.encoded, within) in
    let two : f.decode most_levels octets ≡ Some (v, []) = ap (f.decode most_levels) (sym (append-nil octets))
    ∙ (lawful.exact most_levels).complete v octets [] (encoded, v_within) in
    let same : ◌≡◌ {A = A × List ℕ} (w, rest) (v, []) = some_is (w, rest) (v, []) (sym one ∙ two) in
    more (ap (λ (u : A × List ℕ). u.1) same)

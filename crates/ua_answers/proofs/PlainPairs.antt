-- Lines of answers as people write values and times, one at a time.
use Rattle.std.proofs.Common.{◌≡◌, ℕ, zero, suc, ◌+◌, ◌<◌, List, [], ◌∷◌, ◌++◌, length, take, get_or, slice_get, Some, Result, Ok}
use Rattle.std.proofs.Common.{Err, is_ok, if◌then◌else◌, codes, refl, sym, subst, ◌∙◌, ap, arith, append-nil, append_assoc}
use Rattle.ua_builtin.specs.declared.node_id.NodeId.{NodeId}
use Rattle.ua_variant.specs.declared.values.DataValue.{DataValue}
use Rattle.ua_answers.specs.Answers.{status_text}
use Rattle.ua_texts.specs.Names.{number_of}
use Rattle.ua_answers.specs.PlainAnswers.{ArePairs, ArePlainTimes, IsPlainLine, IsPlainTime, IsPlainTimesPart, IsPlainValuePart}
use Rattle.ua_texts.specs.PlainLeaf.{Adds}
use Rattle.ua_answers.specs.declared.style.LineStyle.{LineStyle}
use Rattle.ua_texts.proofs.Rows.{get_at}

-- a text of which this holds was added
abbrev pub Grown : List ℕ → List ℕ → (List ℕ → Type 0) → Type 0
Grown old new Holds = (text : List ℕ) × (new ≡ old ++ text) × Holds text

-- ---- several lines

pairs_push : {A B : Type 0} (Is : A → B → List ℕ → Type 0) (xs : List A) (ys : List B) (n : ℕ) (x : A) (y : B) (text line : List ℕ) → slice_get xs n ≡ Some x
    → slice_get ys n ≡ Some y
    → ArePairs Is (take n xs) (take n ys) text → Is x y line → ArePairs Is (take (suc n) xs) (take (suc n) ys) (text ++ line)
pairs_push Is [] ys n x y text line e h p q = absurd cc
pairs_push Is (a ∷ xs) [] n x y text line e h p q = absurd cc
pairs_push Is (a ∷ xs) (b ∷ ys) zero x y text line e h p q =
    let left : a ≡ x = cc in
    let right : b ≡ y = cc in
    (line, [], ap (λ (t : List ℕ). t ++ line) p ∙ sym (append-nil line), subst (λ z. Is z b line) (sym left) (subst (λ z. Is x z line) (sym right) q), refl)
pairs_push Is (a ∷ xs) (b ∷ ys) (suc n) x y text line e h p q =
    (p.0, p.1 ++ line, ap (λ (t : List ℕ). t ++ line) p.2 ∙ append_assoc p.0 p.1 line, p.3, pairs_push Is xs ys n x y p.1 line e h p.4 q)

-- no line
pub pairs_none : {A B : Type 0} (Is : A → B → List ℕ → Type 0) (ys : List B) (start : List ℕ) → Grown start start (ArePairs Is [] ys)
pairs_none Is ys start = ([], sym (append-nil start), refl)

-- one line more
pub pairs_next : {A B : Type 0} (Is : A → B → List ℕ → Type 0) (xs : List A) (ys : List B) (n : ℕ) (x : A) (y : B) (start now new : List ℕ) → n < length xs
    → x ≡ get_or xs n x → n < length ys → y ≡ get_or ys n y
    → Grown start now (ArePairs Is (take n xs) (take n ys)) → Grown now new (Is x y) → Grown start new (ArePairs Is (take (n + 1) xs) (take (n + 1) ys))
pairs_next Is xs ys n x y start now new a e b h p q =
    let next : n + 1 ≡ suc n = omega arith in
    let grown = pairs_push Is xs ys n x y p.0 q.0 (get_at xs n x a e) (get_at ys n y b h) p.2 q.2 in (
      p.0 ++ q.0,
      q.1 ∙ ap (λ (t : List ℕ). t ++ q.0) p.1 ∙ append_assoc start p.0 q.0,
      subst (λ (m : ℕ). ArePairs Is (take m xs) (take m ys) (p.0 ++ q.0)) (sym next) grown,
    )

-- ---- one line

pub read_added : {E : Type 0} (r : Result (Unit {0}) E) (style : LineStyle) (node : NodeId) (answer : DataValue) (code : ℕ)
    (old first second third new : List ℕ) → code ≡ number_of answer.status
    → first ≡ old ++ status_text style.names node code → Grown first second (IsPlainValuePart style.names answer.value)
    → Grown second third (IsPlainTimesPart style.times answer)
    → new ≡ (if is_ok r then third ++ codes "\n" else third) → Adds r old new (IsPlainLine style node answer)
read_added (Err x) style node answer code old first second third new e h p q k = tt
read_added (Ok u) style node answer code old first second third new e h p q k =
    let status = status_text style.names node (number_of answer.status) in
    let at : first ≡ old ++ status = h ∙ ap (λ (c : ℕ). old ++ status_text style.names node c) e in
    let behind = q.0 ++ codes "\n" in
    let whole : new ≡ old ++ (status ++ (p.0 ++ behind)) =
    k ∙ ap (λ (t : List ℕ). t ++ codes "\n") q.1 ∙ append_assoc second q.0 (codes "\n") ∙ ap (λ (t : List ℕ). t ++ behind) p.1 ∙ append_assoc first p.0 behind
    ∙ ap (λ (t : List ℕ). t ++ (p.0 ++ behind)) at ∙ append_assoc old status (p.0 ++ behind) in
    (status ++ (p.0 ++ behind), whole, record { value = p.0; times = q.0; is = refl; of_value = p.2; of_times = q.2 })

pub times_added : {E : Type 0} (r : Result (Unit {0}) E) (answer : DataValue) (old first second third new : List ℕ) → first ≡ old ++ codes " source "
    → Grown first second (IsPlainTime answer.source_timestamp)
    → third ≡ second ++ codes " server " → Adds r third new (IsPlainTime answer.server_timestamp) → Adds r old new (ArePlainTimes answer)
times_added (Err x) answer old first second third new e p k q = tt
times_added (Ok u) answer old first second third new e p k q =
    let behind = codes " server " ++ q.0 in
    let whole : new ≡ old ++ (codes " source " ++ (p.0 ++ behind)) =
    q.1 ∙ ap (λ (t : List ℕ). t ++ q.0) k ∙ append_assoc second (codes " server ") q.0 ∙ ap (λ (t : List ℕ). t ++ behind) p.1 ∙ append_assoc first p.0 behind
    ∙ ap (λ (t : List ℕ). t ++ (p.0 ++ behind)) e ∙ append_assoc old (codes " source ") (p.0 ++ behind) in
    (codes " source " ++ (p.0 ++ behind), whole, record { source = p.0; server = q.0; is = refl; of_source = p.2; of_server = q.2 })

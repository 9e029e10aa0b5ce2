-- Texts that grow by one part after the other.
use Rattle.std.specs.Option.{unwrap_or}
use Rattle.ua_builtin.specs.declared.status_code.StatusCode.{StatusCode}
use Rattle.ua_texts.specs.Names.{number_of}
use Rattle.std.proofs.Common.{◌≡◌, ℕ, List, ◌++◌, Option, Some, None, Result, Ok, Err, OnOk, is_ok, if◌then◌else◌, refl, ◌∙◌, ap, append_assoc}

pub then_one : {E : Type 0} (r : Result (Unit {0}) E) (old a b one new : List ℕ) → one ≡ old ++ a → new ≡ (if is_ok r then one ++ b else one)
    → OnOk r (new ≡ old ++ (a ++ b))
then_one (Ok x) old a b one new h k = k ∙ ap (λ t. t ++ b) h ∙ append_assoc old a b
then_one (Err e) old a b one new h k = tt

joined : (old a b one two : List ℕ) → one ≡ old ++ a → two ≡ one ++ b → two ≡ old ++ (a ++ b)
joined old a b one two h k = k ∙ ap (λ t. t ++ b) h ∙ append_assoc old a b

-- a text that grows by what a call adds
pub then_text : {E : Type 0} (r : Result (Unit {0}) E) (old a b one new : List ℕ) → one ≡ old ++ a → OnOk r (new ≡ one ++ b) → OnOk r (new ≡ old ++ (a ++ b))
then_text (Ok x) old a b one new h k = joined old a b one new h k
then_text (Err e) old a b one new h k = tt

on_ok : {E : Type 0} (r : Result (Unit {0}) E) (new one two : List ℕ) → one ≡ two → OnOk r (new ≡ one) → OnOk r (new ≡ two)
on_ok (Ok x) new one two e h = h ∙ e
on_ok (Err x) new one two e h = tt

pub then_two : {E : Type 0} (r : Result (Unit {0}) E) (old a b c one two new : List ℕ) → one ≡ old ++ a → two ≡ one ++ b
    → new ≡ (if is_ok r then two ++ c else two) → OnOk r (new ≡ old ++ (a ++ (b ++ c)))
then_two r old a b c one two new h k l = on_ok r new (old ++ ((a ++ b) ++ c)) (old ++ (a ++ (b ++ c))) (ap (λ t. old ++ t) (append_assoc a b c))
    (then_one r old (a ++ b) c two new (joined old a b one two h k) l)

pub then_three : {E : Type 0} (r : Result (Unit {0}) E) (old a b c d one two three new : List ℕ) → one ≡ old ++ a → two ≡ one ++ b → three ≡ two ++ c
    → new ≡ (if is_ok r then three ++ d else three)
    → OnOk r (new ≡ old ++ (a ++ (b ++ (c ++ d))))
then_three r old a b c d one two three new h k l m =
    on_ok r new (old ++ ((a ++ b) ++ (c ++ d))) (old ++ (a ++ (b ++ (c ++ d)))) (ap (λ t. old ++ t) (append_assoc a b (c ++ d)))
    (then_two r old (a ++ b) c d two three new (joined old a b one two h k) l m)

-- the number of a status, or of Good where there is none
pub status_number : (status : Option StatusCode) (good : StatusCode) → good.code ≡ 0 → (unwrap_or status good).code ≡ number_of status
status_number None good zero = zero
status_number (Some s) good zero = refl

-- A body, against the reader on lists.
use Rattle.std.specs.Prelude.{◌≡◌, ℕ, ◌<◌, ◌≤◌, List, [], ◌∷◌, ◌++◌, length, Option, Some, None, Result, Ok, Err, IfOk, IsErrOf, ◌⊎◌}
use Rattle.std.proofs.Common.{refl, sym, ◌∙◌, ap, subst, arith, inl, inr}
use Rattle.std.proofs.lemmas.List.{append-nil}
use Rattle.ua_builtin.specs.Exact.{◌>>=◌, image_read}
use Rattle.ua_wire.proofs.Readers.{some_is, bind_some}
use Rattle.ua_builtin.specs.Format.{Format, IsLawful, Within, Gives, GivesBy, most_levels}
use Rattle.ua_wire.specs.declared.fault.ReadFault.{ReadFault}
use Rattle.ua_wire.specs.declared.fault.ReadFault.TheVariants.{NoValue, OutOfMemory}
use Rattle.ua_opening.specs.Message.{IsBody, IsNoBody, if_last, body_of, found_or}

empty_is : (octets : List ℕ) → length octets ≤ 0 → octets ≡ []
empty_is [] h = refl
empty_is (x ∷ octets) h = absurd (omega arith)

-- what was read took all octets
pub whole : {A : Type 0} (f : Format A) → IsLawful f → (octets : List ℕ) (m : A) (rest : List ℕ) → f.decode most_levels octets ≡ Some (m, rest)
    → length rest ≤ 0 → IsBody f m octets
whole f lawful octets m rest e none =
    let s = (lawful.exact most_levels).sound octets m rest e in
    let all : octets ≡ s.front = s.parts ∙ ap (λ (t : List ℕ). s.front ++ t) (empty_is rest none) ∙ append-nil s.front in
    subst (λ (t : List ℕ). Within f.encodes f.depth most_levels m t) (sym all) s.encoded

pub body_reads : {A : Type 0} (f : Format A) → IsLawful f → (octets : List ℕ) (m : A) → IsBody f m octets → f.decode most_levels octets ≡ Some (m, [])
body_reads f lawful octets m h = sym (ap (f.decode most_levels) (append-nil octets)) ∙ (lawful.exact most_levels).complete m octets [] h

pub unread : {A : Type 0} (f : Format A) → IsLawful f → (octets : List ℕ) → f.decode most_levels octets ≡ None → IsNoBody f octets
unread f lawful octets e m h = let found = body_reads f lawful octets m h in absurd cc

-- what was read left octets
pub left_over : {A : Type 0} (f : Format A) → IsLawful f → (octets : List ℕ) (v : A) (rest : List ℕ) → f.decode most_levels octets ≡ Some (v, rest)
    → 0 < length rest → IsNoBody f octets
left_over {A = A} f lawful octets v rest e more m h =
    let same = some_is (v, rest) (m, []) (sym e ∙ body_reads f lawful octets m h) in
    let none : length rest ≡ 0 = ap (λ (u : A × List ℕ). length u.1) same in
    absurd (omega arith)

pub no_fault : {A : Type 0} → ◌≡◌ {A = Result A ReadFault} (Err OutOfMemory) (Err NoValue) → ⊥
no_fault e = cc

-- reading found no value
pub fails : {A : Type 0} (f : Format A) → IsLawful f → (octets new : List ℕ) (e : ReadFault) → Gives (f.decode most_levels) octets new (Err e)
    → ◌≡◌ {A = Result A ReadFault} (Err e) (Err NoValue) → IsNoBody f octets
fails f lawful octets new NoValue h e = unread f lawful octets h
fails f lawful octets new OutOfMemory h e = absurd (no_fault e)

-- ---- the message whose body octets are

pub some_left : {A : Type 0} (m : A) (rest : List ℕ) → 0 < length rest → if_last m rest ≡ None
some_left m [] h = absurd (omega arith)
some_left m (x ∷ rest) h = refl

pub nothing_left : {A : Type 0} (m : A) (rest : List ℕ) → length rest ≤ 0 → if_last m rest ≡ Some m
nothing_left m [] h = refl
nothing_left m (x ∷ rest) h = absurd (omega arith)

last_is : {A : Type 0} (w m : A) (rest : List ℕ) → if_last w rest ≡ Some m → ◌≡◌ {A = Option (A × List ℕ)} (Some (w, rest)) (Some (m, []))
last_is w m [] e = ap (λ u. Some (u, [])) (some_is w m e)
last_is w m (x ∷ rest) e = absurd cc

pub body_is : {A : Type 0} (f : Format A) → IsLawful f → (octets : List ℕ) (m : A) → body_of f octets ≡ Some m → IsBody f m octets
body_is f lawful octets m e =
    let one = bind_some (f.decode most_levels octets) (λ x. if_last x.0 x.1) m e in
    whole f lawful octets m [] (one.1 ∙ last_is one.0.0 m one.0.1 one.2) (omega arith)

pub body_found : {A : Type 0} (f : Format A) → IsLawful f → (octets : List ℕ) (m : A) → IsBody f m octets → body_of f octets ≡ Some m
body_found f lawful octets m h = ap (λ o. o >>= λ x. if_last x.0 x.1) (body_reads f lawful octets m h)

pub no_body : {A : Type 0} (f : Format A) → IsLawful f → (octets : List ℕ) → body_of f octets ≡ None → IsNoBody f octets
no_body f lawful octets e m h =
    let both : None ≡ Some m = sym e ∙ body_found f lawful octets m h in
    absurd cc

pub none_found : {A : Type 0} (f : Format A) → IsLawful f → (octets : List ℕ) (o : Option A) → body_of f octets ≡ o → IsNoBody f octets → o ≡ None
none_found f lawful octets None e none = refl
none_found f lawful octets (Some m) e none = absurd (none m (body_is f lawful octets m e))

-- ---- what was found, or the fault

pub err_is : {A E : Type 0} (x y : E) → ◌≡◌ {A = Result A E} (Err x) (Err y) → x ≡ y
err_is x y e = cc

pub found_ok : {A E : Type 0} (o : Option A) (fault : E) (m : A) → Ok m ≡ found_or o fault → o ≡ Some m
found_ok None fault m e = absurd cc
found_ok {A = A} {E = E} (Some w) fault m e = cc

pub found_err : {A E : Type 0} (o : Option A) (fault e : E) → Err e ≡ found_or o fault → (o ≡ None) × (e ≡ fault)
found_err None fault e h = (refl, err_is e fault h)
found_err (Some w) fault e h = absurd cc

-- what a reader of a body answers, by what it says of Ok and of NoValue
pub read_answers : {A : Type 0} (f : Format A) → IsLawful f → (octets : List ℕ) (r : Result A ReadFault) → IfOk r (λ m. IsBody f m octets)
    → (IsErrOf r NoValue → IsNoBody f octets)
    → (r ≡ found_or (body_of f octets) NoValue) ⊎ (r ≡ Err OutOfMemory)
read_answers f lawful octets (Ok m) found none = inl (sym (ap (λ o. found_or o NoValue) (body_found f lawful octets m found)))
read_answers f lawful octets (Err NoValue) found none =
    inl (sym (ap (λ o. found_or o NoValue) (none_found f lawful octets (body_of f octets) refl (none refl))))
read_answers f lawful octets (Err OutOfMemory) found none = inr refl

-- ---- a message that is made of what was read

pub image_found : {A B : Type 0} (make : A → B) (read : List ℕ → Option (A × List ℕ)) (old new : List ℕ) (v : A) → read old ≡ Some (v, new)
    → image_read make read old ≡ Some (make v, new)
image_found make read old new v h = ap (λ o. o >>= λ x. Some (make x.0, x.1)) h

-- of a value that was read into its place
pub placed_fails : {A : Type 0} (v : A) (read : List ℕ → Option (A × List ℕ)) (old new : List ℕ) (e : ReadFault)
    → GivesBy {X = Unit {0}} (λ _. v) read old new (Err e) → Gives read old new (Err e)
placed_fails v read old new NoValue h = h
placed_fails v read old new OutOfMemory h = tt

pub image_fails : {A B : Type 0} (make : A → B) (read : List ℕ → Option (A × List ℕ)) (old new : List ℕ) (e : ReadFault) → Gives read old new (Err e)
    → Gives (image_read make read) old new (Err e)
image_fails make read old new NoValue h = ap (λ o. o >>= λ x. Some (make x.0, x.1)) h
image_fails make read old new OutOfMemory h = tt

-- ---- readers by case

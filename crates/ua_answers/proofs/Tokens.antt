-- What is put into a writer of JSON, step by step.
use Rattle.std.proofs.Common.{◌≡◌, ℕ, suc, ◌+◌, List, [], ◌∷◌, ◌++◌, map, take, slice_get, option_map, Some}
use Rattle.std.proofs.Common.{Result, Ok, Err, OnOk, codes, refl, sym, ap, ◌∙◌, arith, append-nil, append_assoc}
use Rattle.std.specs.List.{flat_map}
use Rattle.std.proofs.lemmas.Grind.{flat_map-append}
use Rattle.json.specs.Json.{Json}
use Rattle.json.specs.Print.{print}
use Rattle.json.specs.Token.{Token}
use Rattle.json.specs.Token as token
use Rattle.json.specs.Tree.{items_tokens, json_tokens, members_tokens}
use Rattle.json.specs.Written.{Writes, Written}
use Rattle.ua_answers.specs.Json.{Field, json_array, json_items, json_line, members_of, object}
use Rattle.ua_answers.specs.Tokens.{PutsTokens, element_tokens, fields_tokens}
use Rattle.ua_texts.proofs.Rows.{get_map, take_next}
use Rattle.ua_variant.specs.Data.{ScalarData}

-- ---- objects and arrays

members_are : (fields : List Field) → members_tokens (members_of fields) ≡ fields_tokens fields ++ token.end_object ∷ []
members_are [] = refl
members_are (field ∷ fields) =
    ap (λ (t : List Token). token.key field.0 ∷ t) (ap (λ (t : List Token). json_tokens field.1 ++ t) (members_are fields)
    ∙ sym (append_assoc (json_tokens field.1) (fields_tokens fields) (token.end_object ∷ [])))

pub object_is : (fields : List Field) → json_tokens (object fields) ≡ token.begin_object ∷ (fields_tokens fields ++ token.end_object ∷ [])
object_is fields = ap (λ (t : List Token). token.begin_object ∷ t) (members_are fields)

items_are : {A : Type 0} (f : A → Json) (xs : List A) → items_tokens (json_items (map f xs)) ≡ flat_map (λ x. json_tokens (f x)) xs ++ token.end_array ∷ []
items_are f [] = refl
items_are f (x ∷ xs) =
    ap (λ (t : List Token). json_tokens (f x) ++ t) (items_are f xs)
    ∙ sym (append_assoc (json_tokens (f x)) (flat_map (λ y. json_tokens (f y)) xs) (token.end_array ∷ []))

pub array_is : {A : Type 0} (f : A → Json) (xs : List A)
    → json_tokens (json_array (map f xs)) ≡ token.begin_array ∷ (flat_map (λ x. json_tokens (f x)) xs ++ token.end_array ∷ [])
array_is f xs = ap (λ (t : List Token). token.begin_array ∷ t) (items_are f xs)

pub fields-append : (a b : List Field) → fields_tokens (a ++ b) ≡ fields_tokens a ++ fields_tokens b
fields-append [] b = refl
fields-append (field ∷ a) b =
    ap (λ (t : List Token). token.key field.0 ∷ t) (ap (λ (t : List Token). json_tokens field.1 ++ t) (fields-append a b)
    ∙ sym (append_assoc (json_tokens field.1) (fields_tokens a) (fields_tokens b)))

-- ---- what was put

-- these tokens were put
abbrev pub Put : Written → Written → List Token → Type 0
Put old new tokens = (new.before ≡ old.before) × (new.tokens ≡ old.tokens ++ tokens)

-- one token was put
pub put_one : {E : Type 0} {x : Unit {0}} {old new : Written} {t : Token} → Writes {E = E} (Ok x) old new t → Put old new (t ∷ [])
put_one w = (w.room.0, w.ok)

pub put_then : (a b c : Written) (ts us : List Token) → Put a b ts → Put b c us → Put a c (ts ++ us)
put_then a b c ts us p q = (q.0 ∙ p.0, q.1 ∙ ap (λ (t : List Token). t ++ us) p.1 ∙ append_assoc a.tokens ts us)

-- one token is put at last
pub one_last : {E : Type 0} {r : Result (Unit {0}) E} {old new : Written} {t : Token} → Writes r old new t → PutsTokens r old new (t ∷ [])
one_last {r = Ok x} w = (w.room.0, w.ok)
one_last {r = Err e} w = tt

pub then_last : {E : Type 0} (r : Result (Unit {0}) E) (a b c : Written) (ts us : List Token) → Put a b ts → PutsTokens r b c us → PutsTokens r a c (ts ++ us)
then_last (Ok x) a b c ts us p q = put_then a b c ts us p q
then_last (Err e) a b c ts us p q = tt

-- the same tokens by another name
pub puts_as : {E : Type 0} (r : Result (Unit {0}) E) (old new : Written) (ts us : List Token) → ts ≡ us → PutsTokens r old new ts → PutsTokens r old new us
puts_as (Ok x) old new ts us is p = (p.0, p.1 ∙ ap (λ (t : List Token). old.tokens ++ t) is)
puts_as (Err e) old new ts us is p = tt

-- the elements of an array were put, its end last
pub array_put : {E A : Type 0} (r : Result (Unit {0}) E) (a b c d : Written) (f : A → Json) (xs : List A) → Put a b (token.begin_array ∷ [])
    → Put b c (flat_map (λ x. json_tokens (f x)) xs)
    → PutsTokens r c d (token.end_array ∷ []) → PutsTokens r a d (json_tokens (json_array (map f xs)))
array_put r a b c d f xs first elements last =
    let ts = flat_map (λ x. json_tokens (f x)) xs in
    puts_as r a d (token.begin_array ∷ (ts ++ token.end_array ∷ [])) (json_tokens (json_array (map f xs))) (sym (array_is f xs))
    (then_last r a b d (token.begin_array ∷ []) (ts ++ token.end_array ∷ []) first (then_last r b c d ts (token.end_array ∷ []) elements last))

-- a member was put, its name first
pub field_put : {E : Type 0} (r : Result (Unit {0}) E) (a b c : Written) (name : List ℕ) (value : Json) → Put a b (token.key name ∷ [])
    → PutsTokens r b c (json_tokens value) → PutsTokens r a c (fields_tokens ((name, value) ∷ []))
field_put r a b c name value first p =
    let ts = json_tokens value in
    puts_as r a c (token.key name ∷ ts) (token.key name ∷ (ts ++ [])) (ap (λ (t : List Token). token.key name ∷ t) (sym (append-nil ts)))
    (then_last r a b c (token.key name ∷ []) ts first p)

-- members were put, and others behind them
pub members_then : {E : Type 0} (r : Result (Unit {0}) E) (a b c : Written) (fs gs : List Field) → Put a b (fields_tokens fs)
    → PutsTokens r b c (fields_tokens gs) → PutsTokens r a c (fields_tokens (fs ++ gs))
members_then r a b c fs gs p q =
    puts_as r a c (fields_tokens fs ++ fields_tokens gs) (fields_tokens (fs ++ gs)) (sym (fields-append fs gs))
    (then_last r a b c (fields_tokens fs) (fields_tokens gs) p q)

-- the members of an object were put in its brackets
pub object_whole : {E : Type 0} (r : Result (Unit {0}) E) (a b c d : Written) (fields : List Field) → Put a b (token.begin_object ∷ [])
    → Put b c (fields_tokens fields) → PutsTokens r c d (token.end_object ∷ []) → PutsTokens r a d (json_tokens (object fields))
object_whole r a b c d fields first members last =
    let ts = fields_tokens fields in
    puts_as r a d (token.begin_object ∷ (ts ++ token.end_object ∷ [])) (json_tokens (object fields)) (sym (object_is fields))
    (then_last r a b d (token.begin_object ∷ []) (ts ++ token.end_object ∷ []) first (then_last r b c d ts (token.end_object ∷ []) members last))

-- an object with one member more at its end
pub object_around : {E : Type 0} (r : Result (Unit {0}) E) (a b c d e f : Written) (fields : List Field) (name : List ℕ) (value : Json)
    → Put a b (token.begin_object ∷ []) → Put b c (fields_tokens fields) → Put c d (token.key name ∷ []) → Put d e (json_tokens value)
    → PutsTokens r e f (token.end_object ∷ []) → PutsTokens r a f (json_tokens (object (fields ++ (name, value) ∷ [])))
object_around r a b c d e f fields name value first members key inner last =
    let one = field_put {E = Unit {0}} (Ok tt) c d e name value key inner in
    object_whole r a b e f (fields ++ (name, value) ∷ []) first (members_then {E = Unit {0}} (Ok tt) b c e fields ((name, value) ∷ []) members one) last

-- the line of the object of these fields
pub line_is : {E : Type 0} (r : Result (Unit {0}) E) (old new : List ℕ) (tokens : List Token) (fields : List Field)
    → tokens ≡ token.begin_object ∷ fields_tokens fields
    → OnOk r (new ≡ old ++ (print (tokens ++ token.end_object ∷ []) ++ codes "\n")) → OnOk r (new ≡ old ++ json_line (object fields))
unfolding json_line
line_is (Ok x) old new tokens fields is h =
    h ∙ ap (λ (t : List Token). old ++ (print t ++ codes "\n")) (ap (λ (t : List Token). t ++ token.end_object ∷ []) is ∙ sym (object_is fields))
line_is (Err e) old new tokens fields is h = tt

-- the elements up to the next place were put
pub elements_next : {A : Type 0} (f : A → ScalarData) (xs : List A) (n : ℕ) (s : ScalarData) (old now new : Written) → Some s ≡ option_map f (slice_get xs n)
    → Put old now (flat_map element_tokens (take n (map f xs))) → Put now new (element_tokens s)
    → Put old new (flat_map element_tokens (take (n + 1) (map f xs)))
elements_next f xs n s old now new e p q =
    let next : n + 1 ≡ suc n = omega arith in
    let so_far = flat_map element_tokens (take n (map f xs)) in
    let more = ap (flat_map element_tokens) (take_next (map f xs) n s (get_map f xs n ∙ sym e)) ∙ flat_map-append element_tokens (take n (map f xs)) (s ∷ [])
    ∙ ap (λ (t : List Token). so_far ++ t) (append-nil (element_tokens s)) in
    let put = put_then old now new so_far (element_tokens s) p q in
    (put.0, put.1 ∙ ap (λ (t : List Token). old.tokens ++ t) (sym more ∙ ap (λ (m : ℕ). flat_map element_tokens (take m (map f xs))) (sym next)))

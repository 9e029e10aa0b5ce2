-- What is put into a writer of JSON where people write values and times, step by step.
use Rattle.std.proofs.Common.{◌≡◌, ℕ, suc, ◌+◌, Bool, true, false, List, [], ◌∷◌, ◌++◌, map, take, slice_get, option_map, Option}
use Rattle.std.proofs.Common.{Some, None, Result, Ok, Err, OnOk, codes, refl, sym, ap, subst, ◌∙◌, arith, append-nil, append_assoc}
use Rattle.std.specs.Float.{Float, Format, float_is_finite}
use Rattle.std.specs.List.{flat_map}
use Rattle.std.proofs.lemmas.Grind.{flat_map-append}
use Rattle.fast_float.specs.Parse.{parse_float}
use Rattle.json.specs.Json as json
use Rattle.json.specs.Json.{Json}
use Rattle.json.specs.Print.{print}
use Rattle.json.specs.Token.{Token}
use Rattle.json.specs.Token as token
use Rattle.json.specs.Tree.{items_tokens, json_tokens}
use Rattle.json.specs.Written.{Writes, Written}
use Rattle.ryu.specs.Plain.{IsPlainNumber}
use Rattle.ua_builtin.specs.declared.date_time.DateTime.{DateTime}
use Rattle.ua_builtin.specs.declared.node_id.NodeId.{NodeId}
use Rattle.ua_variant.specs.Data.{DataFields, DataValueData, LeafData, ScalarData, ScalarsData, VariantData, bare, leaf, many, null, one, valued}
use Rattle.ua_variant.specs.Encodable.{kind_of_scalar, variant_encodable}
use Rattle.ua_variant.specs.View.{data_fields_of, data_value_of, many_of, no_data_fields, row, scalar_of, value_within}
use Rattle.ua_variant.specs.declared.values.DataValue.{DataValue}
use Rattle.ua_variant.specs.declared.values.Scalar.{Scalar}
use Rattle.ua_answers.specs.Json.{Field, json_array, array_fields, dimension_fields, json_items, json_line, object, status_fields, unwritable_fields}
use Rattle.ua_answers.specs.Json.{variant_fields}
use Rattle.ua_texts.specs.Names.{number_of}
use Rattle.ua_answers.specs.ObjectParts.{code_member, count_member}
use Rattle.ua_answers.specs.PlainJson.{AreBothFields, AreDataMembers, AreJoined, AreJson, AreTimeFields, AreTimeMembers, AreValueFields, AreVariantFields}
use Rattle.ua_answers.specs.PlainJson.{AreWrittenFields, IsArrayJson, IsDataValueJson, IsFloatJson, IsLeafOrText, IsMomentMember, IsObject, IsPlainJson}
use Rattle.ua_answers.specs.PlainJson.{IsScalarJson, IsTextJson, IsTimeJson, PutsFields, PutsJson}
use Rattle.ua_texts.specs.PlainLeaf.{Adds, Either, IsPlainMoment}
use Rattle.ua_answers.specs.Tokens.{PutsTokens, fields_tokens}
use Rattle.ua_texts.specs.Values.{type_name}
use Rattle.ua_answers.specs.declared.style.LineStyle.{LineStyle}
use Rattle.ua_texts.proofs.PlainAdds.{adds_is}
use Rattle.ua_texts.proofs.Rows.{get_map, take_next}
use Rattle.ua_answers.proofs.Tokens.{Put, fields-append, line_is, object_is, put_then}

-- a value, values, or members of which this holds were put
abbrev pub OneJson : Written → Written → (Json → Type 0) → Type 0
OneJson old new Is = (j : Json) × (new.before ≡ old.before) × (new.tokens ≡ old.tokens ++ json_tokens j) × Is j

abbrev pub EachJson : Written → Written → (List Json → Type 0) → Type 0
EachJson old new Are = (js : List Json) × (new.before ≡ old.before) × (new.tokens ≡ old.tokens ++ flat_map json_tokens js) × Are js

abbrev pub SomeFields : Written → Written → (List Field → Type 0) → Type 0
SomeFields old new Are = (fields : List Field) × (new.before ≡ old.before) × (new.tokens ≡ old.tokens ++ fields_tokens fields) × Are fields

-- ---- scalars

-- a text was put
pub text_put : {E : Type 0} (r : Result (Unit {0}) E) (old new : Written) (text : List ℕ) (Holds : List ℕ → Type 0) → Writes r old new (token.string text)
    → Holds text → PutsJson r old new (IsTextJson Holds)
text_put (Ok x) old new text Holds w h = (json.string text, w.room.0, w.ok, (text, refl, h))
text_put (Err e) old new text Holds w h = tt

-- null was put
pub null_put : {E : Type 0} (r : Result (Unit {0}) E) (old new : Written) → Writes r old new token.null → PutsJson r old new (λ j. j ≡ json.null)
null_put (Ok x) old new w = (json.null, w.room.0, w.ok, refl)
null_put (Err e) old new w = tt

-- a text that was added to none
pub text_whole : (Holds : List ℕ → Type 0) (old new shown : List ℕ) → old ≡ [] → ((text : List ℕ) × (new ≡ old ++ text) × Holds text) → shown ≡ new
    → Holds shown
text_whole Holds old new shown none h same = subst Holds (sym (same ∙ h.1 ∙ ap (λ (t : List ℕ). t ++ h.0) none)) h.2

-- a number was put
pub number_put : {E : Type 0} (r : Result (Unit {0}) E) (old new : Written) (f : Format) (x : Float) (Holds : List ℕ → Type 0) → float_is_finite x ≡ true
    → new.before ≡ old.before
    → OnOk r ((s : List ℕ) × (new.tokens ≡ old.tokens ++ token.number s ∷ []) × IsPlainNumber s × (parse_float f s ≡ Some x))
    → PutsJson r old new (IsFloatJson f x Holds)
number_put (Ok y) old new f x Holds finite before h = (
  json.number h.0,
  before,
  h.1,
  subst (λ (b : Bool). Either b ((s : List ℕ) × (json.number h.0 ≡ json.number s) × IsPlainNumber s × (parse_float f s ≡ Some x))
      (IsTextJson Holds (json.number h.0))) (sym finite) (h.0, refl, h.2, h.3),
)
number_put (Err e) old new f x Holds finite before h = tt

-- the text of what is no number of JSON was put
pub other_put : {E : Type 0} (r : Result (Unit {0}) E) (old new : Written) (f : Format) (x : Float) (text : List ℕ) (Holds : List ℕ → Type 0)
    → float_is_finite x ≡ false → Writes r old new (token.string text) → Holds text
    → PutsJson r old new (IsFloatJson f x Holds)
other_put (Ok y) old new f x text Holds finite w h = (
  json.string text,
  w.room.0,
  w.ok,
  subst (λ (b : Bool). Either b ((s : List ℕ) × (json.string text ≡ json.number s) × IsPlainNumber s × (parse_float f s ≡ Some x))
      (IsTextJson Holds (json.string text))) (sym finite) (text, refl, h),
)
other_put (Err e) old new f x text Holds finite w h = tt

-- ---- objects

-- a value that is known was put
pub value_put : {E : Type 0} (r : Result (Unit {0}) E) (old new : Written) (j : Json) (Is : Json → Type 0) → PutsTokens r old new (json_tokens j) → Is j
    → PutsJson r old new Is
value_put (Ok x) old new j Is p h = (j, p.0, p.1, h)
value_put (Err e) old new j Is p h = tt

-- a scalar was put that is a known value
pub leaf_known : {E : Type 0} (r : Result (Unit {0}) E) (old new : Written) (names : Bool) (value s : Scalar) (j : Json) → value ≡ s
    → PutsTokens r old new (json_tokens j) → IsLeafOrText names (scalar_of s) j → PutsJson r old new (IsLeafOrText names (scalar_of value))
leaf_known r old new names value s j is p h =
    subst (λ (v : Scalar). PutsJson r old new (IsLeafOrText names (scalar_of v))) (sym is)
    (value_put r old new j (IsLeafOrText names (scalar_of s)) p h)

-- members were put in curly brackets
pub object_put : {E : Type 0} (r : Result (Unit {0}) E) (Are : List Field → Type 0) (a b c d : Written) → Put a b (token.begin_object ∷ [])
    → SomeFields b c Are → PutsTokens r c d (token.end_object ∷ []) → PutsJson r a d (IsObject Are)
object_put (Ok x) Are a b c d first h last =
    let ts = fields_tokens h.0 in
    let put = put_then a b d (token.begin_object ∷ []) (ts ++ token.end_object ∷ []) first (put_then b c d ts (token.end_object ∷ []) (h.1, h.2) last) in
    (object h.0, put.0, put.1 ∙ ap (λ (t : List Token). a.tokens ++ t) (sym (object_is h.0)), (h.0, refl, h.3))
object_put (Err e) Are a b c d first h last = tt

-- members were put, and others behind them
joined_put : (First Second : List Field → Type 0) (a b c : Written) → SomeFields a b First → SomeFields b c Second → SomeFields a c (AreJoined First Second)
joined_put First Second a b c h k =
    let put = put_then a b c (fields_tokens h.0) (fields_tokens k.0) (h.1, h.2) (k.1, k.2) in
    (h.0 ++ k.0, put.0, put.1 ∙ ap (λ (t : List Token). a.tokens ++ t) (sym (fields-append h.0 k.0)), (h.0, k.0, refl, h.3, k.3))

-- a Variant that is there
pub within_put : {E : Type 0} (r : Result (Unit {0}) E) (names : Bool) (v whole : VariantData) (a b c d : Written) → v ≡ whole
    → Put a b (token.begin_object ∷ []) → SomeFields b c (AreVariantFields names v) → PutsTokens r c d (token.end_object ∷ [])
    → PutsJson r a d (IsObject (AreVariantFields names whole))
within_put r names v whole a b c d is first h last =
    subst (λ (w : VariantData). PutsJson r a d (IsObject (AreVariantFields names w))) is (object_put r (AreVariantFields names v) a b c d first h last)

-- a null Variant
pub null_within : {E : Type 0} (r : Result (Unit {0}) E) (names : Bool) (whole : VariantData) (a b c d : Written) → null ≡ whole
    → Put a b (token.begin_object ∷ []) → Put b c (fields_tokens (variant_fields null)) → PutsTokens r c d (token.end_object ∷ [])
    → PutsJson r a d (IsObject (AreVariantFields names whole))
null_within r names whole a b c d is first p last = within_put r names null whole a b c d is first (variant_fields null, p.0, p.1, refl) last

-- a DataValue with a value
pub valued_put : {E : Type 0} (r : Result (Unit {0}) E) (names : Bool) (d : DataValue) (whole : DataValueData) (held v : VariantData) (a b c e f : Written)
    → data_value_of d ≡ whole → d.value ≡ Some held → v ≡ held → Put a b (token.begin_object ∷ []) → SomeFields b c (AreVariantFields names v)
    → SomeFields c e (AreDataMembers names (data_fields_of d)) → PutsTokens r e f (token.end_object ∷ [])
    → PutsJson r a f (IsDataValueJson names whole)
valued_put r names d whole held v a b c e f is some same first h k last =
    let made : valued v (data_fields_of d) ≡ whole = ap (λ (w : VariantData). valued w (data_fields_of d)) same
    ∙ ap (λ o. value_within o (data_fields_of d)) (sym some) ∙ is in
    let First = AreVariantFields names v in
    let Second = AreDataMembers names (data_fields_of d) in
    subst (λ (w : DataValueData). PutsJson r a f (IsDataValueJson names w)) made
    (object_put r (AreJoined First Second) a b e f first (joined_put First Second b c e h k) last)

-- a DataValue without a value
pub bare_put : {E : Type 0} (r : Result (Unit {0}) E) (names : Bool) (d : DataValue) (whole : DataValueData) (a b c e : Written)
    → data_value_of d ≡ whole → d.value ≡ None → Put a b (token.begin_object ∷ []) → SomeFields b c (AreDataMembers names (data_fields_of d))
    → PutsTokens r c e (token.end_object ∷ []) → PutsJson r a e (IsDataValueJson names whole)
bare_put r names d whole a b c e is none first h last =
    let made : bare (data_fields_of d) ≡ whole = ap (λ o. value_within o (data_fields_of d)) (sym none) ∙ is in
    subst (λ (w : DataValueData). PutsJson r a e (IsDataValueJson names w)) made (object_put r (AreDataMembers names (data_fields_of d)) a b c e first h last)

-- a DataValue without a field
pub empty_put : {E : Type 0} (r : Result (Unit {0}) E) (names : Bool) (whole : DataValueData) (old new : Written) → bare no_data_fields ≡ whole
    → PutsTokens r old new (json_tokens (object [])) → PutsJson r old new (IsDataValueJson names whole)
empty_put r names whole old new is p =
    subst (λ (w : DataValueData). PutsJson r old new (IsDataValueJson names w)) is
    (value_put r old new (object []) (IsDataValueJson names (bare no_data_fields)) p ([], refl, ([], [], refl, ([], refl, refl), ([], refl, refl))))

-- ---- the fields of a DataValue

-- a time behind its name
pub moment_put : {E : Type 0} (r : Result (Unit {0}) E) (name : List ℕ) (moment : Option DateTime) (t : DateTime) (a b c : Written) → moment ≡ Some t
    → Put a b (token.key name ∷ []) → PutsJson r b c (IsTextJson (IsPlainMoment t)) → PutsFields r a c (IsMomentMember name moment)
moment_put (Ok x) name moment t a b c is first h =
    let put = put_then a b c (token.key name ∷ []) (json_tokens h.0) first (h.1, h.2) in
    subst (λ (o : Option DateTime). SomeFields a c (IsMomentMember name o)) (sym is) (
      (name, h.0) ∷ [],
      put.0,
      put.1 ∙ ap (λ (u : List Token). a.tokens ++ token.key name ∷ u) (sym (append-nil (json_tokens h.0))),
      (h.0, refl, h.3),
    )
moment_put (Err e) name moment t a b c is first h = tt

-- no time
pub no_moment : (name : List ℕ) (moment : Option DateTime) (w : Written) → moment ≡ None → SomeFields w w (IsMomentMember name moment)
no_moment name moment w is = subst (λ (o : Option DateTime). SomeFields w w (IsMomentMember name o)) (sym is) ([], refl, sym (append-nil w.tokens), refl)

-- a time, and its picoseconds behind it
pub times_put : {E : Type 0} (r : Result (Unit {0}) E) (name more : List ℕ) (t : Option DateTime) (n : Option ℕ) (a b c : Written)
    → SomeFields a b (IsMomentMember name t) → PutsTokens r b c (fields_tokens (count_member more n)) → PutsFields r a c (AreTimeMembers name more t n)
times_put (Ok x) name more t n a b c h p =
    let count = count_member more n in
    let put = put_then a b c (fields_tokens h.0) (fields_tokens count) (h.1, h.2) p in
    (h.0 ++ count, put.0, put.1 ∙ ap (λ (u : List Token). a.tokens ++ u) (sym (fields-append h.0 count)), (h.0, refl, h.3))
times_put (Err e) name more t n a b c h p = tt

-- the status, and the times behind it
pub data_put : {E : Type 0} (r : Result (Unit {0}) E) (names : Bool) (f : DataFields) (a b c d : Written)
    → Put a b (fields_tokens (code_member names (codes "status") f.status))
    → SomeFields b c (AreTimeMembers (codes "source") (codes "source_picoseconds") f.source_timestamp f.source_picoseconds)
    → PutsFields r c d (AreTimeMembers (codes "server") (codes "server_picoseconds") f.server_timestamp f.server_picoseconds)
    → PutsFields r a d (AreDataMembers names f)
data_put (Ok x) names f a b c d first h k =
    let status = code_member names (codes "status") f.status in
    let rest = put_then b c d (fields_tokens h.0) (fields_tokens k.0) (h.1, h.2) (k.1, k.2) in
    let put = put_then a b d (fields_tokens status) (fields_tokens h.0 ++ fields_tokens k.0) first rest in
    let parts = fields-append status (h.0 ++ k.0) ∙ ap (λ (u : List Token). fields_tokens status ++ u) (fields-append h.0 k.0) in
    (status ++ (h.0 ++ k.0), put.0, put.1 ∙ ap (λ (u : List Token). a.tokens ++ u) (sym parts), (h.0, k.0, refl, h.3, k.3))
data_put (Err e) names f a b c d first h k = tt

-- ---- elements

-- an element that holds no further value
leaf_is : (names : Bool) (s : ScalarData) (o : Option LeafData) (j : Json) → Some s ≡ option_map leaf o → IsLeafOrText names s j → IsScalarJson names s j
leaf_is names s None j e h = absurd cc
leaf_is names s (Some l) j e h =
    let same : leaf l ≡ s = cc in subst (λ (x : ScalarData). IsScalarJson names x j) same (subst (λ (x : ScalarData). IsLeafOrText names x j) (sym same) h)

-- such an element was put
pub leaf_put : (names : Bool) (s : ScalarData) (o : Option LeafData) (old new : Written) → Some s ≡ option_map leaf o
    → OneJson old new (IsLeafOrText names s) → OneJson old new (IsScalarJson names s)
leaf_put names s o old new e h = (h.0, h.1, h.2, leaf_is names s o h.0 e h.3)

json_push : (names : Bool) (ss : List ScalarData) (js : List Json) (s : ScalarData) (j : Json) → AreJson names (row ss) js → IsScalarJson names s j
    → AreJson names (row (ss ++ s ∷ [])) (js ++ j ∷ [])
json_push names [] [] s j h k = (k, tt)
json_push names [] (i ∷ js) s j h k = absurd h
json_push names (r ∷ ss) [] s j h k = absurd h
json_push names (r ∷ ss) (i ∷ js) s j h k = (h.0, json_push names ss js s j h.1 k)

-- no elements
pub json_none : (names : Bool) (w : Written) → EachJson w w (AreJson names (row []))
json_none names w = ([], refl, sym (append-nil w.tokens), tt)

-- the elements up to the next place were put
pub json_next : {A : Type 0} (names : Bool) (f : A → ScalarData) (xs : List A) (n : ℕ) (s : ScalarData) (old now new : Written)
    → Some s ≡ option_map f (slice_get xs n) → EachJson old now (AreJson names (row (take n (map f xs))))
    → OneJson now new (IsScalarJson names s) → EachJson old new (AreJson names (row (take (n + 1) (map f xs))))
json_next names f xs n s old now new e p q =
    let next : take (n + 1) (map f xs) ≡ take n (map f xs) ++ s ∷ [] = let k : n + 1 ≡ suc n = omega arith in ap (λ i. take i (map f xs)) k
    ∙ take_next (map f xs) n s (get_map f xs n ∙ sym e) in
    let all = flat_map-append json_tokens p.0 (q.0 ∷ []) ∙ ap (λ (t : List Token). flat_map json_tokens p.0 ++ t) (append-nil (json_tokens q.0)) in
    let put = put_then old now new (flat_map json_tokens p.0) (json_tokens q.0) (p.1, p.2) (q.1, q.2) in (
      p.0 ++ q.0 ∷ [],
      put.0,
      put.1 ∙ ap (λ (t : List Token). old.tokens ++ t) (sym all),
      subst (λ (items : List ScalarData). AreJson names (row items) (p.0 ++ q.0 ∷ [])) (sym next) (json_push names (take n (map f xs)) p.0 s q.0 p.3 q.3),
    )

items_each : (js : List Json) → items_tokens (json_items js) ≡ flat_map json_tokens js ++ token.end_array ∷ []
items_each [] = refl
items_each (j ∷ js) = ap (λ (t : List Token). json_tokens j ++ t) (items_each js)
    ∙ sym (append_assoc (json_tokens j) (flat_map json_tokens js) (token.end_array ∷ []))

-- a list was put
pub list_put : {E : Type 0} (r : Result (Unit {0}) E) (names : Bool) (ss : ScalarsData) (a b c d : Written) → Put a b (token.begin_array ∷ [])
    → EachJson b c (AreJson names ss) → PutsTokens r c d (token.end_array ∷ [])
    → PutsJson r a d (IsArrayJson names ss)
list_put (Ok x) names ss a b c d first each last =
    let ts = flat_map json_tokens each.0 in
    let put = put_then a b d (token.begin_array ∷ []) (ts ++ token.end_array ∷ []) first (put_then b c d ts (token.end_array ∷ []) (each.1, each.2) last) in
    (json_array each.0, put.0, put.1 ∙ ap (λ (t : List Token). a.tokens ++ token.begin_array ∷ t) (sym (items_each each.0)), (each.0, refl, each.3))
list_put (Err e) names ss a b c d first each last = tt

-- ---- values behind their types

-- members that are known were put
pub fields_put : {E : Type 0} (r : Result (Unit {0}) E) (old new : Written) (fields : List Field) (Are : List Field → Type 0)
    → PutsTokens r old new (fields_tokens fields) → Are fields → PutsFields r old new Are
fields_put (Ok x) old new fields Are p h = (fields, p.0, p.1, h)
fields_put (Err e) old new fields Are p h = tt

-- a null array
pub absent_put : {E : Type 0} (r : Result (Unit {0}) E) (old new : Written) (names : Bool) (k : ℕ) (items : Option (List ScalarData)) (ds : List _)
    → items ≡ None → PutsTokens r old new (fields_tokens (array_fields k items ds))
    → PutsFields r old new (AreVariantFields names (many_of k items ds))
absent_put r old new names k None ds e p = fields_put r old new (array_fields k None ds) (AreVariantFields names (many_of k None ds)) p refl
absent_put r old new names k (Some items) ds e p = absurd cc

-- a value that cannot be written
pub unwritable_put : {E : Type 0} (r : Result (Unit {0}) E) (old new : Written) (names : Bool) (v : VariantData) → variant_encodable v ≡ false
    → PutsTokens r old new (fields_tokens unwritable_fields) → PutsFields r old new (AreWrittenFields names v)
unwritable_put r old new names v e p =
    fields_put r old new unwritable_fields (AreWrittenFields names v) p
    (subst (λ (b : Bool). Either b (AreVariantFields names v unwritable_fields) (unwritable_fields ≡ unwritable_fields)) (sym e) refl)

pub one_put : {E : Type 0} (r : Result (Unit {0}) E) (names : Bool) (s : ScalarData) (a b c d : Written)
    → Put a b (token.key (codes "type") ∷ token.string (type_name (kind_of_scalar s)) ∷ []) → Put b c (token.key (codes "value") ∷ [])
    → PutsJson r c d (IsScalarJson names s) → PutsFields r a d (AreVariantFields names (one s))
one_put (Ok x) names s a b c d first second h =
    let kind = type_name (kind_of_scalar s) in
    let put = put_then a b d (token.key (codes "type") ∷ token.string kind ∷ []) (token.key (codes "value") ∷ json_tokens h.0) first
    (put_then b c d (token.key (codes "value") ∷ []) (json_tokens h.0) second (h.1, h.2)) in (
      (codes "type", json.string kind) ∷ (codes "value", h.0) ∷ [],
      put.0,
      put.1 ∙ ap (λ (t : List Token). a.tokens ++ token.key (codes "type") ∷ token.string kind ∷ token.key (codes "value") ∷ t)
          (sym (append-nil (json_tokens h.0))),
      (h.0, refl, h.3),
    )
one_put (Err e) names s a b c d first second h = tt

pub many_put : {E : Type 0} (r : Result (Unit {0}) E) (names : Bool) (k : ℕ) (ss : ScalarsData) (ds : List _) (a b c d e : Written)
    → Put a b (token.key (codes "type") ∷ token.string (type_name k ++ codes "[]") ∷ [])
    → Put b c (token.key (codes "value") ∷ []) → OneJson c d (IsArrayJson names ss) → PutsTokens r d e (fields_tokens (dimension_fields ds))
    → PutsFields r a e (AreVariantFields names (many k ss ds))
many_put (Ok x) names k ss ds a b c d e first second h last =
    let kind = type_name k ++ codes "[]" in
    let dims = fields_tokens (dimension_fields ds) in
    let behind = put_then b c e (token.key (codes "value") ∷ []) (json_tokens h.0 ++ dims) second (put_then c d e (json_tokens h.0) dims (h.1, h.2) last) in
    let put = put_then a b e (token.key (codes "type") ∷ token.string kind ∷ []) (token.key (codes "value") ∷ (json_tokens h.0 ++ dims)) first behind in
    ((codes "type", json.string kind) ∷ (codes "value", h.0) ∷ dimension_fields ds, put.0, put.1, (h.0, refl, h.3.0, h.3.1, h.3.2))
many_put (Err x) names k ss ds a b c d e first second h last = tt

-- ---- lines

pub both_put : {E : Type 0} (r : Result (Unit {0}) E) (answer : DataValue) (a b c d e : Written) → Put a b (token.key (codes "source") ∷ [])
    → OneJson b c (IsTimeJson answer.source_timestamp)
    → Put c d (token.key (codes "server") ∷ []) → PutsJson r d e (IsTimeJson answer.server_timestamp) → PutsFields r a e (AreBothFields answer)
both_put (Ok x) answer a b c d e first h second k =
    let server = token.key (codes "server") ∷ json_tokens k.0 in
    let behind = put_then b c e (json_tokens h.0) server (h.1, h.2) (put_then c d e (token.key (codes "server") ∷ []) (json_tokens k.0) second (k.1, k.2)) in
    let put = put_then a b e (token.key (codes "source") ∷ []) (json_tokens h.0 ++ server) first behind in (
      (codes "source", h.0) ∷ (codes "server", k.0) ∷ [],
      put.0,
      put.1 ∙ ap (λ (t : List Token). a.tokens ++ token.key (codes "source") ∷ (json_tokens h.0 ++ token.key (codes "server") ∷ t))
          (sym (append-nil (json_tokens k.0))),
      record { source = h.0; server = k.0; are = refl; of_source = h.3; of_server = k.3 },
    )
both_put (Err x) answer a b c d e first h second k = tt

pub json_added : {E : Type 0} (r : Result (Unit {0}) E) (style : LineStyle) (node : NodeId) (answer : DataValue) (code : ℕ) (old new : List ℕ)
    (a b c d : Written) → code ≡ number_of answer.status → a.tokens ≡ token.begin_object ∷ []
    → Put a b (fields_tokens (status_fields style.names node code)) → SomeFields b c (AreValueFields style.names answer.value)
    → SomeFields c d (AreTimeFields style.times answer)
    → OnOk r (new ≡ old ++ (print (d.tokens ++ token.end_object ∷ []) ++ codes "\n")) → Adds r old new (IsPlainJson style node answer)
json_added r style node answer code old new a b c d is begun first v t ended =
    let status = status_fields style.names node (number_of answer.status) in
    let fields = status ++ (v.0 ++ t.0) in
    let at : Put a b (fields_tokens status) = (first.0, first.1 ∙ ap (λ (k : ℕ). a.tokens ++ fields_tokens (status_fields style.names node k)) is) in
    let rest = put_then b c d (fields_tokens v.0) (fields_tokens t.0) (v.1, v.2) (t.1, t.2) in
    let put = put_then a b d (fields_tokens status) (fields_tokens v.0 ++ fields_tokens t.0) at rest in
    let parts = fields-append status (v.0 ++ t.0) ∙ ap (λ (u : List Token). fields_tokens status ++ u) (fields-append v.0 t.0) in
    let tokens : d.tokens ≡ token.begin_object ∷ fields_tokens fields =
    put.1 ∙ ap (λ (u : List Token). u ++ (fields_tokens status ++ (fields_tokens v.0 ++ fields_tokens t.0))) begun
    ∙ ap (λ (u : List Token). token.begin_object ∷ u) (sym parts) in
    adds_is r old new (json_line (object fields)) (IsPlainJson style node answer) (line_is r old new d.tokens fields tokens ended)
    (record { value = v.0; times = t.0; is = refl; of_value = v.3; of_times = t.3 })

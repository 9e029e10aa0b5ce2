-- A value that a text denotes is of its type and can be written.
use Rattle.std.proofs.Common.{◌≡◌, ℕ, suc, ◌+◌, ◌^◌, ◌≤◌, Bool, true, false, ◌&&◌, ◌||◌, cond, leb, nat_eq, nat_lt, List, [], ◌∷◌}
use Rattle.std.proofs.Common.{length, drop, take, codes, Option, Some, None, ℤ, refl, sym, ◌∙◌, ap, subst, arith, lit≤, lit<}
use Rattle.std.specs.Int.{w8, w16, w32, w64}
use Rattle.std.specs.List.{AllByRecursion, onto_first}
use Rattle.std.specs.Option.{option_map}
use Rattle.std.specs.Str.{IsUtf8, bytes_eq}
use Rattle.std.proofs.lemmas.Bool.{eq-eqb, eqb-true, ltb-true, le-leb}
use Rattle.std.proofs.lemmas.List.Splits.{slice_split-cons_yes, slice_split-cons_no}
use Rattle.ua_builtin.specs.Exact.{◌>>=◌}
use Rattle.ua_builtin.specs.Boolean.{boolean as boolean_format}
use Rattle.ua_builtin.specs.FloatBits.{float_bits}
use Rattle.ua_builtin.specs.DoubleBits.{double_bits}
use Rattle.ua_builtin.specs.DateTime.{date_time as date_time_format}
use Rattle.ua_builtin.specs.Status.{status_code as status_code_format}
use Rattle.ua_variant.specs.Data.{LeafData, boolean, sbyte, byte, int16, uint16, int32, uint32, int64, uint64, float, double}
use Rattle.ua_variant.specs.Data.{string, date_time, guid, byte_string, status_code, ScalarData, leaf, VariantData, one, many}
use Rattle.ua_variant.specs.Leaf.{leaf_kind, leaf_encodable}
use Rattle.ua_variant.specs.Encodable.{is_kind, row_length, scalars_fit, variant_fits}
use Rattle.ua_variant.specs.Measure.{scalars_depth, variant_depth}
use Rattle.ua_variant.specs.View.{row}
use Rattle.ua_nodes.specs.Write.{is_of_type}
use Rattle.ua_nodes.specs.ValueText.{number_below, unsigned_denoted, signed_denoted, pattern_denoted, boolean_denoted, octets_denoted, guid_denoted}
use Rattle.ua_nodes.specs.ValueText.{leaf_denoted, elements, leaves_denoted, has_text_form, most_value_octets, scalar_denoted, array_denoted, value_denoted}
use Rattle.uuid.specs.Text.{parsed}
use Rattle.ua_wire.proofs.Readers.{both_true}
use Rattle.ua_nodes.proofs.Fits.{both_are, below, signed_fits, signed_range, text_fits, counted_fits, decoded_length, parsed_length, mapped_some}
use Rattle.ua_nodes.proofs.IdFits.{guid_fits}
use Rattle.ua_nodes.proofs.Pieces.{pieces}
use Rattle.ua_nodes.proofs.Utf8Pieces.{pieces_utf8}

-- where there is a leaf, it is of the type and can be written
abbrev LeafFits : ℕ → Option LeafData → Type 0
LeafFits kind o = (l : LeafData) → o ≡ Some l → (leaf_kind l ≡ kind) × (leaf_encodable l ≡ true)

where_kind : (kind k : ℕ) (x rest : Option LeafData) → LeafFits k x → LeafFits kind rest → LeafFits kind (cond (nat_eq kind k) x rest)
where_kind kind k x rest here more = by (nat_eq kind k) refl
  where
    by : (t : Bool) → nat_eq kind k ≡ t → LeafFits kind (cond t x rest)
    by true e = subst (λ (n : ℕ). LeafFits n x) (sym (eqb-true kind k e)) here
    by false e = more

mapped_fits : {A : Type 0} (k : ℕ) (f : A → LeafData) (o : Option A) → ((x : A) → leaf_kind (f x) ≡ k) → ((x : A) → o ≡ Some x → leaf_encodable (f x) ≡ true)
    → LeafFits k (option_map f o)
mapped_fits k f o of fits l e =
    let m = mapped_some f o l e in
    (ap leaf_kind (sym m.2) ∙ of m.0, ap leaf_encodable (sym m.2) ∙ fits m.0 m.1)

boolean_fits : (x : Bool) → leaf_encodable (boolean x) ≡ true
unfolding boolean_format
boolean_fits true = refl
boolean_fits false = refl

pattern_below : (digits : ℕ) (text : List ℕ) (n : ℕ) → pattern_denoted digits text ≡ Some n → nat_lt n (16 ^ digits) ≡ true
pattern_below digits text n e = by (bytes_eq (take 2 text) (codes "0x") && nat_eq (length text) (digits + 2)) e
  where
    by : (t : Bool) → cond t (number_below 16 (16 ^ digits) (drop 2 text)) None ≡ Some n → nat_lt n (16 ^ digits) ≡ true
    by true f = below 16 (16 ^ digits) (drop 2 text) n f
    by false f = absurd cc

float_fits : (text : List ℕ) (n : ℕ) → pattern_denoted 8 text ≡ Some n → leaf_encodable (float (record { bits = n })) ≡ true
unfolding float_bits
float_fits text n e = pattern_below 8 text n e

double_fits : (text : List ℕ) (n : ℕ) → pattern_denoted 16 text ≡ Some n → leaf_encodable (double (record { bits = n })) ≡ true
unfolding double_bits
double_fits text n e = pattern_below 16 text n e

status_fits : (text : List ℕ) (n : ℕ) → pattern_denoted 8 text ≡ Some n → leaf_encodable (status_code (record { code = n })) ≡ true
unfolding status_code_format
status_fits text n e = pattern_below 8 text n e

date_time_fits : (text : List ℕ) (n : ℤ) → signed_denoted 63 text ≡ Some n → leaf_encodable (date_time (record { ticks = n })) ≡ true
unfolding date_time_format
date_time_fits text n e = signed_fits w64 n (lit≤ tt) (lit≤ tt) (lit< tt) (signed_range w64 text n (lit< tt) e)

guid_leaf_fits : (text u : List ℕ) → guid_denoted text ≡ Some u → leaf_encodable (guid (record { uuid = u })) ≡ true
unfolding guid_denoted
guid_leaf_fits text u e = by (nat_eq (length text) 36) refl e
  where
    by : (t : Bool) → nat_eq (length text) 36 ≡ t → cond t (parsed text) None ≡ Some u → leaf_encodable (guid (record { uuid = u })) ≡ true
    by true h f = guid_fits (record { uuid = u }) (parsed_length text u (eqb-true (length text) 36 h) f)
    by false h f = absurd cc

octets_fit : (text b : List ℕ) → length text ≤ most_value_octets → octets_denoted text ≡ Some b → leaf_encodable (byte_string (Some b)) ≡ true
unfolding octets_denoted
octets_fit text b short e =
    let few = decoded_length text b e in
    counted_fits b (omega arith)

no_leaf : (kind : ℕ) → LeafFits kind None
no_leaf kind l e = absurd cc

pub leaf_fits : (kind : ℕ) (text : List ℕ) → IsUtf8 text → length text ≤ most_value_octets → LeafFits kind (leaf_denoted kind text)
leaf_fits kind text u short =
    where_kind kind 1 _ _ (mapped_fits 1 boolean (boolean_denoted text) (λ x. refl) (λ x e. boolean_fits x)) (
    where_kind kind 2 _ _
    (mapped_fits 2 sbyte (signed_denoted 7 text) (λ x. refl) (λ x e. signed_fits w8 x (lit≤ tt) (lit≤ tt) (lit< tt) (signed_range w8 text x (lit< tt) e))) (
    where_kind kind 3 _ _ (mapped_fits 3 byte (unsigned_denoted 8 text) (λ x. refl) (λ x e. below 10 256 text x e)) (
    where_kind kind 4 _ _
    (mapped_fits 4 int16 (signed_denoted 15 text) (λ x. refl)
    (λ x e. signed_fits w16 x (lit≤ tt) (lit≤ tt) (lit< tt) (signed_range w16 text x (lit< tt) e))) (
    where_kind kind 5 _ _ (mapped_fits 5 uint16 (unsigned_denoted 16 text) (λ x. refl) (λ x e. below 10 65536 text x e)) (
    where_kind kind 6 _ _
    (mapped_fits 6 int32 (signed_denoted 31 text) (λ x. refl)
    (λ x e. signed_fits w32 x (lit≤ tt) (lit≤ tt) (lit< tt) (signed_range w32 text x (lit< tt) e))) (
    where_kind kind 7 _ _ (mapped_fits 7 uint32 (unsigned_denoted 32 text) (λ x. refl) (λ x e. below 10 4294967296 text x e)) (
    where_kind kind 8 _ _
    (mapped_fits 8 int64 (signed_denoted 63 text) (λ x. refl)
    (λ x e. signed_fits w64 x (lit≤ tt) (lit≤ tt) (lit< tt) (signed_range w64 text x (lit< tt) e))) (
    where_kind kind 9 _ _ (mapped_fits 9 uint64 (unsigned_denoted 64 text) (λ x. refl) (λ x e. below 10 (2 ^ 64) text x e)) (
    where_kind kind 10 _ _ (mapped_fits 10 (λ n. float (record { bits = n })) (pattern_denoted 8 text) (λ x. refl) (float_fits text)) (
    where_kind kind 11 _ _ (mapped_fits 11 (λ n. double (record { bits = n })) (pattern_denoted 16 text) (λ x. refl) (double_fits text)) (
    where_kind kind 12 _ _ (λ l e. let is : string (Some text) ≡ l = cc in (ap leaf_kind (sym is), ap leaf_encodable (sym is) ∙ text_fits text u (omega arith)))
    (
    where_kind kind 13 _ _ (mapped_fits 13 (λ n. date_time (record { ticks = n })) (signed_denoted 63 text) (λ x. refl) (date_time_fits text)) (
    where_kind kind 14 _ _ (mapped_fits 14 (λ v. guid (record { uuid = v })) (guid_denoted text) (λ x. refl) (guid_leaf_fits text)) (
    where_kind kind 15 _ _ (mapped_fits 15 (λ b. byte_string (Some b)) (octets_denoted text) (λ x. refl) (λ x e. octets_fit text x short e)) (
    where_kind kind 19 _ _ (mapped_fits 19 (λ n. status_code (record { code = n })) (pattern_denoted 8 text) (λ x. refl) (status_fits text)) (
    no_leaf kind))))))))))))))))

-- ---- arrays

-- a UTF-8 text of at most so many octets
abbrev pub IsShort : ℕ → List ℕ → Type 0
IsShort n text = IsUtf8 text × (length text ≤ n)

all_longer : (m n : ℕ) (ps : List (List ℕ)) → m ≤ n → AllByRecursion (λ p. length p ≤ m) ps → AllByRecursion (λ p. length p ≤ n) ps
all_longer m n [] le h = tt
all_longer m n (p ∷ ps) le h = (let first = h.0 in omega arith, all_longer m n ps le h.1)

onto_short : (x n : ℕ) (ps : List (List ℕ)) → AllByRecursion (λ p. length p ≤ n) ps → AllByRecursion (λ p. length p ≤ suc n) (onto_first x ps)
onto_short x n [] h = (omega arith, tt)
onto_short x n (p ∷ ps) h = (let first = h.0 in omega arith, all_longer n (suc n) ps (omega arith) h.1)

-- no piece is longer than the text
pieces_shorter : (c : ℕ) (text : List ℕ) → AllByRecursion (λ p. length p ≤ length text) (pieces c text)
pieces_shorter c [] = (omega arith, tt)
pieces_shorter c (x ∷ xs) = by (nat_eq x c) refl (pieces_shorter c xs)
  where
    by : (t : Bool) → nat_eq x c ≡ t → AllByRecursion (λ p. length p ≤ length xs) (pieces c xs)
        → AllByRecursion (λ p. length p ≤ length (x ∷ xs)) (pieces c (x ∷ xs))
    by true e h = subst (AllByRecursion (λ p. length p ≤ length (x ∷ xs))) (sym (slice_split-cons_yes (λ b. nat_eq b c) x xs e))
        (omega arith, all_longer (length xs) (suc (length xs)) (pieces c xs) (omega arith) h)
    by false e h = subst (AllByRecursion (λ p. length p ≤ length (x ∷ xs))) (sym (slice_split-cons_no (λ b. nat_eq b c) x xs e))
        (onto_short x (length xs) (pieces c xs) h)

onto_count : (x : ℕ) (ps : List (List ℕ)) (n : ℕ) → 1 ≤ n → length ps ≤ n → length (onto_first x ps) ≤ n
onto_count x [] n some h = omega arith
onto_count x (p ∷ ps) n some h = h

-- there are no more pieces than octets, and one
pieces_count : (c : ℕ) (text : List ℕ) → length (pieces c text) ≤ length text + 1
pieces_count c [] = omega arith
pieces_count c (x ∷ xs) = by (nat_eq x c) refl (pieces_count c xs)
  where
    by : (t : Bool) → nat_eq x c ≡ t → length (pieces c xs) ≤ length xs + 1 → length (pieces c (x ∷ xs)) ≤ length (x ∷ xs) + 1
    by true e h = rw (slice_split-cons_yes (λ b. nat_eq b c) x xs e) (omega arith)
    by false e h = rw (slice_split-cons_no (λ b. nat_eq b c) x xs e) (onto_count x (pieces c xs) (length (x ∷ xs) + 1) (omega arith) (omega arith))

both_all : (n : ℕ) (ps : List (List ℕ)) → AllByRecursion IsUtf8 ps → AllByRecursion (λ p. length p ≤ n) ps → AllByRecursion (IsShort n) ps
both_all n [] u h = tt
both_all n (p ∷ ps) u h = ((u.0, h.0), both_all n ps u.1 h.1)

elements_short : (text : List ℕ) (n : ℕ) → IsUtf8 text → length text ≤ n → AllByRecursion (IsShort n) (elements text)
elements_short [] n u h = tt
elements_short (c ∷ cs) n u h = both_all n (pieces 44 (c ∷ cs)) (pieces_utf8 44 (c ∷ cs) (lit< tt) u)
    (all_longer (length (c ∷ cs)) n (pieces 44 (c ∷ cs)) h (pieces_shorter 44 (c ∷ cs)))

elements_count : (text : List ℕ) → length (elements text) ≤ length text + 1
elements_count [] = omega arith
elements_count (c ∷ cs) = pieces_count 44 (c ∷ cs)

-- scalars of the type that can be written, so many at most, without levels
record RowFits (kind n : ℕ) (ss : List ScalarData) : Type 0 where
  fits : scalars_fit kind (row ss) ≡ true
  depth : scalars_depth (row ss) ≡ 0
  few : row_length (row ss) ≡ n

leaves_fit : (kind : ℕ) (texts : List (List ℕ)) (vs : List ScalarData) → AllByRecursion (IsShort most_value_octets) texts → leaves_denoted kind texts ≡ Some vs
    → RowFits kind (length texts) vs
leaves_fit kind [] vs h e = let is : [] ≡ vs = cc in subst (RowFits kind 0) is (record { fits = refl; depth = refl; few = refl })
leaves_fit kind (text ∷ texts) vs h e = by (leaf_denoted kind text) (leaves_denoted kind texts) refl refl e (λ ws f. leaves_fit kind texts ws h.1 f)
  where
    by : (o : Option LeafData) (p : Option (List ScalarData)) → leaf_denoted kind text ≡ o → leaves_denoted kind texts ≡ p
        → (o >>= λ v. p >>= λ ws. Some (leaf v ∷ ws)) ≡ Some vs
        → ((ws : List ScalarData) → leaves_denoted kind texts ≡ Some ws → RowFits kind (length texts) ws) → RowFits kind (suc (length texts)) vs
    by None p a b f more = absurd cc
    by (Some v) None a b f more = absurd cc
    by (Some v) (Some ws) a b f more =
        let is : leaf v ∷ ws ≡ vs = cc in
        let first = leaf_fits kind text h.0.0 h.0.1 v a in
        let others = more ws b in
        subst (RowFits kind (suc (length texts))) is (record {
          fits = both_are (nat_eq (leaf_kind v) kind && leaf_encodable v) (scalars_fit kind (row ws))
              (both_are (nat_eq (leaf_kind v) kind) (leaf_encodable v) (eq-eqb (leaf_kind v) kind first.0) first.1) others.fits;
          depth = let d = others.depth in omega arith;
          few = let n = others.few in omega arith;
        })

kind_written : (kind : ℕ) → has_text_form kind ≡ true → is_kind kind ≡ true
kind_written kind h = by (nat_lt 0 kind && nat_lt kind 16) refl h
  where
    written : 1 ≤ kind → kind ≤ 25 → is_kind kind ≡ true
    written low high = both_are (leb 1 kind) (leb kind 25) (le-leb 1 kind low) (le-leb kind 25 high)

    by : (t : Bool) → (nat_lt 0 kind && nat_lt kind 16) ≡ t → (t || nat_eq kind 19) ≡ true → is_kind kind ≡ true
    by true e f =
        let p = both_true (nat_lt 0 kind) (nat_lt kind 16) e in
        let low = ltb-true 0 kind p.0 in
        let high = ltb-true kind 16 p.1 in
        written (omega arith) (omega arith)
    by false e f = let is = eqb-true kind 19 f in written (omega arith) (omega arith)

-- what a text denotes is of its type, and can be written within a DataValue
pub record ValueFits (kind : ℕ) (array : Bool) (v : VariantData) : Type 0 where
  pub of_type : is_of_type kind array v ≡ true
  pub fits : variant_fits v ≡ true
  pub depth : variant_depth v ≡ 1

one_fits : (kind : ℕ) (text : List ℕ) (v : VariantData) → IsUtf8 text → length text ≤ most_value_octets → scalar_denoted kind text ≡ Some v
    → ValueFits kind false v
one_fits kind text v u short e =
    let o = mapped_some one (option_map leaf (leaf_denoted kind text)) v e in
    let l = mapped_some leaf (leaf_denoted kind text) o.0 o.1 in
    let w = leaf_fits kind text u short l.0 l.1 in
    subst (ValueFits kind false) (ap one l.2 ∙ o.2) (record { of_type = eq-eqb (leaf_kind l.0) kind w.0; fits = w.1; depth = refl })

many_fit : (kind : ℕ) (text : List ℕ) (v : VariantData) → IsUtf8 text → length text ≤ most_value_octets → is_kind kind ≡ true → array_denoted kind text ≡ Some v
    → ValueFits kind true v
many_fit kind text v u short known e =
    let o = mapped_some (λ vs. many kind (row vs) []) (leaves_denoted kind (elements text)) v e in
    let w = leaves_fit kind (elements text) o.0 (elements_short text most_value_octets u short) o.1 in
    let ss = row o.0 in
    let same = eq-eqb kind kind refl in
    let few = w.few in
    let count = elements_count text in
    let counted = le-leb (row_length ss) 2147483647 (omega arith) in
    let depth = w.depth in
    let fits = w.fits in
    subst (ValueFits kind true) o.2 (record { of_type = rw same refl; fits = rw (known, counted, fits) refl; depth = omega arith })

denoted_fits : (kind : ℕ) (array : Bool) (text : List ℕ) (v : VariantData) → IsUtf8 text → length text ≤ most_value_octets → is_kind kind ≡ true
    → cond array (array_denoted kind text) (scalar_denoted kind text) ≡ Some v → ValueFits kind array v
denoted_fits kind true text v u short known e = many_fit kind text v u short known e
denoted_fits kind false text v u short known e = one_fits kind text v u short e

pub value_fits : (kind : ℕ) (array : Bool) (text : List ℕ) (v : VariantData) → IsUtf8 text → value_denoted kind array text ≡ Some v → ValueFits kind array v
unfolding value_denoted
value_fits kind array text v u e = by (has_text_form kind && nat_lt (length text) (most_value_octets + 1)) refl e
  where
    by : (t : Bool) → (has_text_form kind && nat_lt (length text) (most_value_octets + 1)) ≡ t
        → cond t (cond array (array_denoted kind text) (scalar_denoted kind text)) None ≡ Some v → ValueFits kind array v
    by false h f = absurd cc
    by true h f =
        let p = both_true (has_text_form kind) (nat_lt (length text) (most_value_octets + 1)) h in
        let less = ltb-true (length text) (most_value_octets + 1) p.1 in
        denoted_fits kind array text v u (omega arith) (kind_written kind p.0) f

-- Arrays of a type whose values all take the same octets, read a block at a time.
use Rattle.std.proofs.Common.{◌≡◌, ℕ, zero, suc, ◌+◌, ◌-◌, ◌*◌, ◌<◌, ◌≤◌, Bool, MatchBool, true, false, cond, eqb, List, [], ◌∷◌, ◌++◌}
use Rattle.std.proofs.Common.{length, map, take, drop, Option, Some, None, refl, sym, subst, ap, ◌∙◌, append-nil, arith, length-append}
use Rattle.std.proofs.lemmas.Grind.{common_steps}
use Rattle.std.proofs.lemmas.List.{map-append, take-append-drop, take-append-le}
use Rattle.ua_wire.specs.Exact.{Exact, ◌>>=◌, image_read}
use Rattle.ua_wire.specs.Number.{IsNumber}
use Rattle.ua_wire.specs.Boolean.{boolean as boolean_format}
use Rattle.ua_wire.specs.FloatBits.{float_bits}
use Rattle.ua_wire.specs.DoubleBits.{double_bits}
use Rattle.ua_wire.proofs.NumbersRead.{length-number_octets}
use Rattle.ua_wire.proofs.Readers.{bind_some, some_is}
use Rattle.ua_builtin.specs.DateTime.{date_time as date_time_format}
use Rattle.ua_builtin.specs.Guid.{guid as guid_format}
use Rattle.ua_builtin.specs.Status.{status_code as status_code_format}
use Rattle.ua_diagnostic.specs.Parts.{Decoder}
use Rattle.ua_diagnostic.proofs.Extents.{never_some}
use Rattle.ua_wire.specs.Format.{Extends, GivesBy}
use Rattle.ua_wire.specs.declared.fault.ReadFault.{ReadFault}
use Rattle.ua_wire.specs.declared.fault.ReadFault.TheVariants.{NoValue, OutOfMemory}
use Rattle.std.specs.Prelude.{Err}
use Rattle.ua_variant.specs.Blocks.{before, with_front, row_behind, leaf_row_at, GoesOn}
use Rattle.ua_variant.specs.Data.{LeafData, boolean, sbyte, byte, int16, uint16, int32, uint32, int64, uint64, float, double, string, date_time}
use Rattle.ua_variant.specs.Data.{guid, byte_string, xml_element, node_id, expanded_node_id, status_code, qualified_name, localized_text}
use Rattle.ua_variant.specs.Data.{extension_object, reserved, ScalarData, leaf, data_value, variant, diagnostic, ScalarsData, no_scalars, scalar}
use Rattle.ua_variant.specs.Decoding.{row_at, scalar_at, scalars_at, data_value_at, variant_at}
use Rattle.ua_diagnostic.specs.Diagnostic.{diagnostic_at}
use Rattle.ua_variant.specs.Encodable.{kind_of_scalar, row_length}
use Rattle.ua_variant.specs.Encoding.{EncodesScalar, EncodesRow}
use Rattle.ua_variant.specs.Leaf.{EncodesLeaf, holds_values, is_reserved, leaf_at, leaf_kind}
use Rattle.ua_variant.specs.Least.{least_octets}
use Rattle.ua_variant.specs.Packed.{is_packed_kind}
use Rattle.ua_variant.specs.View.{row, row_list, scalar_of}
use Rattle.ua_variant.specs.declared.values.Scalar.{Scalar}
use Rattle.std.proofs.Common.{Vec, Global}
use Rattle.ua_variant.proofs.ArraysRead.{RowOf, exact_row}
use Rattle.ua_variant.proofs.Loops.{row_step, row_ends, row_stops}
use Rattle.ua_variant.proofs.ScalarsRead.{ShallowS}
use Rattle.ua_variant.proofs.VariantsRead.{exact_scalars}

-- ---- one width

number_width : (k n : ℕ) (b : List ℕ) → IsNumber k n b → length b ≡ k
number_width k n b h = ap length h.1 ∙ length-number_octets k n

reserved_apart : (k : ℕ) → is_reserved k ≡ true → is_packed_kind k ≡ true → ⊥
reserved_apart k h p = absurd (Prim.grind (arith, common_steps))

leaf_width : (l : LeafData) (b : List ℕ) → EncodesLeaf l b → is_packed_kind (leaf_kind l) ≡ true → length b ≡ least_octets (leaf_kind l)
unfolding least_octets boolean_format float_bits double_bits date_time_format guid_format status_code_format
leaf_width (boolean x) b h p = number_width 1 h.of b h.encoded
leaf_width (sbyte x) b h p = number_width 1 h.of b h.encoded
leaf_width (byte x) b h p = number_width 1 x b h
leaf_width (int16 x) b h p = number_width 2 h.of b h.encoded
leaf_width (uint16 x) b h p = number_width 2 x b h
leaf_width (int32 x) b h p = number_width 4 h.of b h.encoded
leaf_width (uint32 x) b h p = number_width 4 x b h
leaf_width (int64 x) b h p = number_width 8 h.of b h.encoded
leaf_width (uint64 x) b h p = number_width 8 x b h
leaf_width (float x) b h p = number_width 4 h.of b h.encoded
leaf_width (double x) b h p = number_width 8 h.of b h.encoded
leaf_width (string x) b h p = absurd (let e : false ≡ true = p in cc)
leaf_width (date_time x) b h p = number_width 8 h.encoded.of b h.encoded.encoded
leaf_width (guid x) b h p = omega (arith, h.encoded.0, ap length h.encoded.1)
leaf_width (byte_string x) b h p = absurd (let e : false ≡ true = p in cc)
leaf_width (xml_element x) b h p = absurd (let e : false ≡ true = p in cc)
leaf_width (node_id x) b h p = absurd (let e : false ≡ true = p in cc)
leaf_width (expanded_node_id x) b h p = absurd (let e : false ≡ true = p in cc)
leaf_width (status_code x) b h p = number_width 4 h.of b h.encoded
leaf_width (qualified_name x) b h p = absurd (let e : false ≡ true = p in cc)
leaf_width (localized_text x) b h p = absurd (let e : false ≡ true = p in cc)
leaf_width (extension_object x) b h p = absurd (let e : false ≡ true = p in cc)
leaf_width (reserved k x) b h p = absurd (reserved_apart k h.0 p)

scalar_width : (s : ScalarData) (b : List ℕ) → EncodesScalar s b → is_packed_kind (kind_of_scalar s) ≡ true → length b ≡ least_octets (kind_of_scalar s)
scalar_width (leaf l) b h p = leaf_width l b h p
scalar_width (data_value d) b h p = absurd (let e : false ≡ true = p in cc)
scalar_width (variant v) b h p = absurd (let e : false ≡ true = p in cc)
scalar_width (diagnostic d) b h p = absurd (let e : false ≡ true = p in cc)

row_width : (k : ℕ) (ss : ScalarsData) (b : List ℕ) → is_packed_kind k ≡ true → EncodesRow k ss b → length b ≡ row_length ss * least_octets k
row_width k no_scalars b p h = omega (arith, ap length h)
row_width k (scalar s ss) b p h =
    let j = h.1 in
    let one : length j.0 ≡ least_octets k =
    subst (λ i. length j.0 ≡ least_octets i) h.0 (scalar_width s j.0 j.3 (subst (λ i. is_packed_kind i ≡ true) (sym h.0) p)) in
    omega (arith, ap length j.2, length-append j.0 j.1, one, row_width k ss j.1 p j.4)

-- ---- the reader of a packed type

abbrev pub leaves_at : ℕ → Decoder ScalarData
leaves_at k = image_read leaf (leaf_at k)

packed_apart : (k : ℕ) → is_packed_kind k ≡ true → holds_values k ≡ false
packed_apart k h = Prim.grind (arith, common_steps)

packed_at : (n k : ℕ) (octets : List ℕ) → is_packed_kind k ≡ true → scalars_at n k octets ≡ leaves_at k octets
unfolding scalar_at
packed_at n k octets h =
    ap (λ b. cond b (cond (eqb k 23) (data_value_at n octets >>= λ x. Some (data_value x.0, x.1)) (
    cond (eqb k 24) (variant_at n octets >>= λ x. Some (variant x.0, x.1)) (
    diagnostic_at n octets >>= λ x. Some (diagnostic x.0, x.1)))) (leaves_at k octets)) (packed_apart k h)

bind_same : {A B : Type 0} (o : Option A) (f g : A → Option B) → ((x : A) → f x ≡ g x) → (o >>= f) ≡ (o >>= g)
bind_same None f g e = refl
bind_same (Some x) f g e = e x

row_same : (p q : Decoder ScalarData) → ((octets : List ℕ) → p octets ≡ q octets) → (n : ℕ) (octets : List ℕ) → row_at n p octets ≡ row_at n q octets
row_same p q e zero octets = refl
row_same p q e (suc n) octets =
    ap (λ r. r >>= λ s. row_at n p s.1 >>= λ ss. Some (scalar s.0 ss.0, ss.1)) (e octets)
    ∙ bind_same (q octets) (λ s. row_at n p s.1 >>= λ ss. Some (scalar s.0 ss.0, ss.1)) (λ s. row_at n q s.1 >>= λ ss. Some (scalar s.0 ss.0, ss.1))
    (λ s. ap (λ r. r >>= λ ss. Some (scalar s.0 ss.0, ss.1)) (row_same p q e n s.1))

-- at any level, packed elements are read alike
pub row_packed : (n k m : ℕ) (octets : List ℕ) → is_packed_kind k ≡ true → row_at m (scalars_at n k) octets ≡ row_at m (leaves_at k) octets
row_packed n k m octets h = row_same (scalars_at n k) (leaves_at k) (λ o. packed_at n k o h) m octets

pub packed_ends : (n k m : ℕ) (octets : List ℕ) → is_packed_kind k ≡ true → row_at m (leaves_at k) octets ≡ None → row_at m (scalars_at n k) octets ≡ None
packed_ends n k m octets h none = row_packed n k m octets h ∙ none

pub packed_is : (n k m : ℕ) (octets new : List ℕ) {ss ts : List ScalarData} → is_packed_kind k ≡ true → row_at m (leaves_at k) octets ≡ Some (row ss, new)
    → ts ≡ ss → row_at m (scalars_at n k) octets ≡ Some (row ts, new)
packed_is n k m octets new h e is = row_packed n k m octets h ∙ e ∙ ap (λ (l : List ScalarData). Some (row l, new)) (sym is)

exact_leaves : (k : ℕ) → is_packed_kind k ≡ true → Exact (ShallowS 0 k) (leaves_at k)
exact_leaves k h = record {
  sound = λ octets v rest e. (exact_scalars 0 k).sound octets v rest (packed_at 0 k octets h ∙ e);
  complete = λ v front rest e. sym (packed_at 0 k (front ++ rest) h) ∙ (exact_scalars 0 k).complete v front rest e;
}

exact_leaf_row : (k m : ℕ) → is_packed_kind k ≡ true → Exact (RowOf 0 k m) (row_at m (leaves_at k))
exact_leaf_row k m h = exact_row 0 k m (leaves_at k) (exact_leaves k h)

-- ---- a block

no_length : (b : List ℕ) → length b ≡ 0 → b ≡ []
no_length [] h = refl
no_length (x ∷ b) h = absurd (omega (arith, h))

-- what stands in a whole block is read alike before other octets
block_some : (k m : ℕ) (block rest left : List ℕ) (ss : ScalarsData) → is_packed_kind k ≡ true → length block ≡ m * least_octets k
    → row_at m (leaves_at k) block ≡ Some (ss, left) → row_at m (leaves_at k) (block ++ rest) ≡ Some (ss, rest)
block_some k m block rest left ss h l e =
    let s = (exact_leaf_row k m h).sound block ss left e in
    let w : length s.front ≡ row_length ss * least_octets k = row_width k ss s.front h s.encoded.1 in
    let n : row_length ss * least_octets k ≡ m * least_octets k = ap (λ i. i * least_octets k) s.encoded.0 in
    let none : left ≡ [] = no_length left (omega (arith, w, n, l, ap length s.parts, length-append s.front left)) in
    let whole : block ≡ s.front = s.parts ∙ ap (λ (t : List ℕ). s.front ++ t) none ∙ append-nil s.front in
    ap (λ (t : List ℕ). row_at m (leaves_at k) (t ++ rest)) whole ∙ (exact_leaf_row k m h).complete ss s.front rest s.encoded

-- ---- a row in two parts

pub before_before : (a b : List ScalarData) (r : ScalarsData) → before a (before b r) ≡ before (a ++ b) r
before_before [] b r = refl
before_before (s ∷ a) b r = ap (scalar s) (before_before a b r)

front_scalar : (s : ScalarData) (ss : List ScalarData) (r : Option (ScalarsData × List ℕ)) → (with_front ss r >>= λ x. Some (scalar s x.0, x.1))
    ≡ with_front (s ∷ ss) r
front_scalar s ss None = refl
front_scalar s ss (Some x) = refl

front_nothing : (r : Option (ScalarsData × List ℕ)) → with_front [] r ≡ r
front_nothing None = refl
front_nothing (Some x) = refl

front_front : (a b : List ScalarData) (r : Option (ScalarsData × List ℕ)) → with_front a (with_front b r) ≡ with_front (a ++ b) r
front_front a b None = refl
front_front a b (Some x) = ap (λ y. Some (y, x.1)) (before_before a b x.0)

-- what stands behind a row of which this much was read
abbrev on_from : Decoder ScalarData → ℕ → ScalarsData × List ℕ → Option (ScalarsData × List ℕ)
on_from p m x = with_front (row_list x.0) (row_at m p x.1)

-- a value in front of a row
abbrev in_front : ScalarData → ScalarsData × List ℕ → Option (ScalarsData × List ℕ)
in_front s x = Some (scalar s x.0, x.1)

on_step : (p : Decoder ScalarData) (m : ℕ) (s : ScalarData) (o : Option (ScalarsData × List ℕ))
    → ((o >>= on_from p m) >>= in_front s) ≡ ((o >>= in_front s) >>= on_from p m)
on_step p m s None = refl
on_step p m s (Some x) = front_scalar s (row_list x.0) (row_at m p x.1)

split_step : (p : Decoder ScalarData) (n m : ℕ) (o : Option (ScalarData × List ℕ))
    → ((octets : List ℕ) → row_at (n + m) p octets ≡ (row_at n p octets >>= on_from p m))
    → (o >>= λ s. row_at (n + m) p s.1 >>= in_front s.0) ≡ ((o >>= λ s. row_at n p s.1 >>= in_front s.0) >>= on_from p m)
split_step p n m None e = refl
split_step p n m (Some s) e = ap (λ r. r >>= in_front s.0) (e s.1) ∙ on_step p m s.0 (row_at n p s.1)

-- a row in two parts
row_split : (p : Decoder ScalarData) (n m : ℕ) (octets : List ℕ) → row_at (n + m) p octets ≡ (row_at n p octets >>= on_from p m)
row_split p zero m octets = let e : 0 + m ≡ m = omega arith in ap (λ (k : ℕ). row_at k p octets) e ∙ sym (front_nothing (row_at m p octets))
row_split p (suc n) m octets = let e : suc n + m ≡ suc (n + m) = omega arith in ap (λ (k : ℕ). row_at k p octets) e
    ∙ split_step p n m (p octets) (row_split p n m)

list_before : (a : List ScalarData) (r : ScalarsData) → row_list (before a r) ≡ a ++ row_list r
list_before [] r = refl
list_before (s ∷ a) r = ap (λ xs. s ∷ xs) (list_before a r)

list_row : (a : List ScalarData) → row_list (row a) ≡ a
list_row [] = refl
list_row (s ∷ a) = ap (λ xs. s ∷ xs) (list_row a)

front_is : (a b : List ScalarData) (r : ScalarsData) → before a r ≡ row b → a ++ row_list r ≡ b
front_is a b r e = sym (list_before a r) ∙ ap row_list e ∙ list_row b

-- behind a block whose elements were read, reading goes on
pub block_goes_on : (k n more : ℕ) (a b : List ScalarData) (block rest left : List ℕ) → is_packed_kind k ≡ true → length block ≡ n * least_octets k
    → row_behind a n (leaves_at k) block ≡ Some (row b, left)
    → row_behind a (n + more) (leaves_at k) (block ++ rest) ≡ row_behind b more (leaves_at k) rest
block_goes_on k n more a b block rest left h l e =
    let f = bind_some (row_at n (leaves_at k) block) (λ x. Some (before a x.0, x.1)) (row b, left) e in
    let front : before a f.0.0 ≡ row b = ap (λ (u : ScalarsData × List ℕ). u.0) (some_is (before a f.0.0, f.0.1) (row b, left) f.2) in
    ap (with_front a) (row_split (leaves_at k) n more (block ++ rest)
    ∙ ap (λ o. o >>= on_from (leaves_at k) more) (block_some k n block rest f.0.1 f.0.0 h l f.1))
    ∙ front_front a (row_list f.0.0) (row_at more (leaves_at k) rest) ∙ ap (λ (xs : List ScalarData). with_front xs (row_at more (leaves_at k) rest))
    (front_is a b f.0.0 front)

-- fewer octets than a block's have no such elements
pub block_short : (k n more : ℕ) (a : List ScalarData) (octets : List ℕ) → is_packed_kind k ≡ true → length octets < n * least_octets k
    → row_behind a (n + more) (leaves_at k) octets ≡ None
block_short k n more a octets h l =
    ap (with_front a) (row_split (leaves_at k) n more octets ∙ ap (λ o. o >>= on_from (leaves_at k) more)
    (never_some (row_at n (leaves_at k) octets)
    (λ x f. let s = (exact_leaf_row k n h).sound octets x.0 x.1 f in
    let w : length s.front ≡ row_length x.0 * least_octets k = row_width k x.0 s.front h s.encoded.1 in
    let m : row_length x.0 * least_octets k ≡ n * least_octets k = ap (λ i. i * least_octets k) s.encoded.0 in
    absurd (omega (arith, w, m, l, ap length s.parts, length-append s.front x.1)))))

-- what was skipped of a source lies at the front of it
pub skipped_front : (size : ℕ) (run old new : List ℕ) (done : Bool) → size ≤ length run → Extends run old
    → MatchBool done ((size ≤ length old) × (new ≡ drop size old)) ((length old < size) × (new ≡ old)) → old ≡ take size run ++ new
skipped_front size run old new true fits h e =
    sym (take-append-drop size old) ∙ ap (λ (t : List ℕ). take size t ++ drop size old) h.parts
    ∙ ap (λ (t : List ℕ). t ++ drop size old) (take-append-le size run h.more fits) ∙ ap (λ (t : List ℕ). take size run ++ t) (sym e.1)
skipped_front size run old new false fits h e = absurd (omega (arith, e.0, fits, ap length h.parts, length-append run h.more))

-- ---- faults

-- where a step met no value, there is none
pub fault_ends : {X Y A B : Type 0} (v : X → A) (w : Y → B) (r : List ℕ → Option (A × List ℕ)) (s : List ℕ → Option (B × List ℕ)) (old new start left : List ℕ)
    (e : ReadFault) → (r old ≡ None → s start ≡ None) → GivesBy v r old new (Err e) → GivesBy w s start left (Err e)
fault_ends v w r s old new start left NoValue f h = f h
fault_ends v w r s old new start left OutOfMemory f h = tt

pub fault_goes : (X : Type 0) {Y A B : Type 0} (w : Y → B) (s : List ℕ → Option (B × List ℕ)) (whole rest : Option A) (start left : List ℕ) (e : ReadFault)
    → (whole ≡ None → s start ≡ None) → GoesOn {X = X} whole rest (Err e) → GivesBy w s start left (Err e)
fault_goes X w s whole rest start left NoValue f h = f h
fault_goes X w s whole rest start left OutOfMemory f h = tt

-- ---- elements, one by one

pub leaves_push : {X : Type 0} (f : X → LeafData) (xs : List X) (x : X) → map leaf (map f (xs ++ x ∷ [])) ≡ map leaf (map f xs) ++ leaf (f x) ∷ []
leaves_push f xs x = ap (map leaf) (map-append f xs (x ∷ [])) ∙ map-append leaf (map f xs) (f x ∷ [])

-- one more element
pub leaf_step : {X : Type 0} (f : X → LeafData) (p : Decoder ScalarData) (all xs : List X) (x : X) (count counter : ℕ) (old new : List ℕ)
    (whole : Option (ScalarsData × List ℕ)) → counter < count → all ≡ xs ++ x ∷ [] → p old ≡ Some (leaf (f x), new)
    → row_behind (map leaf (map f xs)) (count - counter) p old ≡ whole → row_behind (map leaf (map f all)) (count - (counter + 1)) p new ≡ whole
leaf_step {X} f p all xs x count counter old new whole lt is read so_far =
    row_step p (map leaf (map f all)) (map leaf (map f xs)) (leaf (f x)) count counter old new whole lt (ap (λ (ys : List X). map leaf (map f ys)) is
    ∙ leaves_push f xs x) read so_far

-- the last element
pub leaf_ends : (p : Decoder ScalarData) (a : List ScalarData) (rest : ℕ) (old : List ℕ) (whole : Option (ScalarsData × List ℕ)) → rest ≡ 0
    → row_behind a rest p old ≡ whole → whole ≡ Some (row a, old)
leaf_ends p a rest old whole none so_far = sym so_far ∙ row_ends p a rest old none

-- ---- rows of scalars that are not packed

-- no scalar where one is owed
pub element_stops : {Y : Type 0} (w : Y → ScalarsData) (p : Decoder ScalarData) (ss : List Scalar) (count counter : ℕ) (start old new : List ℕ) (e : ReadFault)
    → counter < count → GivesBy scalar_of p old new (Err e)
    → with_front (map scalar_of ss) (row_at (count - counter) p old) ≡ row_at count p start → GivesBy w (row_at count p) start new (Err e)
element_stops w p ss count counter start old new NoValue lt none so_far = sym so_far
    ∙ row_stops p (map scalar_of ss) (count - counter) (count - (counter + 1)) old (omega arith) none
element_stops w p ss count counter start old new OutOfMemory lt none so_far = tt

pub records_stop : (k : ℕ) (ss : List Scalar) (count counter : ℕ) (start old new : List ℕ) (e : ReadFault) → counter < count
    → GivesBy scalar_of (leaves_at k) old new (Err e)
    → with_front (map scalar_of ss) (row_at (count - counter) (leaves_at k) old) ≡ row_at count (leaves_at k) start
    → GivesBy (λ (v : Vec Scalar Global). row (map scalar_of v.items)) (leaf_row_at count k) start new (Err e)
unfolding leaf_row_at
records_stop k ss count counter start old new e lt none so_far = element_stops (λ (v : Vec Scalar Global). row (map scalar_of v.items))
    (leaves_at k) ss count counter start old new e lt none so_far

-- at any level, such scalars are read alike
record_at : (n k : ℕ) (octets : List ℕ) → holds_values k ≡ false → scalars_at n k octets ≡ leaves_at k octets
unfolding scalar_at
record_at n k octets h =
    ap (λ b. cond b (cond (eqb k 23) (data_value_at n octets >>= λ x. Some (data_value x.0, x.1)) (
    cond (eqb k 24) (variant_at n octets >>= λ x. Some (variant x.0, x.1)) (
    diagnostic_at n octets >>= λ x. Some (diagnostic x.0, x.1)))) (leaves_at k octets)) h

pub row_records : (n k m : ℕ) (octets : List ℕ) → holds_values k ≡ false → row_at m (scalars_at n k) octets ≡ leaf_row_at m k octets
unfolding leaf_row_at
row_records n k m octets h = row_same (scalars_at n k) (leaves_at k) (λ o. record_at n k o h) m octets

pub records_end : (n k m : ℕ) (octets : List ℕ) → holds_values k ≡ false → leaf_row_at m k octets ≡ None → row_at m (scalars_at n k) octets ≡ None
records_end n k m octets h none = row_records n k m octets h ∙ none

pub records_are : (n k m : ℕ) (octets new : List ℕ) {ss ts : List ScalarData} → holds_values k ≡ false → leaf_row_at m k octets ≡ Some (row ss, new) → ts ≡ ss
    → row_at m (scalars_at n k) octets ≡ Some (row ts, new)
records_are n k m octets new h e is = row_records n k m octets h ∙ e ∙ ap (λ (l : List ScalarData). Some (row l, new)) (sym is)

-- Views of what a Read answered, against the reader on lists.
use Rattle.std.specs.Prelude.{◌≡◌, ℕ, suc, ◌+◌, ◌-◌, ◌<◌, ◌≤◌, Bool, true, false, cond, List, []}
use Rattle.std.specs.Prelude.{◌∷◌, ◌++◌, length, take, drop, Option, Some, None, Result, Ok, Err}
use Rattle.std.proofs.Common.{refl, sym, ◌∙◌, ap, subst, arith, append_assoc, length-append}
use Rattle.std.proofs.lemmas.Bool.{le-ltb, lt-ltb}
use Rattle.ua_builtin.specs.Counted.{first_negative}
use Rattle.ua_builtin.specs.DateTime.{date_time}
use Rattle.ua_builtin.specs.Exact.{◌>>=◌, Begins, image_read}
use Rattle.ua_builtin.specs.Format.{Behind, Gives, Within, most_levels}
use Rattle.ua_builtin.specs.Join.{number}
use Rattle.ua_builtin.specs.Number.{IsNumber, number_at}
use Rattle.ua_builtin.specs.Status.{status_code}
use Rattle.ua_builtin.specs.declared.date_time.DateTime.{DateTime}
use Rattle.ua_builtin.specs.declared.status_code.StatusCode.{StatusCode}
use Rattle.ua_diagnostic.specs.Parts.{Optional}
use Rattle.ua_builtin.specs.Flags.{has}
use Rattle.ua_opening.proofs.ItemsRead.{with_front, fault_ends, goes_on, is_done}
use Rattle.ua_opening.specs.Array.{array, array_behind_count, items_at}
use Rattle.ua_variant.proofs.VariantsLawful.{lawful_data_value}
use Rattle.ua_variant.specs.Data.{DataFields, VariantData}
use Rattle.ua_variant.specs.Encoding.{EncodesDataValue, EncodesVariant}
use Rattle.ua_variant.specs.Fields.{data_fields}
use Rattle.ua_variant.specs.Formats.{data_value_format}
use Rattle.ua_variant.specs.View.{data_fields_of, value_within}
use Rattle.ua_variant.specs.declared.values.DataValue.{DataValue}
use Rattle.ua_wire.proofs.NumbersRead.{length-number_octets}
use Rattle.ua_wire.specs.declared.fault.ReadFault.{ReadFault}
use Rattle.ua_wire.specs.declared.fault.ReadFault.TheVariants.{NoValue, OutOfMemory}
use Rattle.ua_c.specs.Views.{AreViews, AreViewsOf, IsView, Sees, SeesBy, EncodesAt, fields_size, if_there, reading_of}
use Rattle.ua_c.specs.declared.readings.UaReading.{UaReading}

-- ---- the octets of fields

optional_size : {A : Type 0} (p : A → List ℕ → Type 0) (n : ℕ) → ((x : A) (b : List ℕ) → p x b → length b ≡ n) → (flag : Bool) (o : Option A) (b : List ℕ)
    → Optional p flag o b → length b ≡ if_there o n
optional_size p n each true None b h = absurd h
optional_size p n each true (Some x) b h = each x b h
optional_size p n each false None b h = ap length h
optional_size p n each false (Some x) b h = absurd h

number_size : (k n : ℕ) (b : List ℕ) → IsNumber k n b → length b ≡ k
number_size k n b h = ap length h.1 ∙ length-number_octets k n

code_size : (s : StatusCode) (b : List ℕ) → status_code.encodes s b → length b ≡ 4
unfolding status_code
code_size s b h = number_size 4 h.of b h.encoded

time_size : (t : DateTime) (b : List ℕ) → date_time.encodes t b → length b ≡ 8
unfolding date_time
time_size t b h = number_size 8 h.encoded.of b h.encoded.encoded

joined_size : (b front back : List ℕ) (m n : ℕ) → b ≡ front ++ back → length front ≡ m → length back ≡ n → length b ≡ m + n
joined_size b front back m n e h k = omega (arith, ap length e, length-append front back)

abbrev fields_octets : DataFields → ℕ
fields_octets f = if_there f.status 4 + if_there f.source_timestamp 8 + if_there f.source_picoseconds 2 + if_there f.server_timestamp 8
    + if_there f.server_picoseconds 2

fields_take : (m : ℕ) (f : DataFields) (b : List ℕ) → (data_fields m).encodes f b → length b ≡ fields_octets f
unfolding data_fields
fields_take m f b h =
    let j = h.encoded in
    let k = j.second_encoded in
    let l = k.second_encoded in
    let n = l.second_encoded in
    let d = joined_size l.back n.front n.back _ _ n.parts (optional_size date_time.encodes 8 time_size (has m 8) _ n.front n.first_encoded)
    (optional_size (number 2).encodes 2 (number_size 2) (has m 32) _ n.back n.second_encoded) in
    let c = joined_size k.back l.front l.back _ _ l.parts (optional_size (number 2).encodes 2 (number_size 2) (has m 16) _ l.front l.first_encoded) d in
    let e = joined_size j.back k.front k.back _ _ k.parts (optional_size date_time.encodes 8 time_size (has m 4) _ k.front k.first_encoded) c in
    let a = joined_size b j.front j.back _ _ j.parts (optional_size status_code.encodes 4 code_size (has m 2) _ j.front j.first_encoded) e in
    subst (λ g. length b ≡ fields_octets g) (sym h.is) (omega (arith, a))

-- ---- the place of a value

abbrev HeldAs : Option VariantData → List ℕ → Type 0
HeldAs None b = b ≡ []
HeldAs (Some v) b = EncodesVariant v b

-- the octets of a DataValue: a mask, the value and the fields
record Parted (o : Option VariantData) (f : DataFields) (front : List ℕ) : Type 0 where
  mask : ℕ
  value : List ℕ
  fields : List ℕ
  parts : front ≡ mask ∷ (value ++ fields)
  held : HeldAs o value
  size : length fields ≡ fields_octets f

parted : (o : Option VariantData) (f : DataFields) (front : List ℕ) → EncodesDataValue (value_within o f) front → Parted o f front
parted None f front h =
    let j = h.1 in
    record { mask = h.0; value = []; fields = j.1; parts = j.2 ∙ ap (λ (t : List ℕ). t ++ j.1) j.3.1; held = refl; size = fields_take h.0 f j.1 j.4.1.1 }
parted (Some v) f front h =
    let j = h.1 in
    let g = j.4.1.1 in
    record {
      mask = h.0;
      value = g.0;
      fields = g.1;
      parts = j.2 ∙ ap (λ (t : List ℕ). t ++ j.1) j.3.1 ∙ ap (λ (t : List ℕ). h.0 ∷ t) g.2;
      held = g.3;
      size = fields_take h.0 f g.1 g.4;
    }

-- what reading found
begins : (old new : List ℕ) (d : DataValue) → data_value_format.decode most_levels old ≡ Some (d, new)
    → Begins (Within data_value_format.encodes data_value_format.depth most_levels) old d new
begins old new d e = (lawful_data_value.exact most_levels).sound old d new e

encoded : (d : DataValue) (front : List ℕ) → data_value_format.encodes d front → Parted d.value (data_fields_of d) front
unfolding data_value_format
encoded d front h = parted d.value (data_fields_of d) front h

pub value_takes : (old new : List ℕ) (d : DataValue) → data_value_format.decode most_levels old ≡ Some (d, new) → 1 + fields_size d + length new ≤ length old
value_takes old new d e =
    let b = begins old new d e in
    let p = encoded d b.front b.encoded.0 in
    omega (arith, ap length b.parts, length-append b.front new, ap length p.parts, length-append p.value p.fields, p.size)

drop_past : (t rest : List ℕ) (m n : ℕ) → n ≡ length t + 1 → drop n (t ++ m ∷ rest) ≡ rest
drop_past t rest m n e = subst (λ (k : ℕ). drop k (t ++ m ∷ rest) ≡ rest) (sym e) (by t)
  where
    by : (t : List ℕ) → drop (length t + 1) (t ++ m ∷ rest) ≡ rest
    by [] = refl
    by (x ∷ t) = let n : suc (length t + 1) ≡ length (x ∷ t) + 1 = omega arith in subst (λ (k : ℕ). drop k ((x ∷ t) ++ m ∷ rest) ≡ rest) n (by t)

take_all : (v rest : List ℕ) (n : ℕ) → n ≡ length v → take n (v ++ rest) ≡ v
take_all v rest n e = subst (λ (k : ℕ). take k (v ++ rest) ≡ v) (sym e) (by v)
  where
    by : (v : List ℕ) → take (length v) (v ++ rest) ≡ v
    by [] = refl
    by (x ∷ v) = ap (λ (t : List ℕ). x ∷ t) (by v)

stands : (body new before : List ℕ) (o : Option VariantData) (f : DataFields) (front : List ℕ) (at size : ℕ) → Parted o f front
    → body ≡ before ++ (front ++ new) → at ≡ length before + 1 → size + 1 + fields_octets f ≡ length front
    → EncodesAt body o at size
stands body new before None f front at size p e is len = tt
stands body new before (Some v) f front at size p e is len =
    let n : size ≡ length p.value = omega (arith, len, ap length p.parts, length-append p.value p.fields, p.size) in
    let whole : body ≡ before ++ p.mask ∷ (p.value ++ (p.fields ++ new)) =
    e ∙ ap (λ (t : List ℕ). before ++ (t ++ new)) p.parts ∙ ap (λ (t : List ℕ). before ++ p.mask ∷ t) (append_assoc p.value p.fields new) in
    let there : take size (drop at body) ≡ p.value =
    ap (λ (t : List ℕ). take size (drop at t)) whole ∙ ap (take size) (drop_past before (p.value ++ (p.fields ++ new)) p.mask at is)
    ∙ take_all p.value (p.fields ++ new) size n in (
      omega (arith, is, n, ap length whole, length-append before (p.mask ∷ (p.value ++ (p.fields ++ new))), length-append p.value (p.fields ++ new)),
      subst (EncodesVariant v) (sym there) p.held,
    )

-- the value of a DataValue that was read stands at this place
pub value_stands : (body old new : List ℕ) (d : DataValue) (at size : ℕ) → Behind body old → data_value_format.decode most_levels old ≡ Some (d, new)
    → at + length old ≡ length body + 1 → size + 1 + fields_size d + length new ≡ length old
    → EncodesAt body d.value at size
value_stands body old new d at size behind e is len =
    let b = begins old new d e in
    let whole : body ≡ behind.taken ++ (b.front ++ new) = behind.parts ∙ ap (λ (t : List ℕ). behind.taken ++ t) b.parts in
    stands body new behind.taken d.value (data_fields_of d) b.front at size (encoded d b.front b.encoded.0) whole
    (omega (arith, is, ap length behind.parts, length-append behind.taken old))
    (omega (arith, len, ap length b.parts, length-append b.front new))

pub value_seen : (body old new : List ℕ) (d : DataValue) (reading : UaReading) (at size : ℕ) → Behind body old
    → data_value_format.decode most_levels old ≡ Some (d, new) → at + length old ≡ length body + 1
    → size + 1 + fields_size d + length new ≡ length old → reading ≡ reading_of d at size
    → Sees (data_value_format.decode most_levels) (λ v. IsView body v reading) old new
value_seen body old new d reading at size behind e is len told =
    record { value = d; read_is = e; are = record { at = at; size = size; is = told; stands = value_stands body old new d at size behind e is len } }

-- ---- so many of them

-- one view more
pub views_more : (body : List ℕ) (ds : List DataValue) (readings : List UaReading) (d : DataValue) (reading : UaReading) → AreViews body ds readings
    → IsView body d reading → AreViews body (ds ++ d ∷ []) (readings ++ reading ∷ [])
views_more body [] [] d reading h one = (one, tt)
views_more body [] (r ∷ readings) d reading h one = absurd h
views_more body (x ∷ ds) [] d reading h one = absurd h
views_more body (x ∷ ds) (r ∷ readings) d reading h one = (h.0, views_more body ds readings d reading h.1 one)

-- what was seen so far
pub record SeenSo (body : List ℕ) (count left : ℕ) (first old : List ℕ) (readings : List UaReading) : Type 0 where
  pub ds : List DataValue
  pub are : AreViews body ds readings
  pub so_far : with_front ds (items_at (data_value_format.decode most_levels) left old) ≡ items_at (data_value_format.decode most_levels) count first

abbrev pub read_one : List ℕ → Option (DataValue × List ℕ)
read_one = data_value_format.decode most_levels

no_front : (o : Option (List DataValue × List ℕ)) → with_front [] o ≡ o
no_front None = refl
no_front (Some x) = refl

pub seen_none : (body first : List ℕ) (count left : ℕ) (readings : List UaReading) → left ≡ count → readings ≡ [] → SeenSo body count left first first readings
seen_none body first count left readings e none =
    record {
      ds = [];
      are = subst (AreViews body []) (sym none) tt;
      so_far = no_front (items_at read_one left first)
          ∙ ap (λ (n : ℕ). items_at read_one n first) e;
    }

pub seen_next : (body first old new : List ℕ) (count counter : ℕ) (readings : List UaReading) (reading : UaReading) → counter < count
    → SeenSo body count (count - counter) first old readings
    → Sees read_one (λ v. IsView body v reading) old new → SeenSo body count (count - (counter + 1)) first new (readings ++ reading ∷ [])
seen_next body first old new count counter readings reading lt so one = record {
  ds = so.ds ++ one.value ∷ [];
  are = views_more body so.ds readings one.value reading so.are one.are;
  so_far = goes_on read_one so.ds count counter old one.value new (items_at read_one count first) lt one.read_is so.so_far;
}

pub seen_pushed : (body first old new : List ℕ) (count counter : ℕ) (readings pushed : List UaReading) (reading : UaReading) → counter < count
    → SeenSo body count (count - counter) first old readings
    → Sees read_one (λ v. IsView body v reading) old new → pushed ≡ readings ++ reading ∷ [] → SeenSo body count (count - (counter + 1)) first new pushed
seen_pushed body first old new count counter readings pushed reading lt so one e =
    subst (λ (rs : List UaReading). SeenSo body count (count - (counter + 1)) first new rs) (sym e)
    (seen_next body first old new count counter readings reading lt so one)

pub seen_all : (body first old : List ℕ) (count counter : ℕ) (readings : List UaReading) → count ≤ counter
    → SeenSo body count (count - counter) first old readings
    → Sees (items_at read_one count) (λ ds. AreViews body ds readings) first old
seen_all body first old count counter readings le so =
    record { value = so.ds; read_is = is_done read_one so.ds count counter old (items_at read_one count first) le so.so_far; are = so.are }

pub seen_fault : {X Y : Type 0} (One : X → DataValue → Type 0) (All : Y → List DataValue → Type 0) (body first old new last : List ℕ) (count counter : ℕ)
    (readings : List UaReading) (e : ReadFault) → counter < count
    → SeenSo body count (count - counter) first old readings → SeesBy read_one One old new (Err e) → SeesBy (items_at read_one count) All first last (Err e)
seen_fault One All body first old new last count counter readings NoValue lt so one =
    fault_ends (λ (v : List DataValue). v) read_one NoValue so.ds count counter first old new lt one so.so_far
seen_fault One All body first old new last count counter readings OutOfMemory lt so one = tt

-- ---- an array of them

abbrev array_read : List ℕ → Option (Option (List DataValue) × List ℕ)
array_read = (array data_value_format).decode most_levels

array_is : (old rest : List ℕ) (count : ℕ) → number_at 4 old ≡ Some (count, rest) → array_read old ≡ array_behind_count read_one count rest
unfolding array
array_is old rest count e = ap (λ o. o >>= λ x. array_behind_count read_one x.0 x.1) e

counted_is : (rest : List ℕ) (count : ℕ) → count < first_negative → array_behind_count read_one count rest ≡ image_read Some (items_at read_one count) rest
counted_is rest count small = ap (λ (test : Bool). cond test (image_read Some (items_at read_one count) rest) (Some (None, rest)))
    (lt-ltb count first_negative small)

null_is : (rest : List ℕ) (count : ℕ) → first_negative ≤ count → array_behind_count read_one count rest ≡ Some (None, rest)
null_is rest count large = ap (λ (test : Bool). cond test (image_read Some (items_at read_one count) rest) (Some (None, rest)))
    (le-ltb count first_negative large)

pub array_null : (body old rest : List ℕ) (count : ℕ) (readings : List UaReading) → number_at 4 old ≡ Some (count, rest) → first_negative ≤ count
    → readings ≡ [] → Sees array_read (λ ds. AreViewsOf body ds readings) old rest
array_null body old rest count readings e large none = record { value = None; read_is = array_is old rest count e ∙ null_is rest count large; are = none }

pub array_seen : {X : Type 0} (items : X → List UaReading) (body old rest new : List ℕ) (count : ℕ) (result : Result X ReadFault)
    → number_at 4 old ≡ Some (count, rest) → count < first_negative
    → SeesBy (items_at read_one count) (λ x ds. AreViews body ds (items x)) rest new result
    → SeesBy array_read (λ x ds. AreViewsOf body ds (items x)) old new result
array_seen items body old rest new count (Ok x) e small s =
    record {
      value = Some s.value;
      read_is = array_is old rest count e ∙ counted_is rest count small ∙ ap (λ o. o >>= λ x. Some (Some x.0, x.1)) s.read_is;
      are = s.are;
    }
array_seen items body old rest new count (Err NoValue) e small s = array_is old rest count e ∙ counted_is rest count small
    ∙ ap (λ o. o >>= λ x. Some (Some x.0, x.1)) s
array_seen items body old rest new count (Err OutOfMemory) e small s = tt

pub count_fault : {X : Type 0} (Are : X → Option (List DataValue) → Type 0) (old new last : List ℕ) (e : ReadFault) → Gives (number_at 4) old new (Err e)
    → SeesBy array_read Are old last (Err e)
unfolding array
count_fault Are old new last NoValue h = ap (λ o. o >>= λ x. array_behind_count read_one x.0 x.1) h
count_fault Are old new last OutOfMemory h = tt

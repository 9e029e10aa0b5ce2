-- Items that are read without the values that their nodes could not take, against what is kept of those that are read whole.
use Rattle.std.specs.Prelude.{◌≡◌, ℕ, zero, suc, ◌<◌, Bool, true, false, cond, nat_lt, List, ◌∷◌, map, length, Option, Some, None, option_map, Result, Ok, Err}
use Rattle.std.proofs.Common.{refl, sym, ◌∙◌, ap}
use Rattle.ua_wire.specs.declared.fault.ReadFault.{ReadFault}
use Rattle.ua_wire.specs.declared.fault.ReadFault.TheVariants.{NoValue, OutOfMemory}
use Rattle.ua_wire.proofs.Readers.{some_is}
use Rattle.ua_builtin.specs.Counted.{first_negative}
use Rattle.ua_builtin.specs.Exact.{◌>>=◌, image_read, pair_read, skipped}
use Rattle.ua_builtin.specs.Format.{Gives, GivesBy}
use Rattle.ua_builtin.specs.Number.{number_at}
use Rattle.ua_builtin.specs.declared.node_id.NodeId.{NodeId}
use Rattle.ua_variant.specs.Formats.{data_value_format}
use Rattle.ua_variant.specs.declared.values.DataValue.{DataValue}
use Rattle.ua_opening.specs.Array.{array, array_at, array_behind_count, items_at}
use Rattle.ua_structures.specs.Attribute.{write_request, write_value}
use Rattle.ua_opening.specs.Header.{request_header}
use Rattle.ua_structures.specs.Thin.{kept_value, null_value, thinned, thinned_request}
use Rattle.ua_structures.specs.declared.attribute.WriteRequest.{WriteRequest}
use Rattle.ua_structures.specs.declared.attribute.WriteValue.{WriteValue}
use Rattle.ua_opening.specs.declared.header.RequestHeader.{RequestHeader}
use Rattle.ua_structures.specs.declared.thin.ValueType.{ValueType}
use Rattle.ua_structures.specs.inside.Ahead.{is_kept_at}
use Rattle.ua_structures.proofs.Ahead.{kept_is}
use Rattle.ua_structures.proofs.AttributeLawful.{lawful_write_value}
use Rattle.ua_opening.proofs.ItemsRead.{claims_more}

-- a reader of lists
abbrev Read : Type 0 → Type 0
Read A = List ℕ → Option (A × List ℕ)

-- ---- readers that are made of readers

image_found : {A B : Type 0} (make : A → B) (read : Read A) (old new : List ℕ) (v : A) → read old ≡ Some (v, new)
    → image_read make read old ≡ Some (make v, new)
image_found make read old new v e = ap (λ o. o >>= λ x. Some (make x.0, x.1)) e

image_none : {A B : Type 0} (make : A → B) (read : Read A) (old : List ℕ) → read old ≡ None → image_read make read old ≡ None
image_none make read old e = ap (λ o. o >>= λ x. Some (make x.0, x.1)) e

-- what is made of a value that was found
abbrev imaged : {A B : Type 0} → (A → B) → Option (A × List ℕ) → Option (B × List ℕ)
imaged make found = found >>= λ x. Some (make x.0, x.1)

none_imaged : {A B : Type 0} (make : A → B) (found : Option (A × List ℕ)) → imaged make found ≡ None → found ≡ None
none_imaged make None e = refl
none_imaged make (Some x) e = absurd cc

pair_found : {A B : Type 0} (first : Read A) (second : Read B) (old middle new : List ℕ) (a : A) (b : B) → first old ≡ Some (a, middle)
    → second middle ≡ Some (b, new)
    → pair_read first second old ≡ Some ((a, b), new)
pair_found first second old middle new a b e f =
    ap (λ o. o >>= λ x. second x.1 >>= λ y. Some ((x.0, y.0), y.1)) e ∙ ap (λ o. o >>= λ y. Some ((a, y.0), y.1)) f

pair_none : {A B : Type 0} (first : Read A) (second : Read B) (old middle : List ℕ) (a : A) → first old ≡ Some (a, middle) → second middle ≡ None
    → pair_read first second old ≡ None
pair_none first second old middle a e f =
    ap (λ o. o >>= λ x. second x.1 >>= λ y. Some ((x.0, y.0), y.1)) e ∙ ap (λ o. o >>= λ y. Some ((a, y.0), y.1)) f

-- ---- a DataValue

kept_found : (takes : ValueType → Bool) (levels : ℕ) (old new : List ℕ) (d : DataValue) → data_value_format.decode levels old ≡ Some (d, new)
    → image_read (kept_value takes) (data_value_format.decode levels) old ≡ Some (cond (is_kept_at takes old) d null_value, new)
kept_found takes levels old new d e =
    image_found (kept_value takes) (data_value_format.decode levels) old new d e ∙ ap (λ (k : DataValue). Some (k, new)) (kept_is takes levels old d new e)

-- it is kept whole, read into its place
pub kept_placed : (takes : ValueType → Bool) (levels : ℕ) (old new : List ℕ) (d : DataValue) (r : Result (Unit {0}) ReadFault) → is_kept_at takes old ≡ true
    → GivesBy {X = Unit {0}} (λ _. d) (data_value_format.decode levels) old new r
    → GivesBy {X = Unit {0}} (λ _. d) (image_read (kept_value takes) (data_value_format.decode levels)) old new r
kept_placed takes levels old new d (Ok u) is e = kept_found takes levels old new d e ∙ ap (λ (b : Bool). Some (cond b d null_value, new)) is
kept_placed takes levels old new d (Err NoValue) is e = image_none (kept_value takes) (data_value_format.decode levels) old e
kept_placed takes levels old new d (Err OutOfMemory) is e = tt

null_by : (takes : ValueType → Bool) (levels : ℕ) (old new : List ℕ) (found : Option (DataValue × List ℕ)) → data_value_format.decode levels old ≡ found
    → is_kept_at takes old ≡ false
    → imaged {B = Unit {0}} (λ d. tt) found ≡ Some (tt, new) → image_read (kept_value takes) (data_value_format.decode levels) old ≡ Some (null_value, new)
null_by takes levels old new None is not e = absurd cc
null_by takes levels old new (Some x) is not e =
    kept_found takes levels old x.1 x.0 is
    ∙ ap (λ (b : Bool). Some (cond b x.0 null_value, x.1)) not
    ∙ ap (λ (p : Unit {0} × List ℕ). Some (null_value, p.1)) (some_is (tt, x.1) (tt, new) e)

-- it is passed over
pub null_kept : (takes : ValueType → Bool) (levels : ℕ) (old new : List ℕ) → is_kept_at takes old ≡ false
    → skipped (data_value_format.decode levels) old ≡ Some (tt, new)
    → image_read (kept_value takes) (data_value_format.decode levels) old ≡ Some (null_value, new)
null_kept takes levels old new not e = null_by takes levels old new (data_value_format.decode levels old) refl not e

-- ---- an array of items

-- what is made of each of the values that were found
abbrev each : {A B : Type 0} → (A → B) → Option (List A × List ℕ) → Option (List B × List ℕ)
each f found = imaged (map f) found

-- with one more in front
abbrev with_one : {A : Type 0} → A → Option (List A × List ℕ) → Option (List A × List ℕ)
with_one x found = found >>= λ xs. Some (x ∷ xs.0, xs.1)

one_more : {A B : Type 0} (f : A → B) (x : A) (found : Option (List A × List ℕ))
    → with_one (f x) (each f found) ≡ each f (with_one x found)
one_more f x None = refl
one_more f x (Some xs) = refl

items_image : {A B : Type 0} (f : A → B) (read : Read A) (n : ℕ) (octets : List ℕ)
    → items_at (image_read f read) n octets ≡ image_read (map f) (items_at read n) octets
unfolding items_at
items_image f read zero octets = refl
items_image {A = A} {B = B} f read (suc n) octets = by (read octets) (items_image f read n)
  where
    by : (found : Option (A × List ℕ)) → ((rest : List ℕ) → items_at (image_read f read) n rest ≡ image_read (map f) (items_at read n) rest)
        → (imaged f found >>= λ x. with_one x.0 (items_at (image_read f read) n x.1)) ≡ each f (found >>= λ x. with_one x.0 (items_at read n x.1))
    by None more = refl
    by (Some x) more = ap (with_one (f x.0)) (more x.1) ∙ one_more f x.0 (items_at read n x.1)

-- the array of what is made of each
there : {A B : Type 0} (f : A → B) (found : Option (List A × List ℕ))
    → imaged Some (each f found) ≡ imaged (option_map (map f)) (imaged Some found)
there f None = refl
there f (Some xs) = refl

counted_image : {A B : Type 0} (f : A → B) (read : Read A) (count : ℕ) (octets : List ℕ) (test : Bool)
    → cond test (image_read Some (items_at (image_read f read) count) octets) (Some (None, octets))
    ≡ imaged (option_map (map f)) (cond test (image_read Some (items_at read count) octets) (Some (None, octets)))
counted_image f read count octets true = ap (imaged Some) (items_image f read count octets) ∙ there f (items_at read count octets)
counted_image f read count octets false = refl

pub array_image : {A B : Type 0} (f : A → B) (read : Read A) (octets : List ℕ)
    → array_at (image_read f read) octets ≡ image_read (option_map (map f)) (array_at read) octets
array_image f read octets = by (number_at 4 octets)
  where
    by : (found : Option (ℕ × List ℕ)) → (found >>= λ count. array_behind_count (image_read f read) count.0 count.1)
        ≡ imaged (option_map (map f)) (found >>= λ count. array_behind_count read count.0 count.1)
    by None = refl
    by (Some count) = counted_image f read count.0 count.1 (nat_lt count.0 first_negative)

-- the items of a Write
array_as : (levels : ℕ) (octets : List ℕ) → array_at (write_value.decode levels) octets ≡ (array write_value).decode levels octets
unfolding array
array_as levels octets = refl

-- more are claimed than octets are there
pub claims_many : (takes : NodeId → ValueType → Bool) (levels count : ℕ) (octets rest : List ℕ) → number_at 4 octets ≡ Some (count, rest)
    → count < first_negative → length rest < count
    → array_at (image_read (thinned takes) (write_value.decode levels)) octets ≡ None
claims_many takes levels count octets rest e small short =
    array_image (thinned takes) (write_value.decode levels) octets
    ∙ image_none (option_map (map (thinned takes))) (array_at (write_value.decode levels)) octets
    (array_as levels octets ∙ claims_more write_value lawful_write_value levels count octets rest e small short)

-- ---- a Write

-- a Write of these items
abbrev write_of : RequestHeader → Option (List WriteValue) → WriteRequest
write_of header items = record { request_header = header; nodes_to_write = items }

abbrev write_made : RequestHeader × Option (List WriteValue) → WriteRequest
write_made (header, items) = write_of header items

request_found : (levels : ℕ) (old behind new : List ℕ) (header : RequestHeader) (items : Option (List WriteValue))
    → request_header.decode levels old ≡ Some (header, behind)
    → array_at (write_value.decode levels) behind ≡ Some (items, new) → write_request.decode levels old ≡ Some (write_of header items, new)
unfolding write_request
request_found levels old behind new header items e f =
    image_found write_made (pair_read (request_header.decode levels) ((array write_value).decode levels)) old new (header, items)
    (pair_found (request_header.decode levels) ((array write_value).decode levels) old behind new header items e (sym (array_as levels behind) ∙ f))

request_none : (levels : ℕ) (old behind : List ℕ) (header : RequestHeader) → request_header.decode levels old ≡ Some (header, behind)
    → array_at (write_value.decode levels) behind ≡ None → write_request.decode levels old ≡ None
unfolding write_request
request_none levels old behind header e f =
    image_none write_made (pair_read (request_header.decode levels) ((array write_value).decode levels)) old
    (pair_none (request_header.decode levels) ((array write_value).decode levels) old behind header e (sym (array_as levels behind) ∙ f))

request_by : (takes : NodeId → ValueType → Bool) (levels : ℕ) (old behind new : List ℕ) (header : RequestHeader) (kept : Option (List WriteValue))
    (found : Option (Option (List WriteValue) × List ℕ))
    → request_header.decode levels old ≡ Some (header, behind) → array_at (write_value.decode levels) behind ≡ found
    → imaged (option_map (map (thinned takes))) found ≡ Some (kept, new)
    → image_read (thinned_request takes) (write_request.decode levels) old ≡ Some (write_of header kept, new)
request_by takes levels old behind new header kept None front is e = absurd cc
request_by takes levels old behind new header kept (Some x) front is e =
    image_found (thinned_request takes) (write_request.decode levels) old x.1 (write_of header x.0) (request_found levels old behind x.1 header x.0 front is)
    ∙ ap (λ (u : Option (List WriteValue) × List ℕ). Some (write_of header u.0, u.1)) (some_is (option_map (map (thinned takes)) x.0, x.1) (kept, new) e)

pub request_thinned : (takes : NodeId → ValueType → Bool) (levels : ℕ) (old behind new : List ℕ) (header : RequestHeader) (kept : Option (List WriteValue))
    → request_header.decode levels old ≡ Some (header, behind) → array_at (image_read (thinned takes) (write_value.decode levels)) behind ≡ Some (kept, new)
    → image_read (thinned_request takes) (write_request.decode levels) old ≡ Some (write_of header kept, new)
request_thinned takes levels old behind new header kept front e =
    request_by takes levels old behind new header kept (array_at (write_value.decode levels) behind) front refl
    (sym (array_image (thinned takes) (write_value.decode levels) behind) ∙ e)

pub request_fails : (takes : NodeId → ValueType → Bool) (levels : ℕ) (old behind new : List ℕ) (header : RequestHeader) (e : ReadFault)
    → request_header.decode levels old ≡ Some (header, behind) → Gives (array_at (image_read (thinned takes) (write_value.decode levels))) behind new (Err e)
    → Gives (image_read (thinned_request takes) (write_request.decode levels)) old new (Err e)
request_fails takes levels old behind new header NoValue front e =
    image_none (thinned_request takes) (write_request.decode levels) old
    (request_none levels old behind header front
    (none_imaged (option_map (map (thinned takes))) (array_at (write_value.decode levels) behind)
    (sym (array_image (thinned takes) (write_value.decode levels) behind) ∙ e)))
request_fails takes levels old behind new header OutOfMemory front e = tt

-- the same of a Write that is read into its place
pub placed_fails : (takes : NodeId → ValueType → Bool) (levels : ℕ) (old behind new : List ℕ) (header : RequestHeader) (message : WriteRequest) (e : ReadFault)
    → request_header.decode levels old ≡ Some (header, behind) → Gives (array_at (image_read (thinned takes) (write_value.decode levels))) behind new (Err e)
    → GivesBy {X = Unit {0}} (λ _. message) (image_read (thinned_request takes) (write_request.decode levels)) old new (Err e)
placed_fails takes levels old behind new header message NoValue front e = request_fails takes levels old behind new header NoValue front e
placed_fails takes levels old behind new header message OutOfMemory front e = tt

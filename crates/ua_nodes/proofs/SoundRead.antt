-- What a Read of a sound table answers can be written.
use Rattle.std.proofs.Common.{◌≡◌, ℕ, suc, ◌+◌, ◌<◌, ◌≤◌, Bool, true, false, not, ◌&&◌, cond, if◌then◌else◌, leb, nat_eq, nat_lt}
use Rattle.std.proofs.Common.{List, [], ◌∷◌, Option, Some, None, option_map, pos, refl, sym, ◌∙◌, ap, subst, arith, lit<}
use Rattle.std.proofs.lemmas.Bool.{eqb-true, lt-ltb, ltb-true, le-leb, leb-true}
use Rattle.ua_builtin.specs.Counted.{text}
use Rattle.ua_builtin.specs.DateTime.{date_time}
use Rattle.ua_builtin.specs.LocalizedText.{localized_text as localized_text_format}
use Rattle.ua_builtin.specs.NodeId.{node_id as node_id_format, node, in_form}
use Rattle.ua_builtin.specs.QualifiedName.{qualified_name as qualified_name_format}
use Rattle.ua_builtin.specs.Status.{status_code as status_code_format}
use Rattle.ua_builtin.specs.declared.date_time.DateTime.{DateTime}
use Rattle.ua_builtin.specs.declared.node_id.NodeId.{NodeId}
use Rattle.ua_builtin.specs.declared.node_id.Identifier.{Identifier}
use Rattle.ua_builtin.specs.declared.node_id.Identifier.TheVariants.{Numeric, Text, Guid as Global, Opaque}
use Rattle.ua_builtin.specs.declared.status_code.StatusCode.{StatusCode}
use Rattle.ua_structures.specs.declared.attribute.ReadValueId.{ReadValueId}
use Rattle.ua_variant.specs.Data.{DataFields, LeafData, boolean, sbyte, byte, int16, uint16, int32, uint32, int64, uint64, float, double}
use Rattle.ua_variant.specs.Data.{string, date_time as date_time_leaf, guid, byte_string, xml_element, node_id, expanded_node_id}
use Rattle.ua_variant.specs.Data.{status_code, qualified_name, localized_text, extension_object, reserved, ScalarData, leaf, data_value}
use Rattle.ua_variant.specs.Data.{variant, diagnostic, ScalarsData, no_scalars, scalar, VariantData, null, one, absent, many}
use Rattle.ua_variant.specs.Encodable.{kind_of_scalar, is_kind, dims_encodable, row_length, scalar_fits, scalars_fit}
use Rattle.ua_variant.specs.Encodable.{variant_fits, data_fields_encodable, data_value_encodable}
use Rattle.ua_variant.specs.Leaf.{leaf_kind, leaf_encodable}
use Rattle.ua_variant.specs.Measure.{scalars_depth, variant_depth}
use Rattle.ua_variant.specs.View.{row, row_list}
use Rattle.ua_nodes.specs.declared.attribute.Attribute.{Attribute}
use Rattle.ua_nodes.specs.declared.attribute.Attribute.TheVariants as attribute
use Rattle.ua_nodes.specs.declared.node.Variable.{Variable}
use Rattle.ua_nodes.specs.declared.range.IndexRange.{IndexRange}
use Rattle.ua_nodes.specs.declared.stamps.Stamps.{Stamps}
use Rattle.ua_nodes.specs.Attribute.{level, access_level, scalar_variant, type_node, attribute_of, attribute_value}
use Rattle.ua_nodes.specs.Range.{asked_range, is_within, ranged_from, ranged, range_part_of}
use Rattle.ua_nodes.specs.Read.{read_item_reasons, gives_source, gives_server, status_alone, where_so, stamps_of, value_read, with_stamps, read_by, read_answer}
use Rattle.ua_nodes.specs.Sound.{held_fields, IsSoundNode, AreNodesSound}
use Rattle.ua_builtin.specs.Reasons.{first_reason}
use Rattle.ua_nodes.specs.Status.{bad_node_id_unknown, bad_attribute_id_invalid, bad_index_range_invalid}
use Rattle.ua_nodes.specs.Status.{bad_index_range_no_data, bad_data_encoding_invalid, bad_not_readable}
use Rattle.ua_nodes.specs.Table.{Nodes, node_at, same_id}
use Rattle.ua_nodes.specs.Write.{has_none, is_of_type}
use Rattle.ua_nodes.proofs.FieldsFit.{field_fits, parts_of, fields_from}
use Rattle.ua_wire.proofs.Readers.{both_true}
use Rattle.ua_nodes.proofs.Fits.{both_are}
use Rattle.ua_nodes.proofs.IdFits.{numeric_fits}
use Rattle.ua_nodes.proofs.Writes.{same_id_is}

-- ---- refusals

pub code_fits : (code : StatusCode) → nat_lt code.code 4294967296 ≡ true → data_value_encodable (status_alone code) ≡ true
unfolding status_code_format data_fields_encodable
code_fits code h = rw h refl

-- a code that is given can be written
abbrev CodeFits : Option StatusCode → Type 0
CodeFits o = (code : StatusCode) → o ≡ Some code → nat_lt code.code 4294967296 ≡ true

where_holds : (test : Bool) (code : StatusCode) (rest : Option StatusCode) → nat_lt code.code 4294967296 ≡ true → CodeFits rest
    → CodeFits (if test then Some code else rest)
where_holds true code rest here more c e = let is : code ≡ c = cc in ap (λ (x : StatusCode). nat_lt x.code 4294967296) (sym is) ∙ here
where_holds false code rest here more c e = more c e

no_code : CodeFits None
no_code c e = absurd cc

reason_fits : (v : Variable) (item : ReadValueId) → CodeFits (first_reason (read_item_reasons v item))
reason_fits v item =
    where_holds _ bad_attribute_id_invalid _ refl (
    where_holds _ bad_index_range_invalid _ refl (
    where_holds _ bad_data_encoding_invalid _ refl (
    where_holds _ bad_not_readable _ refl (
    where_holds _ bad_index_range_no_data _ refl no_code))))

-- ---- values

-- the value can be written within a DataValue
record Fits (x : VariantData) : Type 0 where
  depth : variant_depth x ≤ 99
  fits : variant_fits x ≡ true

single_fits : (l : LeafData) → leaf_encodable l ≡ true → Fits (scalar_variant l)
single_fits l h = record { depth = omega arith; fits = h }

namespace_fits : (ns : ℕ) (i : Identifier) → node_id_format.encodable (node ns i) ≡ true → nat_lt ns 65536 ≡ true
unfolding node_id_format
namespace_fits ns (Numeric n) h = by (nat_eq ns 0 && nat_lt n 256) (nat_lt ns 256 && nat_lt n 65536) refl refl h
  where
    by : (s t : Bool) → (nat_eq ns 0 && nat_lt n 256) ≡ s → (nat_lt ns 256 && nat_lt n 65536) ≡ t
        → (in_form (cond s 0 (cond t 1 2))).encodable (node ns (Numeric n)) ≡ true → nat_lt ns 65536 ≡ true
    by true t e f g = let zero = eqb-true ns 0 (both_true (nat_eq ns 0) (nat_lt n 256) e).0 in lt-ltb ns 65536 (omega arith)
    by false true e f g = let few = ltb-true ns 256 (both_true (nat_lt ns 256) (nat_lt n 65536) f).0 in lt-ltb ns 65536 (omega arith)
    by false false e f g = (both_true (nat_lt ns 65536) (nat_lt n 4294967296) g).0
namespace_fits ns (Text t) h = (both_true (nat_lt ns 65536) _ h).0
namespace_fits ns (Global g) h = (both_true (nat_lt ns 65536) _ h).0
namespace_fits ns (Opaque b) h = (both_true (nat_lt ns 65536) _ h).0

qualified_fits : (id : NodeId) (name : Option (List ℕ)) → node_id_format.encodable id ≡ true → text.encodable name ≡ true
    → leaf_encodable (qualified_name (record { namespace = id.namespace; name = name })) ≡ true
unfolding qualified_name_format
qualified_fits id name h t = both_are (nat_lt id.namespace 65536) (text.encodable name) (namespace_fits id.namespace id.identifier h) t

localized_fits : (name : Option (List ℕ)) → text.encodable name ≡ true → leaf_encodable (localized_text (record { locale = None; text = name })) ≡ true
unfolding localized_text_format
localized_fits None h = refl
localized_fits (Some t) h = h

level_fits : (readable writable : Bool) → leaf_encodable (byte (level readable writable)) ≡ true
level_fits false false = refl
level_fits false true = refl
level_fits true false = refl
level_fits true true = refl

leaf_small : (l : LeafData) → leaf_encodable l ≡ true → leaf_kind l < 4294967296
leaf_small (boolean x) h = lit< tt
leaf_small (sbyte x) h = lit< tt
leaf_small (byte x) h = lit< tt
leaf_small (int16 x) h = lit< tt
leaf_small (uint16 x) h = lit< tt
leaf_small (int32 x) h = lit< tt
leaf_small (uint32 x) h = lit< tt
leaf_small (int64 x) h = lit< tt
leaf_small (uint64 x) h = lit< tt
leaf_small (float x) h = lit< tt
leaf_small (double x) h = lit< tt
leaf_small (string x) h = lit< tt
leaf_small (date_time_leaf x) h = lit< tt
leaf_small (guid x) h = lit< tt
leaf_small (byte_string x) h = lit< tt
leaf_small (xml_element x) h = lit< tt
leaf_small (node_id x) h = lit< tt
leaf_small (expanded_node_id x) h = lit< tt
leaf_small (status_code x) h = lit< tt
leaf_small (qualified_name x) h = lit< tt
leaf_small (localized_text x) h = lit< tt
leaf_small (extension_object x) h = lit< tt
leaf_small (reserved k x) h = absurd cc

scalar_small : (s : ScalarData) → variant_fits (one s) ≡ true → kind_of_scalar s < 4294967296
scalar_small (leaf l) h = leaf_small l h
scalar_small (data_value d) h = lit< tt
scalar_small (variant v) h = lit< tt
scalar_small (diagnostic d) h = lit< tt

kind_small : (k : ℕ) → is_kind k ≡ true → k < 4294967296
kind_small k h = let most = leb-true k 25 (both_true (leb 1 k) (leb k 25) h).1 in omega arith

same_kind : (kind k : ℕ) (array none : Bool) → (array && (nat_eq k kind && none)) ≡ true → k ≡ kind
same_kind kind k array none h = eqb-true k kind (both_true (nat_eq k kind) none (both_true array (nat_eq k kind && none) h).1).0

ap_less : {k kind : ℕ} → k ≡ kind → k < 4294967296 → kind < 4294967296
ap_less e h = omega arith

-- the type id of a value that can be written
kind_fits : (kind : ℕ) (array : Bool) (x : VariantData) → is_of_type kind array x ≡ true → variant_fits x ≡ true → kind < 4294967296
kind_fits kind array null h f = absurd cc
kind_fits kind array (one s) h f = ap_less (eqb-true (kind_of_scalar s) kind (both_true (not array) (nat_eq (kind_of_scalar s) kind) h).1) (scalar_small s f)
kind_fits kind array (absent k []) h f = ap_less (same_kind kind k array true h) (kind_small k f)
kind_fits kind array (absent k (d ∷ ds)) h f = absurd cc
kind_fits kind array (many k ss ds) h f =
    let n = row_length ss in
    let known =
    (both_true (is_kind k) (leb n 2147483647)
    (both_true (is_kind k && leb n 2147483647) (dims_encodable ds n)
    (both_true (is_kind k && leb n 2147483647 && dims_encodable ds n) (scalars_fit k ss) f).0).0).0 in
    ap_less (same_kind kind k array (has_none ds) h) (kind_small k known)

attribute_fits : (id : NodeId) (v : Variable) (a : Attribute) → IsSoundNode id v → Fits v.value → Fits (attribute_value id v a)
attribute_fits id v attribute.NodeId w value = single_fits (node_id id) w.id_fits
attribute_fits id v attribute.NodeClass w value = single_fits (int32 (pos 2)) refl
attribute_fits id v attribute.BrowseName w value = single_fits (qualified_name (record { namespace = id.namespace; name = v.name }))
    (qualified_fits id v.name w.id_fits w.name_fits)
attribute_fits id v attribute.DisplayName w value = single_fits (localized_text (record { locale = None; text = v.name })) (localized_fits v.name w.name_fits)
attribute_fits id v attribute.Value w value = value
attribute_fits id v attribute.DataType w value =
    single_fits (node_id (type_node v.kind)) (numeric_fits 0 v.kind (omega arith) (kind_fits v.kind v.array v.value w.of_type value.fits))
attribute_fits id v attribute.AccessLevel w value = single_fits (byte (access_level v.access)) (level_fits v.access.readable v.access.writable)
attribute_fits id v attribute.UserAccessLevel w value = single_fits (byte (access_level v.access)) (level_fits v.access.readable v.access.writable)

-- ---- parts of arrays

part_fits : (r : IndexRange) (p kind : ℕ) (ss : ScalarsData) → scalars_fit kind ss ≡ true → scalars_fit kind (row (ranged_from r p (row_list ss))) ≡ true
part_fits r p kind no_scalars h = refl
part_fits r p kind (scalar s ss) h =
    let first = both_true (nat_eq (kind_of_scalar s) kind && scalar_fits s) (scalars_fit kind ss) h in
    by (is_within r p) first.0 (part_fits r (suc p) kind ss first.1)
  where
    by : (t : Bool) → (nat_eq (kind_of_scalar s) kind && scalar_fits s) ≡ true → scalars_fit kind (row (ranged_from r (suc p) (row_list ss))) ≡ true
        → scalars_fit kind (row (cond t (s ∷ ranged_from r (suc p) (row_list ss)) (ranged_from r (suc p) (row_list ss)))) ≡ true
    by true here more = both_are _ _ here more
    by false here more = more

part_depth : (r : IndexRange) (p : ℕ) (ss : ScalarsData) → scalars_depth (row (ranged_from r p (row_list ss))) ≤ scalars_depth ss
part_depth r p no_scalars = omega arith
part_depth r p (scalar s ss) = by (is_within r p) (part_depth r (suc p) ss)
  where
    by : (t : Bool) → scalars_depth (row (ranged_from r (suc p) (row_list ss))) ≤ scalars_depth ss
        → scalars_depth (row (cond t (s ∷ ranged_from r (suc p) (row_list ss)) (ranged_from r (suc p) (row_list ss)))) ≤ scalars_depth (scalar s ss)
    by true more = omega arith
    by false more = omega arith

part_length : (r : IndexRange) (p : ℕ) (ss : ScalarsData) → row_length (row (ranged_from r p (row_list ss))) ≤ row_length ss
part_length r p no_scalars = omega arith
part_length r p (scalar s ss) = by (is_within r p) (part_length r (suc p) ss)
  where
    by : (t : Bool) → row_length (row (ranged_from r (suc p) (row_list ss))) ≤ row_length ss
        → row_length (row (cond t (s ∷ ranged_from r (suc p) (row_list ss)) (ranged_from r (suc p) (row_list ss)))) ≤ row_length (scalar s ss)
    by true more = omega arith
    by false more = omega arith

part_of_fits : (r : IndexRange) (x : VariantData) → Fits x → Fits (range_part_of r x)
part_of_fits r null h = record { depth = omega arith; fits = refl }
part_of_fits r (one s) h = record { depth = omega arith; fits = refl }
part_of_fits r (absent kind []) h = let known = h.fits in record { depth = omega arith; fits = rw known refl }
part_of_fits r (absent kind (d ∷ ds)) h = absurd (let no : false ≡ true = h.fits in cc)
part_of_fits r (many kind ss ds) h =
    let low = h.depth in
    let most = part_depth r 0 ss in
    let n = row_length ss in
    let m = row_length (row (ranged r (row_list ss))) in
    let a = both_true (is_kind kind && leb n 2147483647 && dims_encodable ds n) (scalars_fit kind ss) h.fits in
    let b = both_true (is_kind kind && leb n 2147483647) (dims_encodable ds n) a.0 in
    let c = both_true (is_kind kind) (leb n 2147483647) b.0 in
    let few = leb-true n 2147483647 c.1 in
    let fewer = part_length r 0 ss in
    let counted = le-leb m 2147483647 (omega arith) in
    let each = part_fits r 0 kind ss a.1 in
    record { depth = omega arith; fits = rw (c.0, counted, each) refl }

value_read_fits : (id : NodeId) (v : Variable) (a : Attribute) (o : Option IndexRange) → IsSoundNode id v → Fits v.value → Fits (value_read id v a o)
value_read_fits id v a None w value = attribute_fits id v a w value
value_read_fits id v a (Some r) w value = part_of_fits r v.value value

-- ---- status and times

kept_fits : {A : Type 0} (test : A → Bool) (t : Bool) (o : Option A) → field_fits test o ≡ true → field_fits test (where_so t o) ≡ true
kept_fits test true o h = h
kept_fits test false o h = refl

stamps_fit : (v : Variable) (is_value : Bool) (stamps : Stamps) (moment : DateTime) → date_time.encodable moment ≡ true
    → data_fields_encodable (held_fields v) ≡ true → data_fields_encodable (stamps_of v is_value stamps moment) ≡ true
stamps_fit v is_value stamps moment m h =
    let a = parts_of (held_fields v) h in
    let source = is_value && gives_source stamps in
    fields_from (stamps_of v is_value stamps moment) (record {
      status = kept_fits (status_code_format).encodable is_value v.status a.status;
      source_time = kept_fits (date_time).encodable source v.source_time a.source_time;
      source_picoseconds = kept_fits (λ n. nat_lt n 65536) source v.source_picoseconds a.source_picoseconds;
      server_time = kept_fits (date_time).encodable (gives_server stamps) (Some moment) m;
      server_picoseconds = refl;
    })

-- ---- answers

stamped_fits : (o : Option Attribute) (value : Attribute → VariantData) (fields : DataFields) → ((a : Attribute) → Fits (value a))
    → data_fields_encodable fields ≡ true → data_value_encodable (with_stamps (option_map value o) fields) ≡ true
stamped_fits None value fields each h = h
stamped_fits (Some a) value fields each h =
    let fits = each a in
    let low = fits.depth in
    both_are (leb (1 + variant_depth (value a)) 100) (data_fields_encodable fields && variant_fits (value a))
    (le-leb (1 + variant_depth (value a)) 100 (omega arith))
    (both_are (data_fields_encodable fields) (variant_fits (value a)) h fits.fits)

by_reason : (o : Option StatusCode) (v : Variable) (item : ReadValueId) (stamps : Stamps) (moment : DateTime) → date_time.encodable moment ≡ true
    → IsSoundNode item.node_id v → CodeFits o → data_value_encodable (read_by o v item stamps moment) ≡ true
by_reason (Some code) v item stamps moment m w c = code_fits code (c code refl)
by_reason None v item stamps moment m w c =
    let held_parts = both_true (leb (1 + variant_depth v.value) 100) (data_fields_encodable (held_fields v) && variant_fits v.value) w.value_fits in
    let deep = leb-true (1 + variant_depth v.value) 100 held_parts.0 in
    let parts = both_true (data_fields_encodable (held_fields v)) (variant_fits v.value) held_parts.1 in
    let value : Fits v.value = record { depth = omega arith; fits = parts.1 } in
    stamped_fits (attribute_of item.attribute_id) (λ a. value_read item.node_id v a (asked_range item.index_range))
    (stamps_of v (nat_eq item.attribute_id 13) stamps moment)
    (λ a. value_read_fits item.node_id v a (asked_range item.index_range) w value) (stamps_fit v (nat_eq item.attribute_id 13) stamps moment m parts.0)

pub sound_at : (nodes : Nodes) (id : NodeId) (v : Variable) → AreNodesSound nodes → node_at nodes id ≡ Some v → IsSoundNode id v
sound_at [] id v h e = absurd cc
sound_at (x ∷ nodes) id v h e = by (same_id id x.0) refl e (λ f. sound_at nodes id v h.1 f)
  where
    by : (t : Bool) → same_id id x.0 ≡ t → cond t (Some x.1) (node_at nodes id) ≡ Some v → (node_at nodes id ≡ Some v → IsSoundNode id v) → IsSoundNode id v
    by true same f more =
        let id_is = (same_id_is id x.0).0 same in
        let v_is : x.1 ≡ v = cc in
        subst (IsSoundNode id) v_is (subst (λ (k : NodeId). IsSoundNode k x.1) (sym id_is) h.0)
    by false same f more = more f

pub read_sound : (nodes : Nodes) (item : ReadValueId) (stamps : Stamps) (moment : DateTime) → date_time.encodable moment ≡ true → AreNodesSound nodes
    → data_value_encodable (read_answer (node_at nodes item.node_id) item stamps moment) ≡ true
read_sound nodes item stamps moment m h = by (node_at nodes item.node_id) refl
  where
    by : (o : Option Variable) → node_at nodes item.node_id ≡ o → data_value_encodable (read_answer o item stamps moment) ≡ true
    by None e = code_fits bad_node_id_unknown refl
    by (Some v) e = by_reason (first_reason (read_item_reasons v item)) v item stamps moment m (sound_at nodes item.node_id v h e) (reason_fits v item)

-- Sound tables stay sound.
use Rattle.std.proofs.Common.{◌≡◌, ℕ, ◌+◌, Bool, true, false, not, ◌&&◌, ◌||◌, cond, leb, nat_eq}
use Rattle.std.proofs.Common.{nat_lt, List, [], ◌∷◌, ◌++◌, Option, Some, None, refl, ◌∙◌, subst}
use Rattle.std.specs.Option.{is_none}
use Rattle.ua_builtin.specs.DateTime.{date_time}
use Rattle.ua_builtin.specs.declared.date_time.DateTime.{DateTime}
use Rattle.ua_builtin.specs.declared.node_id.NodeId.{NodeId}
use Rattle.ua_builtin.specs.declared.status_code.StatusCode.{StatusCode}
use Rattle.ua_structures.specs.declared.attribute.WriteValue.{WriteValue}
use Rattle.ua_variant.specs.declared.values.DataValue.{DataValue}
use Rattle.ua_variant.specs.Data.{VariantData, null, valued}
use Rattle.ua_variant.specs.Encodable.{variant_fits, data_fields_encodable, data_value_encodable}
use Rattle.ua_variant.specs.Measure.{variant_depth}
use Rattle.ua_variant.specs.View.{value_within, data_fields_of, data_value_of}
use Rattle.ua_nodes.specs.declared.node.Variable.{Variable}
use Rattle.ua_nodes.specs.Attribute.{is_attribute}
use Rattle.ua_nodes.specs.Read.{is_filled_text}
use Rattle.ua_nodes.specs.Sound.{held_fields, held_value, IsSoundNode, AreNodesSound}
use Rattle.ua_builtin.specs.Reasons.{first_reason}
use Rattle.ua_nodes.specs.Status.{bad_attribute_id_invalid, bad_not_writable, bad_write_not_supported, bad_type_mismatch}
use Rattle.ua_nodes.specs.Table.{Nodes}
use Rattle.ua_nodes.specs.Write.{is_of_type, holds_type, write_item_reasons, content_or, time_of, picoseconds_of}
use Rattle.ua_nodes.specs.Write.{stored, written_by, is_good_for, later, last_good, after_write}
use Rattle.ua_wire.proofs.Readers.{both_true}
use Rattle.ua_nodes.proofs.Fits.{both_are}
use Rattle.ua_nodes.proofs.FieldsFit.{field_fits, parts_of, fields_from}

-- ---- one node more

pub sound_with : (nodes : Nodes) (id : NodeId) (v : Variable) → AreNodesSound nodes → IsSoundNode id v → AreNodesSound (nodes ++ (id, v) ∷ [])
sound_with [] id v h w = (w, tt)
sound_with (node ∷ nodes) id v h w = (h.0, sound_with nodes id v h.1 w)

-- ---- a Write

-- an item that is not refused gives a value of the type that can be written
record Gives (v : Variable) (item : WriteValue) : Type 0 where
  of_type : holds_type v.kind v.array item.value.value ≡ true
  fits : data_value_encodable (data_value_of item.value) ≡ true

-- where no reason of four holds, the last doesn't
last_fails : (a b c d : Bool) (p q r s : StatusCode) → is_none (first_reason ((p, a) ∷ (q, b) ∷ (r, c) ∷ (s, d) ∷ [])) ≡ true → d ≡ false
last_fails true b c d p q r s h = absurd cc
last_fails false true c d p q r s h = absurd cc
last_fails false false true d p q r s h = absurd cc
last_fails false false false true p q r s h = absurd cc
last_fails false false false false p q r s h = refl

not_refused : (a : Bool) → not a ≡ false → a ≡ true
not_refused true e = refl
not_refused false e = absurd cc

gives : (v : Variable) (item : WriteValue) → is_none (first_reason (write_item_reasons v item)) ≡ true → Gives v item
gives v item h =
    let fits = holds_type v.kind v.array item.value.value && data_value_encodable (data_value_of item.value) in
    let last = last_fails (not (is_attribute item.attribute_id)) (not (nat_eq item.attribute_id 13 && v.access.writable))
    (is_filled_text item.index_range || is_none item.value.value) (not fits)
    bad_attribute_id_invalid bad_not_writable bad_write_not_supported bad_type_mismatch h in
    let both = both_true (holds_type v.kind v.array item.value.value) (data_value_encodable (data_value_of item.value)) (not_refused fits last) in
    record { of_type = both.0; fits = both.1 }

time_fits : (t : Option DateTime) (moment : DateTime) → date_time.encodable moment ≡ true → field_fits (date_time).encodable t ≡ true
    → date_time.encodable (time_of t moment) ≡ true
time_fits None moment m h = m
time_fits (Some x) moment m h = h

picoseconds_fit : (t : Option DateTime) (p : Option ℕ) → field_fits (λ n. nat_lt n 65536) p ≡ true → field_fits (λ n. nat_lt n 65536) (picoseconds_of t p)
    ≡ true
picoseconds_fit None p h = refl
picoseconds_fit (Some x) p h = h

fields_fit : (v : Variable) (given : DataValue) (moment : DateTime) → date_time.encodable moment ≡ true → data_fields_encodable (data_fields_of given) ≡ true
    → data_fields_encodable (held_fields (stored v given moment)) ≡ true
fields_fit v given moment m h =
    let a = parts_of (data_fields_of given) h in
    fields_from (held_fields (stored v given moment))
    (record {
      status = a.status;
      source_time = time_fits given.source_timestamp moment m a.source_time;
      source_picoseconds = picoseconds_fit given.source_timestamp given.source_picoseconds a.source_picoseconds;
      server_time = refl;
      server_picoseconds =
          refl;
    })

-- a value with its status and source time, or without one the moment
stored_fits : (v : Variable) (given : DataValue) (moment : DateTime) → date_time.encodable moment ≡ true → holds_type v.kind v.array given.value ≡ true
    → data_value_encodable (data_value_of given) ≡ true
    → (is_of_type v.kind v.array (stored v given moment).value ≡ true) × (data_value_encodable (held_value (stored v given moment)) ≡ true)
stored_fits v given moment m of fits = by given.value of fits
  where
    by : (o : Option VariantData) → holds_type v.kind v.array o ≡ true → data_value_encodable (value_within o (data_fields_of given)) ≡ true
        → (is_of_type v.kind v.array (content_or o null) ≡ true)
        × (data_value_encodable (valued (content_or o null) (held_fields (stored v given moment))) ≡ true)
    by None h f = absurd cc
    by (Some x) h f =
        let a = both_true (leb (1 + variant_depth x) 100) (data_fields_encodable (data_fields_of given) && variant_fits x) f in
        let b = both_true (data_fields_encodable (data_fields_of given)) (variant_fits x) a.1 in
        let fields = held_fields (stored v given moment) in (
          h,
          both_are (leb (1 + variant_depth x) 100) (data_fields_encodable fields && variant_fits x) a.0
              (both_are (data_fields_encodable fields) (variant_fits x) (fields_fit v given moment m b.0) b.1),
        )

good_sound : (id : NodeId) (v : Variable) (item : WriteValue) (moment : DateTime) → date_time.encodable moment ≡ true → IsSoundNode id v → Gives v item
    → IsSoundNode id (stored v item.value moment)
good_sound id v item moment m w g =
    let s = stored_fits v item.value moment m g.of_type g.fits in
    record { id_fits = w.id_fits; name_fits = w.name_fits; of_type = s.0; value_fits = s.1 }

-- the last good item is good
last_is_good : (node : NodeId × Variable) (items : List WriteValue) (item : WriteValue) → last_good node items ≡ Some item
    → is_none (first_reason (write_item_reasons node.1 item)) ≡ true
last_is_good node [] item e = absurd cc
last_is_good node (i ∷ items) item e = by (is_good_for node i) (last_good node items) refl refl e (last_is_good node items item)
  where
    by : (t : Bool) (o : Option WriteValue) → is_good_for node i ≡ t → last_good node items ≡ o → later (cond t (Some i) None) o ≡ Some item
        → (last_good node items ≡ Some item → is_none (first_reason (write_item_reasons node.1 item)) ≡ true)
        → is_none (first_reason (write_item_reasons node.1 item)) ≡ true
    by t (Some x) h l f more = more (l ∙ f)
    by false None h l f more = absurd cc
    by true None h l f more =
        let same : i ≡ item = cc in
        let good = both_true _ (is_none (first_reason (write_item_reasons node.1 i))) h in
        subst (λ (x : WriteValue). is_none (first_reason (write_item_reasons node.1 x)) ≡ true) same good.1

written_sound : (node : NodeId × Variable) (items : List WriteValue) (moment : DateTime) → date_time.encodable moment ≡ true → IsSoundNode node.0 node.1
    → IsSoundNode node.0 (written_by node.1 (last_good node items) moment)
written_sound node items moment m w = by (last_good node items) refl
  where
    by : (o : Option WriteValue) → last_good node items ≡ o → IsSoundNode node.0 (written_by node.1 o moment)
    by None e = w
    by (Some item) e = good_sound node.0 node.1 item moment m w (gives node.1 item (last_is_good node items item e))

pub write_sound : (items : List WriteValue) (moment : DateTime) (nodes : Nodes) → date_time.encodable moment ≡ true → AreNodesSound nodes
    → AreNodesSound (after_write items moment nodes)
unfolding after_write
write_sound items moment [] m h = tt
write_sound items moment (node ∷ nodes) m h = (written_sound node items moment m h.0, write_sound items moment nodes m h.1)

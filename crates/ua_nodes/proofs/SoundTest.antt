-- The test of a sound node.
use Rattle.std.proofs.Common.{◌≡◌, ℕ, ◌+◌, Bool, true, ◌&&◌, leb, nat_lt, Option, None, Some, IsTrue, refl, arith}
use Rattle.std.specs.Prelude.{◌↔◌}
use Rattle.std.proofs.lemmas.Bool.{le-leb, leb-true, lt-ltb, ltb-true}
use Rattle.ua_builtin.specs.Counted.{text}
use Rattle.ua_builtin.specs.DateTime.{date_time}
use Rattle.ua_builtin.specs.Format.{most_levels}
use Rattle.ua_builtin.specs.Join.{number}
use Rattle.ua_builtin.specs.NodeId.{node_id}
use Rattle.ua_builtin.specs.Status.{status_code}
use Rattle.ua_builtin.specs.declared.node_id.NodeId.{NodeId}
use Rattle.ua_diagnostic.specs.Parts.{optional_fits}
use Rattle.ua_variant.specs.Encodable.{variant_fits, variant_encodable, data_fields_encodable}
use Rattle.ua_variant.specs.Measure.{variant_depth}
use Rattle.ua_wire.proofs.Readers.{both_true}
use Rattle.ua_nodes.specs.Sound.{held_fields, IsSoundNode, is_sound_node}
use Rattle.ua_nodes.specs.Write.{is_of_type}
use Rattle.ua_nodes.specs.declared.node.Variable.{Variable}
use Rattle.ua_nodes.proofs.FieldsFit.{field_fits, parts_of, fields_from}
use Rattle.ua_nodes.proofs.Fits.{both_are}

below_is : (n : ℕ) → nat_lt n 100 ≡ true → leb (1 + n) 100 ≡ true
below_is n h = le-leb (1 + n) 100 (let less = ltb-true n 100 h in omega arith)

less_is : (n : ℕ) → leb (1 + n) 100 ≡ true → nat_lt n 100 ≡ true
less_is n h = lt-ltb n 100 (let most = leb-true (1 + n) 100 h in omega arith)

whole_is : (n : ℕ) → leb (1 + n) 100 ≡ true → leb n 100 ≡ true
whole_is n h = le-leb n 100 (let most = leb-true (1 + n) 100 h in omega arith)

-- the two tests of a field that may be there
there_is : {A : Type 0} (test : A → Bool) (o : Option A) → optional_fits test o ≡ true → field_fits test o ≡ true
there_is test None h = refl
there_is test (Some x) h = h

there_was : {A : Type 0} (test : A → Bool) (o : Option A) → field_fits test o ≡ true → optional_fits test o ≡ true
there_was test None h = refl
there_was test (Some x) h = h

sound : (id : NodeId) (v : Variable) → IsTrue (is_sound_node id v) → IsSoundNode id v
sound id v h =
    let status = optional_fits status_code.encodable v.status in
    let time = optional_fits date_time.encodable v.source_time in
    let pico = optional_fits (number 2).encodable v.source_picoseconds in
    let level = nat_lt (variant_depth v.value) most_levels in
    let a = both_true (node_id.encodable id)
    (text.encodable v.name && (is_of_type v.kind v.array v.value && (level && (variant_encodable v.value && (status && (time && pico)))))) h in
    let b = both_true (text.encodable v.name) (is_of_type v.kind v.array v.value && (level && (variant_encodable v.value && (status && (time && pico))))) a.1 in
    let c = both_true (is_of_type v.kind v.array v.value) (level && (variant_encodable v.value && (status && (time && pico)))) b.1 in
    let d = both_true level (variant_encodable v.value && (status && (time && pico))) c.1 in
    let e = both_true (variant_encodable v.value) (status && (time && pico)) d.1 in
    let f = both_true status (time && pico) e.1 in
    let g = both_true time pico f.1 in
    let fits = both_true (leb (variant_depth v.value) most_levels) (variant_fits v.value) e.0 in
    let fields = fields_from (held_fields v) (record {
      status = there_is status_code.encodable v.status f.0;
      source_time = there_is date_time.encodable v.source_time g.0;
      source_picoseconds = there_is (λ n. nat_lt n 65536) v.source_picoseconds g.1;
      server_time = refl;
      server_picoseconds = refl;
    }) in
    record {
      id_fits = a.0;
      name_fits = b.0;
      of_type = c.0;
      value_fits = both_are (leb (1 + variant_depth v.value) 100) (data_fields_encodable (held_fields v) && variant_fits v.value)
          (below_is (variant_depth v.value) d.0)
          (both_are (data_fields_encodable (held_fields v)) (variant_fits v.value) fields fits.1);
    }

passed : (id : NodeId) (v : Variable) → IsSoundNode id v → IsTrue (is_sound_node id v)
passed id v s =
    let status = optional_fits status_code.encodable v.status in
    let time = optional_fits date_time.encodable v.source_time in
    let pico = optional_fits (number 2).encodable v.source_picoseconds in
    let level = nat_lt (variant_depth v.value) most_levels in
    let a = both_true (leb (1 + variant_depth v.value) 100) (data_fields_encodable (held_fields v) && variant_fits v.value) s.value_fits in
    let b = both_true (data_fields_encodable (held_fields v)) (variant_fits v.value) a.1 in
    let f = parts_of (held_fields v) b.0 in
    let two = both_are time pico (there_was date_time.encodable v.source_time f.source_time)
    (there_was (λ n. nat_lt n 65536) v.source_picoseconds f.source_picoseconds) in
    both_are (node_id.encodable id)
    (text.encodable v.name && (is_of_type v.kind v.array v.value && (level && (variant_encodable v.value && (status && (time && pico)))))) s.id_fits
    (both_are (text.encodable v.name) (is_of_type v.kind v.array v.value && (level && (variant_encodable v.value && (status && (time && pico))))) s.name_fits
    (both_are (is_of_type v.kind v.array v.value) (level && (variant_encodable v.value && (status && (time && pico)))) s.of_type
    (both_are level (variant_encodable v.value && (status && (time && pico))) (less_is (variant_depth v.value) a.0)
    (both_are (variant_encodable v.value) (status && (time && pico))
    (both_are (leb (variant_depth v.value) most_levels) (variant_fits v.value) (whole_is (variant_depth v.value) a.0) b.1)
    (both_are status (time && pico) (there_was status_code.encodable v.status f.status) two)))))

-- the test passes exactly where the node is sound
pub passes_is : (id : NodeId) (v : Variable) → (IsTrue (is_sound_node id v) ↔ IsSoundNode id v)
passes_is id v = (sound id v, passed id v)

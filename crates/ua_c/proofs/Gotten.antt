-- The values of sound nodes can be encoded, so that getting one fails for want of memory alone.
use Rattle.std.proofs.Common.{◌≡◌, ℕ, zero, suc, ◌+◌, List, [], ◌∷◌, leb, ◌&&◌, Option, None, Some, option_map, IsTrue, sym, subst, inl, inr, arith}
use Rattle.std.proofs.lemmas.Bool.{le-leb, leb-true}
use Rattle.std.specs.List.{slice_get}
use Rattle.ua_builtin.specs.declared.node_id.NodeId.{NodeId}
use Rattle.ua_nodes.proofs.Fits.{both_are}
use Rattle.ua_nodes.specs.Sound.{AreNodesSound, IsSoundNode, held_fields}
use Rattle.ua_nodes.specs.Table.{Nodes}
use Rattle.ua_nodes.specs.declared.node.Variable.{Variable}
use Rattle.ua_variant.specs.Data.{VariantData}
use Rattle.ua_variant.specs.Encodable.{data_fields_encodable, variant_encodable, variant_fits}
use Rattle.ua_variant.specs.Formats.{variant_format}
use Rattle.ua_variant.specs.Measure.{variant_depth}
use Rattle.ua_variant.specs.View.{variant_of}
use Rattle.ua_variant.specs.declared.values.Variant.{Variant}
use Rattle.ua_wire.proofs.Readers.{both_true}
use Rattle.ua_c.specs.Readings.{GetsAt, GetsNone, node_at_index}
use Rattle.ua_c.specs.Status.{no_memory}
use Rattle.ua_c.specs.Texts.{IsNoEncoding}
use Rattle.ua_c.specs.declared.readings.UaReading.{UaReading}
use Rattle.ua_c.specs.declared.shared.SharedNodes.{SharedNodes}

-- the value of a node that is sound
encodes_sound : (id : NodeId) (v : Variable) → IsSoundNode id v → IsTrue (variant_encodable v.value)
encodes_sound id v sound =
    let whole = both_true (leb (1 + variant_depth v.value) 100) (data_fields_encodable (held_fields v) && variant_fits v.value) sound.value_fits in
    let deep = leb-true (1 + variant_depth v.value) 100 whole.0 in
    let parts = both_true (data_fields_encodable (held_fields v)) (variant_fits v.value) whole.1 in
    both_are (leb (variant_depth v.value) 100) (variant_fits v.value) (le-leb (variant_depth v.value) 100 (omega arith)) parts.1

some_same : {x y : Variable} → ◌≡◌ {A = Option Variable} (Some x) (Some y) → x ≡ y
some_same e = cc

encodes_at : (nodes : Nodes) (index : ℕ) (v : Variable) → AreNodesSound nodes → option_map (λ (node : NodeId × Variable). node.1) (slice_get nodes index)
    ≡ Some v
    → IsTrue (variant_encodable v.value)
encodes_at [] index v sound e = absurd cc
encodes_at (node ∷ nodes) zero v sound e = subst (λ (w : Variable). IsTrue (variant_encodable w.value)) (some_same e) (encodes_sound node.0 node.1 sound.0)
encodes_at (node ∷ nodes) (suc i) v sound e = encodes_at nodes i v sound.1 e

pub encodes_at_index : (shared : SharedNodes) (index : ℕ) (v : Variable) → AreNodesSound shared.services.nodes → node_at_index shared index ≡ Some v
    → IsTrue (variant_encodable v.value)
encodes_at_index shared index v sound e = encodes_at shared.services.nodes index v sound e

-- so there is no reason but one
pub only_memory : (value : Variant) (v : VariantData) (status : ℕ) → variant_of value ≡ v → IsTrue (variant_encodable v) → IsNoEncoding value status
    → status ≡ no_memory
unfolding variant_format
only_memory value v status is fits (inl starved) = starved
only_memory value v status is fits (inr bad) = let good : IsTrue (variant_encodable (variant_of value)) =
    subst (λ (d : VariantData). IsTrue (variant_encodable d)) (sym is) fits in let wrong = bad.1 in absurd cc

-- nothing is got
pub gets_none : (at : Option Variable) (node : Variable) (before after : List ℕ) (needed : ℕ) (reading : UaReading) (status : ℕ) → at ≡ Some node
    → status ≡ no_memory
    → GetsNone before after needed reading → GetsAt at before after needed reading status
gets_none at node before after needed reading status e starved none = subst (λ (o : Option Variable). GetsAt o before after needed reading status) (sym e)
    (inr (starved, none))

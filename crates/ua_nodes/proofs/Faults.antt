-- What faults within a line say of it.
use Rattle.std.proofs.Common.{◌≡◌, ℕ, Bool, List, Option, Some, None, Result, Err, IsErrOf, refl, sym, subst}
use Rattle.std.specs.Option.{ok_or}
use Rattle.ua_builtin.specs.NodeText.{NamesNode}
use Rattle.ua_builtin.specs.declared.fault.TextFault.{TextFault}
use Rattle.ua_builtin.specs.declared.fault.TextFault.TheVariants.{NotNodeId, OutOfMemory as NoTextMemory}
use Rattle.ua_builtin.specs.declared.node_id.NodeId.{NodeId}
use Rattle.ua_nodes.specs.declared.fault.LineFault.{LineFault}
use Rattle.ua_nodes.specs.declared.fault.LineFault.TheVariants.{Bad, NoMemory}
use Rattle.ua_nodes.specs.declared.fault.LineReason.{LineReason}
use Rattle.ua_nodes.specs.declared.fault.LineReason.TheVariants.{Node, Name}
use Rattle.ua_nodes.specs.declared.fault.ValueFault.{ValueFault}
use Rattle.ua_nodes.specs.declared.fault.ValueFault.TheVariants.{NotValue, OutOfMemory as NoValueMemory}
use Rattle.ua_nodes.specs.declared.node.Access.{Access as Rights}
use Rattle.ua_nodes.specs.LineFault.{id_fault, value_fault}
use Rattle.ua_nodes.specs.NodeFile.{NamesId, access_denoted, name_denoted, IsFirstReason, GivesId, GivesName, GivesNode}
use Rattle.ua_nodes.specs.Table.{Nodes}
use Rattle.ua_variant.specs.declared.values.Variant.{Variant}
use Rattle.ua_nodes.specs.TypeName.{type_denoted}
use Rattle.ua_nodes.specs.ValueText.{value_denoted}
use Rattle.ua_nodes.proofs.Reasons.{IsCut, bad_node, bad_name, bad_value}

pub id_refused : (text : List ℕ) (x : TextFault) → (IsErrOf {T = NodeId} (Err x) NotNodeId → (v : NodeId) → ¬ (NamesNode v text))
    → GivesId text (Err (id_fault x))
id_refused text NotNodeId h = (refl, λ id n. h refl id n.1)
id_refused text NoTextMemory h = tt

-- what `ok_or` made a fault of
pub ok_or_none : {A : Type 0} (o : Option A) (e y : LineReason) → ◌≡◌ {A = Result A LineReason} (Err y) (ok_or o e) → (o ≡ None) × (y ≡ e)
ok_or_none None e y h = (refl, cc)
ok_or_none (Some x) e y h = absurd cc

-- a reason that is known
pub known : (line : List ℕ) (known : LineReason) (reason : LineReason) → reason ≡ known → ((before : Nodes) → IsFirstReason known before line)
    → GivesNode line (Err (Bad reason))
known line k reason e h before = subst (λ (q : LineReason). IsFirstReason q before line) (sym e) (h before)

pub refused_id : (line a b c d e : List ℕ) (x : LineFault) → IsCut line a b c d e → GivesId a (Err x) → GivesNode line (Err x)
refused_id line a b c d e (Bad reason) k h = known line Node reason h.0 (bad_node line a b c d e k h.1)
refused_id line a b c d e NoMemory k h = tt

pub refused_name : (line a b c d e : List ℕ) (id : NodeId) (r : Rights) (x : LineFault) → IsCut line a b c d e → NamesId a id → access_denoted b ≡ Some r
    → GivesName c (Err x) → GivesNode line (Err x)
refused_name line a b c d e id r (Bad reason) k n p h = known line Name reason h.0 (bad_name line a b c d e id r k n p h.1)
refused_name line a b c d e id r NoMemory k n p h = tt

pub refused_value : (line a b c d e : List ℕ) (id : NodeId) (r : Rights) (n : Option (List ℕ)) (t : ℕ × Bool) (x : ValueFault) → IsCut line a b c d e
    → NamesId a id → access_denoted b ≡ Some r → name_denoted c ≡ Some n
    → type_denoted d ≡ Some t → (IsErrOf {T = Variant} (Err x) NotValue → value_denoted t.0 t.1 e ≡ None) → GivesNode line (Err (value_fault x))
refused_value line a b c d e id r n t NotValue k h p q w v = bad_value line a b c d e id r n t k h p q w (v refl)
refused_value line a b c d e id r n t NoValueMemory k h p q w v = tt

-- What is set at a place.
use Rattle.std.proofs.Common.{◌≡◌, ℕ, List, sym, subst}
use Rattle.ua_nodes.specs.Table.{node_id_at}
use Rattle.ua_c.specs.Handled.{OfNodes}
use Rattle.ua_c.specs.Readings.{SetsAt, SetsHeld, SetsNode}
use Rattle.ua_c.specs.Status.{other_handle}
use Rattle.ua_c.specs.declared.holding.Holding.{Holding}
use Rattle.ua_c.specs.declared.holding.Machine.TheVariants as machine
use Rattle.ua_c.specs.declared.readings.UaReading.{UaReading}
use Rattle.ua_c.specs.declared.shared.SharedNodes.{SharedNodes}

-- what setting a node does with what a handle holds, where it holds nodes
pub sets_node : (old new : Holding) (index : ℕ) (octets : List ℕ) (given : UaReading) (status : ℕ) (shared left : SharedNodes)
    → old.machine ≡ machine.Nodes shared
    → new ≡ record { machine = machine.Nodes left; waiting = old.waiting } → SetsAt (node_id_at shared.services.nodes index) shared left octets given status
    → SetsNode old new index octets given status
sets_node old new index octets given status shared left is new_is sets =
    subst (λ m. OfNodes m ((status ≡ other_handle) × (new ≡ old)) (λ s. SetsHeld s old new index octets given status)) (sym is)
    (record { left = left; new_is = new_is; sets = sets })

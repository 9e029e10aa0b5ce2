-- What the Write of a step stored, told item by item.
use Rattle.std.proofs.Common.{◌≡◌, ℕ, List, Option, Some, refl, sym, subst}
use Rattle.ua_c.specs.Handled.{OfHandles, OfNodes, OfShared}
use Rattle.ua_c.specs.Status.{other_handle}
use Rattle.ua_c.specs.Telling.{SaysNoItem, TellsHeld, TellsNext, TellsWritten, untold_in}
use Rattle.ua_c.specs.declared.holding.Holding.{Holding}
use Rattle.ua_c.specs.declared.holding.Machine.TheVariants as machine
use Rattle.ua_c.specs.declared.shared.SharedNodes.{SharedNodes}
use Rattle.ua_c.specs.declared.untold.ServedConnection.{ServedConnection}
use Rattle.ua_c.specs.declared.untold.ToldItem.{ToldItem}
use Rattle.ua_c.specs.declared.untold.Untold.{Untold}

-- what telling an item does with what two handles hold, where they hold a connection and nodes
pub tells_written : (old new nodes : Holding) (before after : List ℕ) (told : ToldItem) (served : ServedConnection) (shared : SharedNodes) (left : Untold)
    → old.machine ≡ machine.Connection served → nodes.machine ≡ machine.Nodes shared
    → new ≡ record { machine = machine.Connection (record { connection = served.connection; written = left }); waiting = old.waiting }
    → TellsNext shared (untold_in served.written) (untold_in left) before after told
    → TellsWritten old new nodes before after told
tells_written old new nodes before after told served shared left was_is shared_is new_is tells =
    subst (λ m. OfShared m nodes.machine (SaysNoItem before after told other_handle × (new ≡ old)) (λ c s. TellsHeld c s old new before after told))
    (sym was_is)
    (subst (λ m. OfNodes m (SaysNoItem before after told other_handle × (new ≡ old)) (λ s. TellsHeld served s old new before after told)) (sym shared_is)
    (record { left = left; new_is = new_is; tells = tells }))

-- what it does with a handle that holds this connection
pub tells_held : (old new nodes : Holding) (before after : List ℕ) (told : ToldItem) (served : ServedConnection) → old.machine ≡ machine.Connection served
    → TellsWritten (record { machine = machine.Connection served; waiting = old.waiting }) new nodes before after told
    → TellsWritten old new nodes before after told
tells_held old new nodes before after told served is tells =
    subst (λ m. TellsWritten (record { machine = m; waiting = old.waiting }) new nodes before after told) (sym is) tells

-- the same of what is lent
pub tells_lent : (lent old new shown nodes : Holding) (before after : List ℕ) (told : ToldItem) → lent ≡ old → shown ≡ nodes
    → TellsWritten lent new shown before after told → TellsWritten old new nodes before after told × (nodes ≡ nodes)
tells_lent lent old new shown nodes before after told is are tells =
    (subst (λ n. TellsWritten old new n before after told) are (subst (λ o. TellsWritten o new shown before after told) is tells), refl)

-- two handles that hold something
pub of_handles : (c d n m : Option Holding) (says : ℕ → Type 0) (P : Holding → Holding → Holding → Holding → Type 0) (old new before after : Holding)
    → c ≡ Some old → d ≡ Some new → n ≡ Some before → m ≡ Some after
    → P old new before after → OfHandles c d n m says P
of_handles c d n m says P old new before after ec ed en em p =
    subst (λ o. OfHandles o d n m says P) (sym ec)
    (subst (λ o. OfHandles (Some old) o n m says P) (sym ed)
    (subst (λ o. OfHandles (Some old) (Some new) o m says P) (sym en)
    (subst (λ o. OfHandles (Some old) (Some new) (Some before) o says P) (sym em) p)))

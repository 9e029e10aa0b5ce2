-- What a client does for C.
use Rattle.std.proofs.Common.{◌≡◌, ◌<◌, ℕ, List, [], length, Result, sym, subst}
use Rattle.std.specs.declared.alloc.Global.{Global}
use Rattle.std_alloc.specs.declared.vec.Vec.{Vec}
use Rattle.ua_builtin.specs.declared.date_time.DateTime.{DateTime}
use Rattle.ua_channel.specs.declared.client.channel.ClientChannel.{ClientChannel}
use Rattle.ua_channel.specs.declared.client.event.ClientEvent.{ClientEvent}
use Rattle.ua_channel.specs.declared.client.fault.AskFault.{AskFault}
use Rattle.ua_channel.specs.declared.client.fault.ClientTakeFault.{ClientTakeFault}
use Rattle.ua_c.specs.Asking.{AsksAs, AsksBody, AsksClient, AsksMachine, ClosesAs, ClosesHeldClient, ClosesMachine, HoldsClient, RenewsAs}
use Rattle.ua_c.specs.Asking.{RenewsClient, RenewsMachine, ShowsAsk, ShowsClose, ShowsTake, TakesAs, TakesClient, TakesMachine}
use Rattle.ua_c.specs.Handled.{OfClient, WhereNone}
use Rattle.ua_c.specs.declared.holding.Holding.{Holding}
use Rattle.ua_c.specs.declared.holding.Machine.TheVariants as machine
use Rattle.ua_c.specs.declared.told.Told.{Told}

-- an answer of a client's channel, of which C is told what it is
pub takes_client : (old : ClientChannel) (new : Holding) (piece : List ℕ) (moment : DateTime) (told : Told) (answer : Result (ℕ × ClientEvent) ClientTakeFault)
    (client : ClientChannel)
    → TakesAs old piece moment answer client → HoldsClient client new → ShowsTake answer told [] new.waiting → TakesClient old new piece moment told
takes_client old new piece moment told answer client takes holds shown =
    record { answer = answer; client = client; holds = holds; takes = takes; shown = shown }

-- the same of a call
pub asks_client : (old : ClientChannel) (new : Holding) (body : List ℕ) (status id : ℕ) (answer : Result (ℕ × Vec ℕ Global) AskFault) (client : ClientChannel)
    → AsksAs old body answer client → HoldsClient client new → ShowsAsk answer status id [] new.waiting → AsksClient old new body status id
asks_client old new body status id answer client asks holds shown = record { answer = answer; client = client; holds = holds; asks = asks; shown = shown }

-- the same of a renewal
pub renews_client : (old : ClientChannel) (new : Holding) (moment : DateTime) (status id : ℕ) (answer : Result (ℕ × Vec ℕ Global) AskFault)
    (client : ClientChannel)
    → RenewsAs old moment answer client → HoldsClient client new → ShowsAsk answer status id [] new.waiting → RenewsClient old new moment status id
renews_client old new moment status id answer client renews holds shown =
    record { answer = answer; client = client; holds = holds; renews = renews; shown = shown }

-- the same of a close
pub closes_client : (old : ClientChannel) (new : Holding) (moment : DateTime) (status : ℕ) (answer : Result (Vec ℕ Global) AskFault) (client : ClientChannel)
    → ClosesAs old moment answer client → HoldsClient client new → ShowsClose answer status [] new.waiting → ClosesHeldClient old new moment status
closes_client old new moment status answer client closes holds shown =
    record { answer = answer; client = client; holds = holds; closes = closes; shown = shown }

-- what a call of a client does with what a handle holds, where it holds a client and nothing waits
of_client : (old new : Holding) (says : ℕ → Type 0) (P : ClientChannel → Type 0) (before : ClientChannel) → old.machine ≡ machine.Client before
    → (0 < length old.waiting → ⊥)
    → (old.waiting ≡ [] → P before) → OfClient old.machine old new says (λ client. WhereNone old new says (P client))
of_client old new says P before is none does = subst (λ m. OfClient m old new says (λ client. WhereNone old new says (P client))) (sym is)
    ((λ some. absurd (none some)), does)

pub takes_machine : (old new : Holding) (piece : List ℕ) (moment : DateTime) (told : Told) (before client : ClientChannel)
    (answer : Result (ℕ × ClientEvent) ClientTakeFault)
    → old.machine ≡ machine.Client before → (0 < length old.waiting → ⊥) → TakesAs before piece moment answer client → HoldsClient client new
    → ShowsTake answer told old.waiting new.waiting → TakesMachine old new piece moment told
takes_machine old new piece moment told before client answer is none takes holds shown =
    of_client old new _ (λ x. TakesClient x new piece moment told) before is none
    (λ e. takes_client before new piece moment told answer client takes holds (subst (λ w. ShowsTake answer told w new.waiting) e shown))

pub asks_machine : (old new : Holding) (body : List ℕ) (status id : ℕ) (before client : ClientChannel) (answer : Result (ℕ × Vec ℕ Global) AskFault)
    → old.machine ≡ machine.Client before → (0 < length old.waiting → ⊥) → (length body ≡ 0 → ⊥) → AsksAs before body answer client → HoldsClient client new
    → ShowsAsk answer status id old.waiting new.waiting → AsksMachine old new body status id
asks_machine old new body status id before client answer is none some asks holds shown =
    of_client old new _ (λ x. AsksBody x old new body status id) before is none (λ e. (
      (λ no. absurd (some no)),
      (λ _. asks_client before new body status id answer client asks holds (subst (λ w. ShowsAsk answer status id w new.waiting) e shown)),
    ))

pub renews_machine : (old new : Holding) (moment : DateTime) (status id : ℕ) (before client : ClientChannel) (answer : Result (ℕ × Vec ℕ Global) AskFault)
    → old.machine ≡ machine.Client before → (0 < length old.waiting → ⊥) → RenewsAs before moment answer client → HoldsClient client new
    → ShowsAsk answer status id old.waiting new.waiting → RenewsMachine old new moment status id
renews_machine old new moment status id before client answer is none renews holds shown =
    of_client old new _ (λ x. RenewsClient x new moment status id) before is none
    (λ e. renews_client before new moment status id answer client renews holds (subst (λ w. ShowsAsk answer status id w new.waiting) e shown))

pub closes_machine : (old new : Holding) (moment : DateTime) (status : ℕ) (before client : ClientChannel) (answer : Result (Vec ℕ Global) AskFault)
    → old.machine ≡ machine.Client before → (0 < length old.waiting → ⊥) → ClosesAs before moment answer client → HoldsClient client new
    → ShowsClose answer status old.waiting new.waiting → ClosesMachine old new moment status
closes_machine old new moment status before client answer is none closes holds shown =
    of_client old new _ (λ x. ClosesHeldClient x new moment status) before is none
    (λ e. closes_client before new moment status answer client closes holds (subst (λ w. ShowsClose answer status w new.waiting) e shown))

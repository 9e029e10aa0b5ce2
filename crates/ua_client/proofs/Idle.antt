-- A channel that stands at a settled place is idle wherever it stands.
use Rattle.std.specs.Prelude.{◌≡◌, ℕ, ◌≤◌, List, [], ◌∷◌, length}
use Rattle.std.proofs.Common.{refl, sym, ◌∙◌, ap, arith}
use Rattle.std.proofs.Math.Logic.{∥∥₁_elim}
use Rattle.std.specs.Coded.{coded_list, coded_ℕ}
use base.Stored.{Coded-set}
use mathlib.Core.HLevel.{⊥_prop}
use Rattle.ua_frame.specs.declared.limits.Limits.{Limits}
use Rattle.ua_channel.specs.Asks.{Asking, asked_in, pending_calls, pending_renewals, renewals}
use Rattle.ua_channel.specs.Client.{InPhase, IsNotOpen, client_limits, phase_of}
use Rattle.ua_channel.specs.ClientTokens.{opened_ids}
use Rattle.ua_channel.specs.Received.{Received, received}
use Rattle.ua_channel.specs.declared.client.channel.ClientChannel.{ClientChannel}
use Rattle.ua_channel.specs.declared.client.phase.Phase.{Phase}
use Rattle.ua_channel.specs.declared.client.phase.Phase.TheVariants as phase
use Rattle.ua_client.specs.Renewing.{IsIdle, IsSettled, StandsSettled}
use Rattle.ua_client.specs.ClientPlace.{ClientPlace, StandsAt}
use Rattle.ua_client.proofs.Hearsay.{TellsDelivered}
use Rattle.ua_client.proofs.Renewals.{tokens-answer, tokens-told}
use Rattle.ua_client.proofs.Settled.{is-open, none-pending, phase-there}

-- the law that a channel which stands at a settled place is idle wherever it stands
abbrev pub IdleStanding : Type 0
IdleStanding = (x : ClientChannel) (s : ClientPlace) → StandsSettled x → StandsAt x s → IsIdle x s

-- ---- what is pending is the same wherever a channel stands

same-calls : (limits : Limits) (p : Phase) (a b : Received) (xs ys : List Asking) → (IsNotOpen p → ⊥) → InPhase limits p a xs → InPhase limits p b ys
    → pending_calls a.messages xs ≡ [] → pending_calls b.messages ys ≡ []
same-calls limits phase.Waiting a b xs ys some h k none = absurd (some tt)
same-calls limits (phase.Agreed ack) a b xs ys some h k none = absurd (some tt)
same-calls limits (phase.Open t) a b xs ys some h k none = sym k.pending_are ∙ (h.pending_are ∙ none)
same-calls limits phase.Done a b xs ys some h k none = absurd (some tt)

same-renewals : (limits : Limits) (p : Phase) (a b : Received) (xs ys : List Asking) → (IsNotOpen p → ⊥) → InPhase limits p a xs → InPhase limits p b ys
    → pending_renewals (opened_ids a.openings) xs ≡ [] → pending_renewals (opened_ids b.openings) ys ≡ []
same-renewals limits phase.Waiting a b xs ys some h k none = absurd (some tt)
same-renewals limits (phase.Agreed ack) a b xs ys some h k none = absurd (some tt)
same-renewals limits (phase.Open t) a b xs ys some h k none = sym k.renewal_is ∙ (h.renewal_is ∙ none)
same-renewals limits phase.Done a b xs ys some h k none = absurd (some tt)

-- ---- at a settled place

no-length : (ids : List ℕ) → length ids ≤ 0 → ids ≡ []
no-length [] h = refl
no-length (id ∷ ids) h = absurd (omega (arith, h))

none-renewing : (x : ClientChannel) (s : ClientPlace) → StandsAt x s → IsSettled s → pending_renewals (opened_ids s.before.openings) (asked_in s.asks) ≡ []
none-renewing x s at settled =
    let few = tokens-answer (client_limits x) s.asks at.goes.frames at.goes.stands.run.good in
    let all : length (renewals (asked_in s.asks)) ≤ tokens-told s.told = settled.renewed in
    let told = ap tokens-told at.goes.told_is in
    ap (λ (b : Received). pending_renewals (opened_ids b.openings) (asked_in s.asks)) (sym at.before_is)
    ∙ no-length (pending_renewals (opened_ids (received at.goes.frames).openings) (asked_in s.asks)) (omega (arith, few, all, told))

-- ---- and wherever it stands

module _ (tells : TellsDelivered) (x : ClientChannel) (t : ClientPlace) (stands : StandsSettled x) (there : StandsAt x t) where
  is-open-standing : IsNotOpen (phase_of x) → ⊥
  is-open-standing n = ∥∥₁_elim stands ⊥_prop (λ (w : (s : ClientPlace) × StandsAt x s × IsSettled s). is-open x w.0 w.1 w.2 n)

  pub idle-standing : IsIdle x t
  idle-standing = record {
    opened = is-open-standing;
    calls_answered = ∥∥₁_elim stands (Coded-set (coded_list coded_ℕ) _ _) (λ (w : (s : ClientPlace) × StandsAt x s × IsSettled s).
        same-calls (client_limits x) (phase_of x) w.0.before t.before (asked_in w.0.asks) (asked_in t.asks) is-open-standing (phase-there x w.0 w.1)
        (phase-there x t there) (none-pending x w.0 w.1 w.2 tells));
    renewals_answered = ∥∥₁_elim stands (Coded-set (coded_list coded_ℕ) _ _) (λ (w : (s : ClientPlace) × StandsAt x s × IsSettled s).
        same-renewals (client_limits x) (phase_of x) w.0.before t.before (asked_in w.0.asks) (asked_in t.asks) is-open-standing (phase-there x w.0 w.1)
        (phase-there x t there) (none-renewing x w.0 w.1 w.2));
  }

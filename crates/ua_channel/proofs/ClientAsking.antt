-- What a client's channel that is open answers when it is asked, and where it then stands.
use Rattle.std.proofs.Common.{◌≡◌, ℕ, ◌<◌, ◌+◌, List, [], ◌∷◌, ◌++◌, Bool, true, false, Option, Some}
use Rattle.std.proofs.Common.{None, length, refl, sym, ◌∙◌, ap, subst, arith, leb, length-append}
use Rattle.std.specs.List.{AllByRecursion}
use Rattle.ua_chunk.specs.declared.chunk.Chunk.{Chunk}
use Rattle.ua_frame.specs.declared.limits.Limits.{Limits}
use Rattle.ua_channel.specs.Asks.{Asking, id_of, next_id}
use Rattle.ua_channel.specs.Asks.Asking.{Call, Renewal}
use Rattle.std.specs.Prelude.{is_some}
use Rattle.ua_builtin.specs.Reasons.{first_reason}
use Rattle.ua_channel.specs.ClientAsks.{Talks, renew_reasons}
use Rattle.ua_channel.specs.inside.ClientAsking.{AsBefore, more_reasons}
use Rattle.ua_channel.specs.declared.client.fault.AskFault.TheVariants.{TooManyPending, Exhausted, RenewPending, TooManyTokens}
use Rattle.ua_channel.specs.ClientTokens.{opened_ids}
use Rattle.ua_channel.specs.Received.{Received, listed}
use Rattle.ua_channel.specs.declared.client.talking.Talking.{Talking}
use Rattle.ua_channel.proofs.Askings.{counted_more, pending_calls-call, pending_calls-renewal}
use Rattle.ua_channel.proofs.Askings.{pending_renewals-call, pending_renewals-renewal, all-push, all-weaken}

-- ---- one call more

next_more : (asked : List Asking) (a : Asking) (n : ℕ) → n ≡ next_id asked → n + 1 ≡ next_id (asked ++ a ∷ [])
next_more asked a n is = omega (arith, is, length-append asked (a ∷ []))

below_more : {X : Type 0} (id : X → ℕ) (n : ℕ) (xs : List X) → AllByRecursion (λ (x : X). id x < n) xs → AllByRecursion (λ (x : X). id x < n + 1) xs
below_more {X = X} id n xs all = all-weaken (λ (x : X). id x < n) (λ (x : X). id x < n + 1) xs (λ x less. omega (arith, less)) all

pub talks_call : (limits : Limits) (t new : Talking) (before : Received) (asked : List Asking) → Talks limits t before asked
    → new ≡ record t { pending = new.pending; next = t.next + 1 }
    → new.pending.items ≡ t.pending.items ++ t.next ∷ [] → length t.pending.items < 64 → Talks limits new before (asked ++ Call t.next ∷ [])
talks_call limits t new before asked h is pending few =
    subst (λ (u : Talking). Talks limits u before (asked ++ Call t.next ∷ [])) (sym is) (record {
      ack_is = h.ack_is;
      channel_is = h.channel_is;
      tokens_are = h.tokens_are;
      newest_is = h.newest_is;
      pending_are = pending ∙ (ap (λ (ids : List ℕ). ids ++ t.next ∷ []) h.pending_are ∙ sym (pending_calls-call before.messages asked t.next h.sent_below));
      few_pending = omega (arith, ap length pending, length-append t.pending.items (t.next ∷ []), few);
      renewal_is = h.renewal_is ∙ sym (pending_renewals-call (opened_ids before.openings) asked t.next);
      next_is = next_more asked (Call t.next) t.next h.next_is;
      asked_below = all-push (λ (a : Asking). id_of a < t.next + 1) asked (Call t.next) (below_more id_of t.next asked h.asked_below) (omega arith);
      counted = counted_more asked (Call t.next) h.counted h.next_is;
      sent_below = below_more (λ (c : Chunk). c.request) t.next before.messages h.sent_below;
      opened_below = below_more (λ (id : ℕ). id) t.next (opened_ids before.openings) h.opened_below;
      last_is = h.last_is;
      assembles = h.assembles;
      octets = h.octets;
      chunks = h.chunks;
    })

pub talks_renewal : (limits : Limits) (t new : Talking) (before : Received) (asked : List Asking) → Talks limits t before asked
    → new ≡ record t { renewal = Some t.next; next = t.next + 1 } → t.renewal ≡ None
    → Talks limits new before (asked ++ Renewal t.next ∷ [])
talks_renewal limits t new before asked h is none =
    subst (λ (u : Talking). Talks limits u before (asked ++ Renewal t.next ∷ [])) (sym is) (record {
      ack_is = h.ack_is;
      channel_is = h.channel_is;
      tokens_are = h.tokens_are;
      newest_is = h.newest_is;
      pending_are = h.pending_are ∙ sym (pending_calls-renewal before.messages asked t.next);
      few_pending = h.few_pending;
      renewal_is =
          ap (λ (ids : List ℕ). ids ++ t.next ∷ []) (sym (ap listed none) ∙ h.renewal_is)
          ∙ sym (pending_renewals-renewal (opened_ids before.openings) asked t.next h.opened_below);
      next_is = next_more asked (Renewal t.next) t.next h.next_is;
      asked_below = all-push (λ (a : Asking). id_of a < t.next + 1) asked (Renewal t.next) (below_more id_of t.next asked h.asked_below) (omega arith);
      counted = counted_more asked (Renewal t.next) h.counted h.next_is;
      sent_below = below_more (λ (c : Chunk). c.request) t.next before.messages h.sent_below;
      opened_below = below_more (λ (id : ℕ). id) t.next (opened_ids before.openings) h.opened_below;
      last_is = h.last_is;
      assembles = h.assembles;
      octets = h.octets;
      chunks = h.chunks;
    })

-- nothing but the room of the list of pending calls changed
pub talks_as_before : (limits : Limits) (t new : Talking) (before : Received) (asked : List Asking) → Talks limits t before asked → AsBefore t new
    → Talks limits new before asked
talks_as_before limits t new before asked h same =
    subst (λ (u : Talking). Talks limits u before asked) (sym same.rest) (record {
      ack_is = h.ack_is;
      channel_is = h.channel_is;
      tokens_are = h.tokens_are;
      newest_is = h.newest_is;
      pending_are = same.pending ∙ h.pending_are;
      few_pending = omega (arith, ap length same.pending, h.few_pending);
      renewal_is = h.renewal_is;
      next_is = h.next_is;
      asked_below = h.asked_below;
      counted = h.counted;
      sent_below = h.sent_below;
      opened_below = h.opened_below;
      last_is = h.last_is;
      assembles = h.assembles;
      octets = h.octets;
      chunks = h.chunks;
    })

-- ---- why nothing is asked

pub first_unset : {A : Type 0} (a : A) (b : Bool) (rs : List (A × Bool)) → first_reason ((a, b) ∷ rs) ≡ None → b ≡ false
first_unset a true rs e = absurd cc
first_unset a false rs e = refl

pub few_calls : (t : Talking) → first_reason (more_reasons t 0) ≡ None → length t.pending.items < 64
few_calls t e =
    let few : leb 64 (length t.pending.items + 0) ≡ false = first_unset TooManyPending (leb 64 (length t.pending.items + 0))
    ((Exhausted, leb 4294967295 (t.next + 0)) ∷ []) e in
    grind (few, arith)

none_by : {A : Type 0} (o : Option A) → is_some o ≡ false → o ≡ None
none_by None e = refl
none_by (Some a) e = absurd cc

pub no_renewal : (t : Talking) → first_reason (renew_reasons t) ≡ None → t.renewal ≡ None
no_renewal t e =
    none_by t.renewal (first_unset RenewPending (is_some t.renewal) ((TooManyTokens, leb 16 (length t.tokens.items)) ∷ (Exhausted, leb 4294967295 t.next) ∷ [])
    e)

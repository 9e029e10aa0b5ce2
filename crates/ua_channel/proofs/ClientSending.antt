-- What a client sends when it is asked, and why it sends nothing.
use Rattle.std.proofs.Common.{◌≡◌, ℕ, ◌+◌, ◌↔◌, List, [], ◌∷◌, Bool, true, false, Option, Some, None, Result, Ok, Err, length, refl, sym, ◌∙◌, ap}
use Rattle.std.specs.Prelude.{is_none, is_some, MatchOption}
use Rattle.ua_builtin.specs.Reasons.{first_reason}
use Rattle.ua_builtin.specs.declared.date_time.DateTime.{DateTime}
use Rattle.ua_frame.specs.declared.ack.Ack.{Ack}
use Rattle.ua_frame.specs.declared.frame.Frame.{Frame}
use Rattle.ua_frame.specs.declared.limits.Limits.{Limits}
use Rattle.ua_opening.specs.declared.secure_channel.OpenResponse.{OpenResponse}
use Rattle.ua_channel.specs.Asks.{Asking, Placed, asked_in, next_id, pending_calls, pending_renewals}
use Rattle.ua_channel.specs.Client.{InPhase, IsCall, IsNotOpen, IsRenewal, ClientStands, ask_refusal}
use Rattle.ua_channel.specs.Client.{close_refusal, client_limits, phase_of, refusal_in, renew_refusal, talking_in}
use Rattle.ua_channel.specs.ClientAsks.{Calls, IsCalled, IsRenewalWith, JudgesBy, AsksRenewal, Talks, ask_reasons, call_reasons}
use Rattle.ua_channel.specs.ClientAsks.{closing_reasons, has_no_channel, is_too_large, reasons_of_call, reasons_of_renewal, renew_reasons, renewing_reasons}
use Rattle.ua_channel.specs.ClientTable.{of_ack}
use Rattle.ua_channel.specs.ClientTokens.{first_channel, held_tokens, opened_ids, open_responses}
use Rattle.ua_channel.specs.Received.{Received, has_some, listed, received}
use Rattle.ua_channel.specs.declared.client.channel.ClientChannel.{ClientChannel}
use Rattle.ua_channel.specs.declared.client.fault.AskFault.{AskFault}
use Rattle.ua_channel.specs.declared.client.fault.AskFault.TheVariants.{NotOpen}
use Rattle.ua_channel.specs.declared.client.phase.Phase.{Phase}
use Rattle.ua_channel.specs.declared.client.phase.Phase.TheVariants.{Waiting, Agreed, Open, Done}
use Rattle.ua_channel.specs.declared.client.talking.Talking.{Talking}
use Rattle.ua_channel.proofs.ClientStands.{talks_at}
use Rattle.ua_channel.proofs.ClientTalks.{no_responses}

-- ---- the first of several reasons

first_set : {A : Type 0} (a : A) (b : Bool) (rs : List (A × Bool)) → b ≡ true → first_reason ((a, b) ∷ rs) ≡ Some a
first_set a true rs e = refl
first_set a false rs e = absurd cc

pub first_skip : {A : Type 0} (a : A) (b : Bool) (rs : List (A × Bool)) → b ≡ false → first_reason ((a, b) ∷ rs) ≡ first_reason rs
first_skip a true rs e = absurd cc
first_skip a false rs e = refl

some_listed : (o : Option ℕ) → is_some o ≡ has_some (listed o)
some_listed None = refl
some_listed (Some n) = refl

-- ---- by what was received and asked

module _ (limits : Limits) (before : Received) (asked : List Asking) where
  -- what an open channel sends
  open_sends : (p : Phase) (P : Talking → Type 0) → InPhase limits p before asked → MatchOption (talking_in p) ⊥ P → (t : Talking) × Talks limits t before asked
      × P t
  open_sends Waiting P h c = absurd c
  open_sends (Agreed a) P h c = absurd c
  open_sends (Open t) P h c = (t, h, c)
  open_sends Done P h c = absurd c

  pub call_sent : (p : Phase) (number : ℕ) (body : List ℕ) (id : ℕ) (out : List ℕ) (next : ℕ) → InPhase limits p before asked → IsCall p number body id out next
      → IsCalled before asked number body id out next
  call_sent p number body id out next h c =
      let o = open_sends p (λ (t : Talking). Calls t number body id out next) h c in
      record {
        ack = o.0.agreed.ack;
        channel = o.0.channel;
        newest = o.0.newest;
        is_open = record { ack_is = o.1.ack_is; channel_is = o.1.channel_is; newest_is = o.1.newest_is };
        id_is = o.2.id_is ∙ o.1.next_is;
        out_is = o.2.out_is;
        next_is = o.2.next_is;
      }

  pub renewal_sent : (p : Phase) (number : ℕ) (moment : DateTime) (id : ℕ) (out : List ℕ) (next : ℕ) → InPhase limits p before asked
      → IsRenewal p number moment id out next
      → IsRenewalWith before asked number moment id out next
  renewal_sent p number moment id out next h c =
      let o = open_sends p (λ (t : Talking). AsksRenewal t number moment id out next) h c in
      record { channel = o.0.channel; channel_is = o.1.channel_is; id_is = o.2.id_is ∙ o.1.next_is; out_is = o.2.out_is; next_is = o.2.next_is }

  -- why nothing is sent: by what runs, and by what was received and asked
  shut_there : (reasons : List (AskFault × Bool)) → open_responses before.openings ≡ []
      → Some NotOpen ≡ first_reason ((NotOpen, has_no_channel before) ∷ reasons)
  shut_there reasons none = sym (first_set NotOpen (has_no_channel before) reasons (ap (λ (rs : List OpenResponse). is_none (first_channel rs)) none))

  judged_by : (p : Phase) (kept : Talking → List (AskFault × Bool)) (reasons : List (AskFault × Bool)) → InPhase limits p before asked
      → ((t : Talking) → Talks limits t before asked → first_reason (kept t) ≡ first_reason reasons)
      → refusal_in (talking_in p) kept ≡ first_reason ((NotOpen, has_no_channel before) ∷ reasons)
  judged_by Waiting kept reasons h same = shut_there reasons (ap (λ (b : Received). open_responses b.openings) h.0 ∙ no_responses)
  judged_by (Agreed a) kept reasons h same = shut_there reasons (ap (λ (b : Received). open_responses b.openings) h.0 ∙ no_responses)
  judged_by (Open t) kept reasons h same = same t h ∙ sym (first_skip NotOpen (has_no_channel before) reasons (ap is_none h.channel_is))
  judged_by Done kept reasons h same = absurd h

  pub call_judged : (p : Phase) (more : ℕ) (body : List ℕ) → InPhase limits p before asked
      → ask_refusal p more body ≡ first_reason (call_reasons before asked more body)
  call_judged p more body h =
      judged_by p (λ (t : Talking). ask_reasons t more body) (reasons_of_call (length (pending_calls before.messages asked) + more) (next_id asked + more)
      (of_ack (λ (a : Ack). is_too_large a body) before.ack)) h
      (λ t k.
      ap (λ (n : ℕ). first_reason (reasons_of_call (n + more) (t.next + more) (is_too_large t.agreed.ack body))) (ap length k.pending_are)
      ∙ (ap (λ (n : ℕ). first_reason (reasons_of_call (length (pending_calls before.messages asked) + more) (n + more) (is_too_large t.agreed.ack body)))
      k.next_is
      ∙ ap (λ (b : Bool). first_reason (reasons_of_call (length (pending_calls before.messages asked) + more) (next_id asked + more) b))
      (sym (ap (of_ack (λ (a : Ack). is_too_large a body)) k.ack_is))))

  pub renewal_judged : (p : Phase) → InPhase limits p before asked → renew_refusal p ≡ first_reason (renewing_reasons before asked)
  renewal_judged p h =
      judged_by p renew_reasons (reasons_of_renewal (has_some (pending_renewals (opened_ids before.openings) asked)) (length (held_tokens before))
      (next_id asked)) h
      (λ t k.
      ap (λ (b : Bool). first_reason (reasons_of_renewal b (length t.tokens.items) t.next)) (some_listed t.renewal ∙ ap has_some k.renewal_is)
      ∙ (ap (λ (n : ℕ). first_reason (reasons_of_renewal (has_some (pending_renewals (opened_ids before.openings) asked)) n t.next)) (ap length k.tokens_are)
      ∙ ap (λ (n : ℕ). first_reason (reasons_of_renewal (has_some (pending_renewals (opened_ids before.openings) asked)) (length (held_tokens before)) n))
      k.next_is))

  pub close_judged : (p : Phase) → InPhase limits p before asked → close_refusal p ≡ first_reason (closing_reasons before)
  close_judged p h = judged_by p (λ (t : Talking). []) [] h (λ t k. refl)

-- ---- where no channel is open

nothing_asked : (p : Phase) (reasons : Talking → List (AskFault × Bool)) → IsNotOpen p → refusal_in (talking_in p) reasons ≡ Some NotOpen
nothing_asked Waiting reasons n = refl
nothing_asked (Agreed a) reasons n = refl
nothing_asked (Open t) reasons n = absurd n
nothing_asked Done reasons n = refl

pub asks_nothing : (p : Phase) (more : ℕ) (body : List ℕ) → IsNotOpen p → ask_refusal p more body ≡ Some NotOpen
asks_nothing p more body n = nothing_asked p (λ (t : Talking). ask_reasons t more body) n

pub renews_nothing : (p : Phase) → IsNotOpen p → renew_refusal p ≡ Some NotOpen
renews_nothing p n = nothing_asked p renew_reasons n

none_reasons : (p : Phase) → close_refusal p ≡ Some NotOpen → IsNotOpen p
none_reasons Waiting e = tt
none_reasons (Agreed a) e = tt
none_reasons (Open t) e = absurd cc
none_reasons Done e = tt

pub closes_nothing : (p : Phase) → IsNotOpen p ↔ (close_refusal p ≡ Some NotOpen)
closes_nothing p = (nothing_asked p (λ (t : Talking). []), none_reasons p)

-- ---- what the calls of a channel answer

none_open : (p : Phase) → ((t : Talking) → p ≡ Open t → ⊥) → IsNotOpen p
none_open Waiting shut = tt
none_open (Agreed a) shut = tt
none_open (Open t) shut = shut t refl
none_open Done shut = tt

module _ (x : ClientChannel) (asks : List Placed) (octets : List ℕ) (frames : List Frame) (rest : List ℕ) (s : ClientStands x asks octets frames rest) where
  -- where no channel is open
  module _ (shut : (t : Talking) → phase_of x ≡ Open t → ⊥) where
    pub call_closed : (more : ℕ) (body : List ℕ) → first_reason (call_reasons (received frames) (asked_in asks) more body) ≡ Some NotOpen
    call_closed more body = sym (call_judged (client_limits x) (received frames) (asked_in asks) (phase_of x) more body s.phase_is)
        ∙ asks_nothing (phase_of x) more body (none_open (phase_of x) shut)

    pub renewal_closed : first_reason (renewing_reasons (received frames) (asked_in asks)) ≡ Some NotOpen
    renewal_closed = sym (renewal_judged (client_limits x) (received frames) (asked_in asks) (phase_of x) s.phase_is)
        ∙ renews_nothing (phase_of x) (none_open (phase_of x) shut)

    pub close_closed : first_reason (closing_reasons (received frames)) ≡ Some NotOpen
    close_closed = sym (close_judged (client_limits x) (received frames) (asked_in asks) (phase_of x) s.phase_is)
        ∙ (closes_nothing (phase_of x)).0 (none_open (phase_of x) shut)

  -- where one is
  module _ (t : Talking) (is : phase_of x ≡ Open t) where
    at_open : Talks (client_limits x) t (received frames) (asked_in asks)
    at_open = talks_at x x t t asks octets frames rest is s

    pub call_at : (more : ℕ) (body : List ℕ) → first_reason (ask_reasons t more body) ≡ first_reason (call_reasons (received frames) (asked_in asks) more body)
    call_at more body = call_judged (client_limits x) (received frames) (asked_in asks) (Open t) more body at_open

    pub called_at : (number : ℕ) (body : List ℕ) (id : ℕ) (out : List ℕ) (next : ℕ) → Calls t number body id out next
        → IsCalled (received frames) (asked_in asks) number body id out next
    called_at number body id out next c = call_sent (client_limits x) (received frames) (asked_in asks) (Open t) number body id out next at_open c

    pub renewal_at : first_reason (renew_reasons t) ≡ first_reason (renewing_reasons (received frames) (asked_in asks))
    renewal_at = renewal_judged (client_limits x) (received frames) (asked_in asks) (Open t) at_open

    pub renewed_at : (number : ℕ) (moment : DateTime) (id : ℕ) (out : List ℕ) (next : ℕ) → AsksRenewal t number moment id out next
        → IsRenewalWith (received frames) (asked_in asks) number moment id out next
    renewed_at number moment id out next c = renewal_sent (client_limits x) (received frames) (asked_in asks) (Open t) number moment id out next at_open c

-- what is judged of a length, for another reason that is the same
pub judges_as : (f g : List ℕ → Option AskFault) (len : ℕ) (r : Result (Unit {0}) AskFault) → ((body : List ℕ) → f body ≡ g body) → JudgesBy f len r
    → JudgesBy g len r
judges_as f g len (Ok found) same j = λ body is. sym (same body) ∙ j body is
judges_as f g len (Err fault) same j = λ body is. sym (same body) ∙ j body is

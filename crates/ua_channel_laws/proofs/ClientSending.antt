-- What a client sends between two messages, and behind calls more, by what it received and asked.
use Rattle.std.proofs.Common.{◌≡◌, ℕ, ◌+◌, List, [], ◌∷◌, ◌++◌, false, length, refl, ◌∙◌, ap, subst, arith}
use Rattle.std.specs.Prelude.{is_none}
use Rattle.ua_builtin.specs.Reasons.{first_reason}
use Rattle.ua_frame.specs.declared.frame.Frame.{Frame}
use Rattle.ua_frame.specs.Run.{Going}
use Rattle.ua_frame.proofs.Unique.{unique}
use Rattle.ua_channel.specs.Asks.{Placed, asked_in, next_id, pending_renewals}
use Rattle.ua_channel.specs.Client.{InPhase, ClientStands, client_limits, client_rules_of, phase_of, renew_refusal}
use Rattle.ua_channel.specs.ClientAsks.{has_no_channel, reasons_of_renewal, renewing_reasons}
use Rattle.ua_channel_laws.specs.ClientReads.{AtClient, ClientReads}
use Rattle.ua_channel.specs.ClientTokens.{held_tokens, opened_ids}
use Rattle.ua_channel.specs.ClientTold.{ClientTold}
use Rattle.ua_channel_laws.specs.Outgoing.{asks_at, Outgoing}
use Rattle.ua_channel.specs.Received.{Received, has_some, received}
use Rattle.ua_channel.specs.declared.client.channel.ClientChannel.{ClientChannel}
use Rattle.ua_channel.specs.declared.client.fault.AskFault.TheVariants.{NotOpen}
use Rattle.ua_channel.proofs.Askings.{next-append}
use Rattle.ua_channel.proofs.ClientSending.{first_skip, renewal_judged}

-- ---- with calls more

length-asks : (place id : ℕ) (os : List Outgoing) → length (asks_at place id os) ≡ length os
length-asks place id [] = refl
length-asks place id (o ∷ os) = omega (arith, length-asks place (id + 1) os)

pub next-asks : (asks : List Placed) (place id : ℕ) (os : List Outgoing) → next_id (asked_in (asks ++ asks_at place id os)) ≡ next_id (asked_in asks)
    + length os
next-asks asks place id os = omega (arith, next-append asks (asks_at place id os), length-asks place id os)

-- ---- between two messages

module _ (x : ClientChannel) (asks : List Placed) (octets : List ℕ) (frames : List Frame) (rest : List ℕ) (told : List ClientTold) (at : AtClient)
    (s : ClientStands x asks octets frames rest) (r : ClientReads (client_limits x) asks octets told at) where
  abbrev before : Received
  before = received r.frames

  in_phase : InPhase (client_limits x) (phase_of x) before (asked_in asks)
  in_phase = subst (λ (fs : List Frame). InPhase (client_limits x) (phase_of x) (received fs) (asked_in asks))
      (unique (client_rules_of x asks) octets frames r.frames rest [] Going Going s.run r.run).frames s.phase_is

  there : has_no_channel before ≡ false
  there = ap is_none r.channel_is

  same_renew_reasons : first_reason (renewing_reasons before (asked_in asks))
      ≡ first_reason (reasons_of_renewal (has_some at.renewals) (length at.tokens) (next_id (asked_in asks)))
  same_renew_reasons =
      first_skip NotOpen (has_no_channel (received r.frames))
      (reasons_of_renewal (has_some (pending_renewals (opened_ids (received r.frames).openings) (asked_in asks))) (length (held_tokens (received r.frames)))
      (next_id (asked_in asks))) there
      ∙ (rw (r.renewals_are, r.tokens_are))

  pub refuses_renewal : renew_refusal (phase_of x) ≡ first_reason (reasons_of_renewal (has_some at.renewals) (length at.tokens) (next_id (asked_in asks)))
  refuses_renewal = renewal_judged (client_limits x) before (asked_in asks) (phase_of x) in_phase ∙ same_renew_reasons

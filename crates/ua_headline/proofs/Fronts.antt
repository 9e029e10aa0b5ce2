-- That the first turns are accepted where all are, and that what is sent of them, and what that tells, is the first of all.
use Rattle.std.proofs.Common.{◌≡◌, ℕ, ◌+◌, List, [], ◌∷◌, ◌++◌, Option, Some, None, refl, sym, ◌∙◌, ap, subst, append_assoc, append-nil}
use Rattle.std.specs.List.{AllByRecursion}
use Rattle.ua_builtin.specs.Reasons.{first_reason, or_else}
use Rattle.ua_builtin.specs.declared.date_time.DateTime.{DateTime}
use Rattle.ua_chunk.specs.declared.lane.Lane.{Lane}
use Rattle.ua_channel.specs.declared.client.fault.AskFault.{AskFault}
use Rattle.ua_channel_laws.specs.ClientReads.{AtClient, lane_from}
use Rattle.ua_channel_laws.specs.Outgoing.{AreWritable, CanBeWritten, Outgoing, client_past, number_past}
use Rattle.ua_channel_laws.specs.Outgoing.{one_octets, one_reasons, outgoing_octets, outgoing_refusal}
use Rattle.ua_channel_laws.specs.Rounds.{BothEnds, round_behind, rounds_up}
use Rattle.ua_server.specs.State.{State}
use Rattle.ua_headline.specs.Talk.{AreRoundsAccepted, AreFirstOf, Ends, IsPrefix, left_by, rounds_from}
use Rattle.ua_headline.proofs.Turning.{turn}
use Rattle.ua_channel_laws.proofs.Groups.{or_none}

-- ---- lists

pub prefix_of_prefix : {A : Type 0} (xs ys zs : List A) → IsPrefix xs ys → IsPrefix ys zs → IsPrefix xs zs
prefix_of_prefix {A = A} xs ys zs p q = (p.0 ++ q.0, q.1 ∙ (ap (λ (l : List A). l ++ q.0) p.1 ∙ append_assoc xs p.0 q.0))

pub behind_both : {A : Type 0} (xs ys zs : List A) → IsPrefix ys zs → IsPrefix (xs ++ ys) (xs ++ zs)
behind_both {A = A} xs ys zs p = (p.0, ap (λ (l : List A). xs ++ l) p.1 ∙ sym (append_assoc xs ys p.0))

all_first : {A : Type 0} (P : A → Type 0) (xs ys : List A) → AllByRecursion P (xs ++ ys) → AllByRecursion P xs
all_first P [] ys h = tt
all_first P (x ∷ xs) ys h = (h.0, all_first P xs ys h.1)

-- ---- the first of a turn

first_judged : (c : AtClient) (id : ℕ) (os more : List Outgoing) → outgoing_refusal c id (os ++ more) ≡ None → outgoing_refusal c id os ≡ None
first_judged c id [] more h = refl
first_judged c id (o ∷ os) more h =
    let parts = or_none (first_reason (one_reasons c id o)) (outgoing_refusal (client_past c id o) (id + 1) (os ++ more)) h in
    ap (λ (r : Option AskFault). or_else r (outgoing_refusal (client_past c id o) (id + 1) os)) parts.0
    ∙ first_judged (client_past c id o) (id + 1) os more parts.1

octets_first : (lane : Option Lane) (n id : ℕ) (os more : List Outgoing) → IsPrefix (outgoing_octets lane n id os) (outgoing_octets lane n id (os ++ more))
octets_first lane n id [] more = (outgoing_octets lane n id more, refl)
octets_first lane n id (o ∷ os) more = behind_both (one_octets lane n id o) (outgoing_octets lane (number_past lane n o) (id + 1) os)
    (outgoing_octets lane (number_past lane n o) (id + 1) (os ++ more)) (octets_first lane (number_past lane n o) (id + 1) os more)

-- ---- the first turns

module _ (e : Ends) where
  pub accepted_first : (at : BothEnds) (s : State) (times : List DateTime) (first turns : List (List Outgoing)) → AreFirstOf first turns
      → AreRoundsAccepted e at (rounds_from e at s times turns) → AreRoundsAccepted e at (rounds_from e at s times first)
  accepted_first at s times [] turns f h = tt
  accepted_first at s times (os ∷ []) [] f h = absurd f
  accepted_first at s times (os ∷ (next ∷ first)) [] f h = absurd f
  accepted_first at s times (os ∷ []) (us ∷ turns) f h = (
    (
      all_first CanBeWritten os f.0 (subst AreWritable f.1 h.0.0),
      first_judged at.client at.id os f.0 (subst (λ (l : List Outgoing). outgoing_refusal at.client at.id l ≡ None) f.1 h.0.1),
    ),
    tt,
  )
  accepted_first at s times (os ∷ (next ∷ first)) (us ∷ turns) f h =
      let same : AreRoundsAccepted e at (rounds_from e at s times (os ∷ turns)) =
      subst (λ (l : List Outgoing). AreRoundsAccepted e at (rounds_from e at s times (l ∷ turns))) (sym f.0) h in (
        same.0,
        accepted_first (round_behind e.server e.channel at (turn e at s times os)) (left_by s times os).0 (left_by s times os).1
            (next ∷ first) turns f.1 same.1,
      )

  abbrev up : BothEnds → State → List DateTime → List (List Outgoing) → List ℕ
  up at s times turns = rounds_up e.server e.channel at (rounds_from e at s times turns)

  pub sent_first : (at : BothEnds) (s : State) (times : List DateTime) (first turns : List (List Outgoing)) → AreFirstOf first turns
      → IsPrefix (rounds_up e.server e.channel at (rounds_from e at s times first)) (rounds_up e.server e.channel at (rounds_from e at s times turns))
  sent_first at s times [] turns f = (up at s times turns, refl)
  sent_first at s times (os ∷ []) [] f = absurd f
  sent_first at s times (os ∷ (next ∷ first)) [] f = absurd f
  sent_first at s times (os ∷ []) (us ∷ turns) f =
      let octets : List Outgoing → List ℕ = outgoing_octets (Some (lane_from at.client)) at.server.next at.id in
      let rest : List ℕ = up (round_behind e.server e.channel at (turn e at s times us)) (left_by s times us).0 (left_by s times us).1 turns in
      let p = octets_first (Some (lane_from at.client)) at.server.next at.id os f.0 in (
        p.0 ++ rest,
        ap (λ (l : List Outgoing). octets l ++ rest) f.1
            ∙ (ap (λ (o : List ℕ). o ++ rest) p.1
            ∙ (append_assoc (octets os) p.0 rest ∙ ap (λ (o : List ℕ). o ++ (p.0 ++ rest)) (sym (append-nil (octets os))))),
      )
  sent_first at s times (os ∷ (next ∷ first)) (us ∷ turns) f =
      let now : BothEnds = round_behind e.server e.channel at (turn e at s times os) in
      let left : State × List DateTime = left_by s times os in
      subst (λ (l : List Outgoing). IsPrefix (up at s times (os ∷ (next ∷ first))) (up at s times (l ∷ turns))) f.0
      (behind_both (outgoing_octets (Some (lane_from at.client)) at.server.next at.id os) (up now left.0 left.1 (next ∷ first)) (up now left.0 left.1 turns)
      (sent_first now left.0 left.1 (next ∷ first) turns f.1))

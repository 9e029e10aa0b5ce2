-- Operations as turns of one each, and what one more adds to them.
use Rattle.std.proofs.Common.{◌≡◌, ℕ, ◌+◌, List, [], ◌∷◌, ◌++◌, length, None, refl, sym, ◌∙◌, ap, arith, append_assoc, append-nil, length-append}
use Rattle.ua_builtin.specs.declared.date_time.DateTime.{DateTime}
use Rattle.ua_channel.specs.Asks.{Placed}
use Rattle.ua_channel_laws.specs.Outgoing.Outgoing.{CallWith, RenewalAt}
use Rattle.ua_channel_laws.specs.Outgoing.{AreWritable, Outgoing, asks_at, outgoing_refusal}
use Rattle.ua_channel_laws.specs.Rounds.{BothEnds, round_behind, round_down, round_up, rounds_asks, rounds_behind, rounds_down, rounds_up}
use Rattle.ua_server.specs.Reply.{answered}
use Rattle.ua_server.specs.Said.{behind_first, first_time}
use Rattle.ua_server.specs.State.{State}
use Rattle.ua_headline.specs.Talk.{AreFirstOf, AreRoundsAccepted, Ends, IsPrefix, left_by, rounds_from, state_from}
use Rattle.ua_headline.proofs.Answered.{AreDated, dated_left}
use Rattle.ua_headline.proofs.Turning.{IsBetween, between_then, turn}

-- each operation as a turn
abbrev pub singly : List Outgoing → List (List Outgoing)
singly [] = []
singly (o ∷ ops) = (o ∷ []) ∷ singly ops

-- the first operations are the first turns
pub first_singly : (first ops : List Outgoing) → IsPrefix first ops → AreFirstOf (singly first) (singly ops)
first_singly [] ops p = tt
first_singly (o ∷ first) [] (more, e) = absurd cc
first_singly (o ∷ []) (c ∷ ops) (more, e) = ([], ap (λ (b : Outgoing). b ∷ []) (heads c o ops more e))
  where
    heads : (a b : Outgoing) (xs ys : List Outgoing) → a ∷ xs ≡ b ∷ ys → a ≡ b
    heads a b xs ys e = cc
first_singly (o ∷ (next ∷ first)) (c ∷ ops) (more, e) = (
  ap (λ (b : Outgoing). b ∷ []) (heads o c _ ops (sym e)),
  first_singly (next ∷ first) ops (more, tails c o ops _ e),
)
  where
    heads : (a b : Outgoing) (xs ys : List Outgoing) → a ∷ xs ≡ b ∷ ys → a ≡ b
    heads a b xs ys e = cc

    tails : (a b : Outgoing) (xs ys : List Outgoing) → a ∷ xs ≡ b ∷ ys → xs ≡ ys
    tails a b xs ys e = cc

-- the state that they leave
pub state_singly : (s : State) (times : List DateTime) (ops : List Outgoing) → state_from s times (singly ops) ≡ (left_by s times ops).0
state_singly s times [] = refl
state_singly s times (CallWith body ∷ ops) = state_singly (answered s (first_time times) body).0 (behind_first times) ops
state_singly s times (RenewalAt time ∷ ops) = state_singly s (behind_first times) ops

-- the state and the times behind them
abbrev pub past : State → List DateTime → List Outgoing → State × List DateTime
past s times [] = (s, times)
past s times (o ∷ ops) = past (left_by s times (o ∷ [])).0 (left_by s times (o ∷ [])).1 ops

module _ (e : Ends) where
  -- where both ends are behind operations
  abbrev pub behind_ops : BothEnds → State → List DateTime → List Outgoing → BothEnds
  behind_ops at s times ops = rounds_behind e.server e.channel at (rounds_from e at s times (singly ops))

  abbrev then : BothEnds → State → List DateTime → Outgoing → BothEnds
  then at s times o = round_behind e.server e.channel at (turn e at s times (o ∷ []))

  -- what one operation more adds
  pub record AddsOne (at : BothEnds) (s : State) (times : List DateTime) (ops : List Outgoing) (o : Outgoing) : Type 0 where
    pub up : rounds_up e.server e.channel at (rounds_from e at s times (singly (ops ++ o ∷ [])))
        ≡ rounds_up e.server e.channel at (rounds_from e at s times (singly ops))
        ++ round_up (behind_ops at s times ops) (turn e (behind_ops at s times ops) (past s times ops).0 (past s times ops).1 (o ∷ []))
    pub down : (more : List ℕ) × (rounds_down e.server e.channel at (rounds_from e at s times (singly (ops ++ o ∷ [])))
        ≡ rounds_down e.server e.channel at (rounds_from e at s times (singly ops)) ++ more)
    pub asks : (place : ℕ) → rounds_asks e.server e.channel place at (rounds_from e at s times (singly (ops ++ o ∷ [])))
        ≡ rounds_asks e.server e.channel place at (rounds_from e at s times (singly ops))
        ++ asks_at (place + length (rounds_down e.server e.channel at (rounds_from e at s times (singly ops)))) (behind_ops at s times ops).id (o ∷ [])
    pub behind : behind_ops at s times (ops ++ o ∷ [])
        ≡ round_behind e.server e.channel (behind_ops at s times ops)
        (turn e (behind_ops at s times ops) (past s times ops).0 (past s times ops).1 (o ∷ []))
    pub accepted : AreRoundsAccepted e at (rounds_from e at s times (singly ops)) → AreWritable (o ∷ [])
        → outgoing_refusal (behind_ops at s times ops).client (behind_ops at s times ops).id (o ∷ []) ≡ None
        → AreRoundsAccepted e at (rounds_from e at s times (singly (ops ++ o ∷ [])))

  pub adds_one : (at : BothEnds) (s : State) (times : List DateTime) (ops : List Outgoing) (o : Outgoing) → AddsOne at s times ops o
  adds_one at s times [] o = record {
    up = append-nil (round_up at (turn e at s times (o ∷ [])));
    down = (round_down e.server e.channel at (turn e at s times (o ∷ [])) ++ [], refl);
    asks = λ place. append-nil (asks_at place at.id (o ∷ []))
        ∙ ap (λ (n : ℕ). asks_at n at.id (o ∷ [])) (omega arith);
    behind = refl;
    accepted = λ h writable judged. ((writable, judged), tt);
  }
  adds_one at s times (c ∷ ops) o =
      let now : BothEnds = then at s times c in
      let left : State × List DateTime = left_by s times (c ∷ []) in
      let more = adds_one now left.0 left.1 ops o in
      let back : List ℕ = round_down e.server e.channel at (turn e at s times (c ∷ [])) in
      let rest : List ℕ = rounds_down e.server e.channel now (rounds_from e now left.0 left.1 (singly ops)) in
      record {
        up =
            ap (λ (l : List ℕ). round_up at (turn e at s times (c ∷ [])) ++ l) more.up
            ∙ sym (append_assoc (round_up at (turn e at s times (c ∷ [])))
            (rounds_up e.server e.channel now (rounds_from e now left.0 left.1 (singly ops)))
            (round_up (behind_ops now left.0 left.1 ops)
            (turn e (behind_ops now left.0 left.1 ops) (past left.0 left.1 ops).0 (past left.0 left.1 ops).1 (o ∷ []))));
        down = (more.down.0, ap (λ (l : List ℕ). back ++ l) more.down.1 ∙ sym (append_assoc back rest more.down.0));
        asks = λ place.
            ap (λ (p : List Placed). asks_at place at.id (c ∷ []) ++ p) (more.asks (place + length back))
            ∙ (sym (append_assoc (asks_at place at.id (c ∷ []))
            (rounds_asks e.server e.channel (place + length back) now (rounds_from e now left.0 left.1 (singly ops)))
            (asks_at ((place + length back) + length rest) (behind_ops now left.0 left.1 ops).id (o ∷ [])))
            ∙ ap (λ (n : ℕ). (asks_at place at.id (c ∷ [])
            ++ rounds_asks e.server e.channel (place + length back) now (rounds_from e now left.0 left.1 (singly ops)))
            ++ asks_at n (behind_ops now left.0 left.1 ops).id (o ∷ []))
            (omega (arith, length-append back rest)));
        behind = more.behind;
        accepted = λ h writable judged. (h.0, more.accepted h.1 writable judged);
      }

  -- all is answered behind them
  pub between_ops : (at : BothEnds) (s : State) (times : List DateTime) (ops : List Outgoing) → IsBetween e at → AreDated times
      → AreRoundsAccepted e at (rounds_from e at s times (singly ops)) → IsBetween e (behind_ops at s times ops)
  between_ops at s times [] b d h = b
  between_ops at s times (c ∷ ops) b d h =
      between_ops (then at s times c) (left_by s times (c ∷ [])).0 (left_by s times (c ∷ [])).1 ops
      (between_then e at s times (c ∷ []) b d h.0.0 h.0.1) (dated_left s times (c ∷ []) d) h.1

-- That turns and the answers of a server to them are rounds, and what the server says of them.
use Rattle.std.proofs.Common.{◌≡◌, ℕ, ◌+◌, ◌<◌, ◌≤◌, List, [], ◌∷◌, ◌++◌, Option, Some, None}
use Rattle.std.proofs.Common.{length, refl, sym, ◌∙◌, ap, subst, arith, append-nil, append_assoc}
use Rattle.std.specs.List.{AllByRecursion}
use Rattle.ua_builtin.specs.declared.date_time.DateTime.{DateTime}
use Rattle.ua_frame.specs.Agreement.{ack_to}
use Rattle.ua_frame.specs.Frames.{frame_octets}
use Rattle.ua_frame.specs.Messages.{ack_frame}
use Rattle.ua_frame.specs.Run.{Going}
use Rattle.ua_frame.specs.declared.hello.Hello.{Hello}
use Rattle.ua_chunk.specs.declared.lane.Lane.{Lane}
use Rattle.ua_channel.specs.Agreement.{Agreement, agreement_of}
use Rattle.ua_channel.specs.ClientAsks.{no_id}
use Rattle.ua_channel.specs.ClientSends.{hello_to}
use Rattle.ua_channel.specs.ServerSends.{opened_frame}
use Rattle.ua_channel.specs.ServerTold.{Told, Agreed, Opened}
use Rattle.ua_channel_laws.specs.Answers.{Answer}
use Rattle.ua_channel_laws.specs.ClientReads.{lane_from}
use Rattle.ua_channel_laws.specs.Outgoing.{AreWritable, Outgoing, issued_behind, outgoing_refusal, outgoing_told}
use Rattle.ua_channel_laws.specs.Rounds.{AreRounds, BothEnds, IsRound, Round, answers_lane, both_sent, round_behind, round_down, rounds_down, rounds_told}
use Rattle.ua_server.specs.Said.{Course, behind_first, course_after, first_time, output_of, said_of, state_after}
use Rattle.ua_server.specs.State.{State}
use Rattle.ua_server.proofs.SaidInParts.{course, left-append, said-append}
use Rattle.ua_headline.specs.Talk.{AreRoundsAccepted, Ends, answers_to, both_opened, left_by, opening_answer_of_ends, rounds_from, state_from}
use Rattle.ua_headline.proofs.Answered.{AreDated, CanAnswer, IsWaiting, brings, call_ids, calls_all, can_answer, dated_left}
use Rattle.ua_headline.proofs.Answered.{ids_left, issued_few, next_stays, one_renewal, renewal_ids, renewals_all, tokens_stay}
use Rattle.ua_headline.proofs.Served.{hello_stays, issued_there, left_turn, said_turn, under}

-- ---- where both ends are between two turns

-- all is answered; the server issued each token that the client holds, and fewer of them than request ids were used
pub record IsBetween (e : Ends) (at : BothEnds) : Type 0 where
  pub hello_is : at.server.hello ≡ hello_to e.client e.url
  pub pending : at.client.pending ≡ []
  pub renewals : at.client.renewals ≡ []
  pub below : AllByRecursion (λ (token : ℕ). token ≤ at.server.issued) at.client.tokens
  pub spare : at.server.issued < at.id
  pub few : at.id ≤ no_id

-- what is agreed to
abbrev pub agreed : Ends → Agreement
agreed e = agreement_of e.server (hello_to e.client e.url)

-- what was told, the state and the times that it left, and what the server says of it
pub record IsSaid (e : Ends) (at : BothEnds) (told : List Told) (s : State) (times : List DateTime) (down : List ℕ) : Type 0 where
  pub left : state_after e.channel e.first told e.times ≡ course s at.client.next times (Some (agreed e))
  pub said : output_of e.channel e.first told Going e.times ≡ down

-- ---- one turn

module _ (e : Ends) (at : BothEnds) (s : State) (times : List DateTime) (os : List Outgoing) where
  abbrev answers : List Answer
  answers = answers_to s times at.server.issued at.id os

  abbrev pub turn : Round
  turn = record { outgoing = os; answers = answers_to s times at.server.issued at.id os }

  abbrev lane : Lane
  lane = lane_from at.client

  abbrev sent : BothEnds
  sent = both_sent at os

  module _ (b : IsBetween e at) (d : AreDated times) (writable : AreWritable os) (judged : outgoing_refusal at.client at.id os ≡ None) where
    ids : at.id + length os ≤ no_id
    ids = ids_left at.client at.id os judged b.few

    waiting : IsWaiting sent.client at.server.issued at.id os
    waiting = record {
      calls = calls_all at.client at.id os ∙ ap (λ (ns : List ℕ). ns ++ call_ids at.id os) b.pending;
      renewals = renewals_all at.client at.id os ∙ ap (λ (ns : List ℕ). ns ++ renewal_ids at.id os) b.renewals;
      one = one_renewal at.client at.id os judged;
      ids = ids;
      spare = b.spare;
      below = subst (λ (ns : List ℕ). AllByRecursion (λ (token : ℕ). token ≤ at.server.issued) ns) (sym (tokens_stay at.client at.id os)) b.below;
    }

    done : CanAnswer (answers_lane e.server e.channel at os) sent.client answers (issued_behind at.server.issued os)
    done = can_answer (answers_lane e.server e.channel at os) sent.client s times at.server.issued at.id os waiting d

    issued_is : sent.server.issued ≡ issued_behind at.server.issued os
    issued_is = issued_there lane at.server os

    pub is_round : IsRound e.server e.channel at turn
    is_round = record {
      writable = writable;
      accepted = judged;
      few = omega (arith, issued_few at.server.issued at.id os b.spare, ids);
      answered = done.may;
      brings = brings sent.server.issued s times at.server.issued at.id os issued_is (one_renewal at.client at.id os judged);
    }

    pub between_then : IsBetween e (round_behind e.server e.channel at turn)
    between_then = record {
      hello_is = hello_stays lane at.server os ∙ b.hello_is;
      pending = done.none_pending;
      renewals = done.none_waits;
      below = subst (λ (n : ℕ). AllByRecursion (λ (token : ℕ). token ≤ n) (round_behind e.server e.channel at turn).client.tokens) (sym issued_is) done.below;
      spare = omega (arith, issued_is, issued_few at.server.issued at.id os b.spare);
      few = ids;
    }

  -- what the server says of it
  module _ (b : IsBetween e at) (told : List Told) (down : List ℕ) (x : IsSaid e at told s times down) where
    abbrev more : List Told
    more = outgoing_told at.client.newest at.server.issued at.id os

    abbrev there : Agreement
    there = agreement_of e.server sent.server.hello

    agreement_is : Some (agreed e) ≡ Some there
    agreement_is = ap (λ (h : Hello). Some (agreement_of e.server h)) (sym (hello_stays lane at.server os ∙ b.hello_is))

    left_is : state_after e.channel e.first told e.times ≡ course s sent.client.next times (Some there)
    left_is =
        x.left
        ∙ (ap (λ (n : ℕ). course s n times (Some (agreed e))) (sym (next_stays at.client at.id os))
        ∙ ap (λ (o : Option Agreement). course s sent.client.next times o) agreement_is)

    pub said_then : IsSaid e (round_behind e.server e.channel at turn) (told ++ more) (left_by s times os).0 (left_by s times os).1
        (down ++ round_down e.server e.channel at turn)
    said_then = record {
      left =
          left-append e.channel e.first told more e.times
          ∙ (ap (λ (k : Course). course_after e.channel k more) left_is
          ∙ (left_turn e.channel sent.server.used lane.token there sent.client s times at.server.issued at.id os (under lane at.server os)
          ∙ ap (λ (o : Option Agreement). course (left_by s times os).0 (round_behind e.server e.channel at turn).client.next (left_by s times os).1 o)
          (sym agreement_is)));
      said =
          said-append e.channel e.first told more Going e.times
          ∙ (ap (λ (o : List ℕ). o ++ (said_of e.channel (state_after e.channel e.first told e.times) more ++ [])) x.said
          ∙ ap (λ (o : List ℕ). down ++ o)
          (append-nil (said_of e.channel (state_after e.channel e.first told e.times) more)
          ∙ (ap (λ (k : Course). said_of e.channel k more) left_is
          ∙ said_turn e.channel sent.server.used lane.token there s sent.client.next times at.server.issued at.id os (under lane at.server os))));
    }

-- ---- all turns

-- the state that is left, and what the server says
pub record AreSaid (e : Ends) (told : List Told) (s : State) (down : List ℕ) : Type 0 where
  pub state : (state_after e.channel e.first told e.times).state ≡ s
  pub said : output_of e.channel e.first told Going e.times ≡ down

module _ (e : Ends) where
  pub are_rounds : (at : BothEnds) (s : State) (times : List DateTime) (turns : List (List Outgoing)) → IsBetween e at → AreDated times
      → AreRoundsAccepted e at (rounds_from e at s times turns)
      → AreRounds e.server e.channel at (rounds_from e at s times turns)
  are_rounds at s times [] b d h = tt
  are_rounds at s times (os ∷ turns) b d h = (
    is_round e at s times os b d h.0.0 h.0.1,
    are_rounds (round_behind e.server e.channel at (turn e at s times os)) (left_by s times os).0 (left_by s times os).1 turns
        (between_then e at s times os b d h.0.0 h.0.1) (dated_left s times os d) h.1,
  )

  pub are_said : (at : BothEnds) (s : State) (times : List DateTime) (turns : List (List Outgoing)) (told : List Told) (down : List ℕ) → IsBetween e at
      → AreDated times → AreRoundsAccepted e at (rounds_from e at s times turns)
      → IsSaid e at told s times down
      → AreSaid e (told ++ rounds_told e.server e.channel at (rounds_from e at s times turns)) (state_from s times turns)
      (down ++ rounds_down e.server e.channel at (rounds_from e at s times turns))
  are_said at s times [] told down b d h x =
      subst (λ (t : List Told). AreSaid e t s (down ++ [])) (sym (append-nil told))
      (subst (λ (o : List ℕ). AreSaid e told s o) (sym (append-nil down)) (record { state = ap (λ (k : Course). k.state) x.left; said = x.said }))
  are_said at s times (os ∷ turns) told down b d h x =
      let now : BothEnds = round_behind e.server e.channel at (turn e at s times os) in
      let more : List Told = outgoing_told at.client.newest at.server.issued at.id os in
      let out : List ℕ = round_down e.server e.channel at (turn e at s times os) in
      let left : State × List DateTime = left_by s times os in
      let rest =
      are_said now left.0 left.1 turns (told ++ more) (down ++ out) (between_then e at s times os b d h.0.0 h.0.1) (dated_left s times os d) h.1
      (said_then e at s times os b told down x) in
      subst (λ (t : List Told).
      AreSaid e t (state_from left.0 left.1 turns) (down ++ (out ++ rounds_down e.server e.channel now (rounds_from e now left.0 left.1 turns))))
      (append_assoc told more (rounds_told e.server e.channel now (rounds_from e now left.0 left.1 turns)))
      (subst (λ (o : List ℕ). AreSaid e ((told ++ more) ++ rounds_told e.server e.channel now (rounds_from e now left.0 left.1 turns))
      (state_from left.0 left.1 turns) o)
      (append_assoc down out (rounds_down e.server e.channel now (rounds_from e now left.0 left.1 turns))) rest)

  -- ---- the opening

  pub between_first : IsBetween e (both_opened e)
  between_first = record { hello_is = refl; pending = refl; renewals = refl; below = (omega arith, tt); spare = omega arith; few = omega arith }

  abbrev pub told_first : List Told
  told_first = Agreed (agreement_of e.server (hello_to e.client e.url)) ∷ (Opened 1 0 1 3600000 ∷ [])

  left_first : state_after e.channel e.first told_first e.times ≡ course e.first 2 (behind_first e.times) (Some (agreed e))
  unfolding state_after
  left_first = refl

  said_first : output_of e.channel e.first told_first Going e.times ≡ opening_answer_of_ends e
  unfolding output_of
  said_first =
      let acked = frame_octets (ack_frame (ack_to (hello_to e.client e.url) e.server)) in
      let opened = frame_octets (opened_frame e.channel 1 1 0 1 3600000 (first_time e.times)) in
      append-nil (acked ++ (opened ++ [])) ∙ ap (λ (o : List ℕ). acked ++ o) (append-nil opened)

  pub is_said_first : IsSaid e (both_opened e) told_first e.first (behind_first e.times) (opening_answer_of_ends e)
  is_said_first = record { left = left_first; said = said_first }

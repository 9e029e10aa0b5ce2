-- That a client is told something at the last octet of all answers.
use Rattle.std.proofs.Common.{ℕ, ◌<◌, ◌^◌, List, [], ◌∷◌, ◌++◌, length, refl, sym, ◌∙◌, ap, subst, arith, append_assoc, append-nil, length-append}
use Rattle.ua_builtin.specs.declared.date_time.DateTime.{DateTime}
use Rattle.ua_frame.specs.Agreement.{ack_to}
use Rattle.ua_frame.specs.Frames.{frame_octets}
use Rattle.ua_channel.specs.Asks.{Placed}
use Rattle.ua_channel.specs.ClientSends.{first_open, hello_frame, hello_to}
use Rattle.ua_channel.specs.ClientTable.{client_rules}
use Rattle.ua_channel.specs.ClientTold.{ClientTold, ClientTold as heard}
use Rattle.ua_channel.specs.ServerTold.{Told}
use Rattle.ua_channel_laws.specs.ClientReads.{IsAnswered}
use Rattle.ua_channel_laws.specs.Outgoing.{Outgoing, asks_at}
use Rattle.ua_channel_laws.specs.Rounds.{BothEnds, Round, round_behind, round_down, rounds_asks, rounds_down}
use Rattle.ua_server.specs.Said.{behind_first, first_time}
use Rattle.ua_server.specs.State.{State}
use Rattle.ua_headline.specs.Talk.{AreRoundsAccepted, CanOpen, Ends, asks_in, both_opened, left_by, opening_answer_of_ends, rounds_from, rounds_in}
use Rattle.ua_headline.proofs.Answered.{dated_behind, dated_first}
use Rattle.ua_headline.proofs.Heards.{opened_tells}
use Rattle.ua_headline.proofs.Singly.{singly}
use Rattle.ua_headline.proofs.Steps.{AreHere, here_then, tells_then}
use Rattle.ua_headline.proofs.Talking.{EndsConnect, RoundsReach}
use Rattle.ua_headline.proofs.Tells.{TellsLast}
use Rattle.ua_headline.proofs.Turning.{between_first, is_said_first, told_first, turn}

module _ (e : Ends) (on : e.channel < 2 ^ 32) where
  down_tells : (at : BothEnds) (s : State) (times : List DateTime) (up : List ℕ) (ts : List Told) (asks : List Placed) (down : List ℕ) (hs : List ClientTold)
      → AreHere e at s times up ts asks down hs → TellsLast (client_rules e.client asks) down → (ops : List Outgoing)
      → AreRoundsAccepted e at (rounds_from e at s times (singly ops))
      → TellsLast (client_rules e.client (asks ++ rounds_asks e.server e.channel (length down) at (rounds_from e at s times (singly ops))))
      (down ++ rounds_down e.server e.channel at (rounds_from e at s times (singly ops)))
  down_tells at s times up ts asks down hs h last [] accepted =
      subst (λ (p : List Placed). TellsLast (client_rules e.client p) (down ++ [])) (sym (append-nil asks))
      (subst (TellsLast (client_rules e.client asks)) (sym (append-nil down)) last)
  down_tells at s times up ts asks down hs h last (o ∷ ops) accepted =
      let now : BothEnds = round_behind e.server e.channel at (turn e at s times (o ∷ [])) in
      let left : State × List DateTime = left_by s times (o ∷ []) in
      let back : List ℕ = round_down e.server e.channel at (turn e at s times (o ∷ [])) in
      let mine : List Placed = asks_at (length down) at.id (o ∷ []) in
      let rounds : List Round = rounds_from e now left.0 left.1 (singly ops) in
      let rest = down_tells now left.0 left.1 _ _ (asks ++ mine) (down ++ back) _
      (here_then e on at s times up ts asks down hs h (o ∷ []) accepted.0.0 accepted.0.1)
      (tells_then e on at s times up ts asks down hs h (o ∷ []) accepted.0.0 accepted.0.1 (omega arith)) ops accepted.1 in
      subst (λ (p : List Placed). TellsLast (client_rules e.client p) (down ++ (back ++ rounds_down e.server e.channel now rounds)))
      (append_assoc asks mine (rounds_asks e.server e.channel (length (down ++ back)) now rounds)
      ∙ ap (λ (n : ℕ). asks ++ (mine ++ rounds_asks e.server e.channel n now rounds)) (length-append down back))
      (subst (TellsLast (client_rules e.client ((asks ++ mine) ++ rounds_asks e.server e.channel (length (down ++ back)) now rounds)))
      (append_assoc down back (rounds_down e.server e.channel now rounds)) rest)

module _ (connect : EndsConnect) (reach : RoundsReach) (e : Ends) (can : CanOpen e) where
  answer_fits : IsAnswered e.channel 1 1 0 1 3600000 (first_time e.times)
  answer_fits = record {
    channel_small = can.channel_fits;
    number_small = omega arith;
    id_small = omega arith;
    handle_small = omega arith;
    token_small = omega arith;
    lifetime_small = omega arith;
    moment_fits = dated_first e.times can.times_fit;
  }

  here_first : AreHere e (both_opened e) e.first (behind_first e.times)
      (frame_octets (hello_frame (hello_to e.client e.url)) ++ frame_octets (first_open e.opened)) (told_first e) [] (opening_answer_of_ends e)
      (heard.Agreed (ack_to (hello_to e.client e.url) e.server) ∷ (heard.Opened e.channel 1 ∷ []))
  here_first = record {
    connected = connect e.server e.client e.url e.channel 3600000 e.opened (first_time e.times) can.hello_fits can.url_fits can.ack_fits can.opened_fits
        answer_fits;
    between = between_first e;
    dated = dated_behind e.times can.times_fit;
    said = is_said_first e;
    none_later = λ k past. refl;
  }

  pub tells_ops : (ops : List Outgoing) → AreRoundsAccepted e (both_opened e) (rounds_in e (singly ops))
      → TellsLast (client_rules e.client (asks_in e (singly ops)))
      (opening_answer_of_ends e ++ rounds_down e.server e.channel (both_opened e) (rounds_in e (singly ops)))
  tells_ops ops accepted = down_tells e can.channel_fits (both_opened e) e.first (behind_first e.times) _ _ [] (opening_answer_of_ends e) _ here_first
      (opened_tells e.client e.server e.url e.channel 3600000 (first_time e.times) can.ack_fits answer_fits) ops accepted

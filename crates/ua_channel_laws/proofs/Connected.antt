-- That both ends stay connected behind rounds of what a client sends and a server answers.
use Rattle.std.proofs.Common.{◌≡◌, ℕ, ◌<◌, ◌≤◌, ◌^◌, IsTrue, List, [], ◌∷◌, ◌++◌, Option, length, refl}
use Rattle.std.proofs.Common.{sym, ◌∙◌, arith, append-nil, append_assoc, length-append}
use Rattle.ua_builtin.specs.DateTime.{date_time}
use Rattle.ua_builtin.specs.declared.date_time.DateTime.{DateTime}
use Rattle.ua_frame.specs.Agreement.{ack_to, url_length}
use Rattle.ua_frame.specs.Frames.{frame_octets}
use Rattle.ua_frame.specs.Messages.{ack, ack_frame, hello}
use Rattle.ua_frame.specs.declared.limits.Limits.{Limits}
use Rattle.ua_channel.specs.Agreement.{agreement_of}
use Rattle.ua_channel_laws.specs.Answers.{answers_told}
use Rattle.ua_channel.specs.Asks.{Placed, asked_in}
use Rattle.ua_channel_laws.specs.ClientReads.{ClientReads, IsAnswered, opened_at}
use Rattle.ua_channel.specs.ClientSends.{first_open, hello_frame, hello_to}
use Rattle.ua_channel.specs.ClientTold.{ClientTold, ClientTold as heard}
use Rattle.ua_channel_laws.specs.InStep.{AreInStep}
use Rattle.ua_channel_laws.specs.Outgoing.{asks_at, outgoing_told}
use Rattle.ua_channel_laws.specs.Rounds.{AreConnected, AreRounds, BothEnds, IsRound, Round, answers_lane, both_sent, round_behind}
use Rattle.ua_channel_laws.specs.Rounds.{round_down, round_up, rounds_asks, rounds_behind, rounds_down, rounds_heard, rounds_told, rounds_up}
use Rattle.ua_channel_laws.specs.ServerReads.{ServerReads, greeted_at, with_token}
use Rattle.ua_channel.specs.ServerSends.{opened_frame}
use Rattle.ua_channel.specs.ServerTold.{Told, Told as told}
use Rattle.ua_channel_laws.proofs.ClientReadsMessages.{reads_ack, reads_opened}
use Rattle.ua_channel_laws.proofs.Groups.{asks_outgoing, in_step_answers, reads_answers, reads_outgoing}
use Rattle.ua_channel_laws.proofs.InStep.{in_step_opened, lane_from_server}
use Rattle.ua_channel_laws.proofs.ServerReadsMessages.{reads_first, reads_hello}
use Rattle.ua_channel_laws.proofs.ClientSending.{next-asks}

-- ---- the opening

pub connected_first : (server client : Limits) (url : Option (List ℕ)) (channel lifetime : ℕ) (asked answered : DateTime)
    → IsTrue (hello.encodable (hello_to client url)) → url_length url ≤ 4095
    → IsTrue (ack.encodable (ack_to (hello_to client url) server)) → IsTrue (date_time.encodable asked) → IsAnswered channel 1 1 0 1 lifetime answered
    → AreConnected server client url channel (frame_octets (hello_frame (hello_to client url)) ++ frame_octets (first_open asked))
    (told.Agreed (agreement_of server (hello_to client url)) ∷ (told.Opened 1 0 1 3600000 ∷ []))
    [] (frame_octets (ack_frame (ack_to (hello_to client url) server)) ++ frame_octets (opened_frame channel 1 1 0 1 lifetime answered))
    (heard.Agreed (ack_to (hello_to client url) server) ∷ (heard.Opened channel 1 ∷ []))
    (record { server = with_token (greeted_at (hello_to client url)); client = opened_at (ack_to (hello_to client url) server) channel 1 2; id = 2 })
unfolding asked_in
connected_first server client url channel lifetime asked answered fits short acked dated opens = record {
  server_reads =
      reads_first server channel (frame_octets (hello_frame (hello_to client url))) (told.Agreed (agreement_of server (hello_to client url)) ∷ [])
      (greeted_at (hello_to client url)) asked
      (reads_hello server channel client url fits short) refl refl dated;
  client_reads =
      reads_opened client (frame_octets (ack_frame (ack_to (hello_to client url) server))) (heard.Agreed (ack_to (hello_to client url) server) ∷ [])
      (ack_to (hello_to client url) server) channel 1 0 1 lifetime answered
      (reads_ack client server url acked) opens;
  in_step = in_step_opened server client url channel 2;
  id_is = refl;
}

-- ---- rounds

module _ (server client : Limits) (url : Option (List ℕ)) (channel : ℕ) (on : channel < 2 ^ 32) where
  abbrev Connected : BothEnds → List ℕ → List Told → List Placed → List ℕ → List ClientTold → Type 0
  Connected at up ts asks down hs = AreConnected server client url channel up ts asks down hs at

  connected_as : (at : BothEnds) {up up' down down' : List ℕ} {ts ts' : List Told} {asks asks' : List Placed} {hs hs' : List ClientTold} → up ≡ up' → ts ≡ ts'
      → asks ≡ asks' → down ≡ down' → hs ≡ hs'
      → Connected at up ts asks down hs → Connected at up' ts' asks' down' hs'
  connected_as at {up = up} {up' = up'} {down = down} {down' = down'} {ts = ts} {ts' = ts'} {asks = asks} {asks' = asks'} {hs = hs} {hs' = hs'} a b c d e h =
      rw (← a, ← b, ← c, ← d, ← e) h

  -- one round
  module _ (up : List ℕ) (ts : List Told) (asks : List Placed) (down : List ℕ) (hs : List ClientTold) (at : BothEnds) (r : Round)
      (k : Connected at up ts asks down hs) (i : IsRound server channel at r) where
    sent : ServerReads server channel (up ++ round_up at r) (ts ++ outgoing_told at.client.newest at.server.issued at.id r.outgoing)
        (both_sent at r.outgoing).server
        × AreInStep server client url channel (both_sent at r.outgoing).server (both_sent at r.outgoing).client
    sent = reads_outgoing server client url channel on up ts at.server at.client at.id r.outgoing k.server_reads k.in_step k.client_reads.newest_is i.writable
        i.accepted i.few

    asked : ClientReads client (asks ++ asks_at (length down) at.id r.outgoing) down hs (both_sent at r.outgoing).client
    asked =
        rw k.id_is (asks_outgoing client down hs asks at.client r.outgoing k.client_reads)

    connected_round : Connected (round_behind server channel at r) (up ++ round_up at r)
        (ts ++ outgoing_told at.client.newest at.server.issued at.id r.outgoing) (asks ++ asks_at (length down) at.id r.outgoing)
        (down ++ round_down server channel at r) (hs ++ answers_told (answers_lane server channel at r.outgoing) r.answers)
    connected_round = record {
      server_reads = sent.0;
      client_reads =
          reads_answers client (asks ++ asks_at (length down) at.id r.outgoing) (answers_lane server channel at r.outgoing) down hs
          (both_sent at r.outgoing).client r.answers asked
          (lane_from_server server client url channel (both_sent at r.outgoing).server (both_sent at r.outgoing).client sent.1 on
          (omega (arith, sent.0.few_issued, sent.1.taken.not_before, sent.1.taken.issued))) i.answered;
      in_step = in_step_answers server client url channel (both_sent at r.outgoing).server (both_sent at r.outgoing).client r.answers sent.1 i.brings;
      id_is = omega (arith, k.id_is, next-asks asks (length down) at.id r.outgoing);
    }

  -- all of them
  pub connected_rounds : (up : List ℕ) (ts : List Told) (asks : List Placed) (down : List ℕ) (hs : List ClientTold) (at : BothEnds) (rs : List Round)
      → Connected at up ts asks down hs → AreRounds server channel at rs
      → Connected (rounds_behind server channel at rs) (up ++ rounds_up server channel at rs) (ts ++ rounds_told server channel at rs)
      (asks ++ rounds_asks server channel (length down) at rs)
      (down ++ rounds_down server channel at rs) (hs ++ rounds_heard server channel at rs)
  connected_rounds up ts asks down hs at [] k are = connected_as at (sym (append-nil up)) (sym (append-nil ts)) (sym (append-nil asks)) (sym (append-nil down))
      (sym (append-nil hs)) k
  connected_rounds up ts asks down hs at (r ∷ rs) k are =
      let now : BothEnds = round_behind server channel at r in
      let asked_here : List Placed = asks_at (length down) at.id r.outgoing in
      let out : List ℕ = round_down server channel at r in
      connected_as (rounds_behind server channel now rs) (append_assoc up (round_up at r) (rounds_up server channel now rs))
      (append_assoc ts (outgoing_told at.client.newest at.server.issued at.id r.outgoing) (rounds_told server channel now rs))
      (append_assoc asks asked_here (rounds_asks server channel (length (down ++ out)) now rs)
      ∙ rw (length-append down out))
      (append_assoc down out (rounds_down server channel now rs))
      (append_assoc hs (answers_told (answers_lane server channel at r.outgoing) r.answers) (rounds_heard server channel now rs))
      (connected_rounds (up ++ round_up at r) (ts ++ outgoing_told at.client.newest at.server.issued at.id r.outgoing) (asks ++ asked_here) (down ++ out)
      (hs ++ answers_told (answers_lane server channel at r.outgoing) r.answers) now rs (connected_round up ts asks down hs at r k are.0) are.1)

-- What goes over a connection, round by round: what a client sends, and what the server then
-- answers.
use Rattle.std.specs.Prelude.{◌≡◌, ℕ, ◌+◌, ◌<◌, ◌^◌, ◌++◌, List, [], ◌∷◌, length, Option, Some, None}
use Rattle.std.specs.List.{AllByRecursion}
use Rattle.ua_frame.specs.declared.limits.Limits.{Limits}
use Rattle.ua_chunk.specs.declared.lane.Lane.{Lane}
use Rattle.ua_channel_laws.specs.Answers.{Answer, BringsToken, AreAnswersTo, answers_octets, answers_told, client_answered_all}
use Rattle.ua_channel.specs.Asks.{Placed, asked_in, next_id}
use Rattle.ua_channel_laws.specs.ClientReads.{AtClient, ClientReads, lane_from}
use Rattle.ua_channel.specs.ClientTold.{ClientTold}
use Rattle.ua_channel_laws.specs.InStep.{AreInStep, lane_back}
use Rattle.ua_channel_laws.specs.Outgoing.{AreWritable, Outgoing, asks_at, client_behind, issued_behind}
use Rattle.ua_channel_laws.specs.Outgoing.{outgoing_octets, outgoing_refusal, outgoing_told, server_behind}
use Rattle.ua_channel_laws.specs.ServerReads.{AtServer, ServerReads}
use Rattle.ua_channel.specs.ServerTold.{Told}

-- calls and renewals that a client sends when it has taken all that was answered before, and then
-- answers to any that are unanswered; either may be none
pub record Round : Type 0 where
  pub outgoing : List Outgoing
  pub answers : List Answer

-- the states of both ends, and the next RequestId of the client
pub record BothEnds : Type 0 where
  pub server : AtServer
  pub client : AtClient
  pub id : ℕ

-- a server and a client with these limits, for this URL and on this channel, that are in step:
-- these bytes were sent to the server and told it this; those were sent to the client with these
-- operations, and told it that; and these are the states of both
pub record AreConnected (server client : Limits) (url : Option (List ℕ)) (channel : ℕ) (up : List ℕ) (told : List Told) (asks : List Placed) (down : List ℕ)
    (heard : List ClientTold) (at : BothEnds) : Type 0 where
  pub server_reads : ServerReads server channel up told at.server
  pub client_reads : ClientReads client asks down heard at.client
  pub in_step : AreInStep server client url channel at.server at.client
  pub id_is : at.id ≡ next_id (asked_in asks)

-- ---- where both are, at a server with these limits on this channel

-- after what the client sends
abbrev pub both_sent : BothEnds → List Outgoing → BothEnds
both_sent at outgoing = record {
  server = server_behind (lane_from at.client) at.server outgoing;
  client = client_behind at.client at.id outgoing;
  id = at.id + length outgoing;
}

-- the lane of the answers to that: under the last token that the server then saw used
abbrev pub answers_lane : Limits → ℕ → BothEnds → List Outgoing → Lane
answers_lane server channel at outgoing = lane_back server channel (both_sent at outgoing).server

-- after a round
abbrev pub round_behind : Limits → ℕ → BothEnds → Round → BothEnds
round_behind server channel at round =
    record (both_sent at round.outgoing) {
      client = client_answered_all (answers_lane server channel at round.outgoing) (both_sent at round.outgoing).client
          round.answers;
    }

-- after rounds
abbrev pub rounds_behind : Limits → ℕ → BothEnds → List Round → BothEnds
rounds_behind server channel at [] = at
rounds_behind server channel at (r ∷ rounds) = rounds_behind server channel (round_behind server channel at r) rounds

-- ---- what goes over the connection, and what it tells

-- the bytes that the client sends in a round
abbrev pub round_up : BothEnds → Round → List ℕ
round_up at round = outgoing_octets (Some (lane_from at.client)) at.server.next at.id round.outgoing

-- those that the server answers in it
abbrev pub round_down : Limits → ℕ → BothEnds → Round → List ℕ
round_down server channel at round = answers_octets (answers_lane server channel at round.outgoing) (both_sent at round.outgoing).client.next round.answers

-- all that the client sends in rounds
abbrev pub rounds_up : Limits → ℕ → BothEnds → List Round → List ℕ
rounds_up server channel at [] = []
rounds_up server channel at (r ∷ rounds) = round_up at r ++ rounds_up server channel (round_behind server channel at r) rounds

-- all that the server answers in them
abbrev pub rounds_down : Limits → ℕ → BothEnds → List Round → List ℕ
rounds_down server channel at [] = []
rounds_down server channel at (r ∷ rounds) = round_down server channel at r ++ rounds_down server channel (round_behind server channel at r) rounds

-- what they tell the server: each body, whole and once, under its own RequestId, and each renewal
abbrev pub rounds_told : Limits → ℕ → BothEnds → List Round → List Told
rounds_told server channel at [] = []
rounds_told server channel at (r ∷ rounds) = outgoing_told at.client.newest at.server.issued at.id r.outgoing ++ rounds_told server channel
    (round_behind server channel at r) rounds

-- what they tell the client: each call that is answered its own reply, or if that is past its
-- limits that it was aborted, and each token
abbrev pub rounds_heard : Limits → ℕ → BothEnds → List Round → List ClientTold
rounds_heard server channel at [] = []
rounds_heard server channel at (r ∷ rounds) = answers_told (answers_lane server channel at r.outgoing) r.answers ++ rounds_heard server channel
    (round_behind server channel at r) rounds

-- the operations of the client in them, the first of them after it took this many bytes
abbrev pub rounds_asks : Limits → ℕ → ℕ → BothEnds → List Round → List Placed
rounds_asks server channel place at [] = []
rounds_asks server channel place at (r ∷ rounds) = asks_at place at.id r.outgoing ++ rounds_asks server channel
    (place + length (round_down server channel at r)) (round_behind server channel at r) rounds

-- ---- which rounds there may be

-- the client refuses nothing of what it sends, which can be encoded, and there are enough token
-- numbers; each answer is to what is unanswered at its place, can be encoded, and brings the newest
-- token if it brings one
pub record IsRound (server : Limits) (channel : ℕ) (at : BothEnds) (round : Round) : Type 0 where
  pub writable : AreWritable round.outgoing
  pub accepted : outgoing_refusal at.client at.id round.outgoing ≡ None
  pub few : issued_behind at.server.issued round.outgoing < 2 ^ 32
  pub answered : AreAnswersTo (answers_lane server channel at round.outgoing) (both_sent at round.outgoing).client round.answers
  pub brings : AllByRecursion (BringsToken (both_sent at round.outgoing).server.issued) round.answers

-- each is one, after those before it
abbrev pub AreRounds : Limits → ℕ → BothEnds → List Round → Type 0
AreRounds server channel at [] = Unit {0}
AreRounds server channel at (r ∷ rounds) = IsRound server channel at r × AreRounds server channel (round_behind server channel at r) rounds

-- A conversation of a client and a server over an honest link, at any time (OPC 10000-6, 6.7 and
-- 7.1; OPC 10000-4, 5.6.2).
use Rattle.std.specs.Prelude.{◌≡◌, ℕ, ◌+◌, ◌<◌, ◌≤◌, ◌^◌, ◌++◌, IsTrue, List, [], ◌∷◌, length, Option, None}
use Rattle.std.specs.List.{AllByRecursion}
use Rattle.ua_builtin.specs.DateTime.{date_time}
use Rattle.ua_builtin.specs.declared.date_time.DateTime.{DateTime}
use Rattle.ua_frame.specs.Agreement.{ack_to, url_length}
use Rattle.ua_frame.specs.Frames.{frame_octets}
use Rattle.ua_frame.specs.Messages.{ack, ack_frame, hello}
use Rattle.ua_frame.specs.Run.{Going}
use Rattle.ua_frame.specs.declared.limits.Limits.{Limits}
use Rattle.ua_channel.specs.Agreement.{agreement_of}
use Rattle.ua_channel.specs.Asks.{Placed}
use Rattle.ua_channel.specs.Client.{client_limits}
use Rattle.ua_channel.specs.ClientSends.{first_open, hello_frame, hello_to, token_lifetime}
use Rattle.ua_channel.specs.ClientTold.{ClientTold, ClientTold as heard}
use Rattle.ua_channel.specs.ServerSends.{opened_frame}
use Rattle.ua_channel.specs.ServerStands.{Goes, channel_of, limits_of}
use Rattle.ua_channel.specs.ServerTold.{Told, Agreed, Opened}
use Rattle.ua_channel.specs.declared.client.channel.ClientChannel.{ClientChannel}
use Rattle.ua_channel.specs.declared.server.ServerChannel.{ServerChannel}
use Rattle.ua_channel_laws.specs.Answers.Answer.{ReplyTo, TokenFor}
use Rattle.ua_channel_laws.specs.Answers.{Answer}
use Rattle.ua_channel_laws.specs.AskedEarlier.{AreEarlier}
use Rattle.ua_channel_laws.specs.ClientReads.{opened_at}
use Rattle.ua_channel_laws.specs.Outgoing.Outgoing.{CallWith, RenewalAt}
use Rattle.ua_channel_laws.specs.Outgoing.{AreWritable, Outgoing, outgoing_refusal}
use Rattle.ua_channel_laws.specs.Rounds.{BothEnds, Round, round_behind, rounds_asks, rounds_heard, rounds_told, rounds_up}
use Rattle.ua_channel_laws.specs.ServerReads.{greeted_at, with_token}
use Rattle.ua_services.specs.Response.{response}
use Rattle.ua_server.specs.Reply.{answered}
use Rattle.ua_server.specs.Said.{behind_first, first_time, output_of}
use Rattle.ua_server.specs.State.{State}

-- the first list is a prefix of the second
abbrev pub IsPrefix : {A : Type 0} → List A → List A → Type 0
IsPrefix {A = A} xs ys = (more : List A) × (ys ≡ xs ++ more)

-- a server when its connection begins: its limits, its SecureChannelId, the state of its services,
-- and the times of its answers, one for each, in order, and 0 when these end; and a client: its
-- limits, the URL that it names, and the time of its first OPN
pub record Ends : Type 0 where
  pub server : Limits
  pub channel : ℕ
  pub first : State
  pub times : List DateTime
  pub client : Limits
  pub url : Option (List ℕ)
  pub opened : DateTime

-- ---- what the server answers to what a client sends at once, calls and renewals
-- from this state and RequestId on, at these times, after this many tokens were issued: to a call
-- the response to its body, under its own RequestId; to a renewal the next token, for an hour

abbrev pub answers_to : State → List DateTime → ℕ → ℕ → List Outgoing → List Answer
answers_to s times issued id [] = []
answers_to s times issued id (CallWith body ∷ os) =
    ReplyTo id (response.canonical (answered s (first_time times) body).1)
    ∷ answers_to (answered s (first_time times) body).0 (behind_first times) issued (id + 1) os
answers_to s times issued id (RenewalAt time ∷ os) =
    TokenFor id 0 (issued + 1) token_lifetime (first_time times)
    ∷ answers_to s (behind_first times) (issued + 1) (id + 1) os

-- the state that it leaves, and the timestamps that are not used yet
abbrev pub left_by : State → List DateTime → List Outgoing → State × List DateTime
left_by s times [] = (s, times)
left_by s times (CallWith body ∷ os) = left_by (answered s (first_time times) body).0 (behind_first times) os
left_by s times (RenewalAt time ∷ os) = left_by s (behind_first times) os

-- ---- operations after the opening: what the client sends at once, each after all earlier answers

-- the states of both ends after the opening
abbrev pub both_opened : Ends → BothEnds
both_opened e = record {
  server = with_token (greeted_at (hello_to e.client e.url));
  client = opened_at (ack_to (hello_to e.client e.url) e.server) e.channel 1 2;
  id = 2;
}

-- one operation, and the server's answers to it
abbrev pub round_of : BothEnds → State → List DateTime → List Outgoing → Round
round_of at s times os = record { outgoing = os; answers = answers_to s times at.server.issued at.id os }

-- what goes over the connection in operations, from the states of both
abbrev pub rounds_from : Ends → BothEnds → State → List DateTime → List (List Outgoing) → List Round
rounds_from e at s times [] = []
rounds_from e at s times (os ∷ turns) =
    round_of at s times os ∷ rounds_from e (round_behind e.server e.channel at (round_of at s times os)) (left_by s times os).0 (left_by s times os).1 turns

-- the same from the opening, whose OPN response has the first of the times
abbrev pub rounds_in : Ends → List (List Outgoing) → List Round
rounds_in e turns = rounds_from e (both_opened e) e.first (behind_first e.times) turns

-- the state that operations leave
abbrev pub state_from : State → List DateTime → List (List Outgoing) → State
state_from s times [] = s
state_from s times (os ∷ turns) = state_from (left_by s times os).0 (left_by s times os).1 turns

-- that from the state in which the connection began
abbrev pub state_behind_turns : Ends → List (List Outgoing) → State
state_behind_turns e turns = state_from e.first (behind_first e.times) turns

-- what the client sends: the HEL and the first OPN, and its operations
abbrev pub sent_in : Ends → List (List Outgoing) → List ℕ
sent_in e turns =
    (frame_octets (hello_frame (hello_to e.client e.url)) ++ frame_octets (first_open e.opened))
    ++ rounds_up e.server e.channel (both_opened e) (rounds_in e turns)

-- what that tells the server: what was agreed, the first token, and each call whole, once, in
-- order, under its own RequestId, and each renewal
abbrev pub told_by_turns : Ends → List (List Outgoing) → List Told
told_by_turns e turns =
    (Agreed (agreement_of e.server (hello_to e.client e.url)) ∷ (Opened 1 0 1 3600000 ∷ []))
    ++ rounds_told e.server e.channel (both_opened e) (rounds_in e turns)

-- what the answers tell the client: what was agreed, the first token, and each call its own reply,
-- or that it was aborted as larger than the client takes, or than the server allows itself; and each
-- further token
abbrev pub heard_in : Ends → List (List Outgoing) → List ClientTold
heard_in e turns =
    (heard.Agreed (ack_to (hello_to e.client e.url) e.server) ∷ (heard.Opened e.channel 1 ∷ []))
    ++ rounds_heard e.server e.channel (both_opened e) (rounds_in e turns)

-- what the server writes in answer to the opening
abbrev pub opening_answer_of_ends : Ends → List ℕ
opening_answer_of_ends e =
    frame_octets (ack_frame (ack_to (hello_to e.client e.url) e.server)) ++ frame_octets (opened_frame e.channel 1 1 0 1 3600000 (first_time e.times))

-- the client's operations, each at the end of the answers to those before it
abbrev pub asks_in : Ends → List (List Outgoing) → List Placed
asks_in e turns = rounds_asks e.server e.channel (length (opening_answer_of_ends e)) (both_opened e) (rounds_in e turns)

-- the first operations are those of others, the last of them maybe in part
abbrev pub AreFirstOf : List (List Outgoing) → List (List Outgoing) → Type 0
AreFirstOf [] turns = Unit {0}
AreFirstOf (os ∷ first) [] = ⊥
AreFirstOf (os ∷ []) (us ∷ turns) = IsPrefix os us
AreFirstOf (os ∷ (next ∷ first)) (us ∷ turns) = (os ≡ us) × AreFirstOf (next ∷ first) turns

-- ---- what is assumed

-- each operation can be encoded, and the client refuses none of it in the states of both then
abbrev pub AreRoundsAccepted : Ends → BothEnds → List Round → Type 0
AreRoundsAccepted e at [] = Unit {0}
AreRoundsAccepted e at (r ∷ rounds) =
    (AreWritable r.outgoing × (outgoing_refusal at.client at.id r.outgoing ≡ None))
    × AreRoundsAccepted e (round_behind e.server e.channel at r) rounds

-- what both send to open the channel, and all times of answers, can be encoded
pub record CanOpen (e : Ends) : Type 0 where
  pub hello_fits : IsTrue (hello.encodable (hello_to e.client e.url))
  pub url_fits : url_length e.url ≤ 4095
  pub ack_fits : IsTrue (ack.encodable (ack_to (hello_to e.client e.url) e.server))
  pub channel_fits : e.channel < 2 ^ 32
  pub opened_fits : IsTrue (date_time.encodable e.opened)
  pub times_fit : AllByRecursion (λ (time : DateTime). IsTrue (date_time.encodable time)) e.times

-- what such a server took is a prefix of what such a client sent, and that of its operations: any
-- part of them may be in transit, or not be sent yet
pub record TookOf (e : Ends) (turns : List (List Outgoing)) (x : ServerChannel) (took : List ℕ) : Type 0 where
  pub can : CanOpen e
  pub accepted : AreRoundsAccepted e (both_opened e) (rounds_in e turns)
  pub limits_are : limits_of x ≡ e.server
  pub channel_is : channel_of x ≡ e.channel
  pub sent : List ℕ
  pub sent_is : IsPrefix sent (sent_in e turns)
  pub took_is : IsPrefix took sent

-- what such a client received, which had made each operation by then, is a prefix of what such a
-- server wrote, by what it was told
pub record GotOf (e : Ends) (turns : List (List Outgoing)) (x : ServerChannel) (y : ClientChannel) (asks : List Placed) (got : List ℕ) : Type 0 where
  pub took : List ℕ
  pub took_of : TookOf e turns x took
  pub told : List Told
  pub goes : Goes x took told
  pub limits_are : client_limits y ≡ e.client
  pub asks_are : AreEarlier asks (asks_in e turns)
  pub got_is : IsPrefix got (output_of e.channel e.first told Going e.times)

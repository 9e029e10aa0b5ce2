-- What the channel answers behind messages that were given up, and where that leaves it.
use Rattle.std.specs.Prelude.{◌≡◌, ℕ, IsTrue, List, [], ◌∷◌, ◌++◌, take, None, Result, Ok, Err}
use Rattle.std.specs.List.{concat}
use Rattle.std.proofs.Common.{Vec, Global, refl, append-nil}
use Rattle.ua_builtin.specs.declared.date_time.DateTime.{DateTime}
use Rattle.ua_channel_laws.proofs.ServerReadsOnce.{goes_behind}
use Rattle.ua_channel.specs.ServerSends.{AreSent}
use Rattle.ua_channel.specs.ServerStands.{channel_of, next_of, GoesTelling}
use Rattle.ua_channel.specs.ServerTold.{Told, Agreed, Opened, Asked, GaveUp, Closed}
use Rattle.ua_channel.specs.declared.server.ServerChannel.{ServerChannel}
use Rattle.ua_channel.specs.declared.server_event.ServerEvent.{ServerEvent}
use Rattle.ua_channel.specs.declared.server_event.ServerEvent.TheVariants as event
use Rattle.ua_channel.specs.declared.server_fault.ChannelFault.{ChannelFault}
use Rattle.ua_server.specs.Said.{is_answered}
use Rattle.ua_server.specs.Stepping.{AnswersBehind, StandsBy, given_up}

pub sent-answered : (channel number : ℕ) (moment : DateTime) (t : Told) (octets : List ℕ) → AreSent channel number moment t octets → IsTrue (is_answered t)
sent-answered channel number moment (Agreed a) octets s = refl
sent-answered channel number moment (Opened id handle token lifetime) octets s = refl
sent-answered channel number moment (Asked id token message) octets s = absurd s
sent-answered channel number moment (GaveUp id) octets s = absurd s
sent-answered channel number moment Closed octets s = absurd s

module _ (old mid : ServerChannel) (moment : DateTime) (piece : List ℕ) (n : ℕ) (octets : List ℕ) (told : List Told) where
  -- the same answer by another name
  pub behind-as : (r e : Result ServerEvent ChannelFault) → r ≡ e → AnswersBehind old moment piece n r mid octets told
      → AnswersBehind old moment piece n e mid octets told
  behind-as r e is b = rw (← is) b

  pub event-as : (e f : ServerEvent) → e ≡ f → AnswersBehind old moment piece n (Ok e) mid octets told → AnswersBehind old moment piece n (Ok f) mid octets told
  event-as e f is b = rw (← is) b

  pub fault-as : (e f : ChannelFault) → e ≡ f → AnswersBehind old moment piece n (Err e) mid octets told
      → AnswersBehind old moment piece n (Err f) mid octets told
  fault-as e f is b = rw (← is) b

  -- nothing came
  abbrev pub stands-quiet : AnswersBehind old moment piece n (Ok event.NeedMore) mid octets told → (out : List ℕ) → out ≡ []
      → StandsBy piece None n out mid octets told
  stands-quiet b out none = record {
    quiet = b.quiet;
    more = [];
    stops = (b.answers.0, none);
    goes = rw (append-nil (told ++ given_up b.quiet)) b.answers.1.0;
  }

  -- an ACK or an OPN response
  abbrev pub stands-sent : (sent : Vec ℕ Global) → AnswersBehind old moment piece n (Ok (event.Send sent)) mid octets told
      → StandsBy piece None n sent.items mid octets told
  stands-sent sent b =
      let s = b.answers.1 in
      record {
        quiet = b.quiet;
        more = s.said ∷ [];
        stops = (b.answers.0.0, b.answers.0.1, sent-answered (channel_of old) (next_of old) moment s.said sent.items s.are_sent, s.goes);
        goes = goes_behind mid (octets ++ take n piece) (told ++ given_up b.quiet) s.said s.goes;
      }

  -- a message, and its reply
  abbrev pub stands-replied : (id : ℕ) (message : List (List ℕ)) (new : ServerChannel) (out : List ℕ)
      (b : AnswersBehind old moment piece n (Ok (event.Asked id message)) mid octets told)
      → GoesTelling new (octets ++ take n piece) (told ++ given_up b.quiet) (Asked id b.answers.1.0.token (concat message))
      → StandsBy piece None n out new octets told
  stands-replied id message new out b goes = record {
    quiet = b.quiet;
    more = Asked id b.answers.1.0.token (concat message) ∷ [];
    stops = (b.answers.0.0, b.answers.0.1, refl, goes);
    goes = goes_behind new (octets ++ take n piece) (told ++ given_up b.quiet) (Asked id b.answers.1.0.token (concat message)) goes;
  }

-- What the steps of a judge come to.
use Rattle.std.specs.Prelude.{◌≡◌, Result, Ok, Err, ℕ, Bool, true, false, List, [], ◌∷◌, ◌++◌, length, max, min, take, Option, Some, None}
use Rattle.std.specs.List.{concat}
use Rattle.ua_frame.specs.declared.limits.Limits.{Limits}
use Rattle.ua_channel.specs.Asks.{Placed}
use Rattle.ua_channel.specs.ClientTold.{ours}
use Rattle.ua_channel.specs.ClientTold.ClientTold.{Answered}
use Rattle.ua_channel.specs.ServerTold.{Told}
use Rattle.ua_channel.specs.ServerAnswers.{AnswersAt}
use Rattle.ua_channel.specs.ServerStands.{channel_of, limits_of}
use Rattle.ua_builtin.specs.declared.date_time.DateTime.{DateTime}
use Rattle.ua_channel.specs.declared.server.ServerChannel.{ServerChannel}
use Rattle.ua_channel.specs.declared.server_event.ServerEvent.{ServerEvent}
use Rattle.ua_channel.specs.declared.server_event.ServerEvent.TheVariants as server
use Rattle.ua_channel.specs.declared.server_fault.ChannelFault.{ChannelFault}
use Rattle.ua_channel.specs.declared.server_fault.ChannelFault.TheVariants as fault
use Rattle.ua_channel.specs.declared.client.channel.ClientChannel.{ClientChannel}
use Rattle.ua_channel.specs.declared.client.event.ClientEvent.{ClientEvent}
use Rattle.ua_channel.specs.declared.client.event.ClientEvent.TheVariants as event
use Rattle.ua_builtin.specs.declared.status_code.StatusCode.{StatusCode}
use Rattle.ua_judge.specs.declared.verdict.Verdict.{Verdict}
use Rattle.ua_judge.specs.declared.verdict.Verdict.TheVariants.{Breaks, Closes, Refuses}
use Rattle.ua_judge.specs.Kinds.{is_misfit}
use Rattle.ua_judge.specs.Verdicts.{EndWrong, GoesOnAfter, IsBefore, IsBy, IsClientVerdict, IsSent, IsVerdictOn, ServerAt, named_asks_of, judge_rules}
use Rattle.ua_judge.specs.declared.named.Named.{Named}

-- ---- of a server

-- the bytes up to here were taken, or there is a verdict, on bytes up to here
abbrev pub TakesTo : Limits → List Named → List Placed → List ℕ → ℕ → ClientChannel → Option Verdict → Type 0
TakesTo limits requests asks octets at new None = GoesOnAfter requests new asks (take at octets)
TakesTo limits requests asks octets at new (Some verdict) = IsBy at verdict × IsVerdictOn limits asks requests octets verdict

-- the same from one place to another, or to the end of the bytes if that is before it
abbrev pub TakesUpTo : Limits → List Named → List Placed → List ℕ → ℕ → ℕ → ℕ → ClientChannel → Option Verdict → Type 0
TakesUpTo limits requests asks octets from place at new None = (at ≡ max from (min place (length octets))) × GoesOnAfter requests new asks (take at octets)
TakesUpTo limits requests asks octets from place at new (Some verdict) = IsBy place verdict × IsVerdictOn limits asks requests octets verdict

-- the bytes up to the place of a request were taken and it was sent
pub record Sends (limits : Limits) (requests before : List Named) (request : Named) (octets : List ℕ) (at : ℕ) (new : ClientChannel) : Type 0 where
  pub place_is : at ≡ request.place
  pub is : IsSent limits requests octets before request
  pub follows : GoesOnAfter requests new (named_asks_of (before ++ request ∷ [])) (take at octets)

-- the same, or there is a verdict
abbrev pub GoesOnJudging : Limits → List Named → List Named → Named → List ℕ → ℕ → ClientChannel → Option Verdict → Type 0
GoesOnJudging limits requests before request octets at new None = Sends limits requests before request octets at new
GoesOnJudging limits requests before request octets at new (Some verdict) =
    IsBefore limits requests octets before request verdict × IsVerdictOn limits (named_asks_of before) requests octets verdict

-- the verdict of a client that fails at a place, by whether its peer rejected
abbrev pub failed : ℕ → StatusCode → Bool → Verdict
failed end code true = Refuses end code
failed end code false = Breaks end code

-- the verdict at a reply, by whether it is of another kind than its request
abbrev pub reply_verdict : ℕ → Bool → Option Verdict
reply_verdict end true = Some (Breaks end (record { code = 0x8009_0000 }))
reply_verdict end false = None

-- the verdict at an event, if it ends the channel or brings such a reply
abbrev pub verdict_at : List Named → ℕ → ClientEvent → Option Verdict
verdict_at requests end (event.Failed code peer) = Some (failed end code peer)
verdict_at requests end (event.Answered id message) = reply_verdict end (is_misfit requests (Answered id (concat message)))
verdict_at requests end other = None

-- bytes were taken that end with a reply, which is of another kind than its request or not
abbrev pub TakesReply : Bool → Limits → List Named → ClientChannel → List Placed → List ℕ → Type 0
TakesReply true limits requests new asks octets = EndWrong (judge_rules limits asks requests) octets (ours 0x8009_0000)
TakesReply false limits requests new asks octets = GoesOnAfter requests new asks octets

-- some bytes of a fragment were taken after these, with an event that ends the channel, brings a reply, or
-- does neither
abbrev pub TakesClientBytes : ℕ → ClientEvent → Limits → List Named → ClientChannel → List Placed → List ℕ → List ℕ → Type 0
TakesClientBytes n (event.Failed code peer) limits requests new asks piece octets =
    EndWrong (judge_rules limits asks requests) (octets ++ take n piece) (record { code = code.code; peer = peer })
TakesClientBytes n (event.Answered id message) limits requests new asks piece octets =
    TakesReply (is_misfit requests (Answered id (concat message))) limits requests new asks (octets ++ take n piece)
TakesClientBytes n other limits requests new asks piece octets = GoesOnAfter requests new asks (octets ++ take n piece)

-- ---- of a client

-- the verdict at an event of a server, if that is the close of the channel
abbrev pub closed_at : ℕ → ServerEvent → Option Verdict
closed_at end server.Closed = Some (Closes end)
closed_at end other = None

-- the verdict at a fault, which is a refusal
abbrev pub IsRefusalVerdict : ℕ → ChannelFault → Option Verdict → Type 0
IsRefusalVerdict end (fault.Refused code err) found = found ≡ Some (Breaks end code)
IsRefusalVerdict end other found = ⊥

-- the verdict at what a server answers, if that decides it
abbrev pub IsOutcome : ℕ → Result ServerEvent ChannelFault → Option Verdict → Type 0
IsOutcome end (Ok e) found = found ≡ closed_at end e
IsOutcome end (Err why) found = IsRefusalVerdict end why found

-- bytes were taken of a fragment after these, with this answer
pub record AdvancesServer (limits : Limits) (channel : ℕ) (new : ServerChannel) (piece octets : List ℕ) (n : ℕ)
    (answer : Result ServerEvent ChannelFault) : Type 0 where
  pub limits_are : limits_of new ≡ limits
  pub channel_is : channel_of new ≡ channel
  pub id : ℕ
  pub number : ℕ
  pub moment : DateTime
  pub told : List Told
  pub answers : AnswersAt id number moment piece n answer new octets told

-- the bytes up to here were taken, or there is a verdict
abbrev pub ServerTakesTo : Limits → ℕ → List ℕ → ℕ → ServerChannel → Option Verdict → Type 0
ServerTakesTo limits channel octets at new None = ServerAt limits channel new (take at octets)
ServerTakesTo limits channel octets at new (Some verdict) = IsClientVerdict limits channel octets verdict

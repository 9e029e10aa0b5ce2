-- The verdict on the bytes of a side: what the rules of the other end say of them (`ua_channel`). A
-- server's replies are judged by their kinds, too.
use Rattle.std.specs.Prelude.{◌≡◌, ℕ, suc, ◌≤◌, Bool, true, false, List, [], ◌∷◌, ◌++◌, length, take}
use Rattle.std.specs.Prelude.{drop, max, min, Option, Some, None}
use Rattle.std.specs.List.{list_any}
use Rattle.ua_builtin.specs.Reasons.{first_reason}
use Rattle.ua_frame.specs.After.{AllAfter}
use Rattle.ua_frame.specs.declared.frame.Frame.{Frame}
use Rattle.ua_frame.specs.declared.limits.Limits.{Limits}
use Rattle.ua_frame.specs.Run.{Rules, Run, Going, Stopped, Over, events}
use Rattle.ua_channel.specs.Asks.{Asking, Placed, asked_in}
use Rattle.ua_channel.specs.Asks.Asking.{Call, Renewal}
use Rattle.ua_channel.specs.Client.{ClientStands, client_rules_of}
use Rattle.ua_channel.specs.ClientAsks.{call_reasons, renewing_reasons}
use Rattle.ua_channel.specs.ClientTable.{client_rules}
use Rattle.ua_channel.specs.ClientTold.{ClientTold, Why, ours, peers}
use Rattle.ua_channel.specs.Received.{received}
use Rattle.ua_channel.specs.ServerRules.{server_rules}
use Rattle.ua_channel.specs.ServerStands.{ChannelStands, channel_of, limits_of}
use Rattle.ua_channel.specs.Stops.{StopsAt}
use Rattle.ua_channel.specs.declared.server.ServerChannel.{ServerChannel}
use Rattle.ua_channel.specs.declared.client.channel.ClientChannel.{ClientChannel}
use Rattle.ua_channel.specs.declared.client.fault.AskFault.{AskFault}
use Rattle.ua_channel.specs.declared.client.fault.AskFault.TheVariants.{NotOpen}
use Rattle.ua_judge.specs.Kinds.{is_misfit}
use Rattle.ua_judge.specs.declared.named.Named.{Named}
use Rattle.ua_judge.specs.declared.verdict.Verdict.{Verdict}
use Rattle.ua_judge.specs.declared.verdict.Verdict.TheVariants.{Keeps, Closes, Breaks, Refuses, Stops}

-- ---- by rules

-- the bytes go on: nothing in them is wrong, up to an incomplete frame
pub record GoOnFaultless {E X : Type 0} (R : Rules E X) (octets : List ℕ) : Type 0 where
  pub frames : List Frame
  pub rest : List ℕ
  pub run : Run R octets frames rest Going

-- the bytes end with the last frame that is looked at, and nothing in them is wrong
pub record EndFaultless {E X : Type 0} (R : Rules E X) (octets : List ℕ) : Type 0 where
  pub frames : List Frame
  pub run : Run R octets frames [] Over

-- the bytes end with the first thing that is wrong: the eighth byte of a header, or the last of a
-- frame; and this is the first reason against it
pub record EndWrong {E X : Type 0} (R : Rules E X) (octets : List ℕ) (why : X) : Type 0 where
  pub frames : List Frame
  pub rest : List ℕ
  pub run : Run R octets frames rest (Stopped why)
  pub stops : StopsAt R frames rest why

-- the bytes up to a place, which is within them
pub record UpTo (octets : List ℕ) (end : ℕ) (of : List ℕ → Type 0) : Type 0 where
  pub within : end ≤ length octets
  pub holds : of (take end octets)

-- ---- a client

-- the verdict of a server with these limits, whose channel has this id, on a client's bytes
abbrev pub IsClientVerdict : Limits → ℕ → List ℕ → Verdict → Type 0
IsClientVerdict limits channel octets Keeps = GoOnFaultless (server_rules limits channel) octets
IsClientVerdict limits channel octets (Closes end) = UpTo octets end (EndFaultless (server_rules limits channel))
IsClientVerdict limits channel octets (Breaks end code) = UpTo octets end (λ o. EndWrong (server_rules limits channel) o code.code)
IsClientVerdict limits channel octets (Refuses end code) = ⊥
IsClientVerdict limits channel octets (Stops end fault) = ⊥

-- ---- a server: what it may send

-- the rules, and one more, which is judged last: a frame is wrong if something that it tells is
abbrev pub refusing : {E X : Type 0} → Rules E X → X → (E → Bool) → Rules E X
refusing R why is_wrong = record {
  gate = R.gate;
  reasons = λ before f. R.reasons before f ++ (why, list_any is_wrong (R.tells before f)) ∷ [];
  of_header = R.of_header;
  tells = R.tells;
  over = R.over;
}

-- the rules of a client that sent these of all requests: those of its channel, and BadUnknownResponse for
-- the last chunk of a reply of another kind than its request
abbrev pub judge_rules : Limits → List Placed → List Named → Rules ClientTold Why
judge_rules limits asks requests = refusing (client_rules limits asks) (ours 0x8009_0000) (is_misfit requests)

-- the verdict of such a client on a server's bytes
abbrev pub IsVerdictOn : Limits → List Placed → List Named → List ℕ → Verdict → Type 0
IsVerdictOn limits asks requests octets Keeps = GoOnFaultless (judge_rules limits asks requests) octets
IsVerdictOn limits asks requests octets (Closes end) = ⊥
IsVerdictOn limits asks requests octets (Breaks end code) = UpTo octets end (λ o. EndWrong (judge_rules limits asks requests) o (ours code.code))
IsVerdictOn limits asks requests octets (Refuses end code) = UpTo octets end (λ o. EndWrong (judge_rules limits asks requests) o (peers code.code))
IsVerdictOn limits asks requests octets (Stops end fault) = UpTo octets end (GoOnFaultless (judge_rules limits asks requests))

-- ---- a server: which requests it was sent

-- a request under our RequestId
abbrev pub asking : Bool → ℕ → Asking
asking true id = Renewal id
asking false id = Call id

-- requests at their places, under our RequestIds, of which this is the first
abbrev pub named_asks_from : ℕ → List Named → List Placed
named_asks_from id [] = []
named_asks_from id (name ∷ names) = (name.place, asking name.opens id) ∷ named_asks_from (suc id) names

-- the requests after the first OPN, which has the RequestId 1
abbrev pub named_asks_of : List Named → List Placed
named_asks_of names = named_asks_from 2 names

-- why a client that received these frames and sent these requests cannot send a renewal, or a call whose
-- body does not matter, in the order in which it is judged
abbrev pub asking_reasons : Bool → List Frame → List Placed → List (AskFault × Bool)
asking_reasons true frames asks = renewing_reasons (received frames) (asked_in asks)
asking_reasons false frames asks = call_reasons (received frames) (asked_in asks) 0 (0 ∷ [])

-- this is why a request cannot be sent after some bytes, or none where it can
pub record IsReasonAgainstAsking (limits : Limits) (asks : List Placed) (requests : List Named) (opens : Bool) (octets : List ℕ)
    (why : Option AskFault) : Type 0 where
  pub frames : List Frame
  pub rest : List ℕ
  pub run : Run (judge_rules limits asks requests) octets frames rest Going
  pub why_is : first_reason (asking_reasons opens frames asks) ≡ why

-- the place up to which bytes were taken when the last of these requests had been sent
abbrev pub place_after : ℕ → List Named → ℕ
place_after at [] = at
place_after at (name ∷ names) = place_after name.place names

-- a request was sent after those before it: at its place, which is not before theirs
pub record IsSent (limits : Limits) (requests : List Named) (octets : List ℕ) (before : List Named) (request : Named) : Type 0 where
  pub later : place_after 0 before ≤ request.place
  pub within : request.place ≤ length octets
  pub taken : IsReasonAgainstAsking limits (named_asks_of before) requests request.opens (take request.place octets) None

-- a request cannot be sent after those before it. The bytes are taken up to its place: no further than
-- before if that is passed, and to their end if they are fewer. At its place the client refuses it
-- for this reason, and elsewhere it is NotOpen
pub record IsNotSent
    (limits : Limits) (requests : List Named) (octets : List ℕ) (before : List Named) (request : Named) (end : ℕ) (fault : AskFault) : Type 0 where
  pub end_is : end ≡ max (place_after 0 before) (min request.place (length octets))
  pub refused : (request.place ≡ end) → IsReasonAgainstAsking limits (named_asks_of before) requests request.opens (take end octets) (Some fault)
  pub placeless : ((request.place ≡ end) → ⊥) → fault ≡ NotOpen

-- the verdict is on bytes up to this place, and ends the channel
abbrev pub IsBy : ℕ → Verdict → Type 0
IsBy place (Breaks end code) = end ≤ place
IsBy place (Refuses end code) = end ≤ place
IsBy place other = ⊥

-- the verdict comes before the next request is sent, or that cannot be sent
abbrev pub IsBefore : Limits → List Named → List ℕ → List Named → Named → Verdict → Type 0
IsBefore limits requests octets before next (Stops end fault) = IsNotSent limits requests octets before next end fault
IsBefore limits requests octets before next verdict = IsBy next.place verdict

-- the verdict does not stop at a request
abbrev pub IsNoStop : Verdict → Type 0
IsNoStop (Stops end fault) = ⊥
IsNoStop other = Unit {0}

-- the verdict after these requests were sent, and these were not: where all were sent it stops at none
abbrev pub LeavesUnsent : Limits → List Named → List ℕ → List Named → List Named → Verdict → Type 0
LeavesUnsent limits requests octets before [] verdict = IsNoStop verdict
LeavesUnsent limits requests octets before (next ∷ others) verdict = IsBefore limits requests octets before next verdict

-- the verdict of a client with these limits that sends these requests in order, each where so many bytes
-- have come, until something is wrong or one cannot be sent: so many were sent before
pub record IsServerVerdict (limits : Limits) (requests : List Named) (octets : List ℕ) (verdict : Verdict) : Type 0 where
  pub sent : ℕ
  pub each : AllAfter (IsSent limits requests octets) (take sent requests)
  pub leaves : LeavesUnsent limits requests octets (take sent requests) (drop sent requests) verdict
  pub is : IsVerdictOn limits (named_asks_of (take sent requests)) requests octets verdict

-- ---- channels, as far as they have come

-- the channel goes on after these operations and bytes, and no reply in them is of another kind than
-- its request
pub record GoesOnAfter (requests : List Named) (x : ClientChannel) (asks : List Placed) (octets : List ℕ) : Type 0 where
  pub frames : List Frame
  pub rest : List ℕ
  pub stands : ClientStands x asks octets frames rest
  pub fit : list_any (is_misfit requests) (events (client_rules_of x asks) frames) ≡ false

-- a channel with these limits and this id goes on after these bytes
pub record ServerAt (limits : Limits) (channel : ℕ) (x : ServerChannel) (octets : List ℕ) : Type 0 where
  pub limits_are : limits_of x ≡ limits
  pub channel_is : channel_of x ≡ channel
  pub frames : List Frame
  pub rest : List ℕ
  pub stands : ChannelStands x octets frames rest

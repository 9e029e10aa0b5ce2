-- A server's channel, as far as it has come, and where it ends.
use Rattle.std.proofs.Common.{◌≡◌, ℕ, ◌+◌, ◌<◌, ◌≤◌, List, [], ◌∷◌, ◌++◌, length, take, drop, Option, Some, None, Result, Ok, Err, refl, sym, ◌∙◌, ap, subst}
use Rattle.ua_builtin.specs.declared.date_time.DateTime.{DateTime}
use Rattle.ua_frame.specs.declared.limits.Limits.{Limits}
use Rattle.ua_frame.specs.Run.{Rules}
use Rattle.ua_channel.specs.ServerAnswers.{EventHandedOut, AnswersAt, Progress}
use Rattle.ua_channel.specs.ServerRules.{server_rules}
use Rattle.ua_channel.specs.ServerStands.{ClosedAt, Goes, GoesTelling, RefusedAt, channel_of, limits_of}
use Rattle.ua_channel.specs.ServerTold.{Told}
use Rattle.ua_channel.specs.ServerTold.{Told as said}
use Rattle.ua_channel.specs.declared.server.ServerChannel.{ServerChannel}
use Rattle.ua_channel.specs.declared.server_event.ServerEvent.{ServerEvent}
use Rattle.ua_channel.specs.declared.server_event.ServerEvent.TheVariants.{NeedMore, Send, Asked, Aborted}
use Rattle.ua_channel.specs.declared.server_event.ServerEvent.TheVariants as event
use Rattle.ua_channel.specs.declared.server_fault.ChannelFault.{ChannelFault}
use Rattle.ua_channel.specs.declared.server_fault.ChannelFault.TheVariants.{Refused, OutOfMemory}
use Rattle.ua_channel.specs.declared.server_fault.ChannelFault.TheVariants as fault
use Rattle.ua_judge.specs.Judging.{AdvancesServer, IsOutcome, ServerTakesTo, closed_at}
use Rattle.ua_judge.specs.Verdicts.{EndFaultless, EndWrong, GoOnFaultless, IsClientVerdict, ServerAt}
use Rattle.ua_judge.specs.declared.verdict.Verdict.{Verdict}
use Rattle.ua_judge.proofs.Pieces.{next_at, parts_of}

module _ (limits : Limits) (channel : ℕ) (y : ServerChannel) (octets : List ℕ) (told : List Told) (limits_are : limits_of y ≡ limits)
    (channel_is : channel_of y ≡ channel) where
  on_going : Goes y octets told → ServerAt limits channel y octets
  on_going g = record { limits_are = limits_are; channel_is = channel_is; frames = g.frames; rest = g.rest; stands = g.stands }

  on_telling : (e : Told) → GoesTelling y octets told e → ServerAt limits channel y octets
  on_telling e g = record { limits_are = limits_are; channel_is = channel_is; frames = g.frames ++ g.frame ∷ []; rest = []; stands = g.stands }

  pub on_event : (id number : ℕ) (moment : DateTime) (e : ServerEvent) → (e ≡ event.Closed → ⊥) → EventHandedOut id number moment e y octets told
      → ServerAt limits channel y octets
  on_event id number moment NeedMore stays h = on_going h.0
  on_event id number moment (Send sent) stays h = on_telling h.said h.goes
  on_event id number moment (Asked request message) stays h = on_telling _ h.0.goes
  on_event id number moment (Aborted request) stays h = on_telling _ h.0
  on_event id number moment event.Closed stays h = absurd (stays refl)

  rules_same : server_rules (limits_of y) (channel_of y) ≡ server_rules limits channel
  rules_same = ap (λ (l : Limits). server_rules l (channel_of y)) limits_are ∙ ap (server_rules limits) channel_is

  pub on_close : ClosedAt y octets told → EndFaultless (server_rules limits channel) octets
  on_close h = subst (λ (R : Rules Told ℕ). EndFaultless R octets) rules_same (record { frames = h.frames; run = h.run })

  pub on_refusal : (code : ℕ) → RefusedAt y octets told code → EndWrong (server_rules limits channel) octets code
  on_refusal code h = subst (λ (R : Rules Told ℕ). EndWrong R octets code) rules_same
      (record { frames = h.frames; rest = h.rest; run = h.run; stops = h.stops })

-- ---- what a call of `advance` comes to

pub within_piece : {A E : Type 0} (piece : List ℕ) (n : ℕ) (r : Result A E) → Progress piece n r → n ≤ length piece
within_piece piece n (Ok e) p = p.0
within_piece piece n (Err fault) p = p

some_is : {A : Type 0} {a b : A} → Some a ≡ Some b → a ≡ b
some_is e = cc

open_event : (end : ℕ) (e : ServerEvent) → None ≡ closed_at end e → e ≡ event.Closed → ⊥
open_event end NeedMore none closed = absurd cc
open_event end (Send sent) none closed = absurd cc
open_event end (Asked id message) none closed = absurd cc
open_event end (Aborted id) none closed = absurd cc
open_event end event.Closed none closed = absurd cc

module _ (limits : Limits) (channel : ℕ) (id number : ℕ) (moment : DateTime) (piece : List ℕ) (n : ℕ) (y : ServerChannel) (octets : List ℕ) (told : List Told)
    (limits_are : limits_of y ≡ limits) (channel_is : channel_of y ≡ channel) (end : ℕ) where
  pub server_goes : (answer : Result ServerEvent ChannelFault) → IsOutcome end answer None → AnswersAt id number moment piece n answer y octets told
      → ServerAt limits channel y (octets ++ take n piece)
  server_goes (Ok e) none h = on_event limits channel y (octets ++ take n piece) told limits_are channel_is id number moment e (open_event end e none) h.1
  server_goes (Err (Refused code err)) none h = absurd cc
  server_goes (Err OutOfMemory) none h = absurd none
  server_goes (Err fault.Closed) none h = absurd none

  at_event : (all : List ℕ) (v : Verdict) → end ≤ length all → octets ++ take n piece ≡ take end all → (e : ServerEvent) → Some v ≡ closed_at end e
      → EventHandedOut id number moment e y (octets ++ take n piece) told
      → IsClientVerdict limits channel all v
  at_event all v within parts NeedMore some h = absurd cc
  at_event all v within parts (Send sent) some h = absurd cc
  at_event all v within parts (Asked request message) some h = absurd cc
  at_event all v within parts (Aborted request) some h = absurd cc
  at_event all v within parts event.Closed some h =
      let over : EndFaultless (server_rules limits channel) (octets ++ take n piece) = on_close limits channel y (octets ++ take n piece)
      (told ++ said.Closed ∷ [])
      limits_are channel_is h in
      subst (IsClientVerdict limits channel all) (sym (some_is some))
      (record { within = within; holds = subst (EndFaultless (server_rules limits channel)) parts over })

  pub server_ends : (all : List ℕ) (v : Verdict) → end ≤ length all → octets ++ take n piece ≡ take end all → (answer : Result ServerEvent ChannelFault)
      → IsOutcome end answer (Some v)
      → AnswersAt id number moment piece n answer y octets told → IsClientVerdict limits channel all v
  server_ends all v within parts (Ok e) some h = at_event all v within parts e some h.1
  server_ends all v within parts (Err (Refused code err)) some h =
      let wrong : EndWrong (server_rules limits channel) (octets ++ take n piece) code.code =
      on_refusal limits channel y (octets ++ take n piece) told limits_are channel_is code.code h.1 in
      subst (IsClientVerdict limits channel all) (sym (some_is some))
      (record { within = within; holds = subst (λ (o : List ℕ). EndWrong (server_rules limits channel) o code.code) parts wrong })
  server_ends all v within parts (Err OutOfMemory) some h = absurd some
  server_ends all v within parts (Err fault.Closed) some h = absurd some

pub goes_at : (limits : Limits) (channel : ℕ) (x : ServerChannel) (octets : List ℕ) (s : ServerAt limits channel x octets)
    → (told : List Told) × Goes x octets told
goes_at limits channel x octets s = (_, record { frames = s.frames; rest = s.rest; stands = s.stands; told_is = refl })

pub on_end : (limits : Limits) (channel : ℕ) (x : ServerChannel) (octets : List ℕ) → ServerAt limits channel x octets
    → GoOnFaultless (server_rules limits channel) octets
on_end limits channel x octets s =
    subst (λ (R : Rules Told ℕ). GoOnFaultless R octets) (ap (λ (l : Limits). server_rules l (channel_of x)) s.limits_are
    ∙ ap (server_rules limits) s.channel_is)
    (record { frames = s.frames; rest = s.rest; run = s.stands.run })

-- what is made of an answer and a verdict
pub server_took : (limits : Limits) (channel : ℕ) (all piece : List ℕ) (at m n : ℕ) (y : ServerChannel) (answer : Result ServerEvent ChannelFault)
    (found : Option Verdict) → at ≤ length all → n ≤ length piece
    → piece ≡ take m (drop at all) → AdvancesServer limits channel y piece (take at all) n answer → IsOutcome (at + n) answer found
    → ServerTakesTo limits channel all (at + n) y found
server_took limits channel all piece at m n y answer None inside few is a outcome =
    let parts : take at all ++ take n piece ≡ take (at + n) all = parts_of all piece at m n few is in
    subst (ServerAt limits channel y) parts (server_goes limits channel a.id a.number a.moment piece n y (take at all) a.told a.limits_are a.channel_is
    (at + n) answer outcome a.answers)
server_took limits channel all piece at m n y answer (Some v) inside few is a outcome =
    let parts : take at all ++ take n piece ≡ take (at + n) all = parts_of all piece at m n few is in
    server_ends limits channel a.id a.number a.moment piece n y (take at all) a.told a.limits_are a.channel_is (at + n) all v
    (next_at all piece at m n inside few is) parts answer outcome a.answers

pub further_by : (piece : List ℕ) (end n : ℕ) (answer : Result ServerEvent ChannelFault) → IsOutcome end answer None → Progress piece n answer
    → 0 < length piece → 0 < n
further_by piece end n (Ok e) outcome p some = p.1 some
further_by piece end n (Err (Refused code err)) outcome p some = absurd cc
further_by piece end n (Err OutOfMemory) outcome p some = absurd outcome
further_by piece end n (Err fault.Closed) outcome p some = absurd outcome

pub advances_by : (limits : Limits) (channel id number : ℕ) (moment : DateTime) (y : ServerChannel) (piece octets : List ℕ) (n : ℕ)
    (answer : Result ServerEvent ChannelFault) (told : List Told)
    → limits_of y ≡ limits → channel_of y ≡ channel → AnswersAt id number moment piece n answer y octets told
    → AdvancesServer limits channel y piece octets n answer
advances_by limits channel id number moment y piece octets n answer told limits_are channel_is h = record {
  limits_are = limits_are;
  channel_is = channel_is;
  id = id;
  number = number;
  moment = moment;
  told = told;
  answers = h;
}

-- with a verdict, or with none
pub server_decides : (limits : Limits) (channel : ℕ) (octets : List ℕ) (at : ℕ) (y : ServerChannel) (found : Option Verdict) (v : Verdict) → found ≡ Some v
    → ServerTakesTo limits channel octets at y found → IsClientVerdict limits channel octets v
server_decides limits channel octets at y found v is h = subst (ServerTakesTo limits channel octets at y) is h

pub server_follows : (limits : Limits) (channel : ℕ) (octets : List ℕ) (at : ℕ) (y : ServerChannel) (found : Option Verdict) → found ≡ None
    → ServerTakesTo limits channel octets at y found → ServerAt limits channel y (take at octets)
server_follows limits channel octets at y found is h = subst (ServerTakesTo limits channel octets at y) is h

-- A client's channel, as far as it has come, and where it ends.
use Rattle.std.proofs.Common.{◌≡◌, ℕ, suc, ◌+◌, ◌≤◌, List, [], ◌∷◌, ◌++◌, Bool, true, false, length, take, drop, Some, None, refl, sym, ◌∙◌, ap, subst, arith}
use Rattle.std.proofs.Common.{Ok, Option, min}
use Rattle.std.specs.List.{concat, list_any}
use Rattle.std.specs.Prelude.{is_some, max}
use Rattle.std.proofs.lemmas.Bool.{or_from}
use Rattle.std.proofs.lemmas.List.{length-map, take_all}
use Rattle.std.proofs.lemmas.List.Folds.{list_any-append}
use Rattle.ua_builtin.specs.Reasons.{first_reason}
use Rattle.ua_builtin.specs.declared.date_time.DateTime.{DateTime}
use Rattle.ua_builtin.specs.declared.status_code.StatusCode.{StatusCode}
use Rattle.ua_frame.proofs.Afters.{each_after-push}
use Rattle.ua_frame.specs.After.{each_after}
use Rattle.ua_frame.specs.declared.limits.Limits.{Limits}
use Rattle.ua_frame.specs.Run.{events}
use Rattle.ua_channel.specs.Asks.{Placed, asked_in, next_id}
use Rattle.ua_channel.specs.Client.{ClientEnded, ClientGoes, ClientGoesTelling, client_limits, client_rules_of}
use Rattle.ua_channel.specs.ClientAnswers.{ClientAnswers}
use Rattle.ua_channel.specs.ClientTold.{ClientTold, Why, ours}
use Rattle.ua_channel.specs.ClientTold.ClientTold.{Agreed, Answered, GaveUp, Opened, Renewed}
use Rattle.ua_channel.specs.declared.client.channel.ClientChannel.{ClientChannel}
use Rattle.ua_channel.specs.declared.client.event.ClientEvent.{ClientEvent}
use Rattle.ua_channel.specs.declared.client.event.ClientEvent.TheVariants as event
use Rattle.ua_channel.specs.declared.client.fault.AskFault.{AskFault}
use Rattle.ua_judge.specs.Judging.{GoesOnJudging, TakesReply, TakesClientBytes, TakesTo, TakesUpTo, failed, reply_verdict, verdict_at}
use Rattle.ua_judge.specs.Kinds.{is_misfit}
use Rattle.ua_judge.specs.Verdicts.{EndWrong, GoesOnAfter, GoOnFaultless, IsBefore, IsBy, IsReasonAgainstAsking}
use Rattle.ua_judge.specs.Verdicts.{IsNoStop, IsVerdictOn, asking, asking_reasons, named_asks_from, named_asks_of}
use Rattle.ua_judge.specs.Verdicts.{judge_rules, place_after}
use Rattle.ua_judge.specs.declared.named.Named.{Named}
use Rattle.ua_judge.specs.declared.verdict.Verdict.{Verdict}
use Rattle.ua_judge.specs.declared.verdict.Verdict.TheVariants as verdict
use Rattle.ua_judge.proofs.Pieces.{next_at, parts_of}
use Rattle.ua_judge.proofs.Refusing.{goes_too, wrong_last, wrong_so}

some_is : {A : Type 0} {a b : A} → Some a ≡ Some b → a ≡ b
some_is e = cc

-- ---- what was told

-- none of these is a reply of another kind than its request
abbrev pub AreFit : List Named → List ClientTold → Type 0
AreFit requests told = list_any (is_misfit requests) told ≡ false

one_of : (requests : List Named) (e : ClientTold) (b : Bool) → is_misfit requests e ≡ b → list_any (is_misfit requests) (e ∷ []) ≡ b
one_of requests e true is = rw is refl
one_of requests e false is = rw is refl

-- one more, which is none either
fit_more : (requests : List Named) (told : List ClientTold) (e : ClientTold) → AreFit requests told → is_misfit requests e ≡ false
    → AreFit requests (told ++ e ∷ [])
fit_more requests told e fit one = list_any-append (is_misfit requests) told (e ∷ []) ∙ or_from (list_any (is_misfit requests) told)
    (list_any (is_misfit requests) (e ∷ [])) fit (one_of requests e false one)

-- before any frame
pub fit_none : (requests : List Named) (x : ClientChannel) (asks : List Placed) → list_any (is_misfit requests) (events (client_rules_of x asks) []) ≡ false
unfolding each_after
fit_none requests x asks = refl

-- ---- what is taken

pub goes_so : (requests : List Named) (x : ClientChannel) (asks : List Placed) (octets : List ℕ) → GoesOnAfter requests x asks octets
    → (told : List ClientTold) × (ClientGoes x asks octets told × AreFit requests told)
goes_so requests x asks octets s = (_, (record { frames = s.frames; rest = s.rest; stands = s.stands; told_is = refl }, s.fit))

of_going : (requests : List Named) (y : ClientChannel) (asks : List Placed) (octets : List ℕ) (told : List ClientTold) → AreFit requests told
    → ClientGoes y asks octets told → GoesOnAfter requests y asks octets
of_going requests y asks octets told fit g = record {
  frames = g.frames;
  rest = g.rest;
  stands = g.stands;
  fit = ap (list_any (is_misfit requests))
      g.told_is ∙ fit;
}

told_with : (y : ClientChannel) (asks : List Placed) (octets : List ℕ) (told : List ClientTold) (e : ClientTold) (g : ClientGoesTelling y asks octets told e)
    → events (client_rules_of y asks) (g.frames ++ g.frame ∷ []) ≡ told ++ e ∷ []
told_with y asks octets told e g =
    each_after-push (client_rules_of y asks).tells g.frames g.frame
    ∙ (ap (λ (t : List ClientTold). t ++ (client_rules_of y asks).tells g.frames g.frame) g.told_is ∙ ap (λ (t : List ClientTold). told ++ t) g.tells)

of_telling : (requests : List Named) (y : ClientChannel) (asks : List Placed) (octets : List ℕ) (told : List ClientTold) (e : ClientTold)
    → AreFit requests told → is_misfit requests e ≡ false → ClientGoesTelling y asks octets told e → GoesOnAfter requests y asks octets
of_telling requests y asks octets told e fit one g = record {
  frames = g.frames ++ g.frame ∷ [];
  rest = [];
  stands = g.stands;
  fit = ap (list_any (is_misfit requests)) (told_with y asks octets told e g) ∙ fit_more requests told e fit one;
}

wrong_by : (requests : List Named) (limits : Limits) (y : ClientChannel) (asks : List Placed) (octets : List ℕ) (why : Why) → client_limits y ≡ limits
    → EndWrong (judge_rules (client_limits y) asks requests) octets why → EndWrong (judge_rules limits asks requests) octets why
wrong_by requests limits y asks octets why same h = subst (λ (l : Limits). EndWrong (judge_rules l asks requests) octets why) same h

ended_so : (requests : List Named) (y : ClientChannel) (limits : Limits) (asks : List Placed) (octets : List ℕ) (told : List ClientTold) (why : Why)
    → client_limits y ≡ limits → AreFit requests told → ClientEnded y asks octets told why
    → EndWrong (judge_rules limits asks requests) octets why
ended_so requests y limits asks octets told why same fit h =
    wrong_by requests limits y asks octets why same
    (wrong_so (client_rules_of y asks) (ours 0x8009_0000) (is_misfit requests) octets h.frames h.rest why h.run h.stops
    (ap (list_any (is_misfit requests)) h.told_is ∙ fit))

misfits_so : (requests : List Named) (y : ClientChannel) (limits : Limits) (asks : List Placed) (octets : List ℕ) (told : List ClientTold) (e : ClientTold)
    → client_limits y ≡ limits → AreFit requests told → is_misfit requests e ≡ true → ClientGoesTelling y asks octets told e
    → EndWrong (judge_rules limits asks requests) octets (ours 0x8009_0000)
misfits_so requests y limits asks octets told e same fit one g =
    wrong_by requests limits y asks octets (ours 0x8009_0000) same
    (wrong_last (client_rules_of y asks) (ours 0x8009_0000) (is_misfit requests) octets g.frames g.frame g.stands.run
    (ap (list_any (is_misfit requests)) g.told_is ∙ fit)
    (ap (list_any (is_misfit requests)) g.tells ∙ one_of requests e true one))

replies_so : (b : Bool) (requests : List Named) (y : ClientChannel) (limits : Limits) (asks : List Placed) (octets : List ℕ) (told : List ClientTold)
    (e : ClientTold) → client_limits y ≡ limits → AreFit requests told → is_misfit requests e ≡ b → ClientGoesTelling y asks octets told e
    → TakesReply b limits requests y asks octets
replies_so true requests y limits asks octets told e same fit one g = misfits_so requests y limits asks octets told e same fit one g
replies_so false requests y limits asks octets told e same fit one g = of_telling requests y asks octets told e fit one g

-- what a call of `take` comes to
pub takes_some : (moment : DateTime) (piece : List ℕ) (n : ℕ) (e : ClientEvent) (limits : Limits) (requests : List Named) (y : ClientChannel)
    (asks : List Placed) (octets : List ℕ) (told : List ClientTold) →
    client_limits y ≡ limits → AreFit requests told → ClientAnswers moment piece (Ok (n, e)) y asks octets told
    → TakesClientBytes n e limits requests y asks piece octets
takes_some moment piece n event.NeedMore limits requests y asks octets told same fit h =
    subst (λ (t : List ℕ). GoesOnAfter requests y asks (octets ++ t)) (sym (take_all n piece (omega (arith, h.0))))
    (of_going requests y asks (octets ++ piece) told fit h.1)
takes_some moment piece n (event.Send sent) limits requests y asks octets told same fit h = of_telling requests y asks (octets ++ take n piece) told
    (Agreed h.ack) fit refl h.goes
takes_some moment piece n event.Open limits requests y asks octets told same fit h = of_telling requests y asks (octets ++ take n piece) told
    (Opened h.channel h.token) fit refl h.goes
takes_some moment piece n (event.Answered id message) limits requests y asks octets told same fit h =
    replies_so (is_misfit requests (Answered id (concat message))) requests y limits asks (octets ++ take n piece) told (Answered id (concat message)) same
    fit refl h.0
takes_some moment piece n (event.Aborted id code) limits requests y asks octets told same fit h = of_telling requests y asks (octets ++ take n piece) told
    (GaveUp id code) fit refl h
takes_some moment piece n (event.Failed code peer) limits requests y asks octets told same fit h = ended_so requests y limits asks (octets ++ take n piece)
    told _ same fit h
takes_some moment piece n (event.Renewed token) limits requests y asks octets told same fit h = of_telling requests y asks (octets ++ take n piece) told
    (Renewed token) fit refl h

-- ---- with an event

failed_so : (limits : Limits) (requests : List Named) (asks : List Placed) (octets : List ℕ) (end : ℕ) (code : StatusCode) (peer : Bool) → end ≤ length octets
    → EndWrong (judge_rules limits asks requests) (take end octets) (record { code = code.code; peer = peer })
    → IsBy end (failed end code peer) × IsVerdictOn limits asks requests octets (failed end code peer)
failed_so limits requests asks octets end code true within h = (omega arith, record { within = within; holds = h })
failed_so limits requests asks octets end code false within h = (omega arith, record { within = within; holds = h })

pub goes_on_so : (requests : List Named) (y : ClientChannel) (limits : Limits) (asks : List Placed) (octets : List ℕ) → client_limits y ≡ limits
    → GoesOnAfter requests y asks octets → GoOnFaultless (judge_rules limits asks requests) octets
goes_on_so requests y limits asks octets same s =
    subst (λ (l : Limits). GoOnFaultless (judge_rules l asks requests) octets) same
    (record {
      frames = s.frames;
      rest = s.rest;
      run = goes_too (client_rules_of y asks) (ours 0x8009_0000) (is_misfit requests) octets s.frames s.rest
          s.stands.run s.fit;
    })

none_reply : (end : ℕ) (b : Bool) (limits : Limits) (requests : List Named) (y : ClientChannel) (asks : List Placed) (octets : List ℕ)
    → reply_verdict end b ≡ None → TakesReply b limits requests y asks octets → GoesOnAfter requests y asks octets
none_reply end true limits requests y asks octets none h = absurd cc
none_reply end false limits requests y asks octets none h = h

-- an event that ends nothing leaves the channel as it was, and one that ends it gives the verdict
going_so : (end n : ℕ) (e : ClientEvent) (limits : Limits) (requests : List Named) (y : ClientChannel) (asks : List Placed) (piece octets : List ℕ)
    → verdict_at requests end e ≡ None → TakesClientBytes n e limits requests y asks piece octets
    → GoesOnAfter requests y asks (octets ++ take n piece)
going_so end n event.NeedMore limits requests y asks piece octets none h = h
going_so end n (event.Send sent) limits requests y asks piece octets none h = h
going_so end n event.Open limits requests y asks piece octets none h = h
going_so end n (event.Answered id message) limits requests y asks piece octets none h = none_reply end (is_misfit requests (Answered id (concat message)))
    limits requests y asks (octets ++ take n piece) none h
going_so end n (event.Aborted id code) limits requests y asks piece octets none h = h
going_so end n (event.Failed code peer) limits requests y asks piece octets none h = absurd cc
going_so end n (event.Renewed token) limits requests y asks piece octets none h = h

some_reply : (end : ℕ) (b : Bool) (v : Verdict) (limits : Limits) (requests : List Named) (y : ClientChannel) (asks : List Placed) (octets all : List ℕ)
    → reply_verdict end b ≡ Some v → end ≤ length all → octets ≡ take end all
    → TakesReply b limits requests y asks octets → IsBy end v × IsVerdictOn limits asks requests all v
some_reply end true v limits requests y asks octets all some within parts h =
    subst (λ (w : Verdict). IsBy end w × IsVerdictOn limits asks requests all w) (some_is some)
    (failed_so limits requests asks all end (record { code = 0x8009_0000 }) false
    within (subst (λ (o : List ℕ). EndWrong (judge_rules limits asks requests) o (ours 0x8009_0000)) parts h))
some_reply end false v limits requests y asks octets all some within parts h = absurd cc

ending_so : (end n : ℕ) (e : ClientEvent) (v : Verdict) (limits : Limits) (requests : List Named) (y : ClientChannel) (asks : List Placed)
    (piece octets all : List ℕ) → verdict_at requests end e ≡ Some v → end ≤ length all
    → octets ++ take n piece ≡ take end all → TakesClientBytes n e limits requests y asks piece octets → IsBy end v × IsVerdictOn limits asks requests all v
ending_so end n event.NeedMore v limits requests y asks piece octets all some within parts h = absurd cc
ending_so end n (event.Send sent) v limits requests y asks piece octets all some within parts h = absurd cc
ending_so end n event.Open v limits requests y asks piece octets all some within parts h = absurd cc
ending_so end n (event.Answered id message) v limits requests y asks piece octets all some within parts h =
    some_reply end (is_misfit requests (Answered id (concat message))) v limits requests y asks (octets ++ take n piece) all some within parts h
ending_so end n (event.Aborted id code) v limits requests y asks piece octets all some within parts h = absurd cc
ending_so end n (event.Failed code peer) v limits requests y asks piece octets all some within parts h =
    subst (λ (w : Verdict). IsBy end w × IsVerdictOn limits asks requests all w) (some_is some)
    (failed_so limits requests asks all end code peer within (subst (λ (o : List ℕ). EndWrong (judge_rules limits asks requests) o
    (record { code = code.code; peer = peer })) parts h))
ending_so end n (event.Renewed token) v limits requests y asks piece octets all some within parts h = absurd cc

pub client_took : (moment : DateTime) (all piece : List ℕ) (at m n : ℕ) (e : ClientEvent) (limits : Limits) (requests : List Named) (y : ClientChannel)
    (asks : List Placed) (told : List ClientTold) (found : Option Verdict) → at ≤ length all → n ≤ length piece
    → piece ≡ take m (drop at all) → client_limits y ≡ limits → AreFit requests told → found ≡ verdict_at requests (at + n) e
    → ClientAnswers moment piece (Ok (n, e)) y asks (take at all) told → TakesTo limits requests asks all (at + n) y found
client_took moment all piece at m n e limits requests y asks told None inside few is same fit found h =
    subst (GoesOnAfter requests y asks) (parts_of all piece at m n few is) (going_so (at + n) n e limits requests y asks piece (take at all) (sym found)
    (takes_some moment piece n e limits requests y asks (take at all) told same fit h))
client_took moment all piece at m n e limits requests y asks told (Some v) inside few is same fit found h =
    ending_so (at + n) n e v limits requests y asks piece (take at all) all (sym found) (next_at all piece at m n inside few is)
    (parts_of all piece at m n few is) (takes_some moment piece n e limits requests y asks (take at all) told same fit h)

-- ---- with a verdict, or with none

by_more : (a b : ℕ) (v : Verdict) → a ≤ b → IsBy a v → IsBy b v
by_more a b verdict.Keeps le h = h
by_more a b (verdict.Closes end) le h = h
by_more a b (verdict.Breaks end code) le h = omega (arith, le, h)
by_more a b (verdict.Refuses end code) le h = omega (arith, le, h)
by_more a b (verdict.Stops end fault) le h = h

pub up_to_verdict : (limits : Limits) (requests : List Named) (asks : List Placed) (octets : List ℕ) (from place at : ℕ) (y : ClientChannel)
    (v : Option Verdict) → at ≤ place → is_some v ≡ true → TakesTo limits requests asks octets at y v
    → TakesUpTo limits requests asks octets from place at y v
up_to_verdict limits requests asks octets from place at y None le some h = absurd cc
up_to_verdict limits requests asks octets from place at y (Some v) le some h = (by_more at place v le h.0, h.1)

by_before : (limits : Limits) (requests : List Named) (octets : List ℕ) (before : List Named) (next : Named) (v : Verdict) → IsBy next.place v
    → IsBefore limits requests octets before next v
by_before limits requests octets before next verdict.Keeps h = h
by_before limits requests octets before next (verdict.Closes end) h = h
by_before limits requests octets before next (verdict.Breaks end code) h = h
by_before limits requests octets before next (verdict.Refuses end code) h = h
by_before limits requests octets before next (verdict.Stops end fault) h = absurd h

pub goes_by_verdict : (limits : Limits) (requests before : List Named) (request : Named) (octets : List ℕ) (from at : ℕ) (y z : ClientChannel)
    (v : Option Verdict) → is_some v ≡ true → TakesUpTo limits requests (named_asks_of before) octets from request.place at y v
    → GoesOnJudging limits requests before request octets at z v
goes_by_verdict limits requests before request octets from at y z None some h = absurd cc
goes_by_verdict limits requests before request octets from at y z (Some v) some h = (by_before limits requests octets before request v h.0, h.1)

pub follows_on : (limits : Limits) (requests : List Named) (asks : List Placed) (octets : List ℕ) (at : ℕ) (y : ClientChannel) (v : Option Verdict)
    → is_some v ≡ false → TakesTo limits requests asks octets at y v → GoesOnAfter requests y asks (take at octets)
follows_on limits requests asks octets at y None none h = h
follows_on limits requests asks octets at y (Some v) none h = absurd cc

pub follows_up_to : (limits : Limits) (requests : List Named) (asks : List Placed) (octets : List ℕ) (from place at : ℕ) (y : ClientChannel)
    (v : Option Verdict) → is_some v ≡ false → TakesUpTo limits requests asks octets from place at y v
    → (at ≡ max from (min place (length octets))) × GoesOnAfter requests y asks (take at octets)
follows_up_to limits requests asks octets from place at y None none h = h
follows_up_to limits requests asks octets from place at y (Some v) none h = absurd cc

no_stop : (place : ℕ) (v : Verdict) → IsBy place v → IsNoStop v
no_stop place verdict.Keeps h = tt
no_stop place (verdict.Closes end) h = tt
no_stop place (verdict.Breaks end code) h = tt
no_stop place (verdict.Refuses end code) h = tt
no_stop place (verdict.Stops end fault) h = h

-- ---- what is asked

abbrev one_ask : Named → ℕ → List Placed
one_ask n id = (n.place, asking n.opens id) ∷ []

asks_more : (id : ℕ) (ns : List Named) (n : Named) → named_asks_from id (ns ++ n ∷ []) ≡ named_asks_from id ns ++ one_ask n (id + length ns)
asks_more id [] n = ap (one_ask n) (omega arith)
asks_more id (m ∷ ms) n =
    ap (λ (t : List Placed). (m.place, asking m.opens id) ∷ t) (asks_more (suc id) ms n
    ∙ ap (λ (k : ℕ). named_asks_from (suc id) ms ++ one_ask n k) (omega arith))

asks_count : (id : ℕ) (ns : List Named) → length (named_asks_from id ns) ≡ length ns
asks_count id [] = refl
asks_count id (n ∷ ns) = ap suc (asks_count (suc id) ns)

next_so : (ns : List Named) → next_id (asked_in (named_asks_of ns)) ≡ 2 + length ns
unfolding asked_in
next_so ns = omega (arith, length-map (named_asks_of ns) (λ (a : Placed). a.1), asks_count 2 ns)

pub place_more : (at : ℕ) (ns : List Named) (n : Named) → place_after at (ns ++ n ∷ []) ≡ n.place
place_more at [] n = refl
place_more at (m ∷ ms) n = place_more m.place ms n

pub asks_with : (ns : List Named) (n : Named) → named_asks_of ns ++ (n.place, asking n.opens (next_id (asked_in (named_asks_of ns)))) ∷ []
    ≡ named_asks_of (ns ++ n ∷ [])
asks_with ns n = ap (λ (k : ℕ). named_asks_of ns ++ one_ask n k) (next_so ns) ∙ sym (asks_more 2 ns n)

pub judged_so : (requests : List Named) (x : ClientChannel) (limits : Limits) (asks : List Placed) (octets : List ℕ) (opens : Bool) (why : Option AskFault)
    → client_limits x ≡ limits → (s : GoesOnAfter requests x asks octets) → first_reason (asking_reasons opens s.frames asks) ≡ why
    → IsReasonAgainstAsking limits asks requests opens octets why
judged_so requests x limits asks octets opens why same s is =
    subst (λ (l : Limits). IsReasonAgainstAsking l asks requests opens octets why) same
    (record {
      frames = s.frames;
      rest = s.rest;
      run = goes_too (client_rules_of x asks) (ours 0x8009_0000) (is_misfit requests) octets s.frames s.rest
          s.stands.run s.fit;
      why_is = is;
    })

-- ---- with a verdict, or with none, on all bytes

pub last_decides : (limits : Limits) (requests : List Named) (asks : List Placed) (octets : List ℕ) (from place at : ℕ) (y : ClientChannel)
    (found : Option Verdict) (v : Verdict) → found ≡ Some v → TakesUpTo limits requests asks octets from place at y found
    → IsNoStop v × IsVerdictOn limits asks requests octets v
last_decides limits requests asks octets from place at y found v is h =
    let taken : IsBy place v × IsVerdictOn limits asks requests octets v = subst (TakesUpTo limits requests asks octets from place at y) is h in
    (no_stop place v taken.0, taken.1)

pub last_keeps : (limits : Limits) (requests : List Named) (asks : List Placed) (octets : List ℕ) (from at : ℕ) (y : ClientChannel) (found : Option Verdict)
    → found ≡ None → from ≤ length octets → client_limits y ≡ limits
    → TakesUpTo limits requests asks octets from (length octets) at y found → GoOnFaultless (judge_rules limits asks requests) octets
last_keeps limits requests asks octets from at y found is within same h =
    let taken : (at ≡ max from (min (length octets) (length octets))) × GoesOnAfter requests y asks
    (take at octets) = subst (TakesUpTo limits requests asks octets from (length octets) at y) is h in
    subst (GoOnFaultless (judge_rules limits asks requests)) (take_all at octets (omega (arith, taken.0)))
    (goes_on_so requests y limits asks (take at octets) same taken.1)

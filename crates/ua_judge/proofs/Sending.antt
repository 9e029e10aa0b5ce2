-- The requests that a client sends, one after the other.
use Rattle.std.proofs.Common.{◌≡◌, ℕ, ◌+◌, ◌<◌, ◌≤◌, Bool, List, [], ◌∷◌, ◌++◌, Option, Some, None, Result, Ok, Err, IfOk, length, take, drop, min, get_or}
use Rattle.std.proofs.Common.{sym, ◌∙◌, ap, subst, arith}
use Rattle.std.specs.Prelude.{max}
use Rattle.std.proofs.lemmas.List.{drop_all, drop_more, take_more}
use Rattle.ua_frame.proofs.Afters.{AllAfter-push}
use Rattle.ua_frame.specs.After.{AllAfter}
use Rattle.ua_frame.specs.declared.limits.Limits.{Limits}
use Rattle.ua_channel.specs.Asks.{Placed, asked_in, next_id}
use Rattle.ua_channel.specs.ClientAsks.{IsAskFaultFor}
use Rattle.ua_channel.specs.declared.client.channel.ClientChannel.{ClientChannel}
use Rattle.ua_channel.specs.declared.client.fault.AskFault.{AskFault}
use Rattle.ua_channel.specs.declared.client.fault.AskFault.TheVariants.{NotOpen}
use Rattle.ua_judge.specs.Judging.{GoesOnJudging, Sends}
use Rattle.ua_judge.specs.Verdicts.{GoesOnAfter, GoOnFaultless, IsBefore, IsReasonAgainstAsking, IsNoStop, IsSent}
use Rattle.ua_judge.specs.Verdicts.{IsVerdictOn, LeavesUnsent, asking, named_asks_of, judge_rules, place_after}
use Rattle.ua_judge.specs.declared.named.Named.{Named}
use Rattle.ua_judge.specs.declared.taken.Taken.{Taken}
use Rattle.ua_judge.specs.declared.verdict.Verdict.{Verdict}
use Rattle.ua_judge.specs.declared.verdict.Verdict.TheVariants.{Stops}
use Rattle.ua_judge.proofs.ClientTakes.{asks_with, place_more}

pub sends_so : (limits : Limits) (requests before : List Named) (request : Named) (octets : List ℕ) (from at : ℕ) (y : ClientChannel) (why : Option AskFault)
    → at ≤ length octets → place_after 0 before ≡ from
    → at ≡ max from (min request.place (length octets)) → request.place ≡ at → IsReasonAgainstAsking limits (named_asks_of before) requests request.opens
    (take at octets) why
    → why ≡ None
    → GoesOnAfter requests y (named_asks_of before ++ (request.place, asking request.opens (next_id (asked_in (named_asks_of before)))) ∷ []) (take at octets)
    → Sends limits requests before request octets at y
sends_so limits requests before request octets from at y why within last at_is place judged none follows = record {
  place_is = sym place;
  is = record {
    later = omega (arith, last, at_is, place);
    within = omega (arith, within, place);
    taken =
        subst (λ (p : ℕ). IsReasonAgainstAsking limits (named_asks_of before) requests request.opens (take p octets) None) (sym place)
        (subst (IsReasonAgainstAsking limits (named_asks_of before) requests request.opens (take at octets)) none judged);
  };
  follows = subst (λ (a : List Placed). GoesOnAfter requests y a (take at octets)) (asks_with before request) follows;
}

pub err_is : {A : Type 0} {e f : AskFault} → ◌≡◌ {A = Result A AskFault} (Err e) (Err f) → e ≡ f
err_is same = cc

pub stops_so : (limits : Limits) (requests before : List Named) (request : Named) (octets : List ℕ) (from at : ℕ) (y : ClientChannel) (fault : AskFault)
    → at ≤ length octets → place_after 0 before ≡ from
    → at ≡ max from (min request.place (length octets)) → GoOnFaultless (judge_rules limits (named_asks_of before) requests) (take at octets)
    → (request.place ≡ at → IsReasonAgainstAsking limits (named_asks_of before) requests request.opens (take at octets) (Some fault))
    → ((request.place ≡ at → ⊥) → fault ≡ NotOpen)
    → GoesOnJudging limits requests before request octets at y (Some (Stops at fault))
stops_so limits requests before request octets from at y fault within last at_is goes refused placeless =
    (record { end_is = omega (arith, last, at_is); refused = refused; placeless = placeless }, record { within = within; holds = goes })

judged_named : (limits : Limits) (requests before : List Named) (request : Named) (octets : List ℕ) (at : ℕ) (fault : AskFault)
    → ((why : Option AskFault) → IsAskFaultFor why fault → why ≡ Some fault)
    → (request.place ≡ at → (why : Option AskFault) × (IsReasonAgainstAsking limits (named_asks_of before) requests request.opens (take at octets) why
    × IsAskFaultFor why fault))
    → request.place ≡ at → IsReasonAgainstAsking limits (named_asks_of before) requests request.opens (take at octets) (Some fault)
judged_named limits requests before request octets at fault named judged place =
    let j = judged place in
    subst (IsReasonAgainstAsking limits (named_asks_of before) requests request.opens (take at octets)) (named j.0 j.1.1) j.1.0

pub stops_taken : {E : Type 0} (r : Result Taken E) (limits : Limits) (requests before : List Named) (request : Named) (octets : List ℕ) (from at : ℕ)
    (y : ClientChannel) (fault : AskFault) →
    IfOk r (λ (t : Taken). t ≡ record { at = at; verdict = Some (Stops at fault) })
    → ((why : Option AskFault) → IsAskFaultFor why fault → IfOk r (λ (t : Taken). why ≡ Some fault))
    → at ≤ length octets → place_after 0 before ≡ from → at ≡ max from (min request.place (length octets))
    → GoOnFaultless (judge_rules limits (named_asks_of before) requests) (take at octets)
    → (request.place ≡ at → (why : Option AskFault) × (IsReasonAgainstAsking limits (named_asks_of before) requests request.opens (take at octets) why
    × IsAskFaultFor why fault))
    → ((request.place ≡ at → ⊥) → fault ≡ NotOpen)
    → IfOk r (λ (t : Taken). GoesOnJudging limits requests before request octets t.at y t.verdict)
stops_taken (Ok t) limits requests before request octets from at y fault is named within last at_is goes judged placeless =
    subst (λ (u : Taken). GoesOnJudging limits requests before request octets u.at y u.verdict) (sym is)
    (stops_so limits requests before request octets from at y fault within last at_is goes
    (judged_named limits requests before request octets at fault named judged) placeless)
stops_taken (Err e) limits requests before request octets from at y fault is named within last at_is goes judged placeless = tt

-- ---- in order

pub each_sent : (limits : Limits) (requests : List Named) (octets : List ℕ) (ns : List Named) (i : ℕ) (d : Named) → i < length ns
    → AllAfter (IsSent limits requests octets) (take i ns)
    → IsSent limits requests octets (take i ns) (get_or ns i d) → AllAfter (IsSent limits requests octets) (take (i + 1) ns)
each_sent limits requests octets ns i d below all one =
    subst (AllAfter (IsSent limits requests octets)) (sym (take_more ns i d below))
    (AllAfter-push (IsSent limits requests octets) (take i ns) (get_or ns i d) all one)

pub place_sent : (ns : List Named) (i : ℕ) (d : Named) → i < length ns → place_after 0 (take (i + 1) ns) ≡ (get_or ns i d).place
place_sent ns i d below = ap (place_after 0) (take_more ns i d below) ∙ place_more 0 (take i ns) (get_or ns i d)

pub follows_sent : (requests : List Named) (y : ClientChannel) (octets : List ℕ) (ns : List Named) (i : ℕ) (d : Named) → i < length ns
    → GoesOnAfter requests y (named_asks_of (take i ns ++ get_or ns i d ∷ [])) octets → GoesOnAfter requests y (named_asks_of (take (i + 1) ns)) octets
follows_sent requests y octets ns i d below h = subst (λ (t : List Named). GoesOnAfter requests y (named_asks_of t) octets) (sym (take_more ns i d below)) h

-- the first that was not sent
pub leaves_first : (limits : Limits) (requests : List Named) (octets : List ℕ) (ns : List Named) (i : ℕ) (d : Named) (v : Verdict) → i < length ns
    → IsBefore limits requests octets (take i ns) (get_or ns i d) v → LeavesUnsent limits requests octets (take i ns) (drop i ns) v
leaves_first limits requests octets ns i d v below h = subst (λ (t : List Named). LeavesUnsent limits requests octets (take i ns) t v)
    (sym (drop_more ns i d below)) h

-- ---- by limits

pub judged_within : (requests : List Named) (asks : List Placed) (octets : List ℕ) (opens : Bool) (why : Option AskFault) {l m : Limits} → l ≡ m
    → IsReasonAgainstAsking l asks requests opens octets why → IsReasonAgainstAsking m asks requests opens octets why
judged_within requests asks octets opens why same h = subst (λ (n : Limits). IsReasonAgainstAsking n asks requests opens octets why) same h

-- a request that was sent, or a verdict
pub sent_by : {l m : Limits} (requests before : List Named) (request : Named) (octets : List ℕ) (at : ℕ) (y : ClientChannel) {v : Option Verdict} → l ≡ m
    → v ≡ None → GoesOnJudging l requests before request octets at y v → Sends m requests before request octets at y
sent_by {l = l} requests before request octets at y same none h =
    subst (λ (n : Limits). Sends n requests before request octets at y) same (subst (GoesOnJudging l requests before request octets at y) none h)

pub decided_by : {l m : Limits} (requests before : List Named) (request : Named) (octets : List ℕ) (at : ℕ) (y : ClientChannel) {v : Option Verdict}
    (w : Verdict) → l ≡ m → v ≡ Some w → GoesOnJudging l requests before request octets at y v
    → IsBefore m requests octets before request w × IsVerdictOn m (named_asks_of before) requests octets w
decided_by {l = l} requests before request octets at y w same some h =
    subst (λ (n : Limits). IsBefore n requests octets before request w × IsVerdictOn n (named_asks_of before) requests octets w) same
    (subst (GoesOnJudging l requests before request octets at y) some h)

-- all were sent
pub leaves_none : (limits : Limits) (requests : List Named) (octets : List ℕ) (ns : List Named) (i : ℕ) (v : Verdict) → length ns ≤ i → IsNoStop v
    → LeavesUnsent limits requests octets (take i ns) (drop i ns) v
leaves_none limits requests octets ns i v le h = subst (λ (t : List Named). LeavesUnsent limits requests octets (take i ns) t v) (sym (drop_all i ns le)) h

-- Groups of calls, one behind another.
use Rattle.std.specs.Prelude.{◌≡◌, ℕ, ◌+◌, ◌-◌, ◌≤◌, ◌<◌, List, [], ◌∷◌, ◌++◌, length, take, drop, Option, Ok, Err}
use Rattle.std.specs.List.{AllByRecursion}
use Rattle.std.proofs.Common.{refl, sym, ◌∙◌, ap, subst, append_assoc, append-nil, arith, zero, suc}
use Rattle.std.proofs.Math.Logic.{∥∥₁_map}
use Rattle.std.proofs.Math.Seq.{take-add}
use Rattle.std.proofs.lemmas.List.{length-append, length-drop, take-append-drop}
use Rattle.ua_services.specs.declared.request.Request.{Request}
use Rattle.ua_channel.specs.Client.{SameClient}
use Rattle.ua_channel.specs.Line.{Traffic}
use Rattle.ua_channel.specs.declared.client.channel.ClientChannel.{ClientChannel}
use Rattle.ua_client.specs.ClientPlace.{ClientPlace, StandsAt}
use Rattle.ua_client.specs.Calls.{Rounds, all_of, AreGroups, AnsweredAll}
use Rattle.ua_client.specs.Calls.Rounds.{NoRound, OneRound}
use Rattle.ua_client.specs.Hearing.{channel_of_connection, most_reads, MovesConnection, StopsByTraffic}
use Rattle.ua_client.specs.Kept.{CallsGroup, CallsInto}
use Rattle.ua_client.specs.Renewing.{IsSettled, StandsSettled}
use Rattle.ua_client.specs.declared.connection.Connection.{Connection}
use Rattle.ua_client.specs.declared.fault.CallsFault.{CallsFault}
use Rattle.ua_client.specs.declared.fault.ClientFault.{ClientFault}
use Rattle.ua_client.specs.declared.fault.ClientFault.TheVariants as fault
use Rattle.ua_client.specs.declared.reply.Reply.{Reply}
use Rattle.ua_client.proofs.Hearings.{moves-behind}
use Rattle.ua_client.proofs.GroupCalls.{moves-nothing}
use Rattle.ua_client.proofs.Idle.{IdleStanding}
use Rattle.ua_client.proofs.Settled.{answered-settled}

-- ---- lists of groups

-- the requests of groups with one more
pub concat-push : (groups : List (List Request)) (group : List Request) → all_of (groups ++ group ∷ []) ≡ all_of groups ++ group
concat-push [] group = append-nil group
concat-push (g ∷ groups) group = ap (λ (ms : List Request). g ++ ms) (concat-push groups group) ∙ sym (append_assoc g (all_of groups) group)

-- each group has just 64 calls
abbrev pub AreFull : List (List Request) → Type 0
AreFull groups = AllByRecursion (λ (g : List Request). length g ≡ 64) groups

full-push : (groups : List (List Request)) (group : List Request) → AreFull groups → length group ≡ 64 → AreFull (groups ++ group ∷ [])
full-push [] group h full = (full, tt)
full-push (g ∷ groups) group h full = (h.0, full-push groups group h.1 full)

groups-push : (groups : List (List Request)) (group : List Request) → AreFull groups → 0 < length group → length group ≤ 64 → AreGroups (groups ++ group ∷ [])
groups-push [] group h some few = (some, few, (λ more. absurd (omega (arith, more))), tt)
groups-push (g ∷ groups) group h some few = let full = h.0 in (omega (arith, full), omega (arith, full), (λ more. full), groups-push groups group h.1 some few)

-- the requests from one place up to another
abbrev pub between : List Request → ℕ → ℕ → List Request
between requests start end = take (end - start) (drop start requests)

up-to : (requests : List Request) (start end : ℕ) → start ≤ end → take start requests ++ between requests start end ≡ take end requests
up-to requests start end h = sym (take-add start (end - start) requests) ∙ ap (λ (n : ℕ). take n requests) (whole start end h)
  where
    whole : (a b : ℕ) → a ≤ b → a + (b - a) ≡ b
    whole a b k = omega (arith, k)

pub length-between : (requests : List Request) (start end : ℕ) → start ≤ end → end ≤ length requests → length (between requests start end) ≡ end - start
length-between requests start end h k = taken (drop start requests) (end - start) (fits (length (drop start requests)) (length-drop start requests))
  where
    fits : (l : ℕ) → l ≡ length requests - start → end - start ≤ l
    fits l e = omega (arith, e, h, k)

    taken : (ms : List Request) (n : ℕ) → n ≤ length ms → length (take n ms) ≡ n
    taken [] zero few = refl
    taken [] (suc n) few = absurd (omega (arith, few))
    taken (m ∷ ms) zero few = refl
    taken (m ∷ ms) (suc n) few = ap suc (taken ms n (omega (arith, few)))

-- ---- the channel of a client

same-behind : (x y z : ClientChannel) → SameClient x y → SameClient y z → SameClient x z
same-behind x y z h k = record { limits = h.limits ∙ k.limits; url = h.url ∙ k.url }

-- rounds of a client are rounds of each that has the same limits and URL
pub rounds-same : (x y : ClientChannel) → SameClient x y → {s t : ClientPlace} {groups : List (List Request)} {sent taken : List ℕ} {replies : List Reply}
    → Rounds x s groups t sent taken replies → Rounds y s groups t sent taken replies
rounds-same x y same NoRound = NoRound
rounds-same x y same (OneRound group z r b a) =
    OneRound group z (rounds-same x y same r) (record { same = same-behind z x y b.same same; at = b.at; came = b.came }) a

-- ---- one group more

-- these requests are answered, in groups that are full where there are more
pub record Called (requests : List Request) (more : Type 0) (old now : Connection) (before at : Option Traffic) (left : ℕ)
    (had have : List Reply) : Type 0 where
  pub sent : List ℕ
  pub moves : MovesConnection old now sent before at
  pub same : SameClient (channel_of_connection old) (channel_of_connection now)
  -- these replies are added
  pub added : List Reply
  pub have_is : have ≡ had ++ added
  -- it may be called again
  pub settled : StandsSettled (channel_of_connection now)
  pub answers : (s : ClientPlace) → StandsAt (channel_of_connection old) s → (a : AnsweredAll requests s (channel_of_connection now) sent moves.taken added)
      × (more → AreFull a.groups)
  pub spent : most_reads ≤ left + length moves.got

pub called-nothing : (more : Type 0) (x : Connection) (t : Option Traffic) (had : List Reply) → StandsSettled (channel_of_connection x)
    → Called [] more x x t t most_reads had had
called-nothing more x t had settled = record {
  sent = [];
  moves = moves-nothing x x t refl;
  same = record { limits = refl; url = refl };
  added = [];
  have_is = sym (append-nil had);
  settled = settled;
  answers = λ s at. (record { groups = []; parts = refl; sized = tt; behind = s; at = at; settled = λ h. h; rounds = NoRound }, λ goes. tt);
  spent = omega arith;
}

module _ (requests group : List Request) (old now new : Connection) (before at then : Option Traffic) (left less : ℕ) (had replies next : List Reply)
    (some : 0 < length group) (few : length group ≤ 64) (more : Type 0) (goes : more) (idle : IdleStanding)
    (c : Called requests more old now before at left had replies) where
  same-then : SameClient (channel_of_connection now) (channel_of_connection new) → SameClient (channel_of_connection old) (channel_of_connection new)
  same-then k = record { limits = c.same.limits ∙ k.limits; url = c.same.url ∙ k.url }

  spent-then : (got : List ℕ) → left ≤ less + length got → most_reads ≤ less + length (c.moves.got ++ got)
  spent-then got h = let l = length-append c.moves.got got in let s = c.spent in omega (arith, l, s, h)

  -- the replies to all so far
  added-then : (added : List Reply) → next ≡ replies ++ added → next ≡ had ++ (c.added ++ added)
  added-then added e = e ∙ (ap (λ (rs : List Reply). rs ++ added) c.have_is ∙ append_assoc had c.added added)

  pub called-more : {A : Type 0} (done : A) (later : Type 0) → (later → length group ≡ 64)
      → CallsGroup {A = A} group now new at then left less (Ok done) replies next → Called (requests ++ group) later old new before then less had next
  called-more done later full g = record {
    sent = c.sent ++ g.sent;
    moves = moves-behind old now new c.sent g.sent before at then c.moves g.moves;
    same = same-then g.same;
    added = c.added ++ g.added;
    have_is = added-then g.added g.have_is;
    settled = ∥∥₁_map c.settled (λ (w : (s : ClientPlace) × StandsAt (channel_of_connection now) s × IsSettled s).
        let b = g.answers w.0 w.1 (idle (channel_of_connection now) w.0 c.settled w.1) in
        (b.1.0, b.1.1, answered-settled group w.0 b.1.0 g.moves.taken g.added w.2 b.1.3));
    answers = λ s h.
        let known = c.answers s h in
        let a = known.0 in
        let b = g.answers a.behind a.at (idle (channel_of_connection now) a.behind c.settled a.at) in (
          record {
            groups = a.groups ++ group ∷ [];
            parts = ap (λ (ms : List Request). ms ++ group) a.parts ∙ sym (concat-push a.groups group);
            sized = groups-push a.groups group (known.1 goes) some few;
            behind = b.1.0;
            at = b.1.1;
            settled = λ settled. answered-settled group a.behind b.1.0 g.moves.taken g.added (a.settled settled) b.1.3;
            rounds =
                subst (λ (o : List ℕ). Rounds (channel_of_connection new) s (a.groups ++ group ∷ []) b.1.0 (c.sent ++ o) (c.moves.taken ++ g.moves.taken)
                (c.added ++ g.added)) (sym b.0)
                (OneRound group (channel_of_connection new) (rounds-same (channel_of_connection now) (channel_of_connection new) g.same a.rounds)
                (record { same = record { limits = refl; url = refl }; at = b.1.1; came = b.1.2 }) b.1.3);
          },
          λ l. full-push a.groups group (known.1 goes) (full l),
        );
    spent = spent-then g.moves.got g.stops;
  }

  pub calls-broken : {A B : Type 0} (all behind : List Request) (f d : CallsFault) → all ≡ requests ++ (group ++ behind)
      → (0 < length behind → length group ≡ 64)
      → d.request ≡ length requests + f.request → d.fault ≡ f.fault → CallsGroup {A = A} group now new at then left less (Err f) replies next
      → CallsInto {A = B} all old new before then (Err d) had next
  calls-broken {A} {B} all behind f d parts full place same_fault g =
      subst (λ (y : ClientFault). CallsInto {A = B} all old new before then (Err (record { request = d.request; fault = y })) had next) (sym same_fault)
      (record {
        sent = c.sent ++ g.sent;
        moves = moves-behind old now new c.sent g.sent before at then c.moves g.moves;
        same = same-then g.same;
        added = c.added ++ g.added;
        have_is = added-then g.added g.have_is;
        answers = λ s h.
            let known = c.answers s h in
            let a = known.0 in
            let b = g.answers a.behind a.at (idle (channel_of_connection now) a.behind c.settled a.at) in
            record {
              broken = record {
                groups = a.groups;
                group = group;
                others = behind;
                parts = parts ∙ ap (λ (ms : List Request). ms ++ (group ++ behind)) a.parts;
                sized = groups-push a.groups group (known.1 goes) some few;
                full = full;
                behind = a.behind;
                settled = a.settled;
                sent_before = c.sent;
                sent_then = g.sent;
                sent_parts = refl;
                taken_before = c.moves.taken;
                taken_then = g.moves.taken;
                taken_parts = refl;
                replies = c.added;
                rounds = rounds-same (channel_of_connection now) (channel_of_connection new) g.same a.rounds;
                breaks = b.0;
              };
              kept = g.added;
              place = f.request;
              keeps = b.1;
              added_is = refl;
              request_is = place ∙ ap (λ (ms : List Request). length ms + f.request) a.parts;
            };
        stops = stops f.fault g.stops;
      })
    where
      stops : (y : ClientFault) → StopsByTraffic {A = A} left less g.moves.got new then (Err y)
          → StopsByTraffic {A = B} most_reads most_reads (c.moves.got ++ g.moves.got) new then (Err y)
      stops fault.TooLong h = (h.0, let l = length-append c.moves.got g.moves.got in let s = c.spent in let few = h.1 in omega (arith, l, s, few))
      stops fault.Ended h = h
      stops (fault.Peer code) h = tt
      stops (fault.Refused code) h = tt
      stops fault.Read h = h
      stops fault.UnknownResponse h = tt
      stops fault.OutOfMemory h = tt
      stops fault.Write h = tt
      stops fault.TooLarge h = tt
      stops fault.NotWritable h = tt
      stops fault.Exhausted h = tt
      stops fault.Closed h = tt
      stops fault.TooManyTokens h = tt
      stops (fault.Service code) h = tt

pub calls-all : {A : Type 0} (requests done : List Request) (more : Type 0) (old now : Connection) (before at : Option Traffic) (left : ℕ)
    (had have : List Reply) (found : A)
    → Called done more old now before at left had have → done ≡ requests → CallsInto requests old now before at (Ok found) had have
calls-all requests done more old now before at left had have found c e = record {
  sent = c.sent;
  moves = c.moves;
  same = c.same;
  added = c.added;
  have_is = c.have_is;
  answers = λ s h. subst (λ (ms : List Request). AnsweredAll ms s (channel_of_connection now) c.sent c.moves.taken c.added) e (c.answers s h).0;
  stops = omega arith;
}

pub all-taken : (requests : List Request) (n : ℕ) → length requests ≤ n → take n requests ≡ requests
all-taken [] zero few = refl
all-taken [] (suc n) few = refl
all-taken (r ∷ rs) zero few = absurd (omega (arith, few))
all-taken (r ∷ rs) (suc n) few = ap (λ (ms : List Request). r ∷ ms) (all-taken rs n (omega (arith, few)))

-- ---- places

pub called-to : (requests : List Request) (start end : ℕ) (more : Type 0) (old now : Connection) (before at : Option Traffic) (left : ℕ) (had have : List Reply)
    → start ≤ end
    → Called (take start requests ++ between requests start end) more old now before at left had have
    → Called (take end requests) more old now before at left had have
called-to requests start end more old now before at left had have h c = subst (λ (ms : List Request). Called ms more old now before at left had have)
    (up-to requests start end h) c

-- so many requests stand before a place
pub taken-count : (requests : List Request) (start : ℕ) → start ≤ length requests → length (take start requests) ≡ start
taken-count [] zero few = refl
taken-count [] (suc n) few = absurd (omega (arith, few))
taken-count (r ∷ rs) zero few = refl
taken-count (r ∷ rs) (suc n) few = ap suc (taken-count rs n (omega (arith, few)))

pub split-at : (requests : List Request) (start end : ℕ) → start ≤ end → requests ≡ take start requests ++ (between requests start end ++ drop end requests)
split-at requests start end h =
    sym (sym (append_assoc (take start requests) (between requests start end) (drop end requests))
    ∙ (ap (λ (ms : List Request). ms ++ drop end requests) (up-to requests start end h) ∙ take-append-drop end requests))

pub group-some : (requests : List Request) (start end : ℕ) → start < end → end ≤ length requests → 0 < length (between requests start end)
group-some requests start end h k = let l = length-between requests start end (omega (arith, h)) k in omega (arith, l, h)

pub group-few : (requests : List Request) (start end : ℕ) → start ≤ end → end ≤ length requests → end ≤ start + 64 → length (between requests start end) ≤ 64
group-few requests start end h k most = let l = length-between requests start end h k in omega (arith, l, most)

pub group-full : (requests : List Request) (start end : ℕ) → start ≤ end → end ≤ length requests → (end < length requests → end ≡ start + 64)
    → end < length requests → length (between requests start end) ≡ 64
group-full requests start end h k full more = let l = length-between requests start end h k in let e = full more in omega (arith, l, e)

pub more-behind : (requests : List Request) (end : ℕ) → 0 < length (drop end requests) → end < length requests
more-behind requests end more = let l = length-drop end requests in omega (arith, l, more)

-- What a client of `ua_client` did, by the contracts of its calls.
use Rattle.std.proofs.Common.{◌≡◌, inl, inr, ℕ, ◌<◌, ◌≤◌, true, false, IsTrue, List, [], ◌∷◌, ◌++◌, Option, Some, None, Ok, Err}
use Rattle.std.proofs.Common.{length, map, refl, sym, ◌∙◌, ap, subst, append_assoc, append-nil, w64}
use Rattle.std.specs.Prelude.{nat_lt, ℤ, pos, negsuc, ◌^◌}
use Rattle.std.specs.Int.{Width, cast_unsigned}
use Rattle.std.specs.Int.RustNames.{FitsSigned}
use Rattle.std.specs.List.{AllByRecursion}
use Rattle.std.proofs.Math.Facts.{Fits-lt-pow, Fits-of_z}
use Rattle.std.proofs.lemmas.Bool.{and_from, lt-ltb}
use mir.Val.{hbits}
use Rattle.ua_wire.specs.Signed.{in_range, width_octets}
use Rattle.ua_builtin.specs.DateTime.{date_time}
use Rattle.ua_builtin.specs.declared.date_time.DateTime.{DateTime}
use Rattle.ua_chunk.proofs.Lists.{map_push}
use Rattle.ua_frame.specs.declared.limits.Limits.{Limits}
use Rattle.ua_channel.specs.Asks.{Placed}
use Rattle.ua_channel.specs.Client.{SameClient, client_limits, url_of}
use Rattle.ua_channel.specs.Line.{Traffic}
use Rattle.ua_channel.specs.declared.client.channel.ClientChannel.{ClientChannel}
use Rattle.ua_services.specs.declared.request.Request.{Request}
use Rattle.ua_client.specs.Calls.{AnsweredAll, AreGroups, BreaksAt, BrokenAll, Rounds, sent_at}
use Rattle.ua_client.specs.Calls.Rounds.{NoRound, OneRound}
use Rattle.ua_client.specs.Client.{OpensClient, client_channel, connection_of}
use Rattle.ua_client.specs.ClientPlace.{ClientPlace, StandsAt}
use Rattle.ua_client.specs.Hearing.{MovesConnection, channel_of_connection, untaken_of}
use Rattle.ua_client.specs.Opening.{IsOpened, hello_octets, open_frame_octets}
use Rattle.ua_client.specs.Renewing.{IsRefusal, IsRenewed, IsSettled, RenewsAt, refused_by, renewal_at, renewal_refusal}
use Rattle.ua_client.specs.declared.client.Client.{Client}
use Rattle.ua_client.specs.declared.connection.Connection.{Connection}
use Rattle.ua_client.specs.declared.fault.ClientFault.{ClientFault}
use Rattle.ua_client.specs.declared.fault.ClientFault.TheVariants as fault
use Rattle.ua_client.specs.declared.reply.Reply.{Reply}
use Rattle.ua_headline.specs.Calling.{FailsAfter, FailsInGroup, HasDone, HasDoneAll}
use Rattle.ua_headline.specs.Clients.{Deed, Did, DidSoFar, IsAnsweredAt, IsAskable, IsDoing, asks_with, deed_octets}
use Rattle.ua_headline.specs.Clients.Deed.{Calls, Renews}
use Rattle.ua_headline.specs.Talk.{Ends, IsPrefix}

-- ---- moments

signed_fits : (w : Width) (z : ℤ) → FitsSigned w z → IsTrue (in_range w z)
signed_fits w (pos n) f = lt-ltb n (2 ^ hbits w) f.sfits
signed_fits w (negsuc n) f = lt-ltb n (2 ^ hbits w) f.sfits

pub moment_fits : (moment : DateTime) → FitsSigned w64 moment.ticks → IsTrue (date_time.encodable moment)
unfolding date_time
moment_fits moment f =
    and_from (in_range w64 moment.ticks) (nat_lt (cast_unsigned w64 moment.ticks) (256 ^ width_octets w64)) (signed_fits w64 moment.ticks f)
    (lt-ltb (cast_unsigned w64 moment.ticks) (256 ^ width_octets w64) (Fits-lt-pow (Fits-of_z f)))

-- ---- lists

-- what was read before, and what is then, is what was taken and what is left
pub read_on : (read more octets left taken untaken : List ℕ) → read ≡ octets ++ left → left ++ more ≡ taken ++ untaken
    → read ++ more ≡ (octets ++ taken) ++ untaken
read_on read more octets left taken untaken is parts =
    ap (λ (t : List ℕ). t ++ more) is ∙ (append_assoc octets left more ∙ (ap (λ (t : List ℕ). octets ++ t) parts ∙ sym (append_assoc octets taken untaken)))

-- parts of what was done and of what is then
parts_on : (all first old more then : List ℕ) → all ≡ old → more ≡ first ++ then → all ++ more ≡ (old ++ first) ++ then
parts_on all first old more then is parts =
    ap (λ (o : List ℕ). o ++ more) is ∙ (ap (λ (o : List ℕ). old ++ o) parts ∙ sym (append_assoc old first then))

never : {A : Type 0} → true ≡ false → A
never e = absurd cc

-- ---- one operation after another

pub did_behind : (limits : Limits) (m n t : ClientPlace) (ds es : List Deed) (first then : List ℕ) → Did limits m ds n first → Did limits n es t then
    → Did limits m (ds ++ es) t (first ++ then)
did_behind limits m n t [] es first then d f =
    subst (λ (p : ClientPlace). Did limits p es t (first ++ then)) d.0 (subst (λ (o : List ℕ). Did limits n es t (o ++ then)) (sym d.1) f)
did_behind limits m n t (d ∷ ds) es first then (a, (next, more, answered, is, rest)) f = (
  a,
  (
    next,
    more ++ then,
    answered,
    ap (λ (o : List ℕ). o ++ then) is ∙ append_assoc (deed_octets m d) more then,
    did_behind limits next n t ds es more then rest f,
  ),
)

pub did_one : (limits : Limits) (m t : ClientPlace) (d : Deed) (sent : List ℕ) → IsAskable m d → IsAnsweredAt limits m t d → sent ≡ deed_octets m d
    → Did limits m (d ∷ []) t sent
did_one limits m t d sent a answered is = (a, (t, [], answered, is ∙ sym (append-nil (deed_octets m d)), (refl, refl)))

-- ---- groups of calls

-- each has a call and at most 64
abbrev pub AreSized : List (List Request) → Type 0
AreSized groups = AllByRecursion (λ (g : List Request). (0 < length g) × (length g ≤ 64)) groups

pub sized_all : (groups : List (List Request)) → AreGroups groups → AreSized groups
sized_all [] h = tt
sized_all (g ∷ groups) h = ((h.0, h.1), sized_all groups h.3)

pub sized_front : (groups more : List (List Request)) → AreSized (groups ++ more) → AreSized groups
sized_front [] more h = tt
sized_front (g ∷ groups) more h = (h.0, sized_front groups more h.1)

pub sized_last : (groups : List (List Request)) (group : List Request) → AreSized (groups ++ group ∷ []) → (0 < length group) × (length group ≤ 64)
sized_last [] group h = h.0
sized_last (g ∷ groups) group h = sized_last groups group h.1

-- groups that are answered are operations
pub rounds_did : {c : ClientChannel} {s t : ClientPlace} {groups : List (List Request)} {sent taken : List ℕ} {replies : List Reply} (limits : Limits)
    → client_limits c ≡ limits → Rounds c s groups t sent taken replies → AreSized groups → Did limits s (map Calls groups) t sent
rounds_did limits own NoRound sized = (refl, refl)
rounds_did {s = s} {t = t} limits own (OneRound {groups = groups} {m = m} {sent = sent} {taken = taken} {part = part} {added = added} group x r stands answered)
    sized =
    let size = sized_last groups group sized in
    subst (λ (ds : List Deed). Did limits s ds t (sent ++ sent_at m group)) (sym (map_push Calls groups (group ∷ [])))
    (did_behind limits s m t (map Calls groups) (Calls group ∷ []) sent (sent_at m group) (rounds_did limits own r (sized_front groups (group ∷ []) sized))
    (did_one limits m t (Calls group) (sent_at m group) (size.0, size.1, answered.judged)
    (record {
      x = x;
      limits_are = stands.same.limits ∙ own;
      at = stands.at;
      came = stands.came;
      taken = part;
      replies = added;
      answered = answered;
    })
    refl))

pub rounds_took : {c : ClientChannel} {s t : ClientPlace} {groups : List (List Request)} {sent taken : List ℕ} {replies : List Reply}
    → Rounds c s groups t sent taken replies → t.octets ≡ s.octets ++ taken
rounds_took {s = s} NoRound = sym (append-nil s.octets)
rounds_took {s = s} (OneRound {taken = taken} {part = part} group x r at a) = a.octets
    ∙ (ap (λ (o : List ℕ). o ++ part) (rounds_took r) ∙ append_assoc s.octets taken part)

-- ---- a call that goes on

module _ (e : Ends) (deeds : List Deed) (x y : Client) (read written : List ℕ) (h : HasDoneAll e deeds x read written) (before after : Option Traffic)
    (sent : List ℕ) (moves : MovesConnection (connection_of x) (connection_of y) sent before after)
    (same : SameClient (channel_of_connection (connection_of x)) (channel_of_connection (connection_of y))) where
  abbrev d : DidSoFar e deeds None h.done.asks h.done.taken written
  d = h.done.did

  pub limits_then : client_limits (client_channel y) ≡ e.client
  limits_then = sym same.limits ∙ h.done.limits_are

  -- it did these, sent this and took this of it
  module _ (ds : List Deed) (b : ClientPlace) (first then : List ℕ) (sent_is : sent ≡ first ++ then) (did : Did e.client h.done.did.last ds b first)
      (took part : List ℕ)
      (taken_is : moves.taken ≡ took ++ part) (octets_are : b.octets ≡ h.done.did.last.octets ++ took) where
    pub got_there : h.done.taken ++ moves.taken ≡ b.octets ++ part
    got_there =
        parts_on h.done.taken took d.last.octets moves.taken part h.just_taken taken_is
        ∙ ap (λ (o : List ℕ). o ++ part) (sym octets_are)

    pub sent_there : written ++ sent ≡ (hello_octets e.client e.url ++ open_frame_octets e.opened) ++ ((d.done ++ first) ++ then)
    sent_there =
        let up : List ℕ = hello_octets e.client e.url ++ open_frame_octets e.opened in
        let nothing : d.part ≡ [] = d.doing.1 in
        let all : written ≡ up ++ d.done = d.sent_is ∙ ap (λ (o : List ℕ). up ++ o) (ap (λ (o : List ℕ). d.done ++ o) nothing ∙ append-nil d.done) in
        parts_on written first (up ++ d.done) sent then all sent_is
        ∙ (ap (λ (o : List ℕ). o ++ then) (append_assoc up d.done first) ∙ append_assoc up (d.done ++ first) then)

    abbrev pub goes_on : (now : Option Deed) (asks : List Placed) → IsDoing b now asks then
        → HasDone e (deeds ++ ds) now y (read ++ moves.got) (written ++ sent)
    goes_on now asks doing = record {
      limits_are = limits_then;
      url_is = sym same.url ∙ h.done.url_is;
      asks = asks;
      taken = h.done.taken ++ moves.taken;
      did = record {
        x = d.x;
        limits_are = d.limits_are;
        first = d.first;
        at = d.at;
        opens = d.opens;
        none_asked = d.none_asked;
        number_is = d.number_is;
        last = b;
        done = d.done ++ first;
        did = did_behind e.client d.first d.last b deeds ds d.done first d.did did;
        part = then;
        doing = doing;
        taken = part;
        got_is = got_there;
        sent_is = sent_there;
      };
      read_is = read_on read moves.got h.done.taken (untaken_of (connection_of x)) moves.taken (untaken_of (connection_of y)) h.done.read_is moves.parts;
    }

    -- it makes this operation
    abbrev pub makes : (d : Deed) → IsAskable b d → IsPrefix then (deed_octets b d) → HasDone e (deeds ++ ds) (Some d) y (read ++ moves.got) (written ++ sent)
    makes now askable front = goes_on (Some now) (asks_with b now) (askable, refl, front)

    -- it makes none
    abbrev pub makes_none : then ≡ [] → HasDone e (deeds ++ ds) None y (read ++ moves.got) (written ++ sent)
    makes_none nothing = goes_on None b.asks (refl, nothing)

    -- and may be called
    abbrev pub rests : then ≡ [] → part ≡ [] → StandsAt (client_channel y) b → HasDoneAll e (deeds ++ ds) y (read ++ moves.got) (written ++ sent)
    rests nothing none at = record {
      done = makes_none nothing;
      at = at;
      just_taken = got_there ∙ (ap (λ (o : List ℕ). b.octets ++ o) none ∙ append-nil b.octets);
    }

    -- ---- where a group fails

    group_sent : (group : List Request) → (0 < length group) × (length group ≤ 64) → IsAskable b (Calls group) → then ≡ sent_at b group
        → HasDone e (deeds ++ ds) (Some (Calls group)) y (read ++ moves.got) (written ++ sent)
    group_sent group size askable is = makes (Calls group) askable ([], sym is ∙ sym (append-nil then))

    pub group_fails : (group : List Request) → (0 < length group) × (length group ≤ 64) → (f : ClientFault) → BreaksAt group b (connection_of y) then part f
        → FailsAfter e (deeds ++ ds) (Calls group) f y (read ++ moves.got) (written ++ sent)
    group_fails group size (fault.Peer code) k = record {
      now = Some (Calls group);
      now_is = refl;
      done = group_sent group size (size.0, size.1, k.0.0) k.0.1;
      rests = λ no. never no;
    }
    group_fails group size (fault.Refused code) k = record {
      now = Some (Calls group);
      now_is = refl;
      done = group_sent group size (size.0, size.1, k.0.0) k.0.1;
      rests = λ no. never no;
    }
    group_fails group size fault.Ended k = record {
      now = Some (Calls group);
      now_is = refl;
      done = group_sent group size (size.0, size.1, k.0.0) k.0.1;
      rests = λ no. never no;
    }
    group_fails group size fault.Read k = record {
      now = Some (Calls group);
      now_is = refl;
      done = group_sent group size (size.0, size.1, k.0.0) k.0.1;
      rests = λ no. never no;
    }
    group_fails group size fault.TooLong k = record {
      now = Some (Calls group);
      now_is = refl;
      done = group_sent group size (size.0, size.1, k.0.0) k.0.1;
      rests = λ no. never no;
    }
    group_fails group size fault.UnknownResponse k = record {
      now = Some (Calls group);
      now_is = refl;
      done = group_sent group size (size.0, size.1, k.0.0) k.0.1;
      rests = λ no. never no;
    }
    group_fails group size fault.Write k = record {
      now = Some (Calls group);
      now_is = refl;
      done = makes (Calls group) (size.0, size.1, k.0) (k.1.more, k.1.parts);
      rests = λ no. never no;
    }
    group_fails group size fault.OutOfMemory (inl k) =
        record { now = None; now_is = inl refl; done = makes_none k.0; rests = λ no. never no }
    group_fails group size fault.OutOfMemory (inr k) = record {
      now = Some (Calls group);
      now_is = inr refl;
      done = group_sent group size (size.0, size.1, k.0.0) k.0.1;
      rests = λ no. never no;
    }
    group_fails group size fault.TooLarge k =
        record { now = None; now_is = refl; done = makes_none k.0; rests = λ may. rests k.0 k.1 k.2 }
    group_fails group size fault.NotWritable k =
        record { now = None; now_is = refl; done = makes_none k.0; rests = λ may. rests k.0 k.1 k.2 }
    group_fails group size fault.Exhausted k =
        record { now = None; now_is = refl; done = makes_none k.0; rests = λ may. rests k.0 k.1 k.2 }
    group_fails group size fault.TooManyTokens k = absurd k
    group_fails group size (fault.Service code) k = absurd k
    group_fails group size fault.Closed k = absurd k

  -- all of it is done
  abbrev pub all_done : (ds : List Deed) (b : ClientPlace) → Did e.client h.done.did.last ds b sent → StandsAt (client_channel y) b
      → b.octets ≡ h.done.did.last.octets ++ moves.taken
      → HasDoneAll e (deeds ++ ds) y (read ++ moves.got) (written ++ sent)
  all_done ds b did at octets_are =
      rests ds b sent [] (sym (append-nil sent)) did moves.taken [] (sym (append-nil moves.taken)) octets_are refl refl at

  -- ---- calls of requests

  abbrev pub calls_done : (requests : List Request) (replies : List Reply)
      (a : AnsweredAll requests h.done.did.last (channel_of_connection (connection_of y)) sent moves.taken replies)
      → HasDoneAll e (deeds ++ map Calls a.groups) y (read ++ moves.got) (written ++ sent)
  calls_done requests replies a =
      all_done (map Calls a.groups) a.behind (rounds_did e.client limits_then a.rounds (sized_all a.groups a.sized)) a.at (rounds_took a.rounds)

  pub calls_fail : (requests : List Request) (f : ClientFault) → BrokenAll requests h.done.did.last (connection_of y) sent moves.taken f
      → FailsInGroup e deeds requests f y (read ++ moves.got) (written ++ sent)
  calls_fail requests f k =
      let sizes = sized_all (k.groups ++ k.group ∷ []) k.sized in
      record {
        groups = k.groups;
        group = k.group;
        others = k.others;
        parts = k.parts;
        sized = k.sized;
        full = k.full;
        fails =
            group_fails (map Calls k.groups) k.behind k.sent_before k.sent_then k.sent_parts
            (rounds_did e.client limits_then k.rounds (sized_front k.groups (k.group ∷ []) sizes)) k.taken_before k.taken_then k.taken_parts
            (rounds_took k.rounds) k.group (sized_last k.groups k.group sizes) f k.breaks;
      }

  -- ---- a renewal

  abbrev m : ClientPlace
  m = h.done.did.last

  module _ (moment : DateTime) (dated : IsTrue (date_time.encodable moment)) where
    pub renewal_done : (none : None ≡ renewal_refusal m) → sent ≡ renewal_at m moment → (t : ClientPlace)
        → IsRenewed (channel_of_connection (connection_of y)) m t moves.taken
        → HasDoneAll e (deeds ++ Renews moment ∷ []) y (read ++ moves.got) (written ++ sent)
    renewal_done none is t r =
        all_done (Renews moment ∷ []) t
        (did_one e.client m t (Renews moment) sent (dated, sym none)
        (record { x = channel_of_connection (connection_of y); limits_are = limits_then; taken = moves.taken; renewed = r }) is) r.at r.octets

    -- nothing else was done
    abbrev doing : Deed → IsAskable m (Renews moment) → IsPrefix sent (renewal_at m moment)
        → HasDone e (deeds ++ []) (Some (Renews moment)) y (read ++ moves.got) (written ++ sent)
    doing now askable front =
        makes [] m [] sent refl (refl, refl) [] moves.taken refl (sym (append-nil m.octets)) (Renews moment) askable front

    abbrev done_none : sent ≡ [] → HasDone e (deeds ++ []) None y (read ++ moves.got) (written ++ sent)
    done_none nothing = makes_none [] m [] sent refl (refl, refl) [] moves.taken refl (sym (append-nil m.octets)) nothing

    broken : (f : ClientFault) → None ≡ renewal_refusal m → sent ≡ renewal_at m moment
        → HasDone e (deeds ++ []) (Some (Renews moment)) y (read ++ moves.got) (written ++ sent)
    broken f none is = doing (Renews moment) (dated, sym none) ([], sym is ∙ sym (append-nil sent))

    refused : y ≡ x → sent ≡ [] → moves.taken ≡ [] → HasDoneAll e (deeds ++ []) y (read ++ moves.got) (written ++ sent)
    refused is nothing none =
        rests [] m [] sent refl (refl, refl) [] moves.taken refl (sym (append-nil m.octets)) nothing none
        (subst (λ (z : Client). StandsAt (client_channel z) m) (sym is) h.at)

    fails : (f : ClientFault) → refused_by {A = Unit {0}} (Err f) ≡ renewal_refusal m → (IsRefusal {A = Unit {0}} (Err f) → y ≡ x)
        → RenewsAt {A = Unit {0}} m moment (channel_of_connection (connection_of y)) sent moves.taken (Err f)
        → FailsAfter e (deeds ++ []) (Renews moment) f y (read ++ moves.got) (written ++ sent)
    fails (fault.Peer code) none left k = record { now = Some (Renews moment); now_is = refl; done = broken (fault.Peer code) none k.0; rests = λ no. never no }
    fails (fault.Refused code) none left k =
        record { now = Some (Renews moment); now_is = refl; done = broken (fault.Refused code) none k.0; rests = λ no. never no }
    fails fault.Ended none left k = record { now = Some (Renews moment); now_is = refl; done = broken fault.Ended none k.0; rests = λ no. never no }
    fails fault.Read none left k = record { now = Some (Renews moment); now_is = refl; done = broken fault.Read none k.0; rests = λ no. never no }
    fails fault.TooLong none left k = record { now = Some (Renews moment); now_is = refl; done = broken fault.TooLong none k.0; rests = λ no. never no }
    fails fault.Write none left k = record {
      now = Some (Renews moment);
      now_is = refl;
      done = doing (Renews moment) (dated, sym none) (k.0.0.more, k.0.0.parts);
      rests = λ no. never no;
    }
    fails fault.OutOfMemory none left (inl k) = record { now = None; now_is = inl refl; done = done_none k.0; rests = λ no. never no }
    fails fault.OutOfMemory none left (inr k) =
        record { now = Some (Renews moment); now_is = inr refl; done = broken fault.OutOfMemory none k.0; rests = λ no. never no }
    fails fault.TooManyTokens none left k = record { now = None; now_is = refl; done = done_none k.0; rests = λ may. refused (left tt) k.0 k.1 }
    fails fault.Exhausted none left k = record { now = None; now_is = refl; done = done_none k.0; rests = λ may. refused (left tt) k.0 k.1 }
    fails fault.TooLarge none left k = absurd k
    fails fault.NotWritable none left k = absurd k
    fails fault.UnknownResponse none left k = absurd k
    fails (fault.Service code) none left k = absurd k
    fails fault.Closed none left k = absurd k

    pub renewal_fails : (f : ClientFault) → refused_by {A = Unit {0}} (Err f) ≡ renewal_refusal m → (IsRefusal {A = Unit {0}} (Err f) → y ≡ x)
        → RenewsAt {A = Unit {0}} m moment (channel_of_connection (connection_of y)) sent moves.taken (Err f)
        → FailsAfter e deeds (Renews moment) f y (read ++ moves.got) (written ++ sent)
    renewal_fails f none left k =
        subst (λ (ds : List Deed). FailsAfter e ds (Renews moment) f y (read ++ moves.got) (written ++ sent)) (append-nil deeds) (fails f none left k)

-- ---- the opening

-- what an open channel has
abbrev pub OpensSettled : Type 0
OpensSettled = (x : ClientChannel) (octets : List ℕ) → IsOpened x octets
    → (s : ClientPlace) × (s.octets ≡ octets) × (s.asks ≡ []) × StandsAt x s × IsSettled s

pub opened : OpensSettled → (e : Ends) (x : Client) (before after : Option Traffic) (k : OpensClient e.client e.url e.opened before after (Ok x))
    → HasDoneAll e [] x k.opens.moves.got k.opens.sent
opened law e x before after k =
    let channel : ClientChannel = channel_of_connection k.last in
    let limits : client_limits channel ≡ e.client = sym k.opens.keeps.same.limits ∙ k.fresh.limits_are in
    let url : url_of channel ≡ e.url = sym k.opens.keeps.same.url ∙ k.fresh.url_is in
    let outcome = k.opens.answers k.fresh.goes in
    let there = law channel k.opens.moves.taken outcome.1 in
    let s : ClientPlace = there.0 in
    record {
      done = record {
        limits_are = ap (λ (z : Connection). client_limits (channel_of_connection z)) k.over.0 ∙ limits;
        url_is = ap (λ (z : Connection). url_of (channel_of_connection z)) k.over.0 ∙ url;
        asks = s.asks;
        taken = k.opens.moves.taken;
        did = record {
          x = channel;
          limits_are = limits;
          first = s;
          at = there.3;
          opens = subst (IsOpened channel) (sym there.1) outcome.1;
          none_asked = there.2;
          number_is = sym there.3.number_is ∙ (k.opens.keeps.next ∙ k.fresh.next_is);
          last = s;
          done = [];
          did = (refl, refl);
          part = [];
          doing = (refl, refl);
          taken = [];
          got_is = sym there.1 ∙ sym (append-nil s.octets);
          sent_is =
              outcome.0
              ∙ (ap (λ (l : Limits). hello_octets l (url_of (channel_of_connection k.begun)) ++ open_frame_octets e.opened) k.fresh.limits_are
              ∙ (ap (λ (u : Option (List ℕ)). hello_octets e.client u ++ open_frame_octets e.opened) k.fresh.url_is
              ∙ sym (append-nil (hello_octets e.client e.url ++ open_frame_octets e.opened))));
        };
        read_is =
            sym (ap (λ (o : List ℕ). o ++ k.opens.moves.got) k.fresh.untaken)
            ∙ (k.opens.moves.parts ∙ ap (λ (z : Connection). k.opens.moves.taken ++ untaken_of z) (sym k.over.0));
      };
      at = subst (λ (z : Connection). StandsAt (channel_of_connection z) s) (sym k.over.0) there.3;
      just_taken = sym there.1;
    }

-- That a client over a line to a server stays in step with it, by its requests and by renewals.
use Rattle.std.proofs.Common.{◌≡◌, ℕ, ◌+◌, ◌<◌, IsTrue, List, [], ◌∷◌, ◌++◌, Option, Some, None}
use Rattle.std.proofs.Common.{Err, length, refl, sym, ◌∙◌, ap, subst, append-nil, append_assoc}
use Rattle.ua_wire.specs.Format.{Extends}
use Rattle.ua_builtin.specs.DateTime.{date_time}
use Rattle.ua_builtin.specs.Reasons.{first_reason}
use Rattle.ua_builtin.specs.declared.date_time.DateTime.{DateTime}
use Rattle.ua_frame.specs.declared.ack.Ack.{Ack}
use Rattle.ua_frame.specs.declared.limits.Limits.{Limits}
use Rattle.ua_chunk.specs.declared.lane.Lane.{Lane}
use Rattle.ua_channel.specs.Client.{SameClient, client_limits}
use Rattle.ua_channel.specs.ClientAsks.{call_lane}
use Rattle.ua_channel.specs.Line.{Traffic, IfTrafficKnown}
use Rattle.ua_channel_laws.specs.Outgoing.{renewal_by}
use Rattle.ua_channel.specs.ServerTold.{Told, Opened}
use Rattle.ua_channel.specs.declared.client.channel.ClientChannel.{ClientChannel}
use Rattle.ua_services.specs.declared.request.Request.{Request}
use Rattle.ua_server.specs.Said.{used_in}
use Rattle.ua_client.specs.Calls.{AnsweredAll, BreaksAt, BrokenAll, Rounds, all_of, refusal_at}
use Rattle.ua_client.specs.Calls.Rounds.{NoRound, OneRound}
use Rattle.ua_client.specs.Carried.{Carries}
use Rattle.ua_client.specs.Hearing.{MovesConnection, channel_of_connection, untaken_of}
use Rattle.ua_client.specs.Renewing.{IsRenewed, RenewsAt, refused_by, renewal_at, renewal_refusal}
use Rattle.ua_client.specs.Sent.{bodies_of, group_reasons}
use Rattle.ua_client.specs.ClientPlace.{ClientPlace, StandsAt, id_at}
use Rattle.ua_client.specs.declared.connection.Connection.{Connection}
use Rattle.ua_client.specs.declared.fault.ClientFault.{ClientFault}
use Rattle.ua_client.specs.declared.fault.ClientFault.TheVariants as fault
use Rattle.ua_client.specs.declared.reply.Reply.{Reply}
use Rattle.ua_client.proofs.Settled.{NonePending}
use Rattle.ua_loopback.specs.Accepted.{IsTurnFault, acknowledged, held_behind_calls, turn_reasons_under}
use Rattle.ua_loopback.specs.Beginning.{Beginning}
use Rattle.ua_loopback.specs.Replies.{turn_state}
use Rattle.ua_loopback.specs.Says.{server_output, state_told}
use Rattle.ua_loopback.specs.Sends.{turn_octets}
use Rattle.ua_loopback.specs.Turns.{calls_told}
use Rattle.ua_loopback.specs.Talking.{AreTalking, IsLineTo, IsServed}
use Rattle.ua_loopback.proofs.Reaching.{writable}
use Rattle.ua_loopback.proofs.Replying.{state_calls}
use Rattle.ua_loopback.proofs.Rounds.{AreSome, Behind, all_front, lane_there, refused_among, refused_behind, refused_there}
use Rattle.ua_loopback.proofs.Rounds.{renewal_refused_there, renewal_served, rounds_served, served_by, some_in}

-- ---- octets

-- what rounds took
pub rounds_octets : {c : ClientChannel} {s t : ClientPlace} {groups : List (List Request)} {sent taken : List ℕ} {replies : List Reply}
    → Rounds c s groups t sent taken replies → t.octets ≡ s.octets ++ taken
rounds_octets {s = s} NoRound = sym (append-nil s.octets)
rounds_octets {s = s} (OneRound {taken = taken} {part = part} group x r at a) = a.octets
    ∙ (ap (λ (o : List ℕ). o ++ part) (rounds_octets r) ∙ append_assoc s.octets taken part)

-- what was got before, and what then is, is what was taken and what is left
pub got_on : (got more octets left taken untaken : List ℕ) → got ≡ octets ++ left → left ++ more ≡ taken ++ untaken → got ++ more ≡ (octets ++ taken) ++ untaken
got_on got more octets left taken untaken is parts =
    ap (λ (t : List ℕ). t ++ more) is ∙ (append_assoc octets left more ∙ (ap (λ (t : List ℕ). octets ++ t) parts ∙ sym (append_assoc octets taken untaken)))

-- a line to a server is one behind what then went over it
pub line_on : (b : Beginning) (sent got more added : List ℕ) (before after : Option Traffic) → IsLineTo b sent got before
    → IfTrafficKnown (Carries added more) before after → IsLineTo b (sent ++ more) (got ++ added) after
line_on b sent got more added None after line carried = absurd line
line_on b sent got more added (Some f) None line carried = absurd carried
line_on b sent got more added (Some f) (Some g) line carried = λ further.
    ap (server_output b) (append_assoc sent more further)
    ∙ (line (more ++ further) ∙ (ap (λ (o : List ℕ). got ++ o) (carried.coming further) ∙ sym (append_assoc got added (g.coming further))))

-- what was taken is a front of what the server says of all that was sent
pub fronts : (b : Beginning) (now : Option Traffic) (sent got taken untaken : List ℕ) → IsLineTo b sent got now → got ≡ taken ++ untaken
    → Extends taken (server_output b sent)
fronts b None sent got taken untaken line is = absurd line
fronts b (Some g) sent got taken untaken line is = record {
  more = untaken ++ g.coming [];
  parts = ap (server_output b) (sym (append-nil sent)) ∙ (line [] ∙ (ap (λ (o : List ℕ). o ++ g.coming []) is ∙ append_assoc taken untaken (g.coming [])));
}

-- the same, named in another way
pub talking_as : (b : Beginning) (limits : Limits) (url : Option (List ℕ)) (octets others : List ℕ) (told more : List Told) (token k id n held h : ℕ)
    (site : ClientPlace) (x : Connection) (now : Option Traffic)
    → octets ≡ others → told ≡ more → token ≡ k → id ≡ n → held ≡ h → AreTalking b limits url octets told token id held site x now
    → AreTalking b limits url others more k n h site x now
talking_as b limits url octets others told more token k id n held h site x now p q r s e t =
    subst (λ (o : List ℕ). AreTalking b limits url o more k n h site x now) p
    (subst (λ (ts : List Told). AreTalking b limits url octets ts k n h site x now) q
    (subst (λ (m : ℕ). AreTalking b limits url octets told m n h site x now) r
    (subst (λ (m : ℕ). AreTalking b limits url octets told token m h site x now) s
    (subst (λ (m : ℕ). AreTalking b limits url octets told token id m site x now) e t))))

-- ---- a turn

-- a group that is refused for such a fault was not asked
pub breaks_refused : (group : List Request) (s : ClientPlace) (new : Connection) (sent taken : List ℕ) (f : ClientFault) → IsTurnFault f
    → BreaksAt group s new sent taken f → (sent ≡ []) × (taken ≡ []) × StandsAt (channel_of_connection new) s × (refusal_at s group ≡ Some f)
breaks_refused group s new sent taken fault.NotWritable h k = k
breaks_refused group s new sent taken fault.Exhausted h k = k
breaks_refused group s new sent taken fault.TooLarge h k = k
breaks_refused group s new sent taken fault.TooManyTokens h k = absurd k
breaks_refused group s new sent taken (fault.Peer code) h k = absurd h
breaks_refused group s new sent taken (fault.Refused code) h k = absurd h
breaks_refused group s new sent taken (fault.Service code) h k = absurd h
breaks_refused group s new sent taken fault.Ended h k = absurd h
breaks_refused group s new sent taken fault.Read h k = absurd h
breaks_refused group s new sent taken fault.Write h k = absurd h
breaks_refused group s new sent taken fault.TooLong h k = absurd h
breaks_refused group s new sent taken fault.UnknownResponse h k = absurd h
breaks_refused group s new sent taken fault.OutOfMemory h k = absurd h
breaks_refused group s new sent taken fault.Closed h k = absurd h

-- a renewal that is refused for one is refused for it where the client stands
renewal_refused : (s : ClientPlace) (moment : DateTime) (new : ClientChannel) (sent taken : List ℕ) (f : ClientFault) → IsTurnFault f
    → RenewsAt {A = Unit {0}} s moment new sent taken (Err f) → refused_by {A = Unit {0}} (Err f) ≡ renewal_refusal s → renewal_refusal s ≡ Some f
renewal_refused s moment new sent taken fault.NotWritable h k e = absurd k
renewal_refused s moment new sent taken fault.Exhausted h k e = sym e
renewal_refused s moment new sent taken fault.TooLarge h k e = absurd k
renewal_refused s moment new sent taken fault.TooManyTokens h k e = sym e
renewal_refused s moment new sent taken (fault.Peer code) h k e = absurd h
renewal_refused s moment new sent taken (fault.Refused code) h k e = absurd h
renewal_refused s moment new sent taken (fault.Service code) h k e = absurd h
renewal_refused s moment new sent taken fault.Ended h k e = absurd h
renewal_refused s moment new sent taken fault.Read h k e = absurd h
renewal_refused s moment new sent taken fault.Write h k e = absurd h
renewal_refused s moment new sent taken fault.TooLong h k e = absurd h
renewal_refused s moment new sent taken fault.UnknownResponse h k e = absurd h
renewal_refused s moment new sent taken fault.OutOfMemory h k e = absurd h
renewal_refused s moment new sent taken fault.Closed h k e = absurd h

module _ (b : Beginning) (limits : Limits) (url : Option (List ℕ)) (octets : List ℕ) (told : List Told) (token id held : ℕ) (site : ClientPlace)
    (x : Connection) (before : Option Traffic) (t : AreTalking b limits url octets told token id held site x before)
    (y : Connection) (after : Option Traffic) (sent : List ℕ) (moves : MovesConnection x y sent before after)
    (same : SameClient (channel_of_connection x) (channel_of_connection y)) where
  abbrev a : Ack
  a = acknowledged b.limits limits url

  limits_then : client_limits (channel_of_connection y) ≡ limits
  limits_then = sym same.limits ∙ t.served.limits_are

  -- at a site where it took what it then took
  module _ (behind : ClientPlace) (octets_are : behind.octets ≡ site.octets ++ moves.taken) where
    line_then : IsLineTo b (octets ++ sent) (t.got ++ moves.got) after
    line_then = line_on b octets t.got sent moves.got before after t.line moves.carried

    got_then : t.got ++ moves.got ≡ behind.octets ++ untaken_of y
    got_then = got_on t.got moves.got site.octets (untaken_of x) moves.taken (untaken_of y) t.got_is moves.parts
        ∙ ap (λ (o : List ℕ). o ++ untaken_of y) (sym octets_are)

    front_then : Extends behind.octets (server_output b (octets ++ sent))
    front_then = fronts b after (octets ++ sent) (t.got ++ moves.got) behind.octets (untaken_of y) line_then got_then

    talking_then : (more : List Told) (k n h : ℕ) → IsServed b limits url (octets ++ sent) (told ++ more) k n h behind (channel_of_connection y)
        → AreTalking b limits url (octets ++ sent) (told ++ more) k n h behind y after
    talking_then more k n h served = record { got = t.got ++ moves.got; line = line_then; got_is = got_then; served = served }

  whole : (octets : List ℕ) → Extends octets octets
  whole octets = record { more = []; parts = sym (append-nil octets) }

  -- groups of requests are answered, behind which nothing more is sent or taken
  pub asked_behind : NonePending → {groups : List (List Request)} {sent_there taken_there : List ℕ} {replies : List Reply} (behind : ClientPlace)
      → Rounds (channel_of_connection y) site groups behind sent_there taken_there replies → AreSome groups
      → sent ≡ sent_there → moves.taken ≡ taken_there → Behind b limits url octets told token id held site.number sent replies (all_of groups) behind
  asked_behind law {groups = groups} {sent_there = sent_there} {replies = replies} behind rounds some sent_is taken_is =
      let front : Extends behind.octets (server_output b (octets ++ sent)) =
      front_then behind (rounds_octets rounds ∙ ap (λ (o : List ℕ). site.octets ++ o) (sym taken_is)) in
      let said : Extends (server_output b (octets ++ sent_there)) (server_output b (octets ++ sent)) =
      subst (λ (o : List ℕ). Extends (server_output b (octets ++ o)) (server_output b (octets ++ sent))) sent_is (whole (server_output b (octets ++ sent))) in
      subst (λ (o : List ℕ). Behind b limits url octets told token id held site.number o replies (all_of groups) behind) (sym sent_is)
      (rounds_served b limits url octets told token id held law (channel_of_connection x) t.served limits_then rounds some (server_output b (octets ++ sent))
      front said)

  -- where requests are answered
  pub answered_behind : NonePending
      → (requests : List Request) (replies : List Reply) (q : AnsweredAll requests site (channel_of_connection y) sent moves.taken replies)
      → Behind b limits url octets told token id held site.number sent replies requests q.behind
  answered_behind law requests replies q =
      subst (λ (ms : List Request). Behind b limits url octets told token id held site.number sent replies ms q.behind) (sym q.parts)
      (asked_behind law q.behind q.rounds (some_in q.groups q.sized) refl refl)

  -- or the first of them, behind which the next is refused
  module _ (law : NonePending) (requests : List Request) (f : ClientFault) (is : IsTurnFault f) (q : BrokenAll requests site y sent moves.taken f) where
    none : (q.sent_then ≡ []) × (q.taken_then ≡ []) × StandsAt (channel_of_connection y) q.behind × (refusal_at q.behind q.group ≡ Some f)
    none = breaks_refused q.group q.behind y q.sent_then q.taken_then f is q.breaks

    taken_is : moves.taken ≡ q.taken_before
    taken_is = q.taken_parts ∙ (ap (λ (o : List ℕ). q.taken_before ++ o) none.1 ∙ append-nil q.taken_before)

    pub refused_at : StandsAt (channel_of_connection y) q.behind
    refused_at = none.2

    pub refused_octets : q.behind.octets ≡ site.octets ++ moves.taken
    refused_octets = rounds_octets q.rounds ∙ ap (λ (o : List ℕ). site.octets ++ o) (sym taken_is)

    pub first_behind : Behind b limits url octets told token id held site.number sent q.replies (all_of q.groups) q.behind
    first_behind =
        asked_behind law q.behind q.rounds (all_front (λ (g : List Request). 0 < length g) q.groups q.group (some_in (q.groups ++ q.group ∷ []) q.sized))
        (q.sent_parts ∙ (ap (λ (o : List ℕ). q.sent_before ++ o) none.0 ∙ append-nil q.sent_before)) taken_is

    -- for the first reason against them
    pub asked_refused : first_reason (turn_reasons_under a held id (Some requests)) ≡ Some f
    asked_refused =
        let there = first_behind in
        let all : List Request = all_of q.groups in
        ap (λ (ms : List Request). first_reason (group_reasons (Some a) id ms)) q.parts
        ∙ (refused_behind (Some a) id all (q.group ++ q.others) there.judged
        ∙ refused_among (Some a) (id + length all) q.group q.others f
        (sym (refused_there b limits url (octets ++ sent) (told ++ calls_told token id (bodies_of all)) token (id + length all)
        (held_behind_calls held (length all)) q.behind there.channel there.served q.group) ∙ none.3))

  -- behind requests that are answered
  module _ (requests : List Request) (replies : List Reply) (behind : ClientPlace) (at : StandsAt (channel_of_connection y) behind)
      (octets_are : behind.octets ≡ site.octets ++ moves.taken)
      (there : Behind b limits url octets told token id held site.number sent replies requests behind) where
    pub talks_asked : AreTalking b limits url (octets ++ sent) (told ++ calls_told token id (bodies_of requests)) token (id + length requests)
        (held_behind_calls held (length requests)) behind y after
    talks_asked =
        talking_then behind octets_are (calls_told token id (bodies_of requests)) token (id + length requests) (held_behind_calls held (length requests))
        (served_by b limits url (octets ++ sent) (told ++ calls_told token id (bodies_of requests)) token (id + length requests)
        (held_behind_calls held (length requests)) behind there.channel (channel_of_connection y) at limits_then there.served)

    -- the state that they leave
    pub asked_state : state_told b (told ++ calls_told token id (bodies_of requests)) ≡ turn_state (state_told b told) b.moments (used_in told) (Some requests)
    asked_state = state_calls b told token id requests (writable a id requests there.judged)

  -- the token is renewed
  module _ (moment : DateTime) where
    judged_here : renewal_refusal site ≡ first_reason (turn_reasons_under a held id None)
    judged_here = renewal_refused_there b limits url octets told token id held site (channel_of_connection x) t.served

    pub talks_renewed : IsTrue (date_time.encodable moment) → ((n : ℕ) → IsTrue (date_time.encodable (b.moments n))) → renewal_refusal site ≡ None
        → sent ≡ renewal_at site moment → (behind : ClientPlace) → IsRenewed (channel_of_connection y) site behind moves.taken
        → AreTalking b limits url (octets ++ sent) (told ++ Opened id 0 (token + 1) 3600000 ∷ []) (token + 1) (id + 1) (held + 1) behind y after
    talks_renewed dated answered judged sent_is behind r =
        let front : Extends behind.octets (server_output b (octets ++ renewal_at site moment)) =
        subst (λ (o : List ℕ). Extends behind.octets (server_output b (octets ++ o))) sent_is (front_then behind r.octets) in
        talking_then behind r.octets (Opened id 0 (token + 1) 3600000 ∷ []) (token + 1) (id + 1) (held + 1)
        (subst (λ (o : List ℕ). IsServed b limits url (octets ++ o) (told ++ Opened id 0 (token + 1) 3600000 ∷ []) (token + 1) (id + 1) (held + 1) behind
        (channel_of_connection y)) (sym sent_is)
        (renewal_served b limits url octets told token id held site (channel_of_connection x) t.served (channel_of_connection y) behind moves.taken limits_then
        (server_output b (octets ++ renewal_at site moment)) front moment dated answered judged r
        (whole (server_output b (octets ++ renewal_at site moment)))))

    -- what is sent of that
    pub renewal_sent : renewal_at site moment ≡ turn_octets (call_lane a b.channel token) site.number id moment None
    renewal_sent =
        ap (λ (l : Option Lane). renewal_by l site.number (id_at site) moment)
        (lane_there b limits url octets told token id held site (channel_of_connection x) t.served)
        ∙ (ap (λ (n : ℕ). renewal_by (Some (call_lane a b.channel token)) site.number n moment) t.served.id_is
        ∙ sym (append-nil (renewal_by (Some (call_lane a b.channel token)) site.number id moment)))

    pub renewed_judged : renewal_refusal site ≡ None → first_reason (turn_reasons_under a held id None) ≡ None
    renewed_judged judged = sym judged_here ∙ judged

    pub renewing_refused : (f : ClientFault) → IsTurnFault f → RenewsAt {A = Unit {0}} site moment (channel_of_connection y) sent moves.taken (Err f)
        → refused_by {A = Unit {0}} (Err f) ≡ renewal_refusal site → first_reason (turn_reasons_under a held id None) ≡ Some f
    renewing_refused f is k e = sym judged_here ∙ renewal_refused site moment (channel_of_connection y) sent moves.taken f is k e

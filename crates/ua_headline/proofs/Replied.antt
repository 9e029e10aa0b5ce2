-- That each reply which a call of a client returned over a connection to a server is the server's to its own request, and that no call is rejected there.
use Rattle.std.proofs.Common.{◌≡◌, ℕ, ◌+◌, ◌<◌, ◌≤◌, IsTrue, List, [], ◌∷◌, ◌++◌, Option, Some, None, Err}
use Rattle.std.proofs.Common.{length, map, refl, sym, ◌∙◌, ap, subst, arith, append_assoc, append-nil, length-append}
use Rattle.ua_builtin.specs.DateTime.{date_time}
use Rattle.ua_builtin.specs.declared.date_time.DateTime.{DateTime}
use Rattle.ua_chunk.proofs.Lists.{map_push}
use Rattle.ua_frame.specs.Run.{Going}
use Rattle.ua_frame.specs.declared.limits.Limits.{Limits}
use Rattle.ua_channel.specs.Asks.{Placed, asked_in, next_id}
use Rattle.ua_channel.specs.Client.{ClientEnded, SameClient}
use Rattle.ua_channel.specs.ClientTold.{ClientTold, Why, ours, peers}
use Rattle.ua_channel.specs.Line.{Traffic}
use Rattle.ua_channel.specs.declared.client.channel.ClientChannel.{ClientChannel}
use Rattle.ua_channel.specs.declared.server.ServerChannel.{ServerChannel}
use Rattle.ua_channel_laws.specs.Outgoing.Outgoing.{CallWith, RenewalAt}
use Rattle.ua_channel_laws.specs.Outgoing.{Outgoing}
use Rattle.ua_server.specs.Said.{output_of}
use Rattle.ua_services.specs.Request.{kind_of_request, request}
use Rattle.ua_services.specs.declared.request.Request.{Request}
use Rattle.ua_client.specs.Calls.{AnsweredAll, BreaksAt, BrokenAll, Rounds, all_of}
use Rattle.ua_client.specs.Calls.Rounds.{NoRound, OneRound}
use Rattle.ua_client.specs.Client.{connection_of}
use Rattle.ua_client.specs.ClientPlace.{ClientPlace, id_at}
use Rattle.ua_client.specs.Hearing.{MovesConnection, channel_of_connection, untaken_of}
use Rattle.ua_client.specs.Renewing.{RenewsAt, refused_by, renewal_refusal}
use Rattle.ua_client.specs.Replies.{AreReplies, IsReplyBy, IsReplyTo}
use Rattle.ua_client.specs.Sent.{bodies_of}
use Rattle.ua_client.specs.declared.client.Client.{Client}
use Rattle.ua_client.specs.declared.fault.ClientFault.{ClientFault}
use Rattle.ua_client.specs.declared.fault.ClientFault.TheVariants as fault
use Rattle.ua_client.specs.declared.reply.Reply.{Reply}
use Rattle.ua_client.proofs.Grouping.{concat-push}
use Rattle.ua_headline.specs.Calling.{AreServersReplies, HasDone, HasDoneAll, IsOneConnection, IsRejected}
use Rattle.ua_headline.specs.Clients.{Deed, Did, IsAnsweredAt, IsAskable, IsLinked, asks_with, deed_octets, turn_of, turns_of}
use Rattle.ua_headline.specs.Clients.Deed.{Calls, Renews}
use Rattle.ua_headline.specs.EachCall.{id_after, operations_of, reply_to_call}
use Rattle.ua_headline.specs.Talk.{Ends, IsPrefix, heard_in, told_by_turns}
use Rattle.ua_headline.proofs.Calling.{calls_done, got_there, limits_then, makes, rounds_did, rounds_took, sized_all, sized_front, sized_last}
use Rattle.ua_headline.proofs.Doing.{linked_got, linked_told, took_of_turns}
use Rattle.ua_headline.proofs.EachCall.{told_once, told_prefix}
use Rattle.ua_headline.proofs.Fronts.{prefix_of_prefix}
use Rattle.ua_channel_laws.proofs.Lists.{same_next}
use Rattle.ua_headline.proofs.Steps.{next_asks}
use Rattle.ua_headline.proofs.Talking.{AsksEarlier, EndsConnect, RoundsReach, not_failed, told_first}

-- ---- operations

abbrev pub calls : List Request → List Outgoing
calls requests = map CallWith (bodies_of requests)

calls_push : (xs ys : List Request) → calls (xs ++ ys) ≡ calls xs ++ calls ys
calls_push xs ys = ap (map CallWith) (map_push request.canonical xs ys) ∙ map_push CallWith (bodies_of xs) (bodies_of ys)

pub operations_behind : (ds es : List Deed)
    → operations_of (map turn_of (ds ++ es)) ≡ operations_of (map turn_of ds) ++ operations_of (map turn_of es)
operations_behind [] es = refl
operations_behind (d ∷ ds) es =
    ap (λ (os : List Outgoing). turn_of d ++ os) (operations_behind ds es)
    ∙ sym (append_assoc (turn_of d) (operations_of (map turn_of ds)) (operations_of (map turn_of es)))

operations_in : (groups : List (List Request)) → operations_of (map turn_of (map Calls groups)) ≡ calls (all_of groups)
operations_in [] = refl
operations_in (g ∷ groups) = ap (λ (os : List Outgoing). calls g ++ os) (operations_in groups) ∙ sym (calls_push g (all_of groups))

-- ---- RequestIds

id_next : (limits : Limits) (m t : ClientPlace) (d : Deed) → IsAnsweredAt limits m t d → id_at t ≡ id_at m + length (turn_of d)
id_next limits m t (Calls requests) r =
    ap (λ (p : List Placed). next_id (asked_in p)) r.answered.asks ∙ next_asks m.asks (length m.octets) (id_at m) (calls requests)
id_next limits m t (Renews time) r =
    ap (λ (p : List Placed). next_id (asked_in p)) r.renewed.asks ∙ next_asks m.asks (length m.octets) (id_at m) (RenewalAt time ∷ [])

pub id_behind : (limits : Limits) (m : ClientPlace) (deeds : List Deed) (t : ClientPlace) (sent : List ℕ) → Did limits m deeds t sent
    → id_at t ≡ id_at m + length (operations_of (map turn_of deeds))
id_behind limits m [] t sent d = omega (arith, ap id_at d.0)
id_behind limits m (d ∷ deeds) t sent (a, (next, more, answered, is, rest)) = omega (
  arith,
  id_behind limits next deeds t more rest,
  id_next limits m next d answered,
  length-append (turn_of d) (operations_of (map turn_of deeds)),
)

first_id : (asks : List Placed) → asks ≡ [] → next_id (asked_in asks) ≡ 2
unfolding asked_in
first_id asks none = ap (λ (p : List Placed). next_id (asked_in p)) none

pub id_done : (e : Ends) (deeds : List Deed) (x : Client) (read written : List ℕ) (h : HasDoneAll e deeds x read written)
    → id_at h.done.did.last ≡ id_after (operations_of (map turn_of deeds))
id_done e deeds x read written h =
    omega (
      arith,
      id_behind e.client h.done.did.first deeds h.done.did.last h.done.did.done h.done.did.did,
      first_id h.done.did.first.asks h.done.did.none_asked,
    )

-- ---- replies

replies_behind : (e : Ends) (ms ns : List Request) (rs ss : List Reply) (before : List Outgoing) → AreServersReplies e before ms rs
    → AreServersReplies e (before ++ calls ms) ns ss → AreServersReplies e before (ms ++ ns) (rs ++ ss)
replies_behind e [] ns [] ss before h k = subst (λ (os : List Outgoing). AreServersReplies e os ns ss) (append-nil before) k
replies_behind e [] ns (r ∷ rs) ss before h k = absurd h
replies_behind e (m ∷ ms) ns [] ss before h k = absurd h
replies_behind e (m ∷ ms) ns (r ∷ rs) ss before h k = (
  h.0,
  replies_behind e ms ns rs ss (before ++ CallWith (request.canonical m) ∷ []) h.1
      (subst (λ (os : List Outgoing). AreServersReplies e os ns ss) (sym (append_assoc before (CallWith (request.canonical m) ∷ []) (calls ms))) k),
)

module _ (e : Ends) (turns : List (List Outgoing)) where
  -- the reply to one call
  own_reply : (m : Request) (before after : List Outgoing) → operations_of turns ≡ before ++ CallWith (request.canonical m) ∷ after → (told : List ClientTold)
      → IsPrefix told (heard_in e turns) → (reply : Reply) → IsReplyTo m (id_after before) told reply
      → IsReplyBy (kind_of_request m) (id_after before) (reply_to_call e before (request.canonical m)) reply
  own_reply m before after parts told front reply (t, is, by) =
      let p = told_prefix (id_after before) told (heard_in e turns) front in
      let all : reply_to_call e before (request.canonical m) ∷ [] ≡ t ∷ p.0 =
      sym (told_once e turns before after (request.canonical m) parts) ∙ (p.1 ∙ ap (λ (us : List ClientTold). us ++ p.0) is) in
      subst (λ (u : ClientTold). IsReplyBy (kind_of_request m) (id_after before) u reply)
      (sym (same_next (reply_to_call e before (request.canonical m)) t [] p.0 all).0) by

  pub own_replies : (requests : List Request) (replies : List Reply) (before after : List Outgoing) (id : ℕ) → id ≡ id_after before
      → operations_of turns ≡ before ++ (calls requests ++ after) → (told : List ClientTold) → IsPrefix told (heard_in e turns)
      → AreReplies requests id told replies → AreServersReplies e before requests replies
  own_replies [] [] before after id id_is parts told front h = tt
  own_replies [] (r ∷ replies) before after id id_is parts told front h = h
  own_replies (m ∷ requests) [] before after id id_is parts told front h = h
  own_replies (m ∷ requests) (r ∷ replies) before after id id_is parts told front h = (
    own_reply m before (calls requests ++ after) parts told front r (subst (λ (n : ℕ). IsReplyTo m n told r) id_is h.0),
    own_replies requests replies (before ++ CallWith (request.canonical m) ∷ []) after (id + 1)
        (omega (arith, id_is, length-append before (CallWith (request.canonical m) ∷ [])))
        (parts ∙ sym (append_assoc before (CallWith (request.canonical m) ∷ []) (calls requests ++ after))) told front h.1,
  )

  -- those to groups, and the RequestId behind them
  rounds_replies : {c : ClientChannel} {s t : ClientPlace} {groups : List (List Request)} {sent taken : List ℕ} {replies : List Reply}
      (before after : List Outgoing) → id_at s ≡ id_after before → operations_of turns ≡ before ++ (calls (all_of groups) ++ after)
      → IsPrefix t.told (heard_in e turns) → Rounds c s groups t sent taken replies
      → AreServersReplies e before (all_of groups) replies × (id_at t ≡ id_after (before ++ calls (all_of groups)))
  rounds_replies before after id_is parts front NoRound = (tt, omega (arith, id_is, length-append before []))
  rounds_replies {t = t} before after id_is parts front
      (OneRound {groups = groups} {m = m} {replies = replies} {added = added} group x r stands answered) =
      let ops : calls (all_of (groups ++ group ∷ [])) ≡ calls (all_of groups) ++ calls group =
      ap calls (concat-push groups group) ∙ calls_push (all_of groups) group in
      let whole : operations_of turns ≡ before ++ (calls (all_of groups) ++ (calls group ++ after)) =
      parts
      ∙ ap (λ (os : List Outgoing). before ++ os)
      (ap (λ (os : List Outgoing). os ++ after) ops ∙ append_assoc (calls (all_of groups)) (calls group) after) in
      let first = rounds_replies before (calls group ++ after) id_is whole
      (prefix_of_prefix m.told t.told (heard_in e turns) (answered.heard, answered.told) front) r in
      let there = own_replies group added (before ++ calls (all_of groups)) after (id_at m) first.1
      (whole ∙ sym (append_assoc before (calls (all_of groups)) (calls group ++ after))) t.told front answered.replies_are in
      let id_there : id_at t ≡ id_at m + length (calls group) =
      ap (λ (p : List Placed). next_id (asked_in p)) answered.asks ∙ next_asks m.asks (length m.octets) (id_at m) (calls group) in (
        subst (λ (ms : List Request). AreServersReplies e before ms (replies ++ added)) (sym (concat-push groups group))
            (replies_behind e (all_of groups) group replies added before first.0 there),
        omega (
          arith,
          id_there,
          first.1,
          length-append before (calls (all_of groups)),
          length-append before (calls (all_of (groups ++ group ∷ []))),
          length-append (calls (all_of groups)) (calls group),
          ap length ops,
        ),
      )

-- ---- over a connection

abbrev pub linked : (e : Ends) (deeds : List Deed) (now : Option Deed) (x : Client) (read written : List ℕ) (server : ServerChannel)
    (h : HasDone e deeds now x read written) → IsOneConnection e server read written → IsLinked e deeds now server h.asks h.taken
linked e deeds now x read written server h j = record {
  can = j.can;
  limits_are = j.limits_are;
  channel_is = j.channel_is;
  sent = written;
  did = h.did;
  took = j.took;
  took_is = j.took_is;
  told = j.told;
  goes = j.goes;
  got_is = prefix_of_prefix h.taken read (output_of e.channel e.first j.told Going e.times) (untaken_of (connection_of x), h.read_is) j.read_is;
}

module _ (connect : EndsConnect) (reach : RoundsReach) (e : Ends) (deeds : List Deed) (server : ServerChannel) where
  pub server_told : (now : Option Deed) (x : Client) (read written : List ℕ) → HasDone e deeds now x read written
      → (j : IsOneConnection e server read written) → IsPrefix j.told (told_by_turns e (turns_of deeds now))
  server_told now x read written h j =
      let l = linked e deeds now x read written server h j in
      told_first connect reach e (turns_of deeds now) server j.took
      (took_of_turns connect e l.can server l.limits_are l.channel_is l.took l.told l.goes deeds now h.asks h.taken l.sent l.did l.took_is l.got_is) j.told
      j.goes

  module _ (x y : Client) (read written : List ℕ) (h : HasDoneAll e deeds x read written) (before after : Option Traffic)
      (sent : List ℕ) (moves : MovesConnection (connection_of x) (connection_of y) sent before after)
      (same : SameClient (channel_of_connection (connection_of x)) (channel_of_connection (connection_of y)))
      (j : IsOneConnection e server (read ++ moves.got) (written ++ sent)) where
    pub replied : (requests : List Request) (replies : List Reply)
        → AnsweredAll requests h.done.did.last (channel_of_connection (connection_of y)) sent moves.taken replies
        → AreServersReplies e (operations_of (map turn_of deeds)) requests replies
    replied requests replies a =
        let all : List Deed = deeds ++ map Calls a.groups in
        let done = calls_done e deeds x y read written h before after sent moves same requests replies a in
        let told : a.behind.told ≡ heard_in e (map turn_of (deeds ++ map Calls a.groups)) =
        linked_told connect e (deeds ++ map Calls a.groups) None server done.done.asks done.done.taken
        (linked e (deeds ++ map Calls a.groups) None y (read ++ moves.got) (written ++ sent) server done.done j) in
        let parts : operations_of (map turn_of (deeds ++ map Calls a.groups)) ≡ operations_of (map turn_of deeds) ++ (calls (all_of a.groups) ++ []) =
        operations_behind deeds (map Calls a.groups)
        ∙ ap (λ (os : List Outgoing). operations_of (map turn_of deeds) ++ os)
        (operations_in a.groups ∙ sym (append-nil (calls (all_of a.groups)))) in
        subst (λ (ms : List Request). AreServersReplies e (operations_of (map turn_of deeds)) ms replies) (sym a.parts)
        (rounds_replies e (map turn_of (deeds ++ map Calls a.groups)) (operations_of (map turn_of deeds)) [] (id_done e deeds x read written h) parts
        ([], sym told ∙ sym (append-nil a.behind.told)) a.rounds).0

    -- ---- that nothing is rejected

    module _ (earlier : AsksEarlier) where
      module _ (ds : List Deed) (b : ClientPlace) (first then : List ℕ) (sent_is : sent ≡ first ++ then) (did : Did e.client h.done.did.last ds b first)
          (took part : List ℕ) (taken_is : moves.taken ≡ took ++ part) (octets_are : b.octets ≡ h.done.did.last.octets ++ took) where
        goes : (d : Deed) → IsAskable b d → IsPrefix then (deed_octets b d) → (told : List ClientTold) (why : Why)
            → ClientEnded (channel_of_connection (connection_of y)) (asks_with b d) (b.octets ++ part) told why → ⊥
        goes d askable front told why ended =
            let done = makes e deeds x y read written h before after sent moves same ds b first then sent_is did took part taken_is octets_are d askable front
            in
            not_failed connect reach earlier e (turns_of (deeds ++ ds) (Some d)) server (channel_of_connection (connection_of y)) done.asks done.taken
            (linked_got connect e (deeds ++ ds) (Some d) server (channel_of_connection (connection_of y)) done.asks done.taken
            (linked e (deeds ++ ds) (Some d) y (read ++ moves.got) (written ++ sent) server done j) done.limits_are) told why
            (subst (λ (o : List ℕ). ClientEnded (channel_of_connection (connection_of y)) (asks_with b d) o told why)
            (sym (got_there e deeds x y read written h before after sent moves same ds b first then sent_is did took part taken_is octets_are)) ended)

        group_goes : (group : List Request) → (0 < length group) × (length group ≤ 64) → (f : ClientFault) → BreaksAt group b (connection_of y) then part f
            → IsRejected f → ⊥
        group_goes group size (fault.Peer code) k is =
            goes (Calls group) (size.0, size.1, k.0.0) ([], sym k.0.1 ∙ sym (append-nil then)) (b.told ++ k.1.0) (peers code.code) k.1.1
        group_goes group size (fault.Refused code) k is =
            goes (Calls group) (size.0, size.1, k.0.0) ([], sym k.0.1 ∙ sym (append-nil then)) (b.told ++ k.1.0) (ours code.code) k.1.1
        group_goes group size fault.Ended k is = is
        group_goes group size fault.Read k is = is
        group_goes group size fault.Write k is = is
        group_goes group size fault.TooLong k is = is
        group_goes group size fault.UnknownResponse k is = is
        group_goes group size fault.OutOfMemory k is = is
        group_goes group size fault.TooLarge k is = is
        group_goes group size fault.NotWritable k is = is
        group_goes group size fault.Exhausted k is = is
        group_goes group size fault.TooManyTokens k is = is
        group_goes group size (fault.Service code) k is = is
        group_goes group size fault.Closed k is = is

      pub not_rejected : (requests : List Request) (f : ClientFault)
          → BrokenAll requests h.done.did.last (connection_of y) sent moves.taken f → IsRejected f → ⊥
      not_rejected requests f k is =
          let sizes = sized_all (k.groups ++ k.group ∷ []) k.sized in
          group_goes (map Calls k.groups) k.behind k.sent_before k.sent_then k.sent_parts
          (rounds_did e.client (limits_then e deeds x y read written h before after sent moves same) k.rounds (sized_front k.groups (k.group ∷ []) sizes))
          k.taken_before k.taken_then k.taken_parts (rounds_took k.rounds) k.group (sized_last k.groups k.group sizes) f k.breaks is

      pub renewal_not_rejected : (moment : DateTime) → IsTrue (date_time.encodable moment) → (f : ClientFault)
          → refused_by {A = Unit {0}} (Err f) ≡ renewal_refusal h.done.did.last
          → RenewsAt {A = Unit {0}} h.done.did.last moment (channel_of_connection (connection_of y)) sent moves.taken (Err f) → IsRejected f → ⊥
      renewal_not_rejected moment dated (fault.Peer code) none k is =
          goes [] h.done.did.last [] sent refl (refl, refl) [] moves.taken refl (sym (append-nil h.done.did.last.octets)) (Renews moment) (dated, sym none)
          ([], sym k.0 ∙ sym (append-nil sent)) (h.done.did.last.told ++ k.1.heard) (peers code.code) k.1.ended
      renewal_not_rejected moment dated (fault.Refused code) none k is =
          goes [] h.done.did.last [] sent refl (refl, refl) [] moves.taken refl (sym (append-nil h.done.did.last.octets)) (Renews moment) (dated, sym none)
          ([], sym k.0 ∙ sym (append-nil sent)) (h.done.did.last.told ++ k.1.heard) (ours code.code) k.1.ended
      renewal_not_rejected moment dated fault.Ended none k is = is
      renewal_not_rejected moment dated fault.Read none k is = is
      renewal_not_rejected moment dated fault.Write none k is = is
      renewal_not_rejected moment dated fault.TooLong none k is = is
      renewal_not_rejected moment dated fault.UnknownResponse none k is = is
      renewal_not_rejected moment dated fault.OutOfMemory none k is = is
      renewal_not_rejected moment dated fault.TooLarge none k is = is
      renewal_not_rejected moment dated fault.NotWritable none k is = is
      renewal_not_rejected moment dated fault.Exhausted none k is = is
      renewal_not_rejected moment dated fault.TooManyTokens none k is = is
      renewal_not_rejected moment dated (fault.Service code) none k is = is
      renewal_not_rejected moment dated fault.Closed none k is = is

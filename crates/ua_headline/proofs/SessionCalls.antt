-- What a client of `ua_client` did that begins a session, by the contract of its call.
use Rattle.std.proofs.Common.{◌≡◌, ◌⊎◌, inl, inr, ℕ, List, [], ◌∷◌, ◌++◌, Option, Ok, Err}
use Rattle.std.proofs.Common.{length, map, refl, sym, ◌∙◌, ap, subst, arith, append_assoc, append-nil, length-append}
use Rattle.ua_builtin.specs.declared.date_time.DateTime.{DateTime}
use Rattle.ua_builtin.specs.declared.node_id.NodeId.{NodeId}
use Rattle.ua_services.specs.SessionRequests.{activate_session_as, create_session}
use Rattle.ua_services.specs.declared.request.Request.{Request}
use Rattle.ua_channel.specs.Client.{SameClient, client_limits, url_of}
use Rattle.ua_channel.specs.Line.{Traffic}
use Rattle.ua_channel.specs.declared.client.channel.ClientChannel.{ClientChannel}
use Rattle.ua_frame.specs.declared.limits.Limits.{Limits}
use Rattle.ua_client.specs.Calls.{BreaksAt}
use Rattle.ua_client.specs.Client.{connection_of}
use Rattle.ua_client.specs.ClientPlace.{ClientPlace, StandsAt, id_at}
use Rattle.ua_client.specs.Hearing.{MovesConnection, channel_of_connection}
use Rattle.ua_client.specs.Session.{ActivatesBehind, BeginsSessionAt, IsReplied, ServesAt, activating_at, brings_any, brings_token, creating_at}
use Rattle.ua_client.specs.declared.client.Client.{Client}
use Rattle.ua_client.specs.declared.fault.ClientFault.{ClientFault}
use Rattle.ua_client.specs.declared.fault.ClientFault.TheVariants as fault
use Rattle.ua_client.specs.declared.reply.Reply.{Reply}
use Rattle.ua_headline.specs.Calling.{FailsAfter, FailsService, HasDoneAll, activating_after, creating_after, with_creating}
use Rattle.ua_headline.specs.Clients.{Deed, Did, turn_of}
use Rattle.ua_headline.specs.Clients.Deed.{Calls}
use Rattle.ua_headline.specs.EachCall.{id_after, operations_of}
use Rattle.ua_headline.specs.Talk.{Ends}
use Rattle.ua_headline.proofs.Calling.{all_done, did_behind, did_one, group_fails, limits_then}
use Rattle.ua_headline.proofs.Replied.{id_behind, id_done, operations_behind}

-- a request that was called by itself is answered
pub replied_one : (limits : Limits) (c x : ClientChannel) (m : Request) (s t : ClientPlace) (sent taken : List ℕ) (reply : Reply) → SameClient x c
    → client_limits c ≡ limits → StandsAt x t → IsReplied x m s t sent taken reply → Did limits s (Calls (m ∷ []) ∷ []) t sent
replied_one limits c x m s t sent taken reply same own at r =
    did_one limits s t (Calls (m ∷ [])) sent (omega arith, omega arith, r.answered.judged)
    (record {
      x = x;
      limits_are = same.limits ∙ own;
      at = at;
      came = r.came;
      taken = taken;
      replies = reply ∷ [];
      answered = r.answered;
    })
    r.sent_is

module _ (e : Ends) (deeds : List Deed) (x y : Client) (read written : List ℕ) (h : HasDoneAll e deeds x read written) (before after : Option Traffic)
    (sent : List ℕ) (moves : MovesConnection (connection_of x) (connection_of y) sent before after)
    (same : SameClient (channel_of_connection (connection_of x)) (channel_of_connection (connection_of y))) where
  abbrev z : ClientChannel
  z = channel_of_connection (connection_of y)

  abbrev m : ClientPlace
  m = h.done.did.last

  abbrev own : client_limits (channel_of_connection (connection_of y)) ≡ e.client
  own = limits_then e deeds x y read written h before after sent moves same

  module _ (ds : List Deed) (b : ClientPlace) (first then : List ℕ) (sent_is : sent ≡ first ++ then) (did : Did e.client h.done.did.last ds b first)
      (took part : List ℕ) (taken_is : moves.taken ≡ took ++ part) (octets_are : b.octets ≡ h.done.did.last.octets ++ took) where
    -- the request behind these operations is answered
    one_more : (r : Request) (t : ClientPlace) (reply : Reply) → StandsAt (channel_of_connection (connection_of y)) t
        → IsReplied (channel_of_connection (connection_of y)) r b t then part reply
        → HasDoneAll e ((deeds ++ ds) ++ Calls (r ∷ []) ∷ []) y (read ++ moves.got) (written ++ sent)
    one_more r t reply at replied =
        subst (λ (all : List Deed). HasDoneAll e all y (read ++ moves.got) (written ++ sent)) (sym (append_assoc deeds ds (Calls (r ∷ []) ∷ [])))
        (all_done e deeds x y read written h before after sent moves same (ds ++ Calls (r ∷ []) ∷ []) t
        (subst (λ (o : List ℕ). Did e.client m (ds ++ Calls (r ∷ []) ∷ []) t o) (sym sent_is)
        (did_behind e.client m b t ds (Calls (r ∷ []) ∷ []) first then did
        (replied_one e.client z z r b t then part reply (record { limits = refl; url = refl }) own at replied))) at
        (replied.answered.octets
        ∙ (ap (λ (o : List ℕ). o ++ part) octets_are ∙ (append_assoc m.octets took part ∙ ap (λ (o : List ℕ). m.octets ++ o) (sym taken_is)))))

    breaks : (r : Request) (f : ClientFault) → BreaksAt (r ∷ []) b (connection_of y) then part f
        → FailsAfter e (deeds ++ ds) (Calls (r ∷ [])) f y (read ++ moves.got) (written ++ sent)
    breaks r f k =
        group_fails e deeds x y read written h before after sent moves same ds b first then sent_is did took part taken_is octets_are (r ∷ [])
        (omega arith, omega arith) f k

    service_fails : {A : Type 0} (r : Request) (brings : A → Reply → Type 0) (f : ClientFault) → ServesAt r brings b (connection_of y) then part (Err f)
        → FailsService e (deeds ++ ds) (Calls (r ∷ [])) f y (read ++ moves.got) (written ++ sent)
    service_fails r brings (fault.Service code) k = one_more r k.behind k.reply k.at k.replied
    service_fails r brings (fault.Peer code) k = breaks r (fault.Peer code) k
    service_fails r brings (fault.Refused code) k = breaks r (fault.Refused code) k
    service_fails r brings fault.Ended k = breaks r fault.Ended k
    service_fails r brings fault.Read k = breaks r fault.Read k
    service_fails r brings fault.Write k = breaks r fault.Write k
    service_fails r brings fault.TooLong k = breaks r fault.TooLong k
    service_fails r brings fault.UnknownResponse k = breaks r fault.UnknownResponse k
    service_fails r brings fault.OutOfMemory k = breaks r fault.OutOfMemory k
    service_fails r brings fault.TooLarge k = breaks r fault.TooLarge k
    service_fails r brings fault.NotWritable k = breaks r fault.NotWritable k
    service_fails r brings fault.Exhausted k = breaks r fault.Exhausted k
    service_fails r brings fault.TooManyTokens k = breaks r fault.TooManyTokens k
    service_fails r brings fault.Closed k = breaks r fault.Closed k

  -- ---- a session

  module _ (policy_id : Option (List ℕ)) (moment : DateTime) where
    abbrev creating : Request
    creating = creating_at (url_of (channel_of_connection (connection_of x))) moment m

    creating_is : Calls (creating_at (url_of (channel_of_connection (connection_of x))) moment m ∷ []) ≡ creating_after e deeds moment
    creating_is =
        ap (λ (u : Option (List ℕ)). Calls (create_session u moment (id_at m) ∷ [])) h.done.url_is
        ∙ ap (λ (id : ℕ). Calls (create_session e.url moment id ∷ [])) (id_done e deeds x read written h)

    -- it was answered
    module _ (c : ClientChannel) (of_client : SameClient c (channel_of_connection (connection_of y))) (t : ClientPlace) (at : StandsAt c t)
        (first took : List ℕ) (reply : Reply)
        (r : IsReplied c (creating_at (url_of (channel_of_connection (connection_of x))) moment m) m t first took reply) where
      created : Did e.client m (Calls (creating_at (url_of (channel_of_connection (connection_of x))) moment m ∷ []) ∷ []) t first
      created = replied_one e.client z c creating m t first took reply of_client own at r

      activating_is : (token : NodeId)
          → Calls (activating_at policy_id token moment t ∷ []) ≡ activating_after (with_creating e deeds moment) policy_id token moment
      activating_is token =
          let ids : id_at t ≡ id_after (operations_of (map turn_of (with_creating e deeds moment))) =
          omega (
            arith,
            id_behind e.client m (Calls (creating ∷ []) ∷ []) t first created,
            id_done e deeds x read written h,
            ap length (operations_behind deeds (creating_after e deeds moment ∷ [])),
            length-append (operations_of (map turn_of deeds)) (operations_of (map turn_of (creating_after e deeds moment ∷ []))),
          ) in
          ap (λ (id : ℕ). Calls (activate_session_as policy_id token moment id ∷ [])) ids

    pub session_done : (token : NodeId)
        → ActivatesBehind (url_of (channel_of_connection (connection_of x))) policy_id moment m (connection_of y) sent moves.taken
        (λ (given : NodeId). given ≡ token) (Ok tt)
        → HasDoneAll e (with_creating e deeds moment ++ activating_after (with_creating e deeds moment) policy_id token moment ∷ []) y (read ++ moves.got)
        (written ++ sent)
    session_done token w =
        let r = w.further.1 in
        let two = one_more (Calls (creating ∷ []) ∷ []) w.between w.sent_before w.sent_then w.sent_parts
        (created w.channel w.same w.between w.at w.sent_before w.taken_before w.reply w.created) w.taken_before w.taken_then w.taken_parts
        w.created.answered.octets (activating_at policy_id w.token moment w.between) r.behind r.reply r.at r.replied in
        subst (λ (d : Deed). HasDoneAll e (with_creating e deeds moment ++ d ∷ []) y (read ++ moves.got) (written ++ sent))
        (activating_is w.channel w.same w.between w.at w.sent_before w.taken_before w.reply w.created w.token
        ∙ ap (λ (given : NodeId). activating_after (with_creating e deeds moment) policy_id given moment) w.further.0)
        (subst (λ (d : Deed). HasDoneAll e ((deeds ++ d ∷ []) ++ Calls (activating_at policy_id w.token moment w.between ∷ []) ∷ []) y (read ++ moves.got)
        (written ++ sent)) creating_is two)

    pub session_fails : (f : ClientFault)
        → BeginsSessionAt (url_of (channel_of_connection (connection_of x))) policy_id moment m (connection_of y) sent moves.taken (Err f)
        → FailsService e deeds (creating_after e deeds moment) f y (read ++ moves.got) (written ++ sent)
        ⊎ ((token : NodeId) × FailsService e (with_creating e deeds moment) (activating_after (with_creating e deeds moment) policy_id token moment) f y
        (read ++ moves.got) (written ++ sent))
    session_fails f (inl k) =
        inl (subst (λ (d : Deed). FailsService e deeds d f y (read ++ moves.got) (written ++ sent)) creating_is
        (subst (λ (ds : List Deed). FailsService e ds (Calls (creating ∷ [])) f y (read ++ moves.got) (written ++ sent)) (append-nil deeds)
        (service_fails [] m [] sent refl (refl, refl) [] moves.taken refl (sym (append-nil m.octets)) creating brings_token f k)))
    session_fails f (inr w) =
        inr (
          w.token,
          subst (λ (d : Deed). FailsService e (with_creating e deeds moment) d f y (read ++ moves.got) (written ++ sent))
              (activating_is w.channel w.same w.between w.at w.sent_before w.taken_before w.reply w.created w.token)
              (subst (λ (d : Deed).
              FailsService e (deeds ++ d ∷ []) (Calls (activating_at policy_id w.token moment w.between ∷ [])) f y (read ++ moves.got) (written ++ sent))
              creating_is
              (service_fails (Calls (creating ∷ []) ∷ []) w.between w.sent_before w.sent_then w.sent_parts
              (created w.channel w.same w.between w.at w.sent_before w.taken_before w.reply w.created) w.taken_before w.taken_then w.taken_parts
              w.created.answered.octets (activating_at policy_id w.token moment w.between) brings_any f w.further.1)),
        )

-- That both ends in one process stay in step by a renewal.
use Rattle.std.proofs.Common.{◌≡◌, ℕ, ◌+◌, ◌<◌, ◌≤◌, ◌^◌, IsTrue, Bool, false, ◌||◌, eqb, List, [], ◌∷◌, ◌++◌, Option}
use Rattle.std.proofs.Common.{None, length, refl, sym, ◌∙◌, ap, subst, arith, append-nil, append_assoc, length-append}
use Rattle.std.specs.List.{AllByRecursion}
use Rattle.std.proofs.lemmas.Bool.{ne_eqb}
use Rattle.std.proofs.lemmas.List.{append_cancel_left, nil_from_length}
use Rattle.ua_wire.specs.Format.{Extends}
use Rattle.ua_builtin.specs.DateTime.{date_time}
use Rattle.ua_builtin.specs.declared.date_time.DateTime.{DateTime}
use Rattle.ua_frame.specs.Frames.{IsSized, frame_octets}
use Rattle.ua_frame.specs.Run.{Rules}
use Rattle.ua_frame.specs.declared.frame.Frame.{Frame}
use Rattle.ua_frame.specs.declared.limits.Limits.{Limits}
use Rattle.ua_chunk.specs.Sequence.{next_number}
use Rattle.ua_opening.specs.Message.{message}
use Rattle.ua_opening.proofs.Lengths.{open_response_length}
use Rattle.ua_opening.specs.Plain.{open_response_of}
use Rattle.ua_opening.specs.SecureChannel.{open_response}
use Rattle.ua_channel.specs.Asks.{Placed, asked_in, is_in, next_id, pending_renewals, renewals}
use Rattle.ua_channel.specs.Asks.Asking.{Renewal}
use Rattle.ua_channel.specs.Client.{client_limits, client_rules_of}
use Rattle.ua_channel_laws.specs.ClientReads.{AtClient, ClientReads, IsAnswered, with_answer, with_renewal}
use Rattle.ua_channel.specs.ClientTable.{client_rules}
use Rattle.ua_channel.specs.ClientTokens.{opened_ids}
use Rattle.ua_channel.specs.ClientTold.{ClientTold as Heard, ClientTold as heard, Why}
use Rattle.ua_channel_laws.specs.InStep.{AreInStep}
use Rattle.ua_channel.specs.Received.{received}
use Rattle.ua_channel_laws.specs.ServerReads.{AtServer, ServerReads, with_token}
use Rattle.ua_channel.specs.ServerSends.{opened_frame}
use Rattle.ua_channel.specs.ServerTold.{Told, Opened}
use Rattle.ua_channel.specs.declared.client.channel.ClientChannel.{ClientChannel}
use Rattle.ua_channel.proofs.Askings.{asked_in-push, all-push, all-weaken}
use Rattle.ua_channel_laws.proofs.ClientReadsMessages.{reads_renewal, reads_renewed}
use Rattle.ua_channel_laws.proofs.Following.{client_told}
use Rattle.ua_channel_laws.proofs.InStep.{in_step_answer, in_step_renewal}
use Rattle.ua_channel.proofs.OpeningFrames.{opening_size}
use Rattle.ua_server.specs.Said.{Course, state_after, course_after, said_of, used_in}
use Rattle.ua_server.proofs.SaidInParts.{course}
use Rattle.ua_client.specs.Renewing.{IsRenewed, IsSettled, asks_renewed, is_renewed, renewal_at, renewal_refusal}
use Rattle.ua_client.specs.ClientPlace.{ClientPlace, id_at}
use Rattle.ua_client.proofs.Renewals.{tokens-answer, tokens-told}
use Rattle.ua_loopback.specs.Beginning.{Beginning}
use Rattle.ua_loopback.specs.Says.{server_output, answer_times}
use Rattle.ua_loopback.specs.Together.{AreServing, renewal_answer}
use Rattle.ua_loopback.proofs.Reaching.{not_exhausted, renewal_read}
use Rattle.ua_loopback.proofs.RenewedTaken.{TellsLast, just_answer}
use Rattle.ua_loopback.proofs.Replying.{none_left}
use Rattle.ua_loopback.proofs.Saying.{later_times, left_on}
use Rattle.ua_loopback.proofs.Staying.{behind_told, said_more}

-- ---- lists

neither : (a b : Bool) → a ≡ false → b ≡ false → (a || b) ≡ false
neither a b p q = cc

-- a token past all of these is none of them
pub none_past : (most : ℕ) (tokens : List ℕ) → AllByRecursion (λ (token : ℕ). token ≤ most) tokens → is_in (most + 1) tokens ≡ false
none_past most [] h = refl
none_past most (token ∷ tokens) h = neither (eqb token (most + 1)) (is_in (most + 1) tokens) (ne_eqb token (most + 1) (λ e. omega (arith, e, h.0)))
    (none_past most tokens h.1)

-- ---- what a server says of it

module _ (b : Beginning) (url : Option (List ℕ)) (octets : List ℕ) (told : List Told) (s : AtServer) (x : ClientChannel) (site : ClientPlace) (c : AtClient)
    (moment : DateTime)
    (on : b.channel < 2 ^ 32) (t : AreServing b url octets told s x site c) (judged : renewal_refusal site ≡ None)
    (dated : IsTrue (date_time.encodable moment)) where
  abbrev id : ℕ
  id = id_at site

  abbrev token : ℕ
  token = s.issued + 1

  abbrev opens : List Told
  opens = Opened id 0 token 3600000 ∷ []

  abbrev before : Course
  before = state_after b.channel b.first told (answer_times told b.moments)

  -- a token is left
  few : s.issued < 4294967295
  few = let used = not_exhausted site judged in omega (arith, used, t.spare)

  pub server_renewed : ServerReads b.limits b.channel (octets ++ renewal_at site moment) (told ++ opens) (with_token s)
  server_renewed = renewal_read b.limits url b.channel octets told s x site c on t.together moment judged few dated

  course_is : behind_told b octets told s t.together.server_reads opens ≡ course before.state c.next (b.moments (used_in told) ∷ []) before.agreement
  course_is =
      ap (λ (ms : List DateTime). course before.state before.number (ms ++ later_times told opens b.moments) before.agreement)
      (none_left b.channel b.first told b.moments)
      ∙ ap (λ (n : ℕ). course before.state n (b.moments (used_in told) ∷ []) before.agreement) t.says_next

  -- its OPN response, with the next token
  pub renewal_said : server_output b (octets ++ renewal_at site moment) ≡ server_output b octets ++ renewal_answer b (b.moments (used_in told)) c.next id token
  renewal_said =
      said_more b octets told s t.together.server_reads (octets ++ renewal_at site moment) opens (with_token s) server_renewed
      ∙ (ap (λ (k : Course). server_output b octets ++ said_of b.channel k opens) course_is
      ∙ ap (λ (o : List ℕ). server_output b octets ++ o) (append-nil (renewal_answer b (b.moments (used_in told)) c.next id token)))

  left_renewed : state_after b.channel b.first (told ++ opens) (answer_times (told ++ opens) b.moments)
      ≡ course_after b.channel (course before.state c.next (b.moments (used_in told) ∷ []) before.agreement) opens
  left_renewed = left_on b told opens ∙ ap (λ (k : Course). course_after b.channel k opens) course_is

  -- ---- what the client reads of that

  module _ (settled : IsSettled site) (answered : (n : ℕ) → IsTrue (date_time.encodable (b.moments n))) where
    abbrev waiting : AtClient
    waiting = with_renewal c id

    abbrev now : AtClient
    now = with_answer waiting token (next_number c.next)

    abbrev answer : Frame
    answer = opened_frame c.channel c.next id 0 token 3600000 (b.moments (used_in told))

    -- no renewal was unanswered
    none_waits : c.renewals ≡ []
    none_waits =
        let r = t.together.client_reads in
        let all = tokens-answer (client_limits x) site.asks r.frames r.run.good in
        let few_asked : length (renewals (asked_in site.asks)) ≤ tokens-told site.told = settled.renewed in
        sym r.renewals_are ∙ nil_from_length (pending_renewals (opened_ids (received r.frames).openings) (asked_in site.asks))
        (omega (arith, all, few_asked, ap tokens-told r.told_is))

    asked : ClientReads (client_limits x) (asks_renewed site) site.octets site.told waiting
    asked = reads_renewal (client_limits x) site.asks site.octets site.told c t.together.client_reads

    can_be_read : IsAnswered c.channel c.next id 0 token 3600000 (b.moments (used_in told))
    can_be_read = record {
      channel_small = omega (arith, t.together.in_step.channel_is, on);
      number_small = t.together.client_reads.next_small;
      id_small = let used = not_exhausted site judged in omega (arith, used);
      handle_small = omega arith;
      token_small = omega (arith, few);
      lifetime_small = omega arith;
      moment_fits = answered (used_in told);
    }

    reads_it : ClientReads (client_limits x) (asks_renewed site) (site.octets ++ frame_octets answer) (site.told ++ heard.Renewed token ∷ []) now
    reads_it =
        reads_renewed (client_limits x) (asks_renewed site) site.octets site.told waiting id 0 token 3600000 (b.moments (used_in told)) asked can_be_read
        (ap (λ (ids : List ℕ). ids ++ id ∷ []) none_waits) (none_past s.issued c.tokens t.issued)

    answer_is : site.octets ++ frame_octets answer ≡ server_output b (octets ++ renewal_at site moment)
    answer_is =
        ap (λ (k : ℕ). site.octets ++ frame_octets (opened_frame k c.next id 0 token 3600000 (b.moments (used_in told)))) t.together.in_step.channel_is
        ∙ (ap (λ (o : List ℕ). o ++ renewal_answer b (b.moments (used_in told)) c.next id token) t.taken ∙ sym renewal_said)

    -- the client reads it
    pub renewal_heard : ClientReads (client_limits x) (asks_renewed site) (server_output b (octets ++ renewal_at site moment))
        (site.told ++ heard.Renewed token ∷ []) now
    renewal_heard = subst (λ (o : List ℕ). ClientReads (client_limits x) (asks_renewed site) o (site.told ++ heard.Renewed token ∷ []) now) answer_is reads_it

    in_step_now : AreInStep b.limits (client_limits x) url b.channel (with_token s) now
    in_step_now =
        in_step_answer b.limits (client_limits x) url b.channel (with_token s) waiting
        (in_step_renewal b.limits (client_limits x) url b.channel s c t.together.in_step id) (next_number c.next)

    tokens_now : AllByRecursion (λ (k : ℕ). k ≤ token) now.tokens
    tokens_now =
        all-push (λ (k : ℕ). k ≤ token) c.tokens token
        (all-weaken (λ (k : ℕ). k ≤ s.issued) (λ (k : ℕ). k ≤ token) c.tokens (λ k le. omega (arith, le)) t.issued) (omega arith)

    module _ (y : ClientChannel) (behind : ClientPlace) (taken : List ℕ) (r : IsRenewed y site behind taken) (same : client_limits y ≡ client_limits x) where
      -- ---- what it took

      sized : IsSized answer
      sized = omega (
        arith,
        opening_size c.channel c.next id ((message 449 open_response).canonical (open_response_of (b.moments (used_in told)) 0 c.channel token 3600000)),
        open_response_length (b.moments (used_in told)) 0 c.channel token 3600000,
      )

      abbrev rules : Rules Heard Why
      rules = client_rules (client_limits x) (asks_renewed site)

      tells : TellsLast rules (site.octets ++ taken) (site.told ++ r.heard) (heard.Renewed r.token)
      tells =
          subst (λ (l : Limits). TellsLast (client_rules l (asks_renewed site)) (site.octets ++ taken) (site.told ++ r.heard) (heard.Renewed r.token)) same
          (subst (λ (asks : List Placed). TellsLast (client_rules_of y asks) (site.octets ++ taken) (site.told ++ r.heard) (heard.Renewed r.token)) r.asks
          (subst (λ (o : List ℕ). TellsLast (client_rules_of y behind.asks) o (site.told ++ r.heard) (heard.Renewed r.token)) r.octets
          (record { frames = r.tells.frames; frame = r.tells.frame; run = r.tells.stands.run; told_is = r.tells.told_is; tells = r.tells.tells })))

      same_begin : (down : List ℕ) → Extends behind.octets down → (said : Extends (server_output b (octets ++ renewal_at site moment)) down)
          → (a : List ℕ) × (taken ++ a ≡ frame_octets answer ++ said.more)
      same_begin down got said = (
        got.more,
        append_cancel_left site.octets (taken ++ got.more) (frame_octets answer ++ said.more)
            (sym (append_assoc site.octets taken got.more)
            ∙ (ap (λ (o : List ℕ). o ++ got.more) (sym r.octets)
            ∙ (sym got.parts
            ∙ (said.parts ∙ (ap (λ (o : List ℕ). o ++ said.more) (sym answer_is) ∙ append_assoc site.octets (frame_octets answer) said.more))))),
      )

      -- where octets begin with what it took, and with what the server says, it took just that
      pub renewal_taken : (down : List ℕ) → Extends behind.octets down → Extends (server_output b (octets ++ renewal_at site moment)) down
          → behind.octets ≡ server_output b (octets ++ renewal_at site moment)
      renewal_taken down got said =
          let parts = same_begin down got said in
          r.octets
          ∙ (ap (λ (o : List ℕ). site.octets ++ o)
          (just_answer rules site.octets asked.frames site.told answer (heard.Renewed token) asked.run asked.told_is sized reads_it.frames reads_it.run
          reads_it.told_is is_renewed refl taken r.heard (heard.Renewed r.token) tells r.none_before parts.0 said.more parts.1)
          ∙ answer_is)

      -- ---- where both are then

      module _ (took : behind.octets ≡ server_output b (octets ++ renewal_at site moment)) where
        here : ClientReads (client_limits y) behind.asks behind.octets (site.told ++ heard.Renewed token ∷ []) now
        here =
            subst (λ (l : Limits). ClientReads l behind.asks behind.octets (site.told ++ heard.Renewed token ∷ []) now) (sym same)
            (subst (λ (asks : List Placed). ClientReads (client_limits x) asks behind.octets (site.told ++ heard.Renewed token ∷ []) now) (sym r.asks)
            (subst (λ (o : List ℕ). ClientReads (client_limits x) (asks_renewed site) o (site.told ++ heard.Renewed token ∷ []) now)
            (answer_is ∙ sym took) reads_it))

        spare_now : token < id_at behind
        spare_now =
            let ids : id_at behind ≡ id_at site + 1 = ap (λ (p : List Placed). next_id (asked_in p)) r.asks ∙ one_more in
            omega (arith, ids, t.spare)
          where
            one_more : next_id (asked_in (asks_renewed site)) ≡ id_at site + 1
            one_more = omega (arith, ap length (asked_in-push site.asks (length site.octets, Renewal id)), length-append (asked_in site.asks) (Renewal id ∷ []))

        -- both are in step behind a renewal that is answered
        pub renewed_together : AreServing b url (octets ++ renewal_at site moment) (told ++ opens) (with_token s) y behind now
        renewed_together = record {
          together = record {
            server_reads = server_renewed;
            stands = r.at;
            client_reads = subst (λ (h : List Heard). ClientReads (client_limits y) behind.asks behind.octets h now)
                (sym (client_told y behind.asks behind.octets behind.told (site.told ++ heard.Renewed token ∷ []) now r.at.goes here)) here;
            in_step = subst (λ (l : Limits). AreInStep b.limits l url b.channel (with_token s) now) (sym same) in_step_now;
            number_is = r.number ∙ ap next_number t.together.number_is;
          };
          taken = took;
          agreed = ap (λ (k : Course). k.agreement) left_renewed ∙ t.agreed;
          says_next = ap (λ (k : Course). k.number) left_renewed;
          issued = tokens_now;
          spare = spare_now;
        }

-- That both ends are together behind the opening.
use Rattle.std.proofs.Common.{◌≡◌, ℕ, ◌<◌, ◌≤◌, ◌^◌, IsTrue, List, [], ◌∷◌, ◌++◌, Option, Some, refl, sym, ◌∙◌, ap, subst, arith, append-nil}
use Rattle.ua_builtin.specs.DateTime.{date_time}
use Rattle.ua_builtin.specs.declared.date_time.DateTime.{DateTime}
use Rattle.ua_frame.specs.Agreement.{ack_to, url_length}
use Rattle.ua_frame.specs.Frames.{frame_octets}
use Rattle.ua_frame.specs.Messages.{ack, ack_frame, hello}
use Rattle.ua_frame.specs.Run.{Going}
use Rattle.ua_frame.specs.declared.limits.Limits.{Limits}
use Rattle.ua_chunk.specs.Sequence.{next_number}
use Rattle.ua_channel.specs.Agreement.{Agreement, agreement_of}
use Rattle.ua_channel.specs.Asks.{Placed}
use Rattle.ua_channel.specs.Client.{client_limits, client_next}
use Rattle.ua_channel_laws.specs.ClientReads.{ClientReads, opened_at}
use Rattle.ua_channel.specs.ClientSends.{hello_to}
use Rattle.ua_channel.specs.ClientTold.{ClientTold as Heard, ClientTold as heard}
use Rattle.ua_channel_laws.specs.ServerReads.{greeted_at, with_token}
use Rattle.ua_channel.specs.ServerSends.{opened_frame}
use Rattle.ua_channel.specs.ServerTold.{Told, Agreed, Opened}
use Rattle.ua_channel.specs.declared.client.channel.ClientChannel.{ClientChannel}
use Rattle.ua_channel_laws.proofs.ClientReadsMessages.{reads_ack, reads_opened}
use Rattle.ua_channel_laws.proofs.Following.{client_told}
use Rattle.ua_channel_laws.proofs.InStep.{in_step_opened}
use Rattle.ua_server.specs.Said.{state_after, output_of}
use Rattle.ua_client.specs.ClientPlace.{ClientPlace, StandsAt}
use Rattle.ua_loopback.specs.Beginning.{Beginning}
use Rattle.ua_loopback.specs.Course.{opening_octets}
use Rattle.ua_loopback.specs.Says.{server_output, answer_times, state_told}
use Rattle.ua_loopback.specs.Together.{AreServing, opening_answer}
use Rattle.ua_loopback.proofs.Reaching.{opening_read}
use Rattle.ua_loopback.proofs.Saying.{said_by_run}

-- what a server says of an agreement and the first token
said_first_two : (b : Beginning) (g : Agreement) → output_of b.channel b.first (Agreed g ∷ (Opened 1 0 1 3600000 ∷ [])) Going
    (answer_times (Agreed g ∷ (Opened 1 0 1 3600000 ∷ [])) b.moments)
    ≡ frame_octets (ack_frame g.ack) ++ frame_octets (opened_frame b.channel 1 1 0 1 3600000 (b.moments 0))
unfolding output_of
said_first_two b g =
    let acked = frame_octets (ack_frame g.ack) in
    let opened = frame_octets (opened_frame b.channel 1 1 0 1 3600000 (b.moments 0)) in
    append-nil (acked ++ (opened ++ [])) ∙ ap (λ (o : List ℕ). acked ++ o) (append-nil opened)

module _ (b : Beginning) (client : Limits) (url : Option (List ℕ)) (moment : DateTime) (fits : IsTrue (hello.encodable (hello_to client url)))
    (short : url_length url ≤ 4095) (dated : IsTrue (date_time.encodable moment)) where
  abbrev told : List Told
  told = Agreed (agreement_of b.limits (hello_to client url)) ∷ (Opened 1 0 1 3600000 ∷ [])

  pub opening_said : server_output b (opening_octets client url moment) ≡ opening_answer b client url
  opening_said =
      let r = opening_read b.limits b.channel client url moment fits short dated in
      said_by_run b (opening_octets client url moment) r.frames [] Going r.run
      ∙ (ap (λ (t : List Told). output_of b.channel b.first t Going (answer_times t b.moments)) r.told_is
      ∙ said_first_two b (agreement_of b.limits (hello_to client url)))

-- what is left behind them
left_first_two : (b : Beginning) (g : Agreement)
    → ((state_after b.channel b.first (Agreed g ∷ (Opened 1 0 1 3600000 ∷ [])) (answer_times (Agreed g ∷ (Opened 1 0 1 3600000 ∷ [])) b.moments)).agreement
    ≡ Some g)
    × ((state_after b.channel b.first (Agreed g ∷ (Opened 1 0 1 3600000 ∷ [])) (answer_times (Agreed g ∷ (Opened 1 0 1 3600000 ∷ [])) b.moments)).number
    ≡ next_number 1)
unfolding state_after
left_first_two b g = (refl, refl)

-- they leave the services as they were
pub state_first_two : (b : Beginning) (g : Agreement) → state_told b (Agreed g ∷ (Opened 1 0 1 3600000 ∷ [])) ≡ b.first
unfolding state_after
state_first_two b g = refl

-- a client reads that
pub answer_read : (b : Beginning) (client : Limits) (url : Option (List ℕ)) → IsTrue (ack.encodable (ack_to (hello_to client url) b.limits))
    → b.channel < 2 ^ 32 → IsTrue (date_time.encodable (b.moments 0))
    → ClientReads client [] (opening_answer b client url) (heard.Agreed (ack_to (hello_to client url) b.limits) ∷ (heard.Opened b.channel 1 ∷ []))
    (opened_at (ack_to (hello_to client url) b.limits) b.channel 1 (next_number 1))
answer_read b client url fits on dated =
    reads_opened client (frame_octets (ack_frame (ack_to (hello_to client url) b.limits))) (heard.Agreed (ack_to (hello_to client url) b.limits) ∷ [])
    (ack_to (hello_to client url) b.limits) b.channel 1 0 1 3600000 (b.moments 0)
    (reads_ack client b.limits url fits)
    (record {
      channel_small = on;
      number_small = omega arith;
      id_small = omega arith;
      handle_small = omega arith;
      token_small = omega arith;
      lifetime_small = omega arith;
      moment_fits = dated;
    })

-- both are together
pub begin_together : (b : Beginning) (url : Option (List ℕ)) (moment : DateTime) (x : ClientChannel) (site : ClientPlace)
    → IsTrue (hello.encodable (hello_to (client_limits x) url)) → url_length url ≤ 4095 → IsTrue (date_time.encodable moment)
    → IsTrue (ack.encodable (ack_to (hello_to (client_limits x) url) b.limits)) → b.channel < 2 ^ 32 → ((n : ℕ) → IsTrue (date_time.encodable (b.moments n)))
    → StandsAt x site → site.asks ≡ [] → site.octets ≡ server_output b (opening_octets (client_limits x) url moment) → client_next x ≡ 2
    → AreServing b url (opening_octets (client_limits x) url moment)
    (Agreed (agreement_of b.limits (hello_to (client_limits x) url)) ∷ (Opened 1 0 1 3600000 ∷ []))
    (with_token (greeted_at (hello_to (client_limits x) url))) x site
    (opened_at (ack_to (hello_to (client_limits x) url) b.limits) b.channel 1 (next_number 1))
begin_together b url moment x site fits short dated acked on answered at none octets_are next_is =
    let all : List Heard = heard.Agreed (ack_to (hello_to (client_limits x) url) b.limits) ∷ (heard.Opened b.channel 1 ∷ []) in
    let c = opened_at (ack_to (hello_to (client_limits x) url) b.limits) b.channel 1 (next_number 1) in
    let here : ClientReads (client_limits x) site.asks site.octets all c =
    subst (λ (asks : List Placed). ClientReads (client_limits x) asks site.octets all c) (sym none)
    (subst (λ (o : List ℕ). ClientReads (client_limits x) [] o all c) (sym (octets_are ∙ opening_said b (client_limits x) url moment fits short dated))
    (answer_read b (client_limits x) url acked on (answered 0))) in
    record {
      together = record {
        server_reads = opening_read b.limits b.channel (client_limits x) url moment fits short dated;
        stands = at;
        client_reads = subst (λ (t : List Heard). ClientReads (client_limits x) site.asks site.octets t c)
            (sym (client_told x site.asks site.octets site.told all c at.goes here)) here;
        in_step = in_step_opened b.limits (client_limits x) url b.channel (next_number 1);
        number_is = sym at.number_is ∙ next_is;
      };
      taken = octets_are;
      agreed = (left_first_two b (agreement_of b.limits (hello_to (client_limits x) url))).0;
      says_next = (left_first_two b (agreement_of b.limits (hello_to (client_limits x) url))).1;
      issued = (omega arith, tt);
      spare = omega arith;
    }

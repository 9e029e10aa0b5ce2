-- That each reply of a client is the response of the services itself.
use Rattle.std.proofs.Common.{◌≡◌, ℕ, ◌+◌, Bool, true, false, not, IsTrue, List, [], ◌∷◌, ◌++◌, Option, Some, None, Ok, Err, Result}
use Rattle.std.proofs.Common.{map, refl, sym, ◌∙◌, ap, subst}
use Rattle.std.specs.Prelude.{◌↔◌}
use Rattle.std.specs.List.{AllByRecursion}
use Rattle.ua_builtin.specs.DateTime.{date_time}
use Rattle.ua_builtin.specs.Reasons.{first_reason, renamed_reason}
use Rattle.ua_builtin.specs.Status.{of_code}
use Rattle.ua_builtin.specs.declared.date_time.DateTime.{DateTime}
use Rattle.ua_builtin.specs.declared.status_code.StatusCode.{StatusCode}
use Rattle.ua_builtin.proofs.FirstReasons.{first_reason-append}
use Rattle.ua_frame.specs.declared.ack.Ack.{Ack}
use Rattle.ua_chunk.specs.Cutting.{cut_refusal}
use Rattle.ua_chunk.specs.declared.fault.CutFault.{CutFault}
use Rattle.ua_chunk.specs.declared.lane.Lane.{Lane}
use Rattle.ua_opening.specs.Message.{IsBody}
use Rattle.ua_opening.proofs.BodyLaws.{body_reads_back}
use Rattle.ua_channel.specs.ClientAsks.{is_too_large, reasons_of_body}
use Rattle.ua_channel.specs.ClientTable.{of_ack}
use Rattle.ua_channel.specs.ClientTold.{ClientTold}
use Rattle.ua_channel.specs.ClientTold.ClientTold.{Answered, GaveUp}
use Rattle.ua_channel.specs.declared.client.channel.ClientChannel.{ClientChannel}
use Rattle.ua_channel.proofs.Askings.{all_append}
use Rattle.ua_channel_laws.specs.ClientReads.{told_reply}
use Rattle.ua_channel_laws.specs.Outgoing.Outgoing.{CallWith, RenewalAt}
use Rattle.ua_channel_laws.specs.Outgoing.{Outgoing}
use Rattle.ua_channel_laws.proofs.Groups.{none_parts, or_none}
use Rattle.ua_services.specs.Request.{kind_of_request, request, request_read}
use Rattle.ua_services.specs.Response.{response}
use Rattle.ua_services.specs.declared.fault.RequestFault.{RequestFault}
use Rattle.ua_services.specs.declared.request.Request.{Request}
use Rattle.ua_services.specs.declared.request.RequestKind.{RequestKind}
use Rattle.ua_services.specs.declared.response.Response.{Response}
use Rattle.ua_services.proofs.ResponseLawful.{lawful_response}
use Rattle.ua_services.proofs.ResponseRead.{response_read-found}
use Rattle.ua_server.specs.Answer.{answer}
use Rattle.ua_server.specs.Reply.{answered, answered_by}
use Rattle.ua_server.specs.Said.{behind_first, first_time}
use Rattle.ua_server.specs.Sound.{IsSoundState}
use Rattle.ua_server.specs.State.{State}
use Rattle.ua_server.proofs.SoundServices.{answer_fits, answer_kind_is, answer_sound}
use Rattle.ua_client.specs.Calls.{Rounds, all_of}
use Rattle.ua_client.specs.Calls.Rounds.{NoRound, OneRound}
use Rattle.ua_client.specs.ClientPlace.{ClientPlace, id_at}
use Rattle.ua_client.specs.Replies.{IsReplyBy, front_of}
use Rattle.ua_client.specs.Sent.{by_channel, group_reasons, request_reasons}
use Rattle.ua_client.specs.declared.fault.ClientFault.TheVariants as fault
use Rattle.ua_client.specs.declared.reply.Reply.{Reply}
use Rattle.ua_client.specs.declared.reply.Reply.TheVariants.{Response as Responds, Aborted}
use Rattle.ua_client.proofs.Grouping.{concat-push}
use Rattle.ua_loopback.specs.Replies.{reply_read, reply_unless, requests_replies, state_behind_requests, turn_state, turns_state}
use Rattle.ua_loopback.specs.Turns.{id_behind_turn}
use Rattle.ua_headline.specs.AsAnswered.{answered_after, lane_to_client, replies_after, replies_of_services, reply_over, reply_unless_cut}
use Rattle.ua_headline.specs.Calling.{AreServersReplies}
use Rattle.ua_headline.specs.EachCall.{id_after, reply_to_call, services_before}
use Rattle.ua_headline.specs.Talk.{CanOpen, Ends, left_by}
use Rattle.ua_headline.proofs.Answered.{AreDated, dated_behind, dated_first, dated_left}
use Rattle.ua_headline.proofs.EachCall.{answered_as}

-- each of the requests can be encoded
abbrev pub AreEncodable : List Request → Type 0
AreEncodable requests = AllByRecursion (λ (m : Request). IsTrue (request.encodable m)) requests

-- ---- one response

abbrev body_in : ClientTold → List ℕ
body_in (Answered id octets) = octets
body_in other = []

abbrev code_in : ClientTold → StatusCode
code_in (GaveUp id code) = code
code_in other = of_code 0

-- what is read of the bytes of a response that can be encoded is that response
read_as : (kind : RequestKind) (id : ℕ) (r : Response) → IsTrue (response.encodable r) → (reply : Reply)
    → IsReplyBy kind id (Answered id (response.canonical r)) reply → reply ≡ Responds r
read_as kind id r fits (Responds m) (octets, is, by) =
    ap Responds ((body_reads_back response lawful_response r fits).1 m (subst (λ (o : List ℕ). IsBody response m o) (sym (ap body_in is)) by.0))
read_as kind id r fits (Aborted code) is = absurd cc

-- the same where the client may take no message of its size
read_unless : (o : Option CutFault) (kind : RequestKind) (id : ℕ) (r : Response) → IsTrue (response.encodable r) → (reply : Reply)
    → IsReplyBy kind id (told_reply o id (response.canonical r)) reply → reply ≡ reply_unless_cut o r
read_unless None kind id r fits reply h = read_as kind id r fits reply h
read_unless (Some fault) kind id r fits (Responds m) (octets, is, by) = absurd cc
read_unless (Some fault) kind id r fits (Aborted code) is = ap Aborted (sym (ap code_in is))

-- of the services' response
pub itself : (s : State) (moment : DateTime) (m : Request) (id : ℕ) (reply : Reply) → IsSoundState s → IsTrue (date_time.encodable moment)
    → IsTrue (request.encodable m)
    → (IsReplyBy (kind_of_request m) id (Answered id (response.canonical (answer s moment m).1)) reply ↔ (reply ≡ Responds (answer s moment m).1))
itself s moment m id reply sound dated fits =
    let encodable : IsTrue (response.encodable (answer s moment m).1) = answer_fits s moment m sound dated fits in (
      (λ h. read_as (kind_of_request m) id (answer s moment m).1 encodable reply h),
      (λ e.
          subst (λ (given : Reply). IsReplyBy (kind_of_request m) id (Answered id (response.canonical (answer s moment m).1)) given) (sym e) (
            response.canonical (answer s moment m).1,
            refl,
            ((body_reads_back response lawful_response (answer s moment m).1 encodable).0, answer_kind_is s moment m),
          )),
    )

-- ---- responses, one after another

given_unless : (o : Option CutFault) (r : Response) → IsTrue (response.encodable r)
    → reply_unless o (response.canonical r) ≡ Some (reply_unless_cut o r)
given_unless None r fits = ap reply_read ((response_read-found (response.canonical r) r).1 (body_reads_back response lawful_response r fits).0)
given_unless (Some fault) r fits = refl

pub all_given : (back : Lane) (s : State) (f : ℕ → DateTime) (n : ℕ) (ms : List Request) → IsSoundState s
    → ((k : ℕ) → IsTrue (date_time.encodable (f k))) → AreEncodable ms
    → requests_replies back s f n ms ≡ map Some (replies_of_services back s f n ms)
all_given back s f n [] sound dated fits = refl
all_given back s f n (m ∷ ms) sound dated fits =
    let now : State = (answer s (f n) m).0 in
    let r : Response = (answer s (f n) m).1 in
    ap (λ (o : Option Reply). o ∷ requests_replies back now f (n + 1) ms)
    (given_unless (cut_refusal back (response.canonical r)) r (answer_fits s (f n) m sound (dated n) fits.0))
    ∙ ap (λ (os : List (Option Reply)). Some (reply_over back r) ∷ os)
    (all_given back now f (n + 1) ms (answer_sound s (f n) m sound (dated n)) dated fits.1)

-- lists that are there are the same
there : (replies : List Reply) → front_of (map Some replies) ≡ replies
there [] = refl
there (r ∷ replies) = ap (λ (rs : List Reply). r ∷ rs) (there replies)

pub same_there : (xs ys : List Reply) → map Some xs ≡ map Some ys → xs ≡ ys
same_there xs ys e = sym (there xs) ∙ (ap front_of e ∙ there ys)

-- ---- requests that were called can be encoded

not_false : (b : Bool) → not b ≡ false → IsTrue b
not_false true e = refl
not_false false e = absurd cc

pub group_encodable : (ack : Option Ack) (id : ℕ) (ms : List Request) → first_reason (group_reasons ack id ms) ≡ None → AreEncodable ms
group_encodable ack id [] judged = tt
group_encodable ack id (m ∷ ms) judged =
    let parts = or_none (first_reason (request_reasons ack id m)) (first_reason (group_reasons ack (id + 1) ms))
    (sym (first_reason-append (request_reasons ack id m) (group_reasons ack (id + 1) ms)) ∙ judged) in
    let one = none_parts (not (request.encodable m)) fault.NotWritable
    (first_reason (map (renamed_reason by_channel) (reasons_of_body id (of_ack (λ (a : Ack). is_too_large a (request.canonical m)) ack)))) parts.0 in
    (not_false (request.encodable m) one.0, group_encodable ack (id + 1) ms parts.1)

pub rounds_encodable : {c : ClientChannel} {s t : ClientPlace} {groups : List (List Request)} {sent taken : List ℕ} {replies : List Reply}
    → Rounds c s groups t sent taken replies → AreEncodable (all_of groups)
rounds_encodable NoRound = tt
rounds_encodable (OneRound {groups = groups} {m = m} group x r stands answered) =
    subst AreEncodable (sym (concat-push groups group))
    (all_append (λ (q : Request). IsTrue (request.encodable q)) (all_of groups) group (rounds_encodable r)
    (group_encodable m.before.ack (id_at m) group answered.judged))

-- ---- what is left is sound

sound_answered : (s : State) (moment : DateTime) (body : List ℕ) → IsSoundState s → IsTrue (date_time.encodable moment)
    → IsSoundState (answered s moment body).0
sound_answered s moment body sound dated = by (request_read body)
  where
    by : (r : Result Request RequestFault) → IsSoundState (answered_by r s moment).0
    by (Ok m) = answer_sound s moment m sound dated
    by (Err f) = sound

pub sound_left : (s : State) (times : List DateTime) (os : List Outgoing) → IsSoundState s → AreDated times → IsSoundState (left_by s times os).0
sound_left s times [] sound dated = sound
sound_left s times (CallWith body ∷ os) sound dated =
    sound_left (answered s (first_time times) body).0 (behind_first times) os (sound_answered s (first_time times) body sound (dated_first times dated))
    (dated_behind times dated)
sound_left s times (RenewalAt time ∷ os) sound dated = sound_left s (behind_first times) os sound (dated_behind times dated)

sound_requests : (s : State) (f : ℕ → DateTime) (n : ℕ) (ms : List Request) → IsSoundState s → ((k : ℕ) → IsTrue (date_time.encodable (f k)))
    → IsSoundState (state_behind_requests s f n ms)
sound_requests s f n [] sound dated = sound
sound_requests s f n (m ∷ ms) sound dated = sound_requests (answer s (f n) m).0 f (n + 1) ms (answer_sound s (f n) m sound (dated n)) dated

sound_turn : (s : State) (f : ℕ → DateTime) (n : ℕ) (turn : Option (List Request)) → IsSoundState s → ((k : ℕ) → IsTrue (date_time.encodable (f k)))
    → IsSoundState (turn_state s f n turn)
sound_turn s f n (Some ms) sound dated = sound_requests s f n ms sound dated
sound_turn s f n None sound dated = sound

pub sound_turns : (s : State) (f : ℕ → DateTime) (n : ℕ) (turns : List (Option (List Request))) → IsSoundState s
    → ((k : ℕ) → IsTrue (date_time.encodable (f k))) → IsSoundState (turns_state s f n turns)
sound_turns s f n [] sound dated = sound
sound_turns s f n (t ∷ turns) sound dated =
    sound_turns (turn_state s f n t) f (id_behind_turn n t) turns (sound_turn s f n t sound dated) dated

-- ---- behind the operations of a client

module _ (e : Ends) (can : CanOpen e) (sound : IsSoundState e.first) where
  dated_there : (before : List Outgoing) → IsTrue (date_time.encodable (first_time (services_before e before).1))
  dated_there before = dated_first (services_before e before).1 (dated_left e.first (behind_first e.times) before (dated_behind e.times can.times_fit))

  sound_there : (before : List Outgoing) → IsSoundState (services_before e before).0
  sound_there before = sound_left e.first (behind_first e.times) before sound (dated_behind e.times can.times_fit)

  -- the reply to one call
  pub one_after : (before : List Outgoing) (m : Request) (reply : Reply) → IsTrue (request.encodable m)
      → IsReplyBy (kind_of_request m) (id_after before) (reply_to_call e before (request.canonical m)) reply
      → reply ≡ reply_over (lane_to_client e) (answered_after e before m).1
  one_after before m reply fits h =
      read_unless (cut_refusal (lane_to_client e) (response.canonical (answered_after e before m).1)) (kind_of_request m) (id_after before)
      (answered_after e before m).1
      (answer_fits (services_before e before).0 (first_time (services_before e before).1) m (sound_there before) (dated_there before) fits) reply
      (subst (λ (g : State × Response).
      IsReplyBy (kind_of_request m) (id_after before) (told_reply (cut_refusal (lane_to_client e) (response.canonical g.1)) (id_after before)
      (response.canonical g.1)) reply)
      (answered_as (services_before e before).0 (first_time (services_before e before).1) m fits) h)

  pub each_after : (before : List Outgoing) (ms : List Request) (replies : List Reply) → AreEncodable ms → AreServersReplies e before ms replies
      → replies ≡ replies_after e before ms
  each_after before [] [] fits h = refl
  each_after before [] (r ∷ replies) fits h = absurd h
  each_after before (m ∷ ms) [] fits h = absurd h
  each_after before (m ∷ ms) (r ∷ replies) fits h =
      ap (λ (given : Reply). given ∷ replies) (one_after before m r fits.0 h.0)
      ∙ ap (λ (rs : List Reply). reply_over (lane_to_client e) (answered_after e before m).1 ∷ rs)
      (each_after (before ++ CallWith (request.canonical m) ∷ []) ms replies fits.1 h.1)

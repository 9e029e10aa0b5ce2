-- What a client over a line to a server comes to that has the turns of an exchange.
use Rattle.std.proofs.Common.{◌≡◌, ◌≤◌, ℕ, List, [], ◌++◌, Option, Some, None, Result, Ok}
use Rattle.std.proofs.Common.{Err, map, take, drop, refl, sym, ◌∙◌, ap, subst, append-nil, arith}
use Rattle.std.specs.Prelude.{IfErr, OnOk, codes}
use Rattle.std.proofs.lemmas.List.{take-append-drop}
use Rattle.ua_builtin.specs.declared.date_time.DateTime.{DateTime}
use Rattle.ua_frame.specs.Agreement.{url_length}
use Rattle.ua_frame.specs.Run.{Over}
use Rattle.ua_channel_laws.specs.ServerReads.{ServerCloses}
use Rattle.ua_channel.specs.ServerTold.{Told}
use Rattle.ua_channel.specs.declared.client.fault.AskFault.TheVariants.{TooManyTokens}
use Rattle.ua_server.specs.Endpoint.{IsEndpointEncodable}
use Rattle.ua_server.specs.Said.{output_of}
use Rattle.ua_server.specs.State.{State}
use Rattle.ua_server.specs.declared.endpoint.Endpoint.{Endpoint}
use Rattle.ua_client.specs.declared.fault.ClientFault.{ClientFault}
use Rattle.ua_client.specs.declared.reply.Reply.{Reply}
use Rattle.ua_loopback.specs.Accepted as judged
use Rattle.ua_loopback.specs.Faults.{FailsAtStage}
use Rattle.ua_loopback.specs.Says.{answer_times}
use Rattle.ua_loopback.specs.declared.conversation.ConversationLog.{ConversationLog}
use Rattle.ua_loopback.specs.declared.stage.Stage.{Stage}
use Rattle.ua_loopback.proofs.Saying.{said_by_run}
use Rattle.ua_exchange.specs.Accepted.{AreAccepted, fault_at}
use Rattle.ua_exchange.specs.Exchanged.{IsRefusedFor, all_said}
use Rattle.ua_exchange.specs.Programs.{exchange_ack, beginning, channel, endpoint, program_limits, url}
use Rattle.ua_exchange.specs.Replies.{state_behind, turns_replies}
use Rattle.ua_exchange.specs.Turns.{all_told, served_turns, up_octets}
use Rattle.ua_exchange.specs.declared.fault.PairFault.TheVariants.{Request}
use Rattle.ua_exchange.specs.declared.turn.Turn.{Turn}
use Rattle.ua_exchange.specs.inside.Conversed.{IsConversed}
use Rattle.ua_exchange.specs.inside.Counting.{FindsCrowded, FirstCrowded, HaveRoom, turns_before}
use Rattle.ua_exchange.proofs.Judging.{accepted-all, crowded-refused, front-is, refused-for}
use Rattle.ua_exchange.proofs.Texts.{word_fits}
use Rattle.ua_exchange.proofs.Words.{url_fits}

-- what the server says of itself can be written
pub endpoint_fits : (e : Endpoint) → e ≡ endpoint → IsEndpointEncodable e
endpoint_fits e is =
    subst IsEndpointEncodable (sym is)
    (record { url = url_fits; application_uri = word_fits (codes "urn:ua:server") refl refl; name = word_fits (codes "ua") refl refl })

-- ---- the turns that it was to take

-- where none is a renewal for which too many tokens are held, all of them
pub all-conversed : (first : State) (moment : DateTime) (turns asked : List Turn) (found : Option ℕ) (t : ConversationLog) → asked ≡ turns_before found turns
    → found ≡ None → IsConversed first moment asked t → IsConversed first moment turns t
all-conversed first moment turns asked found t front none k = subst (λ (ts : List Turn). IsConversed first moment ts t)
    (front ∙ ap (λ (o : Option ℕ). turns_before o turns) none) k

-- else those in front of it
pub front-conversed : (first : State) (moment : DateTime) (turns asked : List Turn) (found : Option ℕ) (place : ℕ) (t : ConversationLog)
    → asked ≡ turns_before found turns → found ≡ Some place → IsConversed first moment asked t
    → IsConversed first moment (take place turns) t
front-conversed first moment turns asked found place t front some k = subst (λ (ts : List Turn). IsConversed first moment ts t)
    (front ∙ ap (λ (o : Option ℕ). turns_before o turns) some) k

-- ---- where the client did all

on_ok : (X : Type 0) (r : Result (Unit {0}) ClientFault) (done : Unit {0}) → r ≡ Ok done → OnOk r X → X
on_ok X (Ok found) done e x = x
on_ok X (Err fault) done e x = absurd cc

module _ (first : State) (moment : DateTime) (turns : List Turn) (t : ConversationLog) (k : IsConversed first moment turns t) (done : Unit {0})
    (is : t.outcome ≡ Ok done) where
  pub up-all : t.up.items ≡ up_octets moment turns
  unfolding up_octets
  up-all = on_ok (t.up.items ≡ up_octets moment turns) t.outcome done is k.sent

  pub handed-all : ServerCloses program_limits channel t.up.items (all_told turns)
  unfolding all_told
  handed-all = on_ok (ServerCloses program_limits channel t.up.items (all_told turns)) t.outcome done is k.heard

  pub down-all : t.down.items ≡ all_said first moment turns
  down-all =
      k.down
      ∙ (said_by_run (beginning first moment) t.up.items handed-all.frames [] Over handed-all.run
      ∙ ap (λ (ts : List Told). output_of channel first ts Over (answer_times ts (λ (n : ℕ). moment))) handed-all.told_is)

  pub replies-all : map (λ (r : Reply). Some r) t.replies.items ≡ turns_replies first moment turns
  unfolding turns_replies
  replies-all = on_ok (map (λ (r : Reply). Some r) t.replies.items ≡ turns_replies first moment turns) t.outcome done is k.replied

  pub services-all : t.services ≡ state_behind first moment turns
  services-all = on_ok (t.services ≡ state_behind first moment turns) t.outcome done is k.state

  pub accepted-turns : HaveRoom turns → AreAccepted turns
  accepted-turns room = accepted-all turns (on_ok (judged.AreAcceptedUnder exchange_ack (served_turns turns)) t.outcome done is k.accepted) room

-- ---- where it did not

room-front : (turns : List Turn) (found : Option ℕ) → FindsCrowded turns found → HaveRoom (turns_before found turns)
room-front turns None f = f
room-front turns (Some place) f = subst HaveRoom (sym (front-is turns place f)) f.have_room

-- the turns behind that front
behind-front : (turns : List Turn) (found : Option ℕ) → (more : List Turn) × (turns_before found turns ++ more ≡ turns)
behind-front turns None = ([], append-nil turns)
behind-front turns (Some place) = (drop place turns, take-append-drop place turns)

-- a turn was not taken, or memory was refused
pub refused-turn : (first : State) (moment : DateTime) (turns : List Turn) (found : Option ℕ) (t : ConversationLog) (fault : ClientFault)
    → FindsCrowded turns found → IsConversed first moment (turns_before found turns) t → t.outcome ≡ Err fault
    → IsRefusedFor turns (fault_at t.taken fault)
refused-turn first moment turns found t fault f k is =
    let more = behind-front turns found in
    let refused : judged.IsTurnFault fault → judged.FirstRefusedUnder exchange_ack (served_turns (turns_before found turns)) t.taken fault =
    subst (λ (r : Result (Unit {0}) ClientFault).
    IfErr r (λ g. judged.IsTurnFault g → judged.FirstRefusedUnder exchange_ack (served_turns (turns_before found turns)) t.taken g)) is k.refused in
    subst (λ (ts : List Turn). IsRefusedFor ts (fault_at t.taken fault)) more.1
    (refused-for (turns_before found turns) more.0 t.taken fault refused (room-front turns found f))

-- and what it failed for
pub served-fault : (first : State) (moment : DateTime) (turns : List Turn) (t : ConversationLog) (fault : ClientFault) → IsConversed first moment turns t
    → t.outcome ≡ Err fault → (stage : Stage) × FailsAtStage stage fault
served-fault first moment turns t fault k is =
    let fails = subst (λ (r : Result (Unit {0}) ClientFault). IfErr r (λ g. url_length (Some url) ≤ 4095 → FailsAtStage t.stage g)) is k.fails in
    (t.stage, fails (omega arith))

-- it took all in front of a renewal for which too many tokens are held
pub refused-crowded : (first : State) (moment : DateTime) (turns : List Turn) (place : ℕ) (t : ConversationLog) (done : Unit {0}) → FirstCrowded turns place
    → IsConversed first moment (take place turns) t → t.outcome ≡ Ok done
    → IsRefusedFor turns (Request place TooManyTokens)
refused-crowded first moment turns place t done f k is =
    crowded-refused turns place f
    (subst AreAccepted (front-is turns place f)
    (accepted-turns first moment (take place turns) t k done is (subst HaveRoom (sym (front-is turns place f)) f.have_room)))

-- Sound services answer each request: none has no answer.
use Rattle.std.proofs.Common.{◌≡◌, ℕ, inl, inr, IsTrue, List, [], ◌∷◌, Option, Some, None, ◌+◌, subst}
use Rattle.ua_builtin.specs.DateTime.{date_time}
use Rattle.ua_builtin.specs.declared.date_time.DateTime.{DateTime}
use Rattle.ua_opening.proofs.BodyLaws.{body_reads_back}
use Rattle.ua_services.proofs.ResponseLawful.{lawful_response}
use Rattle.ua_services.specs.Request.{kind_of_request, request}
use Rattle.ua_services.specs.Response.{response}
use Rattle.ua_services.specs.declared.request.Request.{Request}
use Rattle.ua_server.specs.Answer.{answer}
use Rattle.ua_server.specs.Sound.{IsSoundState}
use Rattle.ua_server.specs.State.{State}
use Rattle.ua_server.proofs.SoundServices.{answer_fits, answer_kind_is, answer_sound}
use Rattle.ua_client.specs.Replies.{IsAnswer, IsNoAnswer}
use Rattle.ua_client.specs.declared.fault.ClientFault.{ClientFault}
use Rattle.ua_client.specs.declared.fault.ClientFault.TheVariants as fault
use Rattle.ua_loopback.specs.Faults.{FailsBehind}
use Rattle.ua_loopback.specs.Replies.{HaveMisanswer, state_behind_requests, turn_state, turns_state}
use Rattle.ua_loopback.specs.Talking.{FailsSession, MisanswersSession, SoFar, answers_in, state_in}
use Rattle.ua_loopback.specs.Turns.{id_behind_turn}
use Rattle.ua_loopback.specs.inside.Talking.{HasMisanswer, HaveMisanswers}

-- ---- what is left is sound

-- each of these times can be encoded
abbrev pub AreDated : (ℕ → DateTime) → Type 0
AreDated f = (n : ℕ) → IsTrue (date_time.encodable (f n))

sound_behind : (s : State) (f : ℕ → DateTime) (n : ℕ) (ms : List Request) → IsSoundState s → AreDated f
    → IsSoundState (state_behind_requests s f n ms)
sound_behind s f n [] h dated = h
sound_behind s f n (m ∷ ms) h dated = sound_behind (answer s (f n) m).0 f (n + 1) ms (answer_sound s (f n) m h (dated n)) dated

sound_turn : (s : State) (f : ℕ → DateTime) (n : ℕ) (turn : Option (List Request)) → IsSoundState s → AreDated f
    → IsSoundState (turn_state s f n turn)
sound_turn s f n (Some ms) h dated = sound_behind s f n ms h dated
sound_turn s f n None h dated = h

pub sound_turns : (s : State) (f : ℕ → DateTime) (n : ℕ) (turns : List (Option (List Request))) → IsSoundState s → AreDated f
    → IsSoundState (turns_state s f n turns)
sound_turns s f n [] h dated = h
sound_turns s f n (t ∷ turns) h dated = sound_turns (turn_state s f n t) f (id_behind_turn n t) turns (sound_turn s f n t h dated) dated

-- ---- each request has its answer

pub is_answer : (s : State) (moment : DateTime) (m : Request) → IsSoundState s → IsTrue (date_time.encodable moment) → IsTrue (request.encodable m)
    → IsAnswer (kind_of_request m) (response.canonical (answer s moment m).1) (answer s moment m).1
is_answer s moment m h dated fits = (
  (body_reads_back response lawful_response (answer s moment m).1 (answer_fits s moment m h dated fits)).0,
  answer_kind_is s moment m,
)

has_answer : (s : State) (moment : DateTime) (m : Request) → IsSoundState s → IsTrue (date_time.encodable moment) → IsTrue (request.encodable m)
    → IsNoAnswer (kind_of_request m) (response.canonical (answer s moment m).1) → ⊥
has_answer s moment m h dated fits none = none (answer s moment m).1 (is_answer s moment m h dated fits)

pub none_misanswered : (s : State) (f : ℕ → DateTime) (n : ℕ) (ms : List Request) → IsSoundState s → AreDated f → HaveMisanswer s f n ms → ⊥
none_misanswered s f n [] h dated bad = bad
none_misanswered s f n (m ∷ ms) h dated (inl bad) = has_answer s (f n) m h (dated n) bad.0 bad.1
none_misanswered s f n (m ∷ ms) h dated (inr bad) = none_misanswered (answer s (f n) m).0 f (n + 1) ms (answer_sound s (f n) m h (dated n)) dated bad

turn_answered : (s : State) (f : ℕ → DateTime) (n : ℕ) (turn : Option (List Request)) → IsSoundState s → AreDated f → HasMisanswer s f n turn → ⊥
turn_answered s f n (Some ms) h dated bad = none_misanswered s f n ms h dated bad
turn_answered s f n None h dated bad = bad

pub turns_answered : (s : State) (f : ℕ → DateTime) (n : ℕ) (turns : List (Option (List Request))) → IsSoundState s → AreDated f
    → HaveMisanswers s f n turns → ⊥
turns_answered s f n [] h dated bad = bad
turns_answered s f n (t ∷ turns) h dated (inl bad) = turn_answered s f n t h dated bad
turns_answered s f n (t ∷ turns) h dated (inr bad) = turns_answered (turn_state s f n t) f (id_behind_turn n t) turns (sound_turn s f n t h dated) dated bad

-- ---- so UnknownResponse does not come

pub always_answered : (t : SoFar) (requests : List Request) (f : ClientFault) → IsSoundState t.server.first → AreDated t.server.moments
    → FailsBehind (HaveMisanswer (state_in t) t.server.moments (answers_in t) requests) f → f ≡ fault.UnknownResponse → ⊥
always_answered t requests f h dated fails is =
    none_misanswered (state_in t) t.server.moments (answers_in t) requests (sound_turns t.server.first t.server.moments 1 t.turns h dated) dated
    (subst (FailsBehind (HaveMisanswer (state_in t) t.server.moments (answers_in t) requests)) is fails)

pub session_answered : (t : SoFar) (policy_id : Option (List ℕ)) (moment : DateTime) (f : ClientFault) → IsSoundState t.server.first
    → AreDated t.server.moments → FailsSession t policy_id moment f → f ≡ fault.UnknownResponse → ⊥
session_answered t policy_id moment f h dated fails is =
    let bad : MisanswersSession t policy_id moment = subst (FailsSession t policy_id moment) is fails in
    none_misanswered (state_in t) t.server.moments (answers_in t) bad.0 (sound_turns t.server.first t.server.moments 1 t.turns h dated) dated bad.2

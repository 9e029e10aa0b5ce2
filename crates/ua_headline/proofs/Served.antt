-- That what a server says of a turn is the answers to it.
use Rattle.std.proofs.Common.{◌≡◌, ℕ, ◌+◌, List, [], ◌∷◌, ◌++◌, Some, refl, sym, ◌∙◌, ap}
use Rattle.ua_builtin.specs.declared.date_time.DateTime.{DateTime}
use Rattle.ua_frame.specs.Frames.{frame_octets}
use Rattle.ua_chunk.specs.Sequence.{next_number}
use Rattle.ua_chunk.specs.declared.lane.Lane.{Lane}
use Rattle.ua_channel.specs.Agreement.{Agreement, lane_of}
use Rattle.ua_channel.specs.ClientSends.{token_lifetime}
use Rattle.ua_channel.specs.ServerSends.{opened_frame, replied}
use Rattle.ua_channel_laws.specs.Answers.Answer.{ReplyTo, TokenFor}
use Rattle.ua_channel_laws.specs.Answers.{answers_octets, client_answered, client_answered_all}
use Rattle.ua_channel_laws.specs.ClientReads.{AtClient}
use Rattle.ua_channel_laws.specs.Outgoing.Outgoing.{CallWith, RenewalAt}
use Rattle.ua_channel_laws.specs.Outgoing.{Outgoing, issued_behind, outgoing_told, server_behind}
use Rattle.ua_channel_laws.specs.ServerReads.{AtServer, with_message, with_token}
use Rattle.ua_services.specs.Response.{response}
use Rattle.ua_services.specs.declared.response.Response.{Response}
use Rattle.ua_server.specs.Reply.{answered}
use Rattle.ua_server.specs.Said.{behind_first, course_after, first_time, said_of}
use Rattle.ua_server.specs.State.{State}
use Rattle.ua_server.proofs.SaidInParts.{course}
use Rattle.ua_headline.specs.Talk.{answers_to, left_by}

-- ---- where the server is behind a turn

-- each call among these goes under the token that was used last
abbrev pub AreUnder : ℕ → ℕ → List Outgoing → Type 0
AreUnder used token [] = Unit {0}
AreUnder used token (CallWith body ∷ os) = (used ≡ token) × AreUnder used token os
AreUnder used token (RenewalAt time ∷ os) = AreUnder used token os

used_stays : (lane : Lane) (s : AtServer) (os : List Outgoing) → s.used ≡ lane.token → (server_behind lane s os).used ≡ lane.token
used_stays lane s [] e = e
used_stays lane s (CallWith body ∷ os) e = used_stays lane (with_message s lane body) os refl
used_stays lane s (RenewalAt time ∷ os) e = used_stays lane (with_token s) os e

pub under : (lane : Lane) (s : AtServer) (os : List Outgoing) → AreUnder (server_behind lane s os).used lane.token os
under lane s [] = tt
under lane s (CallWith body ∷ os) = (used_stays lane (with_message s lane body) os refl, under lane (with_message s lane body) os)
under lane s (RenewalAt time ∷ os) = under lane (with_token s) os

pub hello_stays : (lane : Lane) (s : AtServer) (os : List Outgoing) → (server_behind lane s os).hello ≡ s.hello
hello_stays lane s [] = refl
hello_stays lane s (CallWith body ∷ os) = hello_stays lane (with_message s lane body) os
hello_stays lane s (RenewalAt time ∷ os) = hello_stays lane (with_token s) os

pub issued_there : (lane : Lane) (s : AtServer) (os : List Outgoing) → (server_behind lane s os).issued ≡ issued_behind s.issued os
issued_there lane s [] = refl
issued_there lane s (CallWith body ∷ os) = issued_there lane (with_message s lane body) os
issued_there lane s (RenewalAt time ∷ os) = issued_there lane (with_token s) os

-- ---- what it says of it

module _ (channel used token : ℕ) (g : Agreement) where
  abbrev back : Lane
  back = lane_of channel used g

  pub said_turn : (s : State) (n : ℕ) (times : List DateTime) (issued id : ℕ) (os : List Outgoing) → AreUnder used token os
      → said_of channel (course s n times (Some g)) (outgoing_told token issued id os) ≡ answers_octets (lane_of channel used g) n
      (answers_to s times issued id os)
  said_turn s n times issued id [] u = refl
  said_turn s n times issued id (CallWith body ∷ os) u =
      let given : State × Response = answered s (first_time times) body in
      let reply : List ℕ = response.canonical given.1 in
      ap
      (λ (t : ℕ). (replied (lane_of channel t g) reply n id).0
      ++ said_of channel (course given.0 (replied (lane_of channel t g) reply n id).1 (behind_first times) (Some g))
      (outgoing_told token issued (id + 1) os)) (sym u.0)
      ∙ ap (λ (o : List ℕ). (replied back reply n id).0 ++ o) (said_turn given.0 (replied back reply n id).1 (behind_first times) issued (id + 1) os u.1)
  said_turn s n times issued id (RenewalAt time ∷ os) u =
      ap (λ (o : List ℕ). frame_octets (opened_frame channel n id 0 (issued + 1) token_lifetime (first_time times)) ++ o)
      (said_turn s (next_number n) (behind_first times) (issued + 1) (id + 1) os u)

  -- and how far it is then
  pub left_turn : (c : AtClient) (s : State) (times : List DateTime) (issued id : ℕ) (os : List Outgoing) → AreUnder used token os
      → course_after channel (course s c.next times (Some g)) (outgoing_told token issued id os)
      ≡ course (left_by s times os).0 (client_answered_all (lane_of channel used g) c (answers_to s times issued id os)).next (left_by s times os).1 (Some g)
  left_turn c s times issued id [] u = refl
  left_turn c s times issued id (CallWith body ∷ os) u =
      let given : State × Response = answered s (first_time times) body in
      let reply : List ℕ = response.canonical given.1 in
      ap (λ (t : ℕ). course_after channel (course given.0 (replied (lane_of channel t g) reply c.next id).1 (behind_first times) (Some g))
      (outgoing_told token issued (id + 1) os)) (sym u.0)
      ∙ left_turn (client_answered back c (ReplyTo id reply)) given.0 (behind_first times) issued (id + 1) os u.1
  left_turn c s times issued id (RenewalAt time ∷ os) u =
      left_turn (client_answered back c (TokenFor id 0 (issued + 1) token_lifetime (first_time times))) s (behind_first times) (issued + 1) (id + 1) os u

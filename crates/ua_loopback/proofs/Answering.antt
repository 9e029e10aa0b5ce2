-- That a client reads what a server answers to its requests.
use Rattle.std.proofs.Common.{◌≡◌, ◌⊎◌, inl, inr, ℕ, zero, suc, ◌+◌, ◌<◌, ◌≤◌, ◌^◌, Bool, true, false, not, ◌||◌, ◌&&◌, eqb, List}
use Rattle.std.proofs.Common.{[], ◌∷◌, ◌++◌, Option, Some, None, length, refl, sym, ◌∙◌, ap, subst, arith, append-nil, append_assoc}
use Rattle.std.specs.Prelude.{cond, if◌then◌else◌}
use Rattle.std.specs.List.{AllByRecursion}
use Rattle.std.proofs.lemmas.Bool.{cases_lt, eq-eqb, eqb-true, ne_eqb}
use Rattle.std.proofs.lemmas.List.Folds.{list_any-append}
use Rattle.ua_wire.proofs.Readers.{some_is}
use Rattle.ua_builtin.specs.declared.date_time.DateTime.{DateTime}
use Rattle.ua_frame.specs.declared.limits.Limits.{Limits}
use Rattle.ua_chunk.specs.Cutting.{cut_refusal}
use Rattle.ua_chunk.specs.declared.fault.CutFault.{CutFault}
use Rattle.ua_chunk.specs.declared.lane.Lane.{Lane}
use Rattle.ua_channel.specs.Agreement.{Agreement, agreement_of, lane_of}
use Rattle.ua_channel.specs.Asks.{Placed, asked_in, is_in, next_id}
use Rattle.ua_channel.specs.Asks.Asking.{Call}
use Rattle.ua_channel_laws.specs.ClientReads.{AtClient, ClientReads, IsLaneBack, lane_from, told_reply, with_call, with_reply, without_id}
use Rattle.ua_channel.specs.ClientTokens.{from_last}
use Rattle.ua_channel.specs.ClientTold.{ClientTold as Heard}
use Rattle.ua_channel_laws.specs.InStep.{AreInStep}
use Rattle.ua_channel.specs.Received.{latest}
use Rattle.ua_channel_laws.specs.ServerReads.{AtServer, with_message}
use Rattle.ua_channel.specs.ServerSends.{replied}
use Rattle.ua_channel_laws.proofs.ClientReadsMessages.{reads_call, reads_replied}
use Rattle.ua_channel_laws.proofs.InStep.{in_more, in_step_call, in_step_reply, lane_from_server}
use Rattle.ua_services.proofs.NoneEmpty.{response_takes_some}
use Rattle.ua_services.specs.Response.{response}
use Rattle.ua_services.specs.declared.response.Response.{Response}
use Rattle.ua_server.specs.Reply.{answered}
use Rattle.ua_server.specs.Said.{Course, behind_first, first_time, course_after, said_of}
use Rattle.ua_server.specs.State.{State}
use Rattle.ua_server.proofs.SaidInParts.{course}
use Rattle.ua_client.specs.Sent.{calls_at}
use Rattle.ua_client.specs.Told.{is_told_of, told_of}
use Rattle.ua_client.proofs.Askings.{next-calls}
use Rattle.ua_loopback.specs.Accepted.{held_behind_calls}
use Rattle.ua_loopback.specs.Together.{behind_calls}
use Rattle.ua_loopback.specs.Turns.{calls_told}
use Rattle.ua_loopback.proofs.Ending.{LastChunk, replied_ends}

-- ---- calls that are unanswered

-- a client with these calls more
abbrev pub with_calls : AtClient → ℕ → List (List ℕ) → AtClient
with_calls c id [] = c
with_calls c id (body ∷ bodies) = with_calls (with_call c id) (id + 1) bodies

pub calls_asked : (limits : Limits) (asks : List Placed) (octets : List ℕ) (told : List Heard) (c : AtClient) → ClientReads limits asks octets told c
    → (bodies : List (List ℕ))
    → ClientReads limits (asks ++ calls_at (length octets) (next_id (asked_in asks)) bodies) octets told (with_calls c (next_id (asked_in asks)) bodies)
calls_asked limits asks octets told c r [] = subst (λ (a : List Placed). ClientReads limits a octets told c) (sym (append-nil asks)) r
calls_asked limits asks octets told c r (body ∷ bodies) =
    let id : ℕ = next_id (asked_in asks) in
    let one : List Placed = asks ++ (length octets, Call id) ∷ [] in
    let others : List Placed = calls_at (length octets) (id + 1) bodies in
    subst (λ (a : List Placed). ClientReads limits a octets told (with_calls (with_call c id) (id + 1) bodies))
    (append_assoc asks ((length octets, Call id) ∷ []) others)
    (subst (λ (n : ℕ). ClientReads limits (one ++ calls_at (length octets) n bodies) octets told (with_calls (with_call c id) n bodies))
    (next-calls asks (length octets) id (body ∷ []))
    (calls_asked limits one octets told (with_call c id) (reads_call limits asks octets told c r) bodies))

or_true : (b : Bool) → (b || true) ≡ true
or_true true = refl
or_true false = refl

pub in_last : (n m : ℕ) (ms : List ℕ) → m ≡ n → is_in n (ms ++ m ∷ []) ≡ true
in_last n m ms e = list_any-append (λ (k : ℕ). eqb k n) ms (m ∷ []) ∙ (ap (λ (b : Bool). is_in n ms || (b || false)) (eq-eqb m n e) ∙ or_true (is_in n ms))

stays_waiting : (c : AtClient) (id : ℕ) (bodies : List (List ℕ)) (k : ℕ) → is_in k c.pending ≡ true → is_in k (with_calls c id bodies).pending ≡ true
stays_waiting c id [] k e = e
stays_waiting c id (body ∷ bodies) k e = stays_waiting (with_call c id) (id + 1) bodies k (in_more k id c.pending e)

-- each of them is unanswered
pub waits : (c : AtClient) (id : ℕ) (bodies : List (List ℕ)) (k : ℕ) → id ≤ k → k < id + length bodies → is_in k (with_calls c id bodies).pending ≡ true
waits c id [] k from to = absurd (omega (arith, from, to))
waits c id (body ∷ bodies) k from to = by (λ later. waits (with_call c id) (id + 1) bodies k (omega (arith, later)) (omega (arith, to))) (cases_lt id k)
  where
    by : (id < k → is_in k (with_calls (with_call c id) (id + 1) bodies).pending ≡ true) → ((id < k) ⊎ (k ≤ id))
        → is_in k (with_calls (with_call c id) (id + 1) bodies).pending ≡ true
    by rest (inl later) = rest later
    by rest (inr here) = stays_waiting (with_call c id) (id + 1) bodies k (in_last k id c.pending (omega (arith, from, here)))

-- a call stays unanswered where one before it is answered
kept_by : (gone same : Bool) (id k m : ℕ) (ms : List ℕ) → (gone ≡ true → same ≡ false) → eqb m k ≡ same
    → (is_in k ms ≡ true → is_in k (without_id id ms) ≡ true) → (same || is_in k ms) ≡ true
    → is_in k (if not gone then m ∷ without_id id ms else without_id id ms) ≡ true
kept_by true true id k m ms apart is rest e = let no : true ≡ false = apart refl in absurd cc
kept_by true false id k m ms apart is rest e = rest e
kept_by false true id k m ms apart is rest e = ap (λ (b : Bool). b || is_in k (without_id id ms)) is
kept_by false false id k m ms apart is rest e = ap (λ (b : Bool). b || is_in k (without_id id ms)) is ∙ rest e

kept_in : (id k : ℕ) (ms : List ℕ) → id < k → is_in k ms ≡ true → is_in k (without_id id ms) ≡ true
kept_in id k [] less e = e
kept_in id k (m ∷ ms) less e =
    kept_by (eqb m id) (eqb m k) id k m ms (λ h. let same = eqb-true m id h in ne_eqb m k (λ n. omega (arith, less, same, n))) refl (kept_in id k ms less) e

-- ---- in step

pub calls_in_step : (server client : Limits) (url : Option (List ℕ)) (channel : ℕ) (s : AtServer) (c : AtClient) (id : ℕ)
    → AreInStep server client url channel s c → latest c.tokens ≡ Some c.newest → (bodies : List (List ℕ))
    → AreInStep server client url channel (behind_calls s (lane_from c) bodies) (with_calls c id bodies)
calls_in_step server client url channel s c id h newest [] = h
calls_in_step server client url channel s c id h newest (body ∷ bodies) =
    calls_in_step server client url channel (with_message s (lane_from c) body) (with_call c id) (id + 1)
    (in_step_call server client url channel s c h body id newest) newest bodies

pub used_last : (s : AtServer) (lane : Lane) (bodies : List (List ℕ)) → 0 < length bodies → (behind_calls s lane bodies).used ≡ lane.token
used_last s lane [] some = absurd (omega (arith, some))
used_last s lane (body ∷ []) some = refl
used_last s lane (body ∷ (next ∷ bodies)) some = used_last (with_message s lane body) lane (next ∷ bodies) (omega arith)

pub hello_stays : (s : AtServer) (lane : Lane) (bodies : List (List ℕ)) → (behind_calls s lane bodies).hello ≡ s.hello
hello_stays s lane [] = refl
hello_stays s lane (body ∷ bodies) = hello_stays (with_message s lane body) lane bodies

pub issued_stays : (s : AtServer) (lane : Lane) (bodies : List (List ℕ)) → (behind_calls s lane bodies).issued ≡ s.issued
issued_stays s lane [] = refl
issued_stays s lane (body ∷ bodies) = issued_stays (with_message s lane body) lane bodies

pub newest_stays : (c : AtClient) (id : ℕ) (bodies : List (List ℕ)) → (with_calls c id bodies).newest ≡ c.newest
newest_stays c id [] = refl
newest_stays c id (body ∷ bodies) = newest_stays (with_call c id) (id + 1) bodies

pub tokens_stay : (c : AtClient) (id : ℕ) (bodies : List (List ℕ)) → (with_calls c id bodies).tokens ≡ c.tokens
tokens_stay c id [] = refl
tokens_stay c id (body ∷ bodies) = tokens_stay (with_call c id) (id + 1) bodies

pub all_by : (P : ℕ → Type 0) (stays : Bool) (m : ℕ) (ms from : List ℕ) → P m → AllByRecursion P ms → AllByRecursion P from
    → AllByRecursion P (if stays then m ∷ ms else from)
all_by P true m ms from one h k = (one, h)
all_by P false m ms from one h k = k

-- what is so of all tokens is so of those from the last one used on
pub all_held : (P : ℕ → Type 0) (n : ℕ) (ms : List ℕ) → AllByRecursion P ms → AllByRecursion P (from_last n ms)
all_held P n [] h = tt
all_held P n (m ∷ ms) h = all_by P (eqb m n && not (is_in n ms)) m ms (from_last n ms) h.0 h.1 (all_held P n ms h.1)

-- ---- the tokens that are held behind a reply

pub latest_in : (n k : ℕ) (ks : List ℕ) → latest (k ∷ ks) ≡ Some n → is_in n (k ∷ ks) ≡ true
latest_in n k [] e = ap (λ (b : Bool). b || false) (eq-eqb k n (some_is k n e))
latest_in n k (j ∷ ks) e = ap (λ (b : Bool). eqb k n || b) (latest_in n j ks e) ∙ or_true (eqb k n)

from_by : (same more : Bool) (n m : ℕ) (ms : List ℕ) → more ≡ true → from_last n ms ≡ n ∷ [] → (if same && not more then m ∷ ms else from_last n ms) ≡ n ∷ []
from_by true true n m ms there e = e
from_by false true n m ms there e = e
from_by same false n m ms there e = let no : false ≡ true = there in absurd cc

one_from : (same : Bool) (n m : ℕ) → m ≡ n → same ≡ true → (if same && not false then m ∷ [] else []) ≡ n ∷ []
one_from true n m is e = ap (λ (k : ℕ). k ∷ []) is
one_from false n m is e = let no : false ≡ true = e in absurd cc

-- from the last of a list on there is just that
pub from_latest : (n : ℕ) (ms : List ℕ) → latest ms ≡ Some n → from_last n ms ≡ n ∷ []
from_latest n [] e = absurd cc
from_latest n (m ∷ []) e = let is = some_is m n e in one_from (eqb m n) n m is (eq-eqb m n is)
from_latest n (m ∷ (k ∷ ks)) e = from_by (eqb m n) (is_in n (k ∷ ks)) n m (k ∷ ks) (latest_in n k ks e) (from_latest n (k ∷ ks) e)

one_held : (n : ℕ) → held_behind_calls 1 n ≡ 1
one_held zero = refl
one_held (suc n) = refl

-- ---- replies, one behind the other

-- what a client is told of the answer to a call
abbrev pub answer_told : Lane → ℕ → Response → Heard
answer_told back id m = told_reply (cut_refusal back (response.canonical m)) id (response.canonical m)

-- what it is told of the answers to calls of these bodies, under request ids from this one on: each in the state that those before it left
abbrev pub answers_told : Lane → State → List DateTime → ℕ → List (List ℕ) → List Heard
answers_told back state moments id [] = []
answers_told back state moments id (body ∷ bodies) =
    answer_told back id (answered state (first_time moments) body).1 ∷ answers_told back (answered state (first_time moments) body).0 (behind_first moments)
    (id + 1) bodies

cond_some : (b : Bool) (t : Heard) (ts : List Heard) → 0 < length ts → 0 < length (cond b (t ∷ ts) ts)
cond_some true t ts some = omega arith
cond_some false t ts some = some

first_told : (o : Option CutFault) (id k : ℕ) (body : List ℕ) (ts : List Heard) → k ≡ id → 0 < length (told_of k (told_reply o id body ∷ ts))
first_told None id k body ts same = subst (λ (b : Bool). 0 < length (cond b (told_reply None id body ∷ told_of k ts) (told_of k ts)))
    (sym (eq-eqb id k (sym same))) (omega arith)
first_told (Some fault) id k body ts same = subst (λ (b : Bool). 0 < length (cond b (told_reply (Some fault) id body ∷ told_of k ts) (told_of k ts)))
    (sym (eq-eqb id k (sym same))) (omega arith)

-- something of each of the calls
pub told_each : (back : Lane) (state : State) (moments : List DateTime) (id : ℕ) (bodies : List (List ℕ)) (k : ℕ) → id ≤ k → k < id + length bodies
    → 0 < length (told_of k (answers_told back state moments id bodies))
told_each back state moments id [] k from to = absurd (omega (arith, from, to))
told_each back state moments id (body ∷ bodies) k from to =
    by (λ later. told_each back given.0 (behind_first moments) (id + 1) bodies k (omega (arith, later)) (omega (arith, to))) (cases_lt id k)
  where
    given : State × Response
    given = answered state (first_time moments) body

    by : (id < k → 0 < length (told_of k (answers_told back given.0 (behind_first moments) (id + 1) bodies))) → ((id < k) ⊎ (k ≤ id))
        → 0 < length (told_of k (answers_told back state moments id (body ∷ bodies)))
    by rest (inl later) = cond_some (is_told_of k (answer_told back id given.1)) (answer_told back id given.1)
        (told_of k (answers_told back given.0 (behind_first moments) (id + 1) bodies)) (rest later)
    by rest (inr here) = first_told (cut_refusal back (response.canonical given.1)) id k (response.canonical given.1)
        (answers_told back given.0 (behind_first moments) (id + 1) bodies) (omega (arith, from, here))

-- what is said of so many calls is read, by a client that held so many tokens and whose calls go under this one, and tells it this
pub record AreHeard (server client : Limits) (url : Option (List ℕ)) (channel : ℕ) (s : AtServer) (count had token : ℕ) (asks : List Placed) (octets : List ℕ)
    (heard : List Heard) (number : ℕ) (agreement : Option Agreement) : Type 0 where
  pub at : AtClient
  pub reads : ClientReads client asks octets heard at
  pub in_step : AreInStep server client url channel s at
  pub number_is : number ≡ at.next
  pub agreed : agreement ≡ Some (agreement_of server s.hello)
  pub issued : AllByRecursion (λ (token : ℕ). token ≤ s.issued) at.tokens
  pub newest : at.newest ≡ token
  pub held : length at.tokens ≡ held_behind_calls had count
  pub ends : 0 < count → LastChunk client asks octets

ends_behind : (client : Limits) (asks : List Placed) (octets : List ℕ) (channel : ℕ) (k : Course) (lane : Lane) (id : ℕ) (bodies : List (List ℕ))
    → LastChunk client asks octets
    → (0 < length bodies → LastChunk client asks (octets ++ said_of channel k (calls_told lane.token id bodies)))
    → LastChunk client asks (octets ++ said_of channel k (calls_told lane.token id bodies))
ends_behind client asks octets channel k lane id [] one rest = subst (LastChunk client asks) (sym (append-nil octets)) one
ends_behind client asks octets channel k lane id (body ∷ bodies) one rest = rest (omega arith)

module _ (server client : Limits) (url : Option (List ℕ)) (channel : ℕ) (on : channel < 2 ^ 32) (s : AtServer) (few_used : s.used < 2 ^ 32) (lane : Lane)
    (used_is : s.used ≡ lane.token) where
  abbrev g : Agreement
  g = agreement_of server s.hello

  abbrev back : Lane
  back = lane_of channel lane.token g

  lane_here : (c : AtClient) → AreInStep server client url channel s c → IsLaneBack client c back
  lane_here c h = subst (λ (t : ℕ). IsLaneBack client c (lane_of channel t g)) used_is (lane_from_server server client url channel s c h on few_used)

  step_here : (c : AtClient) → AreInStep server client url channel s c → (id next : ℕ) → AreInStep server client url channel s (with_reply c lane.token id next)
  step_here c h id next = subst (λ (t : ℕ). AreInStep server client url channel s (with_reply c t id next)) used_is
      (in_step_reply server client url channel s c h id next)

  pub replies_read : (asks : List Placed) (octets : List ℕ) (told : List Heard) (c : AtClient) (state : State) (n : ℕ) (moments : List DateTime) (id : ℕ)
      (bodies : List (List ℕ))
      → ClientReads client asks octets told c → AreInStep server client url channel s c → n ≡ c.next
      → ((k : ℕ) → id ≤ k → k < id + length bodies → is_in k c.pending ≡ true) → id + length bodies ≤ 4294967295
      → AllByRecursion (λ (token : ℕ). token ≤ s.issued) c.tokens → c.newest ≡ lane.token
      → AreHeard server client url channel s (length bodies) (length c.tokens) c.newest asks
      (octets ++ said_of channel (course state n moments (Some g)) (calls_told lane.token id bodies)) (told ++ answers_told back state moments id bodies)
      (course_after channel (course state n moments (Some g)) (calls_told lane.token id bodies)).number
      (course_after channel (course state n moments (Some g)) (calls_told lane.token id bodies)).agreement
  replies_read asks octets told c state n moments id [] r h next waiting few issued newest =
      record {
        at = c;
        reads = subst (λ (o : List ℕ). ClientReads client asks o (told ++ []) c) (sym (append-nil octets))
            (subst (λ (t : List Heard). ClientReads client asks octets t c) (sym (append-nil told)) r);
        in_step = h;
        number_is = next;
        agreed = refl;
        issued =
            issued;
        newest = refl;
        held = refl;
        ends = λ some. absurd (omega (arith, some));
      }
  replies_read asks octets told c state n moments id (body ∷ bodies) r h next waiting few issued newest =
      let given : State × Response = answered state (first_time moments) body in
      let reply : List ℕ = response.canonical given.1 in
      let out : List ℕ × ℕ = replied back reply n id in
      let heard : List Heard = told ++ answer_told back id given.1 ∷ [] in
      let now : AtClient = with_reply c lane.token id out.1 in
      let one : ClientReads client asks (octets ++ out.0) heard now =
      subst (λ (m : ℕ). ClientReads client asks (octets ++ (replied back reply m id).0) heard (with_reply c lane.token id (replied back reply m id).1))
      (sym next)
      (reads_replied client asks octets told c back id r (lane_here c h) (waiting id (omega arith) (omega arith)) (omega (arith, few)) reply
      (response_takes_some given.1)) in
      let last : LastChunk client asks (octets ++ out.0) =
      subst (λ (m : ℕ). LastChunk client asks (octets ++ (replied back reply m id).0)) (sym next)
      (replied_ends client asks octets told c back id r (lane_here c h) (omega (arith, few)) reply (response_takes_some given.1)) in
      let rest =
      replies_read asks (octets ++ out.0) heard now given.0 out.1 (behind_first moments) (id + 1) bodies one (step_here c h id out.1) refl
      (λ k from to. kept_in id k c.pending (omega (arith, from)) (waiting k (omega (arith, from)) (omega (arith, to)))) (omega (arith, few))
      (all_held (λ (token : ℕ). token ≤ s.issued) lane.token c.tokens issued) newest in
      record {
        at = rest.at;
        reads =
            subst (λ (t : List Heard).
            ClientReads client asks (octets ++ said_of channel (course state n moments (Some g)) (calls_told lane.token id (body ∷ bodies))) t rest.at)
            (append_assoc told (answer_told back id given.1 ∷ []) (answers_told back given.0 (behind_first moments) (id + 1) bodies))
            (subst (λ (o : List ℕ). ClientReads client asks o (heard ++ answers_told back given.0 (behind_first moments) (id + 1) bodies) rest.at)
            (append_assoc octets out.0 (said_of channel (course given.0 out.1 (behind_first moments) (Some g)) (calls_told lane.token (id + 1) bodies)))
            rest.reads);
        in_step = rest.in_step;
        number_is = rest.number_is;
        agreed = rest.agreed;
        issued = rest.issued;
        newest = rest.newest;
        held = rest.held
            ∙ (ap (λ (n : ℕ). held_behind_calls n (length bodies)) (ap length (from_latest lane.token c.tokens (r.newest_is ∙ ap (λ (n : ℕ). Some n) newest)))
            ∙ one_held (length bodies));
        ends = λ some.
            subst (LastChunk client asks)
            (append_assoc octets out.0 (said_of channel (course given.0 out.1 (behind_first moments) (Some g)) (calls_told lane.token (id + 1) bodies)))
            (ends_behind client asks (octets ++ out.0) channel (course given.0 out.1 (behind_first moments) (Some g)) lane (id + 1) bodies last rest.ends);
      }

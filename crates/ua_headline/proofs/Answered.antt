-- That what a server answers to a turn is what its client waits for.
use Rattle.std.proofs.Common.{◌≡◌, ℕ, ◌+◌, ◌<◌, ◌≤◌, Bool, true, false, not, ◌||◌, eqb, leb, IsTrue, List, [], ◌∷◌}
use Rattle.std.proofs.Common.{◌++◌, None, length, refl, sym, ◌∙◌, ap, arith, append_assoc, append-nil}
use Rattle.std.specs.Prelude.{if◌then◌else◌}
use Rattle.std.specs.List.{AllByRecursion}
use Rattle.std.proofs.lemmas.Bool.{eq-eqb, leb-false, ne_eqb}
use Rattle.ua_builtin.specs.DateTime.{date_time}
use Rattle.ua_builtin.specs.Reasons.{first_reason}
use Rattle.ua_builtin.specs.declared.date_time.DateTime.{DateTime}
use Rattle.ua_chunk.specs.declared.lane.Lane.{Lane}
use Rattle.ua_channel.specs.Asks.{is_in}
use Rattle.ua_channel.specs.ClientAsks.{most_pending, most_tokens, no_id}
use Rattle.ua_channel.specs.ClientSends.{token_lifetime}
use Rattle.ua_channel.specs.Received.{has_some}
use Rattle.ua_channel.proofs.Askings.{all-push, all-weaken}
use Rattle.ua_channel_laws.specs.Answers.Answer.{ReplyTo, TokenFor}
use Rattle.ua_channel_laws.specs.Answers.{Answer, AreAnswersTo, BringsToken, client_answered, client_answered_all}
use Rattle.ua_channel_laws.specs.ClientReads.{AtClient, with_call, with_renewal, without_id}
use Rattle.ua_channel_laws.specs.Outgoing.Outgoing.{CallWith, RenewalAt}
use Rattle.ua_channel_laws.specs.Outgoing.{Outgoing, client_behind, client_past, issued_behind, one_reasons, outgoing_refusal}
use Rattle.ua_channel_laws.proofs.Groups.{none_parts, or_none}
use Rattle.ua_services.proofs.NoneEmpty.{response_takes_some}
use Rattle.ua_services.specs.Response.{response}
use Rattle.ua_services.specs.declared.response.Response.{Response}
use Rattle.ua_server.specs.Reply.{answered}
use Rattle.ua_server.specs.Said.{behind_first, first_time}
use Rattle.ua_server.specs.State.{State}
use Rattle.ua_headline.specs.Talk.{answers_to, left_by}
use Rattle.ua_loopback.proofs.Answering.{all_held}
use Rattle.ua_loopback.proofs.Renewed.{none_past}

-- ---- times

-- each can be written
abbrev pub AreDated : List DateTime → Type 0
AreDated times = AllByRecursion (λ (time : DateTime). IsTrue (date_time.encodable time)) times

pub dated_first : (times : List DateTime) → AreDated times → IsTrue (date_time.encodable (first_time times))
unfolding date_time
dated_first [] d = refl
dated_first (time ∷ times) d = d.0

pub dated_behind : (times : List DateTime) → AreDated times → AreDated (behind_first times)
dated_behind [] d = tt
dated_behind (time ∷ times) d = d.1

pub dated_left : (s : State) (times : List DateTime) (os : List Outgoing) → AreDated times → AreDated (left_by s times os).1
dated_left s times [] d = d
dated_left s times (CallWith body ∷ os) d = dated_left (answered s (first_time times) body).0 (behind_first times) os (dated_behind times d)
dated_left s times (RenewalAt time ∷ os) d = dated_left s (behind_first times) os (dated_behind times d)

-- ---- what a client that refuses nothing asks

-- a request id is left for one
id_left : (c : AtClient) (id : ℕ) (o : Outgoing) → first_reason (one_reasons c id o) ≡ None → id < no_id
id_left c id (CallWith body) h =
    let one = none_parts (leb most_pending (length c.pending)) _ _ h in
    let two = none_parts (leb no_id id) _ _ one.1 in
    leb-false no_id id two.0
id_left c id (RenewalAt time) h =
    let one = none_parts (has_some c.renewals) _ _ h in
    let two = none_parts (leb most_tokens (length c.tokens)) _ _ one.1 in
    let three = none_parts (leb no_id id) _ _ two.1 in
    leb-false no_id id three.0

-- and for all of them
pub ids_left : (c : AtClient) (id : ℕ) (os : List Outgoing) → outgoing_refusal c id os ≡ None → id ≤ no_id → id + length os ≤ no_id
ids_left c id [] h few = omega (arith, few)
ids_left c id (o ∷ os) h few =
    let parts = or_none (first_reason (one_reasons c id o)) (outgoing_refusal (client_past c id o) (id + 1) os) h in
    let here = id_left c id o parts.0 in
    let rest = ids_left (client_past c id o) (id + 1) os parts.1 (omega (arith, here)) in
    omega (arith, rest)

-- fewer tokens are issued than request ids are used
pub issued_few : (issued id : ℕ) (os : List Outgoing) → issued < id → issued_behind issued os < id + length os
issued_few issued id [] h = omega (arith, h)
issued_few issued id (CallWith body ∷ os) h = let rest = issued_few issued (id + 1) os (omega (arith, h)) in omega (arith, rest)
issued_few issued id (RenewalAt time ∷ os) h = let rest = issued_few (issued + 1) (id + 1) os (omega (arith, h)) in omega (arith, rest)

-- the request ids of the renewals among these
abbrev pub renewal_ids : ℕ → List Outgoing → List ℕ
renewal_ids id [] = []
renewal_ids id (CallWith body ∷ os) = renewal_ids (id + 1) os
renewal_ids id (RenewalAt time ∷ os) = id ∷ renewal_ids (id + 1) os

-- none stands behind a renewal
abbrev pub HasOneRenewal : ℕ → List Outgoing → Type 0
HasOneRenewal id [] = Unit {0}
HasOneRenewal id (CallWith body ∷ os) = HasOneRenewal (id + 1) os
HasOneRenewal id (RenewalAt time ∷ os) = (renewal_ids (id + 1) os ≡ []) × HasOneRenewal (id + 1) os

some_behind : (id : ℕ) (ids : List ℕ) → has_some (ids ++ id ∷ []) ≡ true
some_behind id [] = refl
some_behind id (i ∷ ids) = refl

none_more : (c : AtClient) (id : ℕ) (os : List Outgoing) → has_some c.renewals ≡ true → outgoing_refusal c id os ≡ None → renewal_ids id os ≡ []
none_more c id [] some h = refl
none_more c id (CallWith body ∷ os) some h =
    let parts = or_none (first_reason (one_reasons c id (CallWith body))) (outgoing_refusal (with_call c id) (id + 1) os) h in
    none_more (with_call c id) (id + 1) os some parts.1
none_more c id (RenewalAt time ∷ os) some h =
    let parts = or_none (first_reason (one_reasons c id (RenewalAt time))) (outgoing_refusal (with_renewal c id) (id + 1) os) h in
    let one = none_parts (has_some c.renewals) _ _ parts.0 in
    let no : true ≡ false = sym some ∙ one.0 in
    absurd cc

pub one_renewal : (c : AtClient) (id : ℕ) (os : List Outgoing) → outgoing_refusal c id os ≡ None → HasOneRenewal id os
one_renewal c id [] h = tt
one_renewal c id (CallWith body ∷ os) h =
    let parts = or_none (first_reason (one_reasons c id (CallWith body))) (outgoing_refusal (with_call c id) (id + 1) os) h in
    one_renewal (with_call c id) (id + 1) os parts.1
one_renewal c id (RenewalAt time ∷ os) h =
    let parts = or_none (first_reason (one_reasons c id (RenewalAt time))) (outgoing_refusal (with_renewal c id) (id + 1) os) h in
    (none_more (with_renewal c id) (id + 1) os (some_behind id c.renewals) parts.1, one_renewal (with_renewal c id) (id + 1) os parts.1)

-- ---- what it then waits for

-- the request ids of the calls among these
abbrev pub call_ids : ℕ → List Outgoing → List ℕ
call_ids id [] = []
call_ids id (CallWith body ∷ os) = id ∷ call_ids (id + 1) os
call_ids id (RenewalAt time ∷ os) = call_ids (id + 1) os

pub calls_all : (c : AtClient) (id : ℕ) (os : List Outgoing) → (client_behind c id os).pending ≡ c.pending ++ call_ids id os
calls_all c id [] = sym (append-nil c.pending)
calls_all c id (CallWith body ∷ os) = calls_all (with_call c id) (id + 1) os ∙ append_assoc c.pending (id ∷ []) (call_ids (id + 1) os)
calls_all c id (RenewalAt time ∷ os) = calls_all (with_renewal c id) (id + 1) os

pub renewals_all : (c : AtClient) (id : ℕ) (os : List Outgoing) → (client_behind c id os).renewals ≡ c.renewals ++ renewal_ids id os
renewals_all c id [] = sym (append-nil c.renewals)
renewals_all c id (CallWith body ∷ os) = renewals_all (with_call c id) (id + 1) os
renewals_all c id (RenewalAt time ∷ os) = renewals_all (with_renewal c id) (id + 1) os ∙ append_assoc c.renewals (id ∷ []) (renewal_ids (id + 1) os)

pub tokens_stay : (c : AtClient) (id : ℕ) (os : List Outgoing) → (client_behind c id os).tokens ≡ c.tokens
tokens_stay c id [] = refl
tokens_stay c id (CallWith body ∷ os) = tokens_stay (with_call c id) (id + 1) os
tokens_stay c id (RenewalAt time ∷ os) = tokens_stay (with_renewal c id) (id + 1) os

pub next_stays : (c : AtClient) (id : ℕ) (os : List Outgoing) → (client_behind c id os).next ≡ c.next
next_stays c id [] = refl
next_stays c id (CallWith body ∷ os) = next_stays (with_call c id) (id + 1) os
next_stays c id (RenewalAt time ∷ os) = next_stays (with_renewal c id) (id + 1) os

-- a call that is answered is the first of those that were not
kept_one : (b : Bool) (id : ℕ) (ids : List ℕ) → b ≡ false → (if not b then id ∷ ids else ids) ≡ id ∷ ids
kept_one false id ids e = refl
kept_one true id ids e = absurd cc

gone_one : (b : Bool) (id : ℕ) (ids : List ℕ) → b ≡ true → (if not b then id ∷ ids else ids) ≡ ids
gone_one true id ids e = refl
gone_one false id ids e = absurd cc

others_stay : (gone id : ℕ) (os : List Outgoing) → gone < id → without_id gone (call_ids id os) ≡ call_ids id os
others_stay gone id [] less = refl
others_stay gone id (CallWith body ∷ os) less =
    kept_one (eqb id gone) id (without_id gone (call_ids (id + 1) os)) (ne_eqb id gone (λ e. omega (arith, less, e)))
    ∙ ap (λ (ids : List ℕ). id ∷ ids) (others_stay gone (id + 1) os (omega (arith, less)))
others_stay gone id (RenewalAt time ∷ os) less = others_stay gone (id + 1) os (omega (arith, less))

first_goes : (id : ℕ) (os : List Outgoing) → without_id id (id ∷ call_ids (id + 1) os) ≡ call_ids (id + 1) os
first_goes id os = gone_one (eqb id id) id (without_id id (call_ids (id + 1) os)) (eq-eqb id id refl) ∙ others_stay id (id + 1) os (omega arith)

-- ---- tokens

-- ---- the answers

-- a client waits for the answers to these, and no other renewal is unanswered
pub record IsWaiting (c : AtClient) (issued id : ℕ) (os : List Outgoing) : Type 0 where
  pub calls : c.pending ≡ call_ids id os
  pub renewals : c.renewals ≡ renewal_ids id os
  pub one : HasOneRenewal id os
  pub ids : id + length os ≤ no_id
  pub spare : issued < id
  pub below : AllByRecursion (λ (token : ℕ). token ≤ issued) c.tokens

-- these may be answered, and then no renewal is unanswered
pub record CanAnswer (lane : Lane) (c : AtClient) (answers : List Answer) (issued : ℕ) : Type 0 where
  pub may : AreAnswersTo lane c answers
  pub none_pending : (client_answered_all lane c answers).pending ≡ []
  pub none_waits : (client_answered_all lane c answers).renewals ≡ []
  pub below : AllByRecursion (λ (token : ℕ). token ≤ issued) (client_answered_all lane c answers).tokens

pub can_answer : (lane : Lane) (c : AtClient) (s : State) (times : List DateTime) (issued id : ℕ) (os : List Outgoing) → IsWaiting c issued id os
    → AreDated times
    → CanAnswer lane c (answers_to s times issued id os) (issued_behind issued os)
can_answer lane c s times issued id [] w d = record { may = tt; none_pending = w.calls; none_waits = w.renewals; below = w.below }
can_answer lane c s times issued id (CallWith body ∷ os) w d =
    let given : State × Response = answered s (first_time times) body in
    let reply : List ℕ = response.canonical given.1 in
    let rest = can_answer lane (client_answered lane c (ReplyTo id reply)) given.0 (behind_first times) issued (id + 1) os
    (record {
      calls = ap (without_id id) w.calls ∙ first_goes id os;
      renewals = w.renewals;
      one = w.one;
      ids = omega (arith, w.ids);
      spare = omega (arith, w.spare);
      below = all_held (λ (token : ℕ). token ≤ issued) lane.token c.tokens w.below;
    }) (dated_behind times d) in
    let is_waiting : is_in id c.pending ≡ true = ap (is_in id) w.calls ∙ ap (λ (b : Bool). b || is_in id (call_ids (id + 1) os)) (eq-eqb id id refl) in
    record {
      may = ((is_waiting, omega (arith, w.ids), response_takes_some given.1), rest.may);
      none_pending = rest.none_pending;
      none_waits = rest.none_waits;
      below = rest.below;
    }
can_answer lane c s times issued id (RenewalAt time ∷ os) w d =
    let rest = can_answer lane (client_answered lane c (TokenFor id 0 (issued + 1) token_lifetime (first_time times))) s (behind_first times) (issued + 1)
    (id + 1) os
    (record {
      calls = w.calls;
      renewals = sym w.one.0;
      one = w.one.1;
      ids = omega (arith, w.ids);
      spare = omega (arith, w.spare);
      below =
          all-push (λ (token : ℕ). token ≤ issued + 1) c.tokens (issued + 1)
          (all-weaken (λ (token : ℕ). token ≤ issued) (λ (token : ℕ). token ≤ issued + 1) c.tokens (λ k le. omega (arith, le)) w.below) (omega arith);
    }) (dated_behind times d) in
    record {
      may = (
        (
          w.renewals ∙ ap (λ (ids : List ℕ). id ∷ ids) w.one.0,
          none_past issued c.tokens w.below,
          record {
            id_small = omega (arith, w.ids);
            handle_small = omega arith;
            token_small = omega (arith, w.ids, w.spare);
            lifetime_small = omega arith;
            moment_fits = dated_first times d;
          },
        ),
        rest.may,
      );
      none_pending = rest.none_pending;
      none_waits = rest.none_waits;
      below = rest.below;
    }

-- the token that is brought is the newest
pub brings : (n : ℕ) (s : State) (times : List DateTime) (issued id : ℕ) (os : List Outgoing) → n ≡ issued_behind issued os → HasOneRenewal id os
    → AllByRecursion (BringsToken n) (answers_to s times issued id os)
brings n s times issued id [] e one = tt
brings n s times issued id (CallWith body ∷ os) e one = (tt, brings n (answered s (first_time times) body).0 (behind_first times) issued (id + 1) os e one)
brings n s times issued id (RenewalAt time ∷ os) e one =
    (sym (e ∙ none_issued (issued + 1) (id + 1) os one.0), brings n s (behind_first times) (issued + 1) (id + 1) os e one.1)
  where
    none_issued : (issued id : ℕ) (os : List Outgoing) → renewal_ids id os ≡ [] → issued_behind issued os ≡ issued
    none_issued issued id [] h = refl
    none_issued issued id (CallWith body ∷ os) h = none_issued issued (id + 1) os h
    none_issued issued id (RenewalAt time ∷ os) h = absurd cc

-- Of which calls the answers to a turn tell.
use Rattle.std.proofs.Common.{◌≡◌, ◌⊎◌, inl, inr, ℕ, ◌+◌, ◌<◌, ◌≤◌, Bool, true, false, List, [], ◌∷◌}
use Rattle.std.proofs.Common.{◌++◌, length, map, refl, sym, ◌∙◌, ap, subst, arith}
use Rattle.std.specs.Prelude.{cond}
use Rattle.std.proofs.lemmas.Bool.{cases_lt}
use Rattle.ua_builtin.specs.declared.date_time.DateTime.{DateTime}
use Rattle.ua_chunk.specs.Cutting.{cut_refusal}
use Rattle.ua_chunk.specs.declared.lane.Lane.{Lane}
use Rattle.ua_channel.specs.ClientTold.{ClientTold}
use Rattle.ua_channel_laws.specs.Answers.{answers_told}
use Rattle.ua_channel_laws.specs.ClientReads.{told_reply}
use Rattle.ua_channel_laws.specs.Outgoing.Outgoing.{CallWith, RenewalAt}
use Rattle.ua_channel_laws.specs.Outgoing.{Outgoing}
use Rattle.ua_services.specs.Response.{response}
use Rattle.ua_services.specs.declared.response.Response.{Response}
use Rattle.ua_server.specs.Reply.{answered}
use Rattle.ua_server.specs.Said.{behind_first, first_time}
use Rattle.ua_server.specs.State.{State}
use Rattle.ua_client.specs.Told.{is_told_of, told_of}
use Rattle.ua_headline.specs.Talk.{answers_to}
use Rattle.ua_loopback.proofs.Replying.{of_itself, of_no_other}

pub skip : (k : ℕ) (x : ClientTold) (xs : List ClientTold) → is_told_of k x ≡ false → told_of k (x ∷ xs) ≡ told_of k xs
skip k x xs is = ap (λ (b : Bool). cond b (x ∷ told_of k xs) (told_of k xs)) is

some_one : (k : ℕ) (x : ClientTold) (xs : List ClientTold) → is_told_of k x ≡ true → 0 < length (told_of k (x ∷ xs))
some_one k x xs is = subst (λ (b : Bool). 0 < length (cond b (x ∷ told_of k xs) (told_of k xs))) (sym is) (omega arith)

some_more : (b : Bool) (x : ClientTold) (xs : List ClientTold) → 0 < length xs → 0 < length (cond b (x ∷ xs) xs)
some_more true x xs some = omega arith
some_more false x xs some = some

-- of none behind the turn
pub later_none : (lane : Lane) (s : State) (times : List DateTime) (issued id : ℕ) (os : List Outgoing) (k : ℕ) → id + length os ≤ k
    → told_of k (answers_told lane (answers_to s times issued id os)) ≡ []
later_none lane s times issued id [] k past = refl
later_none lane s times issued id (CallWith body ∷ os) k past =
    let given : State × Response = answered s (first_time times) body in
    let reply : List ℕ = response.canonical given.1 in
    skip k (told_reply (cut_refusal lane reply) id reply) (answers_told lane (answers_to given.0 (behind_first times) issued (id + 1) os))
    (of_no_other (cut_refusal lane reply) id k reply (λ e. omega (arith, past, e)))
    ∙ later_none lane given.0 (behind_first times) issued (id + 1) os k (omega (arith, past))
later_none lane s times issued id (RenewalAt time ∷ os) k past = later_none lane s (behind_first times) (issued + 1) (id + 1) os k (omega (arith, past))

-- of each call
pub each_told : (lane : Lane) (s : State) (times : List DateTime) (issued id : ℕ) (bodies : List (List ℕ)) (k : ℕ) → id ≤ k → k < id + length bodies
    → 0 < length (told_of k (answers_told lane (answers_to s times issued id (map CallWith bodies))))
each_told lane s times issued id [] k from to = absurd (omega (arith, from, to))
each_told lane s times issued id (body ∷ bodies) k from to =
    by (λ later. each_told lane given.0 (behind_first times) issued (id + 1) bodies k (omega (arith, later)) (omega (arith, to))) (cases_lt id k)
  where
    given : State × Response
    given = answered s (first_time times) body

    by : (id < k → 0 < length (told_of k (answers_told lane (answers_to given.0 (behind_first times) issued (id + 1) (map CallWith bodies)))))
        → ((id < k) ⊎ (k ≤ id))
        → 0 < length (told_of k (answers_told lane (answers_to s times issued id (map CallWith (body ∷ bodies)))))
    by rest (inl later) =
        some_more (is_told_of k (told_reply (cut_refusal lane (response.canonical given.1)) id (response.canonical given.1)))
        (told_reply (cut_refusal lane (response.canonical given.1)) id (response.canonical given.1))
        (told_of k (answers_told lane (answers_to given.0 (behind_first times) issued (id + 1) (map CallWith bodies)))) (rest later)
    by rest (inr here) =
        some_one k (told_reply (cut_refusal lane (response.canonical given.1)) id (response.canonical given.1))
        (answers_told lane (answers_to given.0 (behind_first times) issued (id + 1) (map CallWith bodies)))
        (of_itself (cut_refusal lane (response.canonical given.1)) id k (response.canonical given.1) (omega (arith, from, here)))

-- nothing of a call before the last
pub record LastOwn (k : ℕ) (told : List ClientTold) : Type 0 where
  pub front : List ClientTold
  pub last : ClientTold
  pub parts : told ≡ front ++ last ∷ []
  pub none : told_of k front ≡ []

pub last_told : (lane : Lane) (s : State) (times : List DateTime) (issued id : ℕ) (body : List ℕ) (bodies : List (List ℕ)) (k : ℕ) → k ≡ id + length bodies
    → LastOwn k (answers_told lane (answers_to s times issued id (map CallWith (body ∷ bodies))))
last_told lane s times issued id body [] k e = record { front = []; last = _; parts = refl; none = refl }
last_told lane s times issued id body (next ∷ bodies) k e =
    let given : State × Response = answered s (first_time times) body in
    let reply : List ℕ = response.canonical given.1 in
    let x : ClientTold = told_reply (cut_refusal lane reply) id reply in
    let rest = last_told lane given.0 (behind_first times) issued (id + 1) next bodies k (omega (arith, e)) in
    record {
      front = x ∷ rest.front;
      last = rest.last;
      parts = ap (λ (ts : List ClientTold). x ∷ ts) rest.parts;
      none = skip k x rest.front (of_no_other (cut_refusal lane reply) id k reply (λ same. omega (arith, e, same))) ∙ rest.none;
    }

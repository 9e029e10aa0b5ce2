-- What becomes of requests: each is answered in the state that those before it left, and its reply is the one that is read of that answer.
use Rattle.std.proofs.Common.{◌≡◌, inl, inr, ℕ, zero, suc, ◌+◌, Bool, true, false, IsTrue, Ok, Result, List, [], ◌∷◌, ◌++◌, Option, Some}
use Rattle.std.proofs.Common.{None, length, map, refl, sym, ◌∙◌, ap, subst, add-zero, arith, append-nil, append_assoc, length-append}
use Rattle.std.specs.Prelude.{cond}
use Rattle.std.specs.List.{AllByRecursion}
use Rattle.std.proofs.lemmas.Bool.{eq-eqb, ne_eqb}
use Rattle.std.proofs.lemmas.List.{length-map}
use Rattle.ua_builtin.specs.Status.{of_code}
use Rattle.ua_builtin.specs.declared.date_time.DateTime.{DateTime}
use Rattle.ua_builtin.specs.declared.status_code.StatusCode.{StatusCode}
use Rattle.ua_chunk.proofs.Lists.{filter_append}
use Rattle.ua_chunk.specs.Cutting.{cut_refusal}
use Rattle.ua_chunk.specs.declared.fault.CutFault.{CutFault}
use Rattle.ua_chunk.specs.declared.lane.Lane.{Lane}
use Rattle.ua_channel_laws.specs.ClientReads.{told_reply}
use Rattle.ua_channel.specs.ClientTold.{ClientTold as Heard, ClientTold as heard}
use Rattle.ua_channel.specs.ServerTold.{Told, Agreed, Opened, Asked, GaveUp, Closed}
use Rattle.ua_opening.proofs.BodyLaws.{body_reads_back}
use Rattle.ua_services.proofs.RequestLawful.{lawful_request}
use Rattle.ua_services.proofs.RequestRead.{request_read-found}
use Rattle.ua_services.proofs.ResponseRead.{response_read-found}
use Rattle.ua_services.specs.Request.{kind_of_request, request, request_read}
use Rattle.ua_services.specs.Response.{response, response_read}
use Rattle.ua_services.specs.declared.fault.RequestFault.{RequestFault}
use Rattle.ua_services.specs.declared.request.Request.{Request}
use Rattle.ua_services.specs.declared.request.RequestKind.{RequestKind}
use Rattle.ua_services.specs.declared.response.Response.{Response}
use Rattle.ua_server.specs.Answer.{answer}
use Rattle.ua_server.specs.Reply.{answered, answered_by}
use Rattle.ua_server.specs.Said.{Course, behind_first, first_time, state_after, course_after, say, start, used_in, with_more}
use Rattle.ua_server.specs.State.{State}
use Rattle.ua_server.proofs.SaidInParts.{used_in-append}
use Rattle.ua_client.specs.Replies.{AreReplies, IsRequestAt, IsMisanswer, IsNoAnswer, IsReplyBy}
use Rattle.ua_client.specs.Sent.{bodies_of}
use Rattle.ua_client.specs.Told.{is_told_of, told_of}
use Rattle.ua_client.specs.declared.reply.Reply.{Reply}
use Rattle.ua_client.specs.declared.reply.Reply.TheVariants as reply
use Rattle.ua_loopback.specs.Beginning.{Beginning}
use Rattle.ua_loopback.specs.Replies.{HaveMisanswer, reply_read, reply_unless, requests_replies, state_behind_requests}
use Rattle.ua_loopback.specs.Says.{answer_times, state_told, times_from}
use Rattle.ua_loopback.specs.Turns.{calls_told}
use Rattle.ua_loopback.proofs.Answering.{answer_told, answers_told}
use Rattle.ua_loopback.proofs.Saying.{later_times, left_on}

-- each of the requests can be encoded
abbrev pub AreWritable : List Request → Type 0
AreWritable requests = AllByRecursion (λ (m : Request). IsTrue (request.encodable m)) requests

-- a request is read as it was written
reads_back : (m : Request) → IsTrue (request.encodable m) → request_read (request.canonical m) ≡ Ok m
reads_back m fits = (request_read-found (request.canonical m) m).1 (body_reads_back request lawful_request m fits).0

pub answered_is : (s : State) (moment : DateTime) (m : Request) → IsTrue (request.encodable m) → answered s moment (request.canonical m) ≡ answer s moment m
answered_is s moment m fits = ap (λ (r : Result Request RequestFault). answered_by r s moment) (reads_back m fits)

-- ---- moments

none_used : (n : ℕ) → 0 + n ≡ n
none_used n = omega arith

one_used : (n : ℕ) → 1 + n ≡ suc n
one_used n = omega arith

one_on : (j n : ℕ) → j + suc n ≡ (j + 1) + n
one_on j n = omega arith

-- where there is a moment for each answer, these are left
moments_left : (channel : ℕ) (c : Course) (told : List Told) (f : ℕ → DateTime) (j : ℕ) (rest : List DateTime)
    → c.moments ≡ times_from f j (used_in told) ++ rest
    → (course_after channel c told).moments ≡ rest
moments_left channel c [] f j rest e = e
moments_left channel c (Agreed g ∷ told) f j rest e = moments_left channel (say channel c (Agreed g)).1 told f j rest
    (subst (λ (n : ℕ). c.moments ≡ times_from f j n ++ rest) (none_used (used_in told)) e)
moments_left channel c (Opened id handle token lifetime ∷ told) f j rest e =
    moments_left channel (say channel c (Opened id handle token lifetime)).1 told f (j + 1) rest
    (ap behind_first (subst (λ (n : ℕ). c.moments ≡ times_from f j n ++ rest) (one_used (used_in told)) e))
moments_left channel c (Asked id token octets ∷ told) f j rest e =
    moments_left channel (say channel c (Asked id token octets)).1 told f (j + 1) rest
    (ap behind_first (subst (λ (n : ℕ). c.moments ≡ times_from f j n ++ rest) (one_used (used_in told)) e))
moments_left channel c (GaveUp id ∷ told) f j rest e = moments_left channel (say channel c (GaveUp id)).1 told f j rest
    (subst (λ (n : ℕ). c.moments ≡ times_from f j n ++ rest) (none_used (used_in told)) e)
moments_left channel c (Closed ∷ told) f j rest e = moments_left channel (say channel c Closed).1 told f j rest
    (subst (λ (n : ℕ). c.moments ≡ times_from f j n ++ rest) (none_used (used_in told)) e)

pub none_left : (channel : ℕ) (first : State) (told : List Told) (moments : ℕ → DateTime)
    → (state_after channel first told (answer_times told moments)).moments ≡ []
unfolding state_after
none_left channel first told moments = moments_left channel (start first (answer_times told moments)) told moments 0 []
    (sym (append-nil (answer_times told moments)))

pub calls_used : (token id : ℕ) (bodies : List (List ℕ)) → used_in (calls_told token id bodies) ≡ length bodies
calls_used token id [] = refl
calls_used token id (body ∷ bodies) = let more = calls_used token (id + 1) bodies in omega (arith, more)

-- the answers behind calls of these requests
pub used_behind : (told : List Told) (token id : ℕ) (ms : List Request) → used_in (told ++ calls_told token id (bodies_of ms)) ≡ used_in told + length ms
used_behind told token id ms = omega (
  arith,
  used_in-append told (calls_told token id (bodies_of ms)),
  calls_used token id (bodies_of ms),
  length-map ms request.canonical,
)

-- ---- states

calls_state : (channel : ℕ) (c : Course) (token id : ℕ) (ms : List Request) (f : ℕ → DateTime) (j : ℕ) (rest : List DateTime) → AreWritable ms
    → c.moments ≡ times_from f j (length ms) ++ rest
    → (course_after channel c (calls_told token id (bodies_of ms))).state ≡ state_behind_requests c.state f j ms
calls_state channel c token id [] f j rest fits e = refl
calls_state channel c token id (msg ∷ ms) f j rest fits e =
    let next : Course = (say channel c (Asked id token (request.canonical msg))).1 in
    calls_state channel next token (id + 1) ms f (j + 1) rest fits.1 (ap behind_first e)
    ∙ (ap (λ (t : DateTime). state_behind_requests (answered c.state t (request.canonical msg)).0 f (j + 1) ms) (ap first_time e)
    ∙ ap (λ (g : State × Response). state_behind_requests g.0 f (j + 1) ms) (answered_is c.state (f j) msg fits.0))

-- the moments that are there behind what was told, with those for these calls
pub moments_there : (b : Beginning) (told : List Told) (token id : ℕ) (bodies : List (List ℕ))
    → (state_after b.channel b.first told (answer_times told b.moments)).moments ++ later_times told (calls_told token id bodies) b.moments
    ≡ times_from b.moments (used_in told) (length bodies) ++ []
moments_there b told token id bodies =
    ap (λ (ms : List DateTime). ms ++ later_times told (calls_told token id bodies) b.moments) (none_left b.channel b.first told b.moments)
    ∙ (ap (λ (n : ℕ). times_from b.moments (used_in told) n) (calls_used token id bodies)
    ∙ sym (append-nil (times_from b.moments (used_in told) (length bodies))))

pub state_calls : (b : Beginning) (told : List Told) (token id : ℕ) (ms : List Request) → AreWritable ms
    → state_told b (told ++ calls_told token id (bodies_of ms)) ≡ state_behind_requests (state_told b told) b.moments (used_in told) ms
state_calls b told token id ms fits =
    ap (λ (k : Course). k.state) (left_on b told (calls_told token id (bodies_of ms)))
    ∙ calls_state b.channel
    (with_more (state_after b.channel b.first told (answer_times told b.moments)) (later_times told (calls_told token id (bodies_of ms)) b.moments)) token
    id ms b.moments (used_in told) [] fits
    (moments_there b told token id (bodies_of ms) ∙ ap (λ (n : ℕ). times_from b.moments (used_in told) n ++ []) (length-map ms request.canonical))

pub state_renewal : (b : Beginning) (told : List Told) (id handle token lifetime : ℕ) → state_told b (told ++ Opened id handle token lifetime ∷ [])
    ≡ state_told b told
state_renewal b told id handle token lifetime = ap (λ (k : Course). k.state) (left_on b told (Opened id handle token lifetime ∷ []))

pub state_closed : (b : Beginning) (told : List Told) → state_told b (told ++ Closed ∷ []) ≡ state_told b told
state_closed b told = ap (λ (k : Course). k.state) (left_on b told (Closed ∷ []))

-- ---- replies

only_one : {A : Type 0} (us ws : List A) (x t : A) → us ++ (x ∷ ws) ≡ t ∷ [] → t ≡ x
only_one [] ws x t e = cc
only_one (u ∷ us) ws x t e = absurd (omega (arith, ap length e, length-append us (x ∷ ws)))

told_one : (id : ℕ) (before behind : List Heard) (x t : Heard) → is_told_of id x ≡ true → told_of id (before ++ (x ∷ behind)) ≡ t ∷ [] → t ≡ x
told_one id before behind x t is e =
    only_one (told_of id before) (told_of id behind) x t
    (ap (λ (b : Bool). told_of id before ++ cond b (x ∷ told_of id behind) (told_of id behind)) (sym is)
    ∙ (sym (filter_append (is_told_of id) before (x ∷ behind)) ∙ e))

is_of : (o : Option CutFault) (id : ℕ) (body : List ℕ) → is_told_of id (told_reply o id body) ≡ true
is_of None id body = eq-eqb id id refl
is_of (Some fault) id body = eq-eqb id id refl

read_as : (kind : RequestKind) (id other : ℕ) (body octets : List ℕ) (m : Response) → ◌≡◌ {A = Heard} (heard.Answered id body) (heard.Answered other octets)
    → response_read octets ≡ Ok m → Some (reply.Response m) ≡ reply_read (response_read body)
read_as kind id other body octets m e r =
    let same : octets ≡ body = cc in
    sym (ap (λ (o : List ℕ). reply_read (response_read o)) (sym same) ∙ ap reply_read r)

-- the reply that was told is the one that is read of the answer
reply_is : (o : Option CutFault) (kind : RequestKind) (id : ℕ) (body : List ℕ) (r : Reply) → IsReplyBy kind id (told_reply o id body) r
    → Some r ≡ reply_unless o body
reply_is None kind id body (reply.Response m) h = read_as kind id id body h.0 m h.1 ((response_read-found h.0 m).1 h.2.0)
reply_is None kind id body (reply.Aborted code) h = let no : ◌≡◌ {A = Heard} (heard.Answered id body) (heard.GaveUp id code) = h in absurd cc
reply_is (Some fault) kind id body (reply.Response m) h = let no : ◌≡◌ {A = Heard} (heard.GaveUp id (of_code 0x80B9_0000)) (heard.Answered id h.0) =
    h.1 in absurd cc
reply_is (Some fault) kind id body (reply.Aborted code) h =
    let e : ◌≡◌ {A = Heard} (heard.GaveUp id (of_code 0x80B9_0000)) (heard.GaveUp id code) = h in
    let same : code ≡ of_code 0x80B9_0000 = cc in
    ap (λ (c : StatusCode). Some (reply.Aborted c)) same

pub replies_are : (back : Lane) (state : State) (moments : List DateTime) (id : ℕ) (ms : List Request) (f : ℕ → DateTime) (j : ℕ)
    (rest : List DateTime) (before all : List Heard) (replies : List Reply) → AreWritable ms → moments ≡ times_from f j (length ms) ++ rest
    → all ≡ before ++ answers_told back state moments id (bodies_of ms) → AreReplies ms id all replies
    → map (λ (r : Reply). Some r) replies ≡ requests_replies back state f j ms
replies_are back state moments id [] f j rest before all [] fits e is h = refl
replies_are back state moments id [] f j rest before all (r ∷ rs) fits e is h = absurd h
replies_are back state moments id (msg ∷ ms) f j rest before all [] fits e is h = absurd h
replies_are back state moments id (msg ∷ ms) f j rest before all (r ∷ rs) fits e is h =
    let given : State × Response = answered state (first_time moments) (request.canonical msg) in
    let x : Heard = answer_told back id given.1 in
    let behind : List Heard = answers_told back given.0 (behind_first moments) (id + 1) (bodies_of ms) in
    let body : List ℕ = response.canonical given.1 in
    let same : h.0.0 ≡ x = told_one id before behind x h.0.0 (is_of (cut_refusal back body) id body) (ap (told_of id) (sym is) ∙ h.0.1) in
    let one : Some r ≡ reply_unless (cut_refusal back body) body = reply_is (cut_refusal back body) (kind_of_request msg) id body r
    (subst (λ (t : Heard). IsReplyBy (kind_of_request msg) id t r) same h.0.2) in
    let given_is : given ≡ answer state (f j) msg = ap (λ (t : DateTime). answered state t (request.canonical msg)) (ap first_time e)
    ∙ answered_is state (f j) msg fits.0 in
    let later = replies_are back given.0 (behind_first moments) (id + 1) ms f (j + 1) rest (before ++ x ∷ []) all rs fits.1 (ap behind_first e)
    (is ∙ sym (append_assoc before (x ∷ []) behind)) h.1 in
    ap (λ (o : Option Reply). o ∷ map (λ (s : Reply). Some s) rs) one
    ∙ (ap (λ (os : List (Option Reply)). reply_unless (cut_refusal back body) body ∷ os) later
    ∙ ap (λ (g : State × Response). reply_unless (cut_refusal back (response.canonical g.1)) (response.canonical g.1) ∷ requests_replies back g.0 f (j + 1) ms)
    given_is)

-- ---- answers that are none

-- the first that is told of a call
pub picks : (k : ℕ) (us : List Heard) (t : Heard) (ws : List Heard) → told_of k us ≡ [] → is_told_of k t ≡ true → told_of k (us ++ t ∷ ws) ≡ t ∷ told_of k ws
picks k us t ws none is =
    filter_append (is_told_of k) us (t ∷ ws)
    ∙ (ap (λ (ts : List Heard). ts ++ told_of k (t ∷ ws)) none ∙ ap (λ (b : Bool). cond b (t ∷ told_of k ws) (told_of k ws)) is)

passes : (k : ℕ) (us : List Heard) (t : Heard) → told_of k us ≡ [] → is_told_of k t ≡ false → told_of k (us ++ t ∷ []) ≡ []
passes k us t none is =
    filter_append (is_told_of k) us (t ∷ []) ∙ (ap (λ (ts : List Heard). ts ++ told_of k (t ∷ [])) none ∙ ap (λ (b : Bool). cond b (t ∷ []) []) is)

pub of_itself : (o : Option CutFault) (id k : ℕ) (body : List ℕ) → k ≡ id → is_told_of k (told_reply o id body) ≡ true
of_itself None id k body e = eq-eqb id k (sym e)
of_itself (Some fault) id k body e = eq-eqb id k (sym e)

pub of_no_other : (o : Option CutFault) (id k : ℕ) (body : List ℕ) → (id ≡ k → ⊥) → is_told_of k (told_reply o id body) ≡ false
of_no_other None id k body e = ne_eqb id k e
of_no_other (Some fault) id k body e = ne_eqb id k e

first_is : (us ws : List Heard) (t u : Heard) → t ∷ us ≡ u ∷ ws → t ≡ u
first_is us ws t u e = cc

answered_by_it : (o : Option CutFault) (id k : ℕ) (body octets : List ℕ) → told_reply o id body ≡ heard.Answered k octets → octets ≡ body
answered_by_it None id k body octets e = cc
answered_by_it (Some fault) id k body octets e = let no : ◌≡◌ {A = Heard} (heard.GaveUp id (of_code 0x80B9_0000)) (heard.Answered k octets) = e in absurd cc

-- a message that is told of one of these requests and is no answer to it is the answer of the server
pub misanswered_at : (back : Lane) (state : State) (moments : List DateTime) (id k : ℕ) (ms : List Request) (f : ℕ → DateTime) (j : ℕ) (rest : List DateTime)
    (before all : List Heard) (place : ℕ) (asked : Request) (us : List Heard) (last : Heard) (ws : List Heard)
    → AreWritable ms → moments ≡ times_from f j (length ms) ++ rest → all ≡ before ++ answers_told back state moments id (bodies_of ms) → k ≡ id + place
    → told_of k before ≡ [] → IsRequestAt ms place asked
    → all ≡ us ++ last ∷ ws → told_of k us ≡ [] → IsMisanswer (kind_of_request asked) k last → HaveMisanswer state f j ms
misanswered_at back state moments id k [] f j rest before all place asked us last ws fits e is k_is none at parts first h = absurd at
misanswered_at back state moments id k (msg ∷ ms) f j rest before all zero asked us last ws fits e is k_is none at parts first h =
    let given : State × Response = answered state (first_time moments) (request.canonical msg) in
    let body : List ℕ = response.canonical given.1 in
    let x : Heard = answer_told back id given.1 in
    let behind : List Heard = answers_told back given.0 (behind_first moments) (id + 1) (bodies_of ms) in
    let given_is : given ≡ answer state (f j) msg = ap (λ (t : DateTime). answered state t (request.canonical msg)) (ap first_time e)
    ∙ answered_is state (f j) msg fits.0 in
    let here : told_of k all ≡ x ∷ told_of k behind = ap (told_of k) is
    ∙ picks k before x behind none (of_itself (cut_refusal back body) id k body (omega (arith, k_is))) in
    let there : told_of k all ≡ last ∷ told_of k ws = ap (told_of k) parts ∙ picks k us last ws first (ap (is_told_of k) h.1 ∙ eq-eqb k k refl) in
    let same : x ≡ last = first_is (told_of k behind) (told_of k ws) x last (sym here ∙ there) in
    inl (
      fits.0,
      subst (λ (g : State × Response). IsNoAnswer (kind_of_request msg) (response.canonical g.1)) given_is
          (subst (λ (o : List ℕ). IsNoAnswer (kind_of_request msg) o) (answered_by_it (cut_refusal back body) id k body h.0 (same ∙ h.1))
          (subst (λ (r : Request). IsNoAnswer (kind_of_request r) h.0) at h.2)),
    )
misanswered_at back state moments id k (msg ∷ ms) f j rest before all (suc n) asked us last ws fits e is k_is none at parts first h =
    let given : State × Response = answered state (first_time moments) (request.canonical msg) in
    let body : List ℕ = response.canonical given.1 in
    let x : Heard = answer_told back id given.1 in
    let behind : List Heard = answers_told back given.0 (behind_first moments) (id + 1) (bodies_of ms) in
    let given_is : given ≡ answer state (f j) msg = ap (λ (t : DateTime). answered state t (request.canonical msg)) (ap first_time e)
    ∙ answered_is state (f j) msg fits.0 in
    let later = misanswered_at back given.0 (behind_first moments) (id + 1) k ms f (j + 1) rest (before ++ x ∷ []) all n asked us last ws fits.1
    (ap behind_first e)
    (is ∙ sym (append_assoc before (x ∷ []) behind)) (omega (arith, k_is))
    (passes k before x none (of_no_other (cut_refusal back body) id k body (λ same. omega (arith, same, k_is)))) at parts first h in
    inr (subst (λ (g : State × Response). HaveMisanswer g.0 f (j + 1) ms) given_is later)

-- the same by the answers to requests behind others
pub misanswered_behind : (s : State) (f : ℕ → DateTime) (j : ℕ) (ms ns : List Request)
    → HaveMisanswer (state_behind_requests s f j ms) f (j + length ms) ns → HaveMisanswer s f j (ms ++ ns)
misanswered_behind s f j [] ns h = subst (λ (n : ℕ). HaveMisanswer s f n ns) (add-zero j) h
misanswered_behind s f j (r ∷ ms) ns h =
    inr (misanswered_behind (answer s (f j) r).0 f (j + 1) ms ns
    (subst (λ (n : ℕ). HaveMisanswer (state_behind_requests (answer s (f j) r).0 f (j + 1) ms) f n ns) (one_on j (length ms)) h))

pub misanswered_among : (s : State) (f : ℕ → DateTime) (j : ℕ) (ms ns : List Request) → HaveMisanswer s f j ms → HaveMisanswer s f j (ms ++ ns)
misanswered_among s f j [] ns h = absurd h
misanswered_among s f j (r ∷ ms) ns (inl h) = inl h
misanswered_among s f j (r ∷ ms) ns (inr h) = inr (misanswered_among (answer s (f j) r).0 f (j + 1) ms ns h)

-- ---- requests behind others

pub replies-append : (back : Lane) (s : State) (f : ℕ → DateTime) (j : ℕ) (ms ns : List Request) → requests_replies back s f j (ms ++ ns)
    ≡ requests_replies back s f j ms ++ requests_replies back (state_behind_requests s f j ms) f (j + length ms) ns
replies-append back s f j [] ns = ap (λ (n : ℕ). requests_replies back s f n ns) (sym (add-zero j))
replies-append back s f j (m ∷ ms) ns =
    let next : State = (answer s (f j) m).0 in
    ap (λ (os : List (Option Reply)). reply_unless (cut_refusal back (response.canonical (answer s (f j) m).1)) (response.canonical (answer s (f j) m).1)
    ∷ os)
    (replies-append back next f (j + 1) ms ns
    ∙ ap (λ (n : ℕ). requests_replies back next f (j + 1) ms ++ requests_replies back (state_behind_requests next f (j + 1) ms) f n ns)
    (sym (one_on j (length ms))))

pub some-append : (xs ys : List Reply) → map (λ (r : Reply). Some r) (xs ++ ys) ≡ map (λ (r : Reply). Some r) xs ++ map (λ (r : Reply). Some r) ys
some-append [] ys = refl
some-append (x ∷ xs) ys = ap (λ (os : List (Option Reply)). Some x ∷ os) (some-append xs ys)

-- What a group of calls sends, one call behind another.
use Rattle.std.specs.Prelude.{◌≡◌, ℕ, ◌+◌, ◌≤◌, ◌<◌, List, [], ◌∷◌, ◌++◌, length, take, drop, unwrap_or, Option, Some, None}
use Rattle.std.proofs.Common.{refl, sym, ◌∙◌, ap, subst, append_assoc, append-nil, arith, add-zero, get_or, zero, suc}
use Rattle.std.proofs.lemmas.List.{length-append}
use Rattle.ua_frame.specs.declared.frame.Frame.{Frame}
use Rattle.ua_frame.specs.declared.limits.Limits.{Limits}
use Rattle.ua_chunk.specs.declared.lane.Lane.{Lane}
use Rattle.ua_channel.specs.Asks.{Asking, Placed, asked_in, next_id}
use Rattle.ua_channel.specs.Asks.Asking.{Call}
use Rattle.ua_channel.specs.Client.{ClientStands, SameClient, InPhase, IsCall, client_limits, phase_of, client_next}
use Rattle.ua_channel_laws.specs.Outgoing.{call_octets, number_behind}
use Rattle.ua_channel.specs.Received.{Received, received}
use Rattle.ua_channel.specs.declared.client.asked_call.AskedCall.{AskedCall}
use Rattle.ua_channel.specs.declared.client.channel.ClientChannel.{ClientChannel}
use Rattle.ua_channel.specs.declared.client.phase.Phase.{Phase}
use Rattle.ua_channel.specs.declared.client.phase.Phase.TheVariants.{Waiting, Agreed, Open, Done}
use Rattle.ua_client.proofs.Lanes.{lane-talks}
use Rattle.ua_client.specs.ClientPlace.{lane_behind}
use Rattle.ua_client.specs.Sent.{calls_octets, numbers_behind, calls_at, asked_len, AsksGroup, AsksFrom}

-- ---- one call

-- what one call sends
pub record SendsCall (before : Received) (asked : List Asking) (number : ℕ) (body : List ℕ) (id : ℕ) (out : List ℕ) (next : ℕ) : Type 0 where
  pub id_is : id ≡ next_id asked
  pub out_is : out ≡ call_octets (lane_behind before) number id body
  pub next_is : next ≡ number_behind (lane_behind before) number body

sends-in : (limits : Limits) (p : Phase) (before : Received) (asked : List Asking) (number : ℕ) (body : List ℕ) (id : ℕ) (out : List ℕ) (next : ℕ)
    → InPhase limits p before asked → IsCall p number body id out next → SendsCall before asked number body id out next
sends-in limits Waiting before asked number body id out next h s = absurd s
sends-in limits (Agreed a) before asked number body id out next h s = absurd s
sends-in limits (Open t) before asked number body id out next h s = record {
  id_is = s.id_is ∙ h.next_is;
  out_is = s.out_is ∙ ap (λ (l : Option Lane). call_octets l number id body) (sym (lane-talks limits t before asked h));
  next_is = s.next_is ∙ ap (λ (l : Option Lane). number_behind l number body) (sym (lane-talks limits t before asked h));
}
sends-in limits Done before asked number body id out next h s = absurd s

pub sends-call : (x : ClientChannel) (asks : List Placed) (octets : List ℕ) (frames : List Frame) (rest : List ℕ) (number : ℕ) (body : List ℕ) (id : ℕ)
    (out : List ℕ) (next : ℕ)
    → ClientStands x asks octets frames rest → IsCall (phase_of x) number body id out next → SendsCall (received frames) (asked_in asks) number body id out next
sends-call x asks octets frames rest number body id out next s h = sends-in (client_limits x) (phase_of x) (received frames) (asked_in asks) number body id out
    next s.phase_is h

-- ---- one call more

calls-push : (place id : ℕ) (bodies : List (List ℕ)) (body : List ℕ) → calls_at place id (bodies ++ body ∷ []) ≡ calls_at place id bodies
    ++ (place, Call (id + length bodies)) ∷ []
calls-push place id [] body = ap (λ (n : ℕ). (place, Call n) ∷ []) (sym (add-zero id))
calls-push place id (b ∷ bodies) body =
    ap (λ (xs : List Placed). (place, Call id) ∷ xs) (calls-push place (id + 1) bodies body
    ∙ ap (λ (n : ℕ). calls_at place (id + 1) bodies ++ (place, Call n) ∷ []) (on id (length bodies)))
  where
    on : (a b : ℕ) → (a + 1) + b ≡ a + suc b
    on a b = omega arith

numbers-push : (lane : Option Lane) (number : ℕ) (bodies : List (List ℕ)) (body : List ℕ) → numbers_behind lane number (bodies ++ body ∷ [])
    ≡ number_behind lane (numbers_behind lane number bodies) body
numbers-push lane number [] body = refl
numbers-push lane number (b ∷ bodies) body = numbers-push lane (number_behind lane number b) bodies body

octets-push : (lane : Option Lane) (number id : ℕ) (bodies : List (List ℕ)) (body : List ℕ)
    → calls_octets lane number id (bodies ++ body ∷ []) ≡ calls_octets lane number id bodies ++ call_octets lane (numbers_behind lane number bodies)
    (id + length bodies) body
octets-push lane number id [] body = append-nil (call_octets lane number id body) ∙ ap (λ (n : ℕ). call_octets lane number n body) (sym (add-zero id))
octets-push lane number id (b ∷ bodies) body =
    ap (λ (o : List ℕ). call_octets lane number id b ++ o)
    (octets-push lane (number_behind lane number b) (id + 1) bodies body
    ∙ ap (λ (n : ℕ). calls_octets lane (number_behind lane number b) (id + 1) bodies
    ++ call_octets lane (numbers_behind lane (number_behind lane number b) bodies) n body) (on id (length bodies)))
    ∙ sym (append_assoc (call_octets lane number id b) (calls_octets lane (number_behind lane number b) (id + 1) bodies)
    (call_octets lane (numbers_behind lane (number_behind lane number b) bodies) (id + suc (length bodies)) body))
  where
    on : (a b : ℕ) → (a + 1) + b ≡ a + suc b
    on a b = omega arith

length-calls : (place id : ℕ) (bodies : List (List ℕ)) → length (calls_at place id bodies) ≡ length bodies
length-calls place id [] = refl
length-calls place id (b ∷ bodies) = ap suc (length-calls place (id + 1) bodies)

length-asked : (asks : List Placed) → length (asked_in asks) ≡ length asks
unfolding asked_in
length-asked [] = refl
length-asked (a ∷ asks) = ap suc (length-asked asks)

pub next-calls : (asks : List Placed) (place id : ℕ) (bodies : List (List ℕ)) → next_id (asked_in (asks ++ calls_at place id bodies)) ≡ next_id (asked_in asks)
    + length bodies
next-calls asks place id bodies =
    let all = length-asked (asks ++ calls_at place id bodies) in
    let sum = length-append asks (calls_at place id bodies) in
    let more = length-calls place id bodies in
    let some = length-asked asks in
    omega (arith, all, sum, more, some)

pub asks-more : (bodies : List (List ℕ)) (body : List ℕ) (old mid new : ClientChannel) (asks : List Placed) (octets : List ℕ) (frames : List Frame)
    (rest out : List ℕ) (id : ℕ) (more : List ℕ)
    → AsksGroup bodies old mid asks octets frames rest out
    → ((xs : List Placed) (o : List ℕ) (fs : List Frame) (r : List ℕ) → ClientStands mid xs o fs r → ClientStands new (xs ++ (length o, Call id) ∷ []) o fs r)
    → IsCall (phase_of mid) (client_next mid) body id more (client_next new)
    → AsksGroup (bodies ++ body ∷ []) old new asks octets frames rest (out ++ more)
asks-more bodies body old mid new asks octets frames rest out id more g stands sent =
    let first : ℕ = next_id (asked_in asks) in
    let here : List Placed = calls_at (length octets) first bodies in
    let lane : Option Lane = lane_behind (received frames) in
    let s = sends-call mid (asks ++ here) octets frames rest (client_next mid) body id more (client_next new) g.stands sent in
    let id_is : id ≡ first + length bodies = s.id_is ∙ next-calls asks (length octets) first bodies in
    record {
      stands = subst (λ (xs : List Placed). ClientStands new xs octets frames rest)
          (append_assoc asks here ((length octets, Call id) ∷ [])
          ∙ ap (λ (xs : List Placed). asks ++ xs) (ap (λ (n : ℕ). here ++ (length octets, Call n) ∷ []) id_is
          ∙ sym (calls-push (length octets) first bodies body)))
          (stands (asks ++ here) octets frames rest g.stands);
      out_is = ap (λ (o : List ℕ). o ++ more) g.out_is
          ∙ (ap (λ (o : List ℕ). calls_octets lane (client_next old) first bodies ++ o)
          (s.out_is
          ∙ (ap (λ (n : ℕ). call_octets lane n id body) g.next_is
          ∙ ap (λ (n : ℕ). call_octets lane (numbers_behind lane (client_next old) bodies) n body) id_is))
          ∙ sym (octets-push lane (client_next old) first bodies body));
      next_is = s.next_is ∙ (ap (λ (n : ℕ). number_behind lane n body) g.next_is ∙ sym (numbers-push lane (client_next old) bodies body));
    }

-- the request id of the first
pub first-id : (bodies : List (List ℕ)) (old mid : ClientChannel) (asks : List Placed) (octets : List ℕ) (frames : List Frame) (rest out : List ℕ) (number : ℕ)
    (body : List ℕ) (id : ℕ) (more : List ℕ) (next : ℕ)
    → AsksGroup bodies old mid asks octets frames rest out → length bodies ≡ 0 → IsCall (phase_of mid) number body id more next → id ≡ next_id (asked_in asks)
first-id bodies old mid asks octets frames rest out number body id more next g none sent =
    let s = sends-call mid (asks ++ calls_at (length octets) (next_id (asked_in asks)) bodies) octets frames rest number body id more next g.stands sent in
    let n = next-calls asks (length octets) (next_id (asked_in asks)) bodies in
    let i = s.id_is in
    omega (arith, i, n, none)

-- ---- a group

-- the request id of the first, if there is one
abbrev pub IsFirst : Option ℕ → ℕ → List (List ℕ) → Type 0
IsFirst first id [] = first ≡ None
IsFirst first id (body ∷ bodies) = first ≡ Some id

first-more : (bodies : List (List ℕ)) (body : List ℕ) (first : Option ℕ) (id next : ℕ) → IsFirst first next bodies → (length bodies ≡ 0 → id ≡ next)
    → IsFirst (Some (unwrap_or first id)) next (bodies ++ body ∷ [])
first-more [] body first id next h k = ap (λ (o : Option ℕ). Some (unwrap_or o id)) h ∙ ap (λ (n : ℕ). Some n) (k refl)
first-more (b ∷ bodies) body first id next h k = ap (λ (o : Option ℕ). Some (unwrap_or o id)) h

-- these bodies are asked
pub record Asked (bodies : List (List ℕ)) (old now : ClientChannel) (out : List ℕ) (first : Option ℕ) : Type 0 where
  pub asks : (xs : List Placed) (os : List ℕ) (fs : List Frame) (r : List ℕ) → ClientStands old xs os fs r → AsksGroup bodies old now xs os fs r out
      × IsFirst first (next_id (asked_in xs)) bodies
  pub same : SameClient old now

pub asked-more : (bodies : List (List ℕ)) (body : List ℕ) (old mid new : ClientChannel) (out : List ℕ) (first : Option ℕ) (id : ℕ) (more : List ℕ)
    → Asked bodies old mid out first
    → ((xs : List Placed) (os : List ℕ) (fs : List Frame) (r : List ℕ) → ClientStands mid xs os fs r
    → ClientStands new (xs ++ (length os, Call id) ∷ []) os fs r)
    → IsCall (phase_of mid) (client_next mid) body id more (client_next new) → SameClient mid new
    → Asked (bodies ++ body ∷ []) old new (out ++ more) (Some (unwrap_or first id))
asked-more bodies body old mid new out first id more a stands sent same = record {
  asks = λ xs os fs r s.
      let g = a.asks xs os fs r s in (
        asks-more bodies body old mid new xs os fs r out id more g.0 stands sent,
        first-more bodies body first id (next_id (asked_in xs)) g.1
            (λ none. first-id bodies old mid xs os fs r out (client_next mid) body id more (client_next new) g.0 none sent),
      );
  same = record { limits = a.same.limits ∙ same.limits; url = a.same.url ∙ same.url };
}

first-is : (bodies : List (List ℕ)) (first : Option ℕ) (id : ℕ) → IsFirst first id bodies → 0 < length bodies → unwrap_or first 0 ≡ id
first-is [] first id h some = absurd (omega (arith, some))
first-is (b ∷ bodies) first id h some = ap (λ (o : Option ℕ). unwrap_or o 0) h

pub asked-all : (bodies all : List (List ℕ)) (old now : ClientChannel) (out : List ℕ) (first : Option ℕ) → Asked bodies old now out first → bodies ≡ all
    → (xs : List Placed) (os : List ℕ) (fs : List Frame) (r : List ℕ) → ClientStands old xs os fs r → AsksFrom all old now xs os fs r (unwrap_or first 0, out)
asked-all bodies all old now out first a e xs os fs r s =
    let g = a.asks xs os fs r s in
    subst (λ (bs : List (List ℕ)). AsksFrom bs old now xs os fs r (unwrap_or first 0, out)) e (first-is bodies first (next_id (asked_in xs)) g.1, g.0)

pub asked-as : (bodies others : List (List ℕ)) (old now : ClientChannel) (out more : List ℕ) (first start : Option ℕ) → Asked bodies old now out first
    → bodies ≡ others → out ≡ more → first ≡ start → Asked others old now more start
asked-as bodies others old now out more first start a p q r =
    subst (λ (bs : List (List ℕ)). Asked bs old now more start) p
    (subst (λ (o : List ℕ). Asked bodies old now o start) q (subst (λ (f : Option ℕ). Asked bodies old now out f) r a))

-- ---- lists

pub take-push : {A : Type 0} (xs : List A) (i : ℕ) (x d : A) → i < length xs → x ≡ get_or xs i d → take i xs ++ x ∷ [] ≡ take (i + 1) xs
take-push [] i x d few e = absurd (omega (arith, few))
take-push {A} (y ∷ ys) zero x d few e = ap (λ (z : A). z ∷ []) e
take-push {A} (y ∷ ys) (suc i) x d few e = ap (λ (zs : List A). y ∷ zs) (take-push ys i x d (omega (arith, few)) e) ∙ ap (λ (n : ℕ). take n (y ∷ ys)) (on i)
  where
    on : (a : ℕ) → suc (a + 1) ≡ suc a + 1
    on a = omega arith

pub take-whole : {A : Type 0} (xs : List A) (n : ℕ) → length xs ≤ n → take n xs ≡ xs
take-whole [] zero few = refl
take-whole [] (suc n) few = refl
take-whole (y ∷ ys) zero few = absurd (omega (arith, few))
take-whole {A} (y ∷ ys) (suc n) few = ap (λ (zs : List A). y ∷ zs) (take-whole ys n (omega (arith, few)))

-- ---- the length of calls

pub asked-len-push : (calls : List AskedCall) (call : AskedCall) → asked_len (calls ++ call ∷ []) ≡ asked_len calls + call.len
asked-len-push [] call = omega arith
asked-len-push (c ∷ calls) call = omega (arith, asked-len-push calls call)

-- that of those before one of them, its own, and that of those behind it
pub asked-len-at : (calls : List AskedCall) (i : ℕ) (call d : AskedCall) → i < length calls → call ≡ get_or calls i d
    → asked_len calls ≡ asked_len (take i calls) + call.len + asked_len (drop (suc i) calls)
asked-len-at [] i call d few e = absurd (omega (arith, few))
asked-len-at (c ∷ calls) zero call d few e = let same : call.len ≡ c.len = ap (λ (x : AskedCall). x.len) e in omega (arith, same)
asked-len-at (c ∷ calls) (suc i) call d few e = omega (arith, asked-len-at calls i call d (omega (arith, few)) e)

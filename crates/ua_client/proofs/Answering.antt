-- Which reply a message is to which request.
use Rattle.std.specs.Prelude.{◌≡◌, ◌⊎◌, ◌+◌, ◌<◌, ◌++◌, ℕ, zero, suc, true, false, List, [], ◌∷◌}
use Rattle.std.specs.Prelude.{length, Option, Some, None, Result, Ok, Err, OnOk, OnErr, IfErr}
use Rattle.std.specs.List.{concat}
use Rattle.std.proofs.Common.{refl, sym, ◌∙◌, ap, subst, inl, inr, eqb, get_or, set, arith}
use Rattle.std.proofs.lemmas.List.{length-set}
use Rattle.ua_builtin.specs.declared.date_time.DateTime.{DateTime}
use Rattle.ua_builtin.specs.declared.status_code.StatusCode.{StatusCode}
use Rattle.ua_channel.specs.ClientTold.{ClientTold}
use Rattle.ua_channel.specs.ClientTold.ClientTold.{Agreed, Opened, Answered, GaveUp, Renewed}
use Rattle.ua_channel.specs.declared.client.event.ClientEvent.{ClientEvent}
use Rattle.ua_channel.specs.declared.client.event.ClientEvent.TheVariants as event
use Rattle.ua_opening.specs.Laws.{OneMessage}
use Rattle.ua_opening.specs.Message.{IsBody}
use Rattle.ua_services.specs.Request.{kind_of_request}
use Rattle.ua_services.specs.Response.{response, Answers, kind_of_response}
use Rattle.ua_services.specs.declared.request.Request.{Request}
use Rattle.ua_services.specs.declared.request.RequestKind.{RequestKind}
use Rattle.ua_services.specs.declared.response.Response.{Response}
use Rattle.ua_client.specs.Hearing.{Says}
use Rattle.ua_client.specs.Replies.{IsAnswer, IsNoAnswer, ReadsAnswer, PutsAnswer, IsPlace, IsRequestAt, PlacesReply, AreSlots, FillsSlots}
use Rattle.ua_client.specs.Replies.{is_reading_fault}
use Rattle.ua_client.specs.Told.{is_told_of, IsFirstOf}
use Rattle.ua_client.specs.declared.fault.ClientFault.{ClientFault}
use Rattle.ua_client.specs.declared.fault.ClientFault.TheVariants as fault
use Rattle.ua_client.specs.declared.reply.Reply.{Reply}
use Rattle.ua_client.specs.declared.reply.Reply.TheVariants.{Response as Responds, Aborted}
use Rattle.ua_client.proofs.Filling.{eqb-other, is-at, slots-other, slots-set, misanswered-at}
use Rattle.ua_client.proofs.Fronts.{front-lacking}

-- ---- its place

of-none : (first count id : ℕ) → IsPlace first id count None → (n : ℕ) → n < count → eqb id (first + n) ≡ false
of-none first count id h n few = eqb-other id (first + n) (h n few)

pub answered_none : (requests : List Request) (first id : ℕ) (octets : List ℕ) → IsPlace first id (length requests) None
    → PlacesReply requests first (Answered id octets) (Ok None)
answered_none requests first id octets h = of-none first (length requests) id h

pub gave_up_none : (requests : List Request) (first id : ℕ) (code : StatusCode) → IsPlace first id (length requests) None
    → PlacesReply requests first (GaveUp id code) (Ok None)
gave_up_none requests first id code h = of-none first (length requests) id h

pub answered_at : (requests : List Request) (first id : ℕ) (octets : List ℕ) (n : ℕ) (request d : Request) (kind : RequestKind) (m : Response)
    → IsPlace first id (length requests) (Some n)
    → request ≡ get_or requests n d → kind ≡ kind_of_request request → IsAnswer kind octets m
    → PlacesReply requests first (Answered id octets) (Ok (Some (n, Responds m)))
answered_at requests first id octets n request d kind m h e k a =
    (request, is-at requests n request d h.0 e, (octets, ap (λ (i : ℕ). Answered i octets) h.1, subst (λ (q : RequestKind). IsAnswer q octets m) k a))

pub misanswered_by : (requests : List Request) (first id : ℕ) (octets : List ℕ) (n : ℕ) (request d : Request) (kind : RequestKind) (x : ClientFault)
    → IsPlace first id (length requests) (Some n)
    → request ≡ get_or requests n d → kind ≡ kind_of_request request → ReadsAnswer kind octets (Err x) → PlacesReply requests first (Answered id octets) (Err x)
misanswered_by requests first id octets n request d kind fault.UnknownResponse h e k a =
    (n, request, is-at requests n request d h.0 e, (octets, ap (λ (i : ℕ). Answered i octets) h.1, subst (λ (q : RequestKind). IsNoAnswer q octets) k a))
misanswered_by requests first id octets n request d kind fault.OutOfMemory h e k a = tt
misanswered_by requests first id octets n request d kind fault.Read h e k a = absurd a
misanswered_by requests first id octets n request d kind fault.Write h e k a = absurd a
misanswered_by requests first id octets n request d kind fault.Ended h e k a = absurd a
misanswered_by requests first id octets n request d kind (fault.Peer code) h e k a = absurd a
misanswered_by requests first id octets n request d kind (fault.Refused code) h e k a = absurd a
misanswered_by requests first id octets n request d kind (fault.Service code) h e k a = absurd a
misanswered_by requests first id octets n request d kind fault.TooLarge h e k a = absurd a
misanswered_by requests first id octets n request d kind fault.NotWritable h e k a = absurd a
misanswered_by requests first id octets n request d kind fault.Exhausted h e k a = absurd a
misanswered_by requests first id octets n request d kind fault.Closed h e k a = absurd a
misanswered_by requests first id octets n request d kind fault.TooManyTokens h e k a = absurd a
misanswered_by requests first id octets n request d kind fault.TooLong h e k a = absurd a

-- the request at a place that a list has
request-at : (requests : List Request) (n : ℕ) → n < length requests → (request : Request) × IsRequestAt requests n request
request-at [] n few = absurd (omega (arith, few))
request-at (r ∷ rs) zero few = (r, refl)
request-at (r ∷ rs) (suc n) few = request-at rs n (omega (arith, few))

pub gave_up_at : (requests : List Request) (first id : ℕ) (code : StatusCode) (n : ℕ) → IsPlace first id (length requests) (Some n)
    → PlacesReply requests first (GaveUp id code) (Ok (Some (n, Aborted code)))
gave_up_at requests first id code n h =
    let r = request-at requests n h.0 in
    (r.0, r.1, ap (λ (i : ℕ). GaveUp i code) h.1)

-- ---- what an event brings

of-no-call : (requests : List Request) (first : ℕ) (t other : ClientTold) → t ≡ other → ((n : ℕ) → is_told_of n other ≡ false)
    → PlacesReply requests first t (Ok None)
of-no-call requests first t other e h = λ n few. ap (is_told_of (first + n)) e ∙ h (first + n)

pub placed_other : (requests : List Request) (first : ℕ) (e : ClientEvent) → ((id : ℕ) (message : List (List ℕ)) → e ≡ event.Answered id message → ⊥)
    → ((id : ℕ) (code : StatusCode) → e ≡ event.Aborted id code → ⊥)
    → (m : DateTime) (t : ClientTold) → Says m e t → PlacesReply requests first t (Ok None)
placed_other requests first event.NeedMore answered aborted m t h = absurd h
placed_other requests first (event.Send sent) answered aborted m t h = of-no-call requests first t (Agreed h.1.0) h.1.1 (λ n. refl)
placed_other requests first event.Open answered aborted m t h = of-no-call requests first t (Opened h.0 h.1.0) h.1.1 (λ n. refl)
placed_other requests first (event.Answered id message) answered aborted m t h = absurd (answered id message refl)
placed_other requests first (event.Aborted id code) answered aborted m t h = absurd (aborted id code refl)
placed_other requests first (event.Failed code peer) answered aborted m t h = absurd h
placed_other requests first (event.Renewed token) answered aborted m t h = of-no-call requests first t (Renewed token) h (λ n. refl)

-- ---- slots

pub fills_none : (requests : List Request) (first : ℕ) (told : List ClientTold) (t : ClientTold) (slots : List (Option Reply))
    → PlacesReply requests first t (Ok None) → AreSlots requests first told slots
    → FillsSlots requests first (told ++ t ∷ []) slots (Ok tt)
fills_none requests first told t slots h s = slots-other requests first told t slots h s

pub fills_some : (requests : List Request) (first : ℕ) (told : List ClientTold) (t : ClientTold) (slots : List (Option Reply)) (n : ℕ) (reply : Reply)
    → PlacesReply requests first t (Ok (Some (n, reply))) → IsFirstOf told t
    → AreSlots requests first told slots → FillsSlots requests first (told ++ t ∷ []) (set slots n (Some reply)) (Ok tt)
fills_some requests first told t slots n reply h once s = slots-set requests first told t slots n h.0 reply s h.1 once h.2

pub fills_fault : (requests : List Request) (first : ℕ) (told : List ClientTold) (t : ClientTold) (slots : List (Option Reply)) (x : ClientFault)
    → PlacesReply requests first t (Err x) → IsFirstOf told t
    → AreSlots requests first told slots → FillsSlots requests first (told ++ t ∷ []) slots (Err x)
fills_fault requests first told t slots fault.UnknownResponse h once s =
    (misanswered-at requests first told t slots h.0 h.1 h.2 once s h.3, front-lacking requests first told t slots h.0 h.1 once s h.2 h.3)
fills_fault requests first told t slots fault.OutOfMemory h once s = tt
fills_fault requests first told t slots fault.Read h once s = absurd h
fills_fault requests first told t slots fault.Write h once s = absurd h
fills_fault requests first told t slots fault.Ended h once s = absurd h
fills_fault requests first told t slots (fault.Peer code) h once s = absurd h
fills_fault requests first told t slots (fault.Refused code) h once s = absurd h
fills_fault requests first told t slots (fault.Service code) h once s = absurd h
fills_fault requests first told t slots fault.TooLarge h once s = absurd h
fills_fault requests first told t slots fault.NotWritable h once s = absurd h
fills_fault requests first told t slots fault.Exhausted h once s = absurd h
fills_fault requests first told t slots fault.Closed h once s = absurd h
fills_fault requests first told t slots fault.TooManyTokens h once s = absurd h
fills_fault requests first told t slots fault.TooLong h once s = absurd h

-- what bytes that are an answer, or none, leave in the slots
pub puts_fills : (requests : List Request) (first id : ℕ) (octets : List ℕ) (n : ℕ) (request d : Request) (kind : RequestKind) (old new : List (Option Reply))
    (result : Result (Unit {0}) ClientFault)
    → IsPlace first id (length requests) (Some n) → request ≡ get_or requests n d → kind ≡ kind_of_request request → PutsAnswer kind octets n old new result
    → (told : List ClientTold) → IsFirstOf told (Answered id octets) → AreSlots requests first told old
    → FillsSlots requests first (told ++ Answered id octets ∷ []) new result
puts_fills requests first id octets n request d kind old new (Ok done) at is of p told once s =
    subst (λ (ss : List (Option Reply)). AreSlots requests first (told ++ Answered id octets ∷ []) ss) (sym p.2)
    (fills_some requests first told (Answered id octets) old n (Responds p.0) (answered_at requests first id octets n request d kind p.0 at is of p.1) once s)
puts_fills requests first id octets n request d kind old new (Err x) at is of p told once s =
    subst (λ (ss : List (Option Reply)). FillsSlots requests first (told ++ Answered id octets ∷ []) ss (Err x)) (sym p.0)
    (fills_fault requests first told (Answered id octets) old x (misanswered_by requests first id octets n request d kind x at is of p.1) once s)

-- what an event leaves in them, by what it tells
pub told_fills : (requests : List Request) (first : ℕ) (u : ClientTold) (e : ClientEvent) (old new : List (Option Reply))
    (result : Result (Unit {0}) ClientFault)
    → ((m : DateTime) (t : ClientTold) → Says m e t → t ≡ u)
    → ((told : List ClientTold) → IsFirstOf told u → AreSlots requests first told old → FillsSlots requests first (told ++ u ∷ []) new result)
    → (m : DateTime) (told : List ClientTold) (t : ClientTold) → Says m e t → IsFirstOf told t → AreSlots requests first told old
    → FillsSlots requests first (told ++ t ∷ []) new result
told_fills requests first u e old new result is h m told t says =
    subst (λ (o : ClientTold). IsFirstOf told o → AreSlots requests first told old → FillsSlots requests first (told ++ o ∷ []) new result)
    (sym (is m t says)) (h told)

pub says_answered : (id : ℕ) (message : List (List ℕ)) (e : ClientEvent) → e ≡ event.Answered id message → (m : DateTime) (t : ClientTold) → Says m e t
    → t ≡ Answered id (concat message)
says_answered id message e is m t says = subst (λ (x : ClientEvent). Says m x t) is says

pub says_aborted : (id : ℕ) (code : StatusCode) (e : ClientEvent) → e ≡ event.Aborted id code → (m : DateTime) (t : ClientTold) → Says m e t
    → t ≡ GaveUp id code
says_aborted id code e is m t says = subst (λ (x : ClientEvent). Says m x t) is says

-- a response that was read is put there, or is no answer; or memory for it is lacking
pub puts_response : (kind : RequestKind) (octets : List ℕ) (m : Response) (n : ℕ) (old new : List (Option Reply)) (result : Result (Unit {0}) ClientFault)
    → OneMessage response → IsBody response m octets → OnOk result (Answers (kind_of_response m) kind × (new ≡ set old n (Some (Responds m))))
    → IfErr result (λ f. (f ≡ fault.OutOfMemory) ⊎ ((f ≡ fault.UnknownResponse) × (Answers (kind_of_response m) kind → ⊥))) → OnErr result (new ≡ old)
    → PutsAnswer kind octets n old new result
puts_response kind octets m n old new (Ok done) one body put refused same = (m, (body, put.0), put.1)
puts_response kind octets m n old new (Err f) one body put refused same = (same, by refused)
  where
    by : (f ≡ fault.OutOfMemory) ⊎ ((f ≡ fault.UnknownResponse) × (Answers (kind_of_response m) kind → ⊥)) → ReadsAnswer kind octets (Err f)
    by (inl e) = subst (λ (x : ClientFault). ReadsAnswer kind octets (Err x)) (sym e) tt
    by (inr r) = subst (λ (x : ClientFault). ReadsAnswer kind octets (Err x)) (sym r.0)
        (λ k a. r.1 (subst (λ (q : Response). Answers (kind_of_response q) kind) (one k m octets a.0 body) a.1))

pub response_faults : (Q : Type 0) (result : Result (Unit {0}) ClientFault)
    → IfErr result (λ f. (f ≡ fault.OutOfMemory) ⊎ ((f ≡ fault.UnknownResponse) × Q)) → IfErr result (λ f. is_reading_fault f ≡ true)
response_faults Q (Ok done) h = tt
response_faults Q (Err f) (inl e) = ap is_reading_fault e
response_faults Q (Err f) (inr r) = ap is_reading_fault r.0

-- a reply is put, where memory for it is not lacking
pub put_answered : (A B : Type 0) (result : Result (Unit {0}) ClientFault) → A → OnOk result B → OnOk result (A × B)
put_answered A B (Ok done) a b = (a, b)
put_answered A B (Err f) a b = tt

pub put_unrefused : (Q : Type 0) (result : Result (Unit {0}) ClientFault) → IfErr result (λ f. f ≡ fault.OutOfMemory)
    → IfErr result (λ f. (f ≡ fault.OutOfMemory) ⊎ ((f ≡ fault.UnknownResponse) × Q))
put_unrefused Q (Ok done) h = tt
put_unrefused Q (Err f) h = inl h

pub put_faults : (result : Result (Unit {0}) ClientFault) → IfErr result (λ f. f ≡ fault.OutOfMemory) → IfErr result (λ f. is_reading_fault f ≡ true)
put_faults (Ok done) h = tt
put_faults (Err f) h = ap is_reading_fault h

pub put_count : (old new : List (Option Reply)) (n : ℕ) (reply : Reply) (result : Result (Unit {0}) ClientFault) → OnOk result (new ≡ set old n (Some reply))
    → OnErr result (new ≡ old) → length new ≡ length old
put_count old new n reply (Ok done) put same = ap length put ∙ length-set old n (Some reply)
put_count old new n reply (Err f) put same = ap length same

pub put_fills : (requests : List Request) (first : ℕ) (told : List ClientTold) (t : ClientTold) (old new : List (Option Reply)) (n : ℕ) (reply : Reply)
    (result : Result (Unit {0}) ClientFault)
    → PlacesReply requests first t (Ok (Some (n, reply))) → OnOk result (new ≡ set old n (Some reply)) → IfErr result (λ f. f ≡ fault.OutOfMemory)
    → IsFirstOf told t → AreSlots requests first told old → FillsSlots requests first (told ++ t ∷ []) new result
put_fills requests first told t old new n reply (Ok done) at put memory once s =
    subst (λ (ss : List (Option Reply)). AreSlots requests first (told ++ t ∷ []) ss) (sym put) (fills_some requests first told t old n reply at once s)
put_fills requests first told t old new n reply (Err f) at put memory once s =
    subst (λ (x : ClientFault). FillsSlots requests first (told ++ t ∷ []) new (Err x)) (sym memory) tt

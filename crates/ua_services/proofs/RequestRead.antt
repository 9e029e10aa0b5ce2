-- A request, against the reader on lists.
use Rattle.std.specs.Prelude.{◌≡◌, ℕ, ◌<◌, ◌≤◌, List, length, Option, Some, None, Result, Ok, Err, IfOk, IfErr, ◌⊎◌, ◌↔◌}
use Rattle.std.proofs.Common.{refl, sym, ◌∙◌, ap, subst, inl, inr}
use Rattle.ua_builtin.specs.Exact.{◌>>=◌}
use Rattle.ua_wire.proofs.Readers.{some_is}
use Rattle.ua_builtin.specs.Format.{Gives, most_levels}
use Rattle.ua_builtin.specs.NodeId.{node_id}
use Rattle.ua_builtin.specs.declared.node_id.NodeId.{NodeId}
use Rattle.ua_wire.specs.declared.fault.ReadFault.{ReadFault}
use Rattle.ua_wire.specs.declared.fault.ReadFault.TheVariants.{NoValue, OutOfMemory as NoMemory}
use Rattle.ua_opening.specs.Message.{IsBody, IsNoBody, kind_at, if_last, body_of, found_or, id_handle, handle_of, handle_behind, id_of_body}
use Rattle.ua_services.specs.Request.{request, requests, request_kind, read_as_request, request_read, unread_with}
use Rattle.ua_services.specs.Request.{misread_request_id, misread_request_kind, AnnouncesNoRequest, MisreadRequest}
use Rattle.ua_services.specs.declared.request.Request.{Request}
use Rattle.ua_services.specs.declared.request.RequestKind.{RequestKind}
use Rattle.ua_services.specs.declared.fault.RequestFault.{RequestFault}
use Rattle.ua_services.specs.declared.fault.RequestFault.TheVariants.{Unsupported, Unreadable, OutOfMemory}
use Rattle.ua_services.proofs.RequestLawful.{lawful_request}
use Rattle.ua_opening.proofs.BodyRead.{body_is, body_found, no_body, nothing_left, some_left, found_ok, found_err, err_is}

-- a reader answers this, or that memory was refused
abbrev pub Reads : Result Request RequestFault → Result Request RequestFault → Type 0
Reads result expected = (result ≡ expected) ⊎ (result ≡ Err OutOfMemory)

-- ---- a request of a known kind

-- what answers that it cannot be read: with the handle behind these octets, or that memory was refused
abbrev pub IsUnread : List ℕ → ReadFault → RequestFault → Type 0
IsUnread octets e fault = (fault ≡ unread_with (handle_behind octets) e) ⊎ (fault ≡ OutOfMemory)

unread_is : (head old : List ℕ) (e : ReadFault) (fault : RequestFault) → head ≡ old → IsUnread head e fault → IsUnread old e fault
unread_is head old e fault same is = subst (λ (t : List ℕ). IsUnread t e fault) same is

fails_by : (k : RequestKind) (old new : List ℕ) (e : ReadFault) (fault : RequestFault) → Gives (kind_at requests most_levels (Some k)) old new (Err e)
    → IsUnread old e fault → Reads (Err fault) (read_as_request k old)
fails_by k old new NoValue fault h (inl is) = inl (ap Err is ∙ sym (ap (λ o. found_or (o >>= λ x. if_last x.0 x.1) (Unreadable (handle_behind old))) h))
fails_by k old new NoValue fault h (inr is) = inr (ap Err is)
fails_by k old new NoMemory fault h (inl is) = inr (ap Err is)
fails_by k old new NoMemory fault h (inr is) = inr (ap Err is)

pub kind_fails : (k : RequestKind) (head old new : List ℕ) (e : ReadFault) (fault : RequestFault) → head ≡ old
    → Gives (kind_at requests most_levels (Some k)) old new (Err e) → IsUnread head e fault
    → Reads (Err fault) (read_as_request k old)
kind_fails k head old new e fault same h is = fails_by k old new e fault h (unread_is head old e fault same is)

kind_gives : (k : RequestKind) (old new : List ℕ) (m : Request) → kind_at requests most_levels (Some k) old ≡ Some (m, new)
    → read_as_request k old ≡ found_or (if_last m new) (Unreadable (handle_behind old))
kind_gives k old new m e = ap (λ o. found_or (o >>= λ x. if_last x.0 x.1) (Unreadable (handle_behind old))) e

left_by : (k : RequestKind) (old new : List ℕ) (m : Request) (fault : RequestFault) → kind_at requests most_levels (Some k) old ≡ Some (m, new) → 0 < length new
    → IsUnread old NoValue fault → Reads (Err fault) (read_as_request k old)
left_by k old new m fault e more (inl is) =
    inl (ap Err is ∙ sym (kind_gives k old new m e ∙ ap (λ o. found_or o (Unreadable (handle_behind old))) (some_left m new more)))
left_by k old new m fault e more (inr is) = inr (ap Err is)

pub kind_left : (k : RequestKind) (head old new : List ℕ) (m : Request) (fault : RequestFault) → head ≡ old
    → kind_at requests most_levels (Some k) old ≡ Some (m, new) → 0 < length new → IsUnread head NoValue fault
    → Reads (Err fault) (read_as_request k old)
kind_left k head old new m fault same e more is = left_by k old new m fault e more (unread_is head old NoValue fault same is)

pub kind_whole : (k : RequestKind) (old new : List ℕ) (m : Request) → kind_at requests most_levels (Some k) old ≡ Some (m, new) → length new ≤ 0
    → Reads (Ok m) (read_as_request k old)
kind_whole k old new m e none = inl (sym (kind_gives k old new m e ∙ ap (λ o. found_or o (Unreadable (handle_behind old))) (nothing_left m new none)))

-- ---- the whole body

-- what a body is read as, by the NodeId that was found
abbrev read_by : Option (NodeId × List ℕ) → Result Request RequestFault
read_by o = found_or ((o >>= λ x. kind_at requests most_levels (request_kind x.0) x.1) >>= λ x. if_last x.0 x.1)
    (misread_request_id (id_handle o) (o >>= λ x. Some x.0))

read-by : (old : List ℕ) → request_read old ≡ read_by (node_id.decode old)
unfolding request request_read
read-by old = refl

-- what a body is read as behind the NodeId, by the kind that this announces
abbrev read_kind : List ℕ → Option RequestKind → Result Request RequestFault
read_kind rest o = found_or (kind_at requests most_levels o rest >>= λ x. if_last x.0 x.1) (misread_request_kind (handle_behind rest) o)

pub read-kind : (old rest : List ℕ) (id : NodeId) (o : Option RequestKind) → node_id.decode old ≡ Some (id, rest) → request_kind id ≡ o
    → request_read old ≡ read_kind rest o
read-kind old rest id o found is = read-by old ∙ ap read_by found ∙ ap (read_kind rest) is

pub id_fails : (old new : List ℕ) (e : ReadFault) → Gives node_id.decode old new (Err e)
    → Reads (Err (unread_with 0 e)) (request_read old)
id_fails old new NoValue h = inl (sym (read-by old ∙ ap read_by h))
id_fails old new NoMemory h = inr refl

pub not_supported : (old rest : List ℕ) (id : NodeId) (e : RequestFault) → node_id.decode old ≡ Some (id, rest) → request_kind id ≡ None
    → (e ≡ Unsupported (handle_behind rest)) ⊎ (e ≡ OutOfMemory)
    → Reads (Err e) (request_read old)
not_supported old rest id e found is (inl h) = inl (ap Err h ∙ sym (read-kind old rest id None found is))
not_supported old rest id e found is (inr h) = inr (ap Err h)

-- of a body that is read behind its NodeId
pub read_behind : (r all here : Result Request RequestFault) → all ≡ here → Reads r here → Reads r all
read_behind r all here e (inl h) = inl (h ∙ sym e)
read_behind r all here e (inr h) = inr h

-- of a body that is not read behind its NodeId
pub refused_by : (fault : RequestFault) (r : Result Request RequestFault) → Reads (Err fault) r → (r ≡ Err fault) ⊎ (fault ≡ OutOfMemory)
refused_by fault r (inl h) = inl (sym h)
refused_by fault r (inr h) = inr (err_is fault OutOfMemory h)

-- of a body that is read whole
pub read_whole : (m : Request) (r : Result Request RequestFault) → Reads (Ok m) r → r ≡ Ok m
read_whole m r (inl h) = sym h
read_whole m r (inr h) = absurd cc

pub failed : (fault : RequestFault) (r : Result Request RequestFault) → (r ≡ Err fault) ⊎ (fault ≡ OutOfMemory) → Reads (Err fault) r
failed fault r (inl h) = inl (sym h)
failed fault r (inr h) = inr (ap Err h)

-- ---- what was read, by the relations

no_such_kind : (octets : List ℕ) (id : NodeId) (k : RequestKind) → id_of_body octets ≡ Some id → request_kind id ≡ Some k → AnnouncesNoRequest octets → ⊥
no_such_kind octets id k e is a =
    let same : id ≡ a.0 = some_is id a.0 (sym e ∙ a.1) in
    let both : Some k ≡ None = sym is ∙ ap request_kind same ∙ a.2 in
    absurd cc

no_such_id : (octets : List ℕ) → id_of_body octets ≡ None → AnnouncesNoRequest octets → ⊥
no_such_id octets e a =
    let both : None ≡ Some a.0 = sym e ∙ a.1 in
    absurd cc

pub request_found : (octets : List ℕ) (r : Result Request RequestFault) → (r ≡ request_read octets) ⊎ (r ≡ Err OutOfMemory)
    → IfOk r (λ m. IsBody request m octets)
unfolding request_read
request_found octets (Ok m) (inl h) =
    body_is request lawful_request octets m (found_ok (body_of request octets) (misread_request_id (handle_of octets) (id_of_body octets)) m h)
request_found octets (Ok m) (inr h) = absurd cc
request_found octets (Err e) h = tt

misread_by : (octets : List ℕ) (id : NodeId) (o : Option RequestKind) → id_of_body octets ≡ Some id → request_kind id ≡ o → IsNoBody request octets
    → MisreadRequest octets (misread_request_kind (handle_of octets) o)
misread_by octets id None e is none = ((id, e, is), none, refl)
misread_by octets id (Some k) e is none = (λ (a : AnnouncesNoRequest octets). no_such_kind octets id k e is a, none, refl)

misread_is : (octets : List ℕ) (o : Option NodeId) → id_of_body octets ≡ o → IsNoBody request octets
    → MisreadRequest octets (misread_request_id (handle_of octets) o)
misread_is octets None e none = (λ (a : AnnouncesNoRequest octets). no_such_id octets e a, none, refl)
misread_is octets (Some id) e none = misread_by octets id (request_kind id) e refl none

pub request_refused : (octets : List ℕ) (r : Result Request RequestFault) → (r ≡ request_read octets) ⊎ (r ≡ Err OutOfMemory)
    → IfErr r (λ fault. MisreadRequest octets fault)
unfolding request_read
request_refused octets (Ok m) h = tt
request_refused octets (Err e) (inl h) =
    let w = found_err (body_of request octets) (misread_request_id (handle_of octets) (id_of_body octets)) e h in
    subst (MisreadRequest octets) (sym w.1) (misread_is octets (id_of_body octets) refl (no_body request lawful_request octets w.0))
request_refused octets (Err e) (inr h) = subst (MisreadRequest octets) (sym (err_is e OutOfMemory h)) tt

pub request_counted : (octets : List ℕ) (r : Result Request RequestFault) → (r ≡ request_read octets) ⊎ (r ≡ Err OutOfMemory)
    → IfOk r (λ m. request.count m ≤ length octets)
request_counted octets (Ok m) h = lawful_request.counted m octets (request_found octets (Ok m) h).0
request_counted octets (Err e) h = tt

-- ---- what reading on lists gives

pub request_read-found : (octets : List ℕ) (m : Request) → ((request_read octets ≡ Ok m) ↔ IsBody request m octets)
unfolding request_read
request_read-found octets m = (
  (λ e. body_is request lawful_request octets m (found_ok (body_of request octets) (misread_request_id (handle_of octets) (id_of_body octets)) m (sym e))),
  (λ h. ap (λ o. found_or o (misread_request_id (handle_of octets) (id_of_body octets))) (body_found request lawful_request octets m h)),
)

-- A response, against the reader on lists.
use Rattle.std.specs.Prelude.{◌≡◌, ℕ, ◌<◌, ◌≤◌, List, length, Option, Some, None, Result, Ok, Err, IfOk, IfErr, ◌⊎◌, ◌↔◌}
use Rattle.std.proofs.Common.{refl, sym, ◌∙◌, ap, subst, inl, inr}
use Rattle.ua_builtin.specs.Exact.{◌>>=◌}
use Rattle.ua_wire.proofs.Readers.{some_is}
use Rattle.ua_builtin.specs.Format.{Gives, most_levels}
use Rattle.ua_builtin.specs.NodeId.{node_id}
use Rattle.ua_builtin.specs.declared.node_id.NodeId.{NodeId}
use Rattle.ua_wire.specs.declared.fault.ReadFault.{ReadFault}
use Rattle.ua_wire.specs.declared.fault.ReadFault.TheVariants.{NoValue, OutOfMemory as NoMemory}
use Rattle.ua_opening.specs.Message.{IsBody, IsNoBody, kind_at, if_last, body_of, found_or, id_of_body}
use Rattle.ua_services.specs.Response.{response, responses, response_kind, response_read, read_as_response}
use Rattle.ua_services.specs.Response.{unread_by, misread_response_id, misread_response_kind, AnnouncesNoResponse, MisreadResponse}
use Rattle.ua_services.specs.declared.response.Response.{Response}
use Rattle.ua_services.specs.declared.response.ResponseKind.{ResponseKind}
use Rattle.ua_services.specs.declared.fault.ResponseFault.{ResponseFault}
use Rattle.ua_services.specs.declared.fault.ResponseFault.TheVariants.{Unknown, Unreadable, OutOfMemory}
use Rattle.ua_services.proofs.ResponseLawful.{lawful_response}
use Rattle.ua_opening.proofs.BodyRead.{body_is, body_found, no_body, nothing_left, some_left, found_ok, found_err, err_is}

-- a reader answers this, or that memory was refused
abbrev pub Reads : Result Response ResponseFault → Result Response ResponseFault → Type 0
Reads result expected = (result ≡ expected) ⊎ (result ≡ Err OutOfMemory)

-- ---- the whole body

-- what a body is read as, by the NodeId that was found
abbrev read_by : Option (NodeId × List ℕ) → Result Response ResponseFault
read_by o = found_or ((o >>= λ x. kind_at responses most_levels (response_kind x.0) x.1) >>= λ x. if_last x.0 x.1) (misread_response_id (o >>= λ x. Some x.0))

read-by : (old : List ℕ) → response_read old ≡ read_by (node_id.decode old)
unfolding response response_read
read-by old = refl

-- what a body is read as behind the NodeId, by the kind that this announces
abbrev read_kind : List ℕ → Option ResponseKind → Result Response ResponseFault
read_kind rest o = found_or (kind_at responses most_levels o rest >>= λ x. if_last x.0 x.1) (misread_response_kind o)

pub read-kind : (old rest : List ℕ) (id : NodeId) (o : Option ResponseKind) → node_id.decode old ≡ Some (id, rest) → response_kind id ≡ o
    → response_read old ≡ read_kind rest o
read-kind old rest id o found is = read-by old ∙ ap read_by found ∙ ap (read_kind rest) is

pub id_fails : (old new : List ℕ) (e : ReadFault) → Gives node_id.decode old new (Err e)
    → Reads (Err (unread_by e)) (response_read old)
id_fails old new NoValue h = inl (sym (read-by old ∙ ap read_by h))
id_fails old new NoMemory h = inr refl

pub unknown : (old rest : List ℕ) (id : NodeId) → node_id.decode old ≡ Some (id, rest) → response_kind id ≡ None
    → Reads (Err Unknown) (response_read old)
unknown old rest id found is = inl (sym (read-kind old rest id None found is))

pub kind_fails : (k : ResponseKind) (rest new : List ℕ) (e : ReadFault) → Gives (kind_at responses most_levels (Some k)) rest new (Err e)
    → Reads (Err (unread_by e)) (read_as_response k rest)
kind_fails k rest new NoValue h = inl (sym (ap (λ o. found_or (o >>= λ x. if_last x.0 x.1) Unreadable) h))
kind_fails k rest new NoMemory h = inr refl

kind_gives : (k : ResponseKind) (rest new : List ℕ) (m : Response) → kind_at responses most_levels (Some k) rest ≡ Some (m, new)
    → read_as_response k rest ≡ found_or (if_last m new) Unreadable
kind_gives k rest new m e = ap (λ o. found_or (o >>= λ x. if_last x.0 x.1) Unreadable) e

pub kind_left : (k : ResponseKind) (rest new : List ℕ) (m : Response) → kind_at responses most_levels (Some k) rest ≡ Some (m, new) → 0 < length new
    → Reads (Err Unreadable) (read_as_response k rest)
kind_left k rest new m e more = inl (sym (kind_gives k rest new m e ∙ ap (λ o. found_or o Unreadable) (some_left m new more)))

pub kind_whole : (k : ResponseKind) (rest new : List ℕ) (m : Response) → kind_at responses most_levels (Some k) rest ≡ Some (m, new) → length new ≤ 0
    → Reads (Ok m) (read_as_response k rest)
kind_whole k rest new m e none = inl (sym (kind_gives k rest new m e ∙ ap (λ o. found_or o Unreadable) (nothing_left m new none)))

pub kind_found : (k : ResponseKind) (old rest : List ℕ) (id : NodeId) (r : Result Response ResponseFault) → node_id.decode old ≡ Some (id, rest)
    → response_kind id ≡ Some k → Reads r (read_as_response k rest)
    → Reads r (response_read old)
kind_found k old rest id r found is (inl h) = inl (h ∙ sym (read-kind old rest id (Some k) found is))
kind_found k old rest id r found is (inr h) = inr h

-- of a body that is read behind its NodeId
pub read_behind : (r all here : Result Response ResponseFault) → all ≡ here → Reads r here → Reads r all
read_behind r all here e (inl h) = inl (h ∙ sym e)
read_behind r all here e (inr h) = inr h

-- of a body that is not read behind its NodeId
pub refused_by : (fault : ResponseFault) (r : Result Response ResponseFault) → Reads (Err fault) r → (r ≡ Err fault) ⊎ (fault ≡ OutOfMemory)
refused_by fault r (inl h) = inl (sym h)
refused_by fault r (inr h) = inr (err_is fault OutOfMemory h)

pub failed : (fault : ResponseFault) (r : Result Response ResponseFault) → (r ≡ Err fault) ⊎ (fault ≡ OutOfMemory) → Reads (Err fault) r
failed fault r (inl h) = inl (sym h)
failed fault r (inr h) = inr (ap Err h)

-- ---- what was read, by the relations

no_such_kind : (octets : List ℕ) (id : NodeId) (k : ResponseKind) → id_of_body octets ≡ Some id → response_kind id ≡ Some k → AnnouncesNoResponse octets → ⊥
no_such_kind octets id k e is a =
    let same : id ≡ a.0 = some_is id a.0 (sym e ∙ a.1) in
    let both : Some k ≡ None = sym is ∙ ap response_kind same ∙ a.2 in
    absurd cc

no_such_id : (octets : List ℕ) → id_of_body octets ≡ None → AnnouncesNoResponse octets → ⊥
no_such_id octets e a =
    let both : None ≡ Some a.0 = sym e ∙ a.1 in
    absurd cc

pub response_found : (octets : List ℕ) (r : Result Response ResponseFault) → (r ≡ response_read octets) ⊎ (r ≡ Err OutOfMemory)
    → IfOk r (λ m. IsBody response m octets)
unfolding response_read
response_found octets (Ok m) (inl h) =
    body_is response lawful_response octets m (found_ok (body_of response octets) (misread_response_id (id_of_body octets)) m h)
response_found octets (Ok m) (inr h) = absurd cc
response_found octets (Err e) h = tt

misread_by : (octets : List ℕ) (id : NodeId) (o : Option ResponseKind) → id_of_body octets ≡ Some id → response_kind id ≡ o → IsNoBody response octets
    → MisreadResponse octets (misread_response_kind o)
misread_by octets id None e is none = ((id, e, is), none)
misread_by octets id (Some k) e is none = (λ (a : AnnouncesNoResponse octets). no_such_kind octets id k e is a, none)

misread_is : (octets : List ℕ) (o : Option NodeId) → id_of_body octets ≡ o → IsNoBody response octets → MisreadResponse octets (misread_response_id o)
misread_is octets None e none = (λ (a : AnnouncesNoResponse octets). no_such_id octets e a, none)
misread_is octets (Some id) e none = misread_by octets id (response_kind id) e refl none

pub response_refused : (octets : List ℕ) (r : Result Response ResponseFault) → (r ≡ response_read octets) ⊎ (r ≡ Err OutOfMemory)
    → IfErr r (λ fault. MisreadResponse octets fault)
unfolding response_read
response_refused octets (Ok m) h = tt
response_refused octets (Err e) (inl h) =
    let w = found_err (body_of response octets) (misread_response_id (id_of_body octets)) e h in
    subst (MisreadResponse octets) (sym w.1) (misread_is octets (id_of_body octets) refl (no_body response lawful_response octets w.0))
response_refused octets (Err e) (inr h) = subst (MisreadResponse octets) (sym (err_is e OutOfMemory h)) tt

pub response_counted : (octets : List ℕ) (r : Result Response ResponseFault) → (r ≡ response_read octets) ⊎ (r ≡ Err OutOfMemory)
    → IfOk r (λ m. response.count m ≤ length octets)
response_counted octets (Ok m) h = lawful_response.counted m octets (response_found octets (Ok m) h).0
response_counted octets (Err e) h = tt

-- ---- what reading on lists gives

pub response_read-found : (octets : List ℕ) (m : Response) → ((response_read octets ≡ Ok m) ↔ IsBody response m octets)
unfolding response_read
response_read-found octets m = (
  (λ e. body_is response lawful_response octets m (found_ok (body_of response octets) (misread_response_id (id_of_body octets)) m (sym e))),
  (λ h. ap (λ o. found_or o (misread_response_id (id_of_body octets))) (body_found response lawful_response octets m h)),
)

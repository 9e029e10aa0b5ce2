-- A response that is skipped, against the reader on lists.
use Rattle.std.specs.Prelude.{◌≡◌, ℕ, ◌<◌, ◌≤◌, List, length, Some, None, Result, Ok, Err, ◌⊎◌}
use Rattle.std.proofs.Common.{refl, sym, ◌∙◌, ap, subst, inl, inr}
use Rattle.ua_builtin.specs.Exact.{skipped}
use Rattle.ua_builtin.specs.Format.{Gives, most_levels}
use Rattle.ua_builtin.specs.NodeId.{node_id}
use Rattle.ua_builtin.specs.declared.node_id.NodeId.{NodeId}
use Rattle.ua_wire.specs.declared.fault.ReadFault.{ReadFault}
use Rattle.ua_opening.specs.Header.{response_header, service_fault}
use Rattle.ua_opening.specs.Message.{kind_at}
use Rattle.ua_opening.specs.declared.header.ServiceFault.{ServiceFault}
use Rattle.ua_services.specs.Response.{responses, response_kind, response_read, response_kind_alone}
use Rattle.ua_services.specs.Response.{kind_of_response, read_as_response, unread_by, ResponseStructure}
use Rattle.ua_services.specs.declared.response.Response.{Response}
use Rattle.ua_services.specs.declared.response.ResponseKind.{ResponseKind}
use Rattle.ua_services.specs.declared.response.ResponseKind.TheVariants.{ServiceFault as ServiceFaultKind}
use Rattle.ua_services.specs.declared.fault.ResponseFault.{ResponseFault}
use Rattle.ua_services.specs.declared.fault.ResponseFault.TheVariants.{Unknown, Unreadable, OutOfMemory}
use Rattle.ua_services.proofs.RequestSkipped.{image_err, made_of, skips_made}
use Rattle.ua_services.proofs.ResponseLawful.{is_response}
use Rattle.ua_services.proofs.ResponseRead.{Reads, id_fails, kind_fails, kind_found, kind_left, kind_whole, unknown}

-- what is skipped answers the kind of this, or that memory was refused
abbrev pub Skips : Result ResponseKind ResponseFault → Result Response ResponseFault → Type 0
Skips result expected = (result ≡ response_kind_alone expected) ⊎ (result ≡ Err OutOfMemory)

pub skips : (r expected : Result Response ResponseFault) → Reads r expected → Skips (response_kind_alone r) expected
skips r expected (inl h) = inl (ap response_kind_alone h)
skips r expected (inr h) = inr (ap response_kind_alone h)

-- ---- a response behind its NodeId

-- the reader of a kind that is skipped is that of its structure
pub skips_kind : (kind k : ResponseKind) (levels : ℕ) (old new : List ℕ) (result : Result (Unit {0}) ReadFault) → kind ≡ k
    → Gives (skipped ((responses.format k).decode levels)) old new result → Gives (skipped (kind_at responses levels (Some kind))) old new result
skips_kind kind k levels old new result is h = rw is (skips_made (responses.make k) ((responses.format k).decode levels) old new result h)

-- a ServiceFault is its header (OPC 10000-4, 7.35)
pub skips_fault : (kind : ResponseKind) (levels : ℕ) (old new : List ℕ) (result : Result (Unit {0}) ReadFault) → kind ≡ ServiceFaultKind
    → Gives (skipped (response_header.decode levels)) old new result → Gives (skipped (kind_at responses levels (Some kind))) old new result
unfolding service_fault
skips_fault kind levels old new result is h =
    skips_kind kind ServiceFaultKind levels old new result is
    (skips_made {M = ServiceFault} (λ header. record { response_header = header }) (response_header.decode levels) old new result h)

kind_made : (k : ResponseKind) (old new : List ℕ) (m : Response) → kind_at responses most_levels (Some k) old ≡ Some (m, new) → kind_of_response m ≡ k
kind_made k old new m e =
    let s = made_of (responses.make k) ((responses.format k).decode most_levels old) m new e in
    sym (ap kind_of_response s.2) ∙ ap (λ (p : (j : ResponseKind) × ResponseStructure j). p.0) ((is_response k).forth s.0)

pub skip_fails : (k : ResponseKind) (old new : List ℕ) (e : ReadFault) → Gives (skipped (kind_at responses most_levels (Some k))) old new (Err e)
    → Skips (Err (unread_by e)) (read_as_response k old)
skip_fails k old new e h =
    skips (Err (unread_by e)) (read_as_response k old)
    (kind_fails k old new e (image_err (λ (m : Response). tt) (kind_at responses most_levels (Some k)) old new e h))

pub skip_left : (k : ResponseKind) (old new : List ℕ) → skipped (kind_at responses most_levels (Some k)) old ≡ Some (tt, new) → 0 < length new
    → Skips (Err Unreadable) (read_as_response k old)
skip_left k old new h more =
    let w = made_of (λ (m : Response). tt) (kind_at responses most_levels (Some k) old) tt new h in
    skips (Err Unreadable) (read_as_response k old) (kind_left k old new w.0 w.1 more)

pub skip_whole : (k : ResponseKind) (old new : List ℕ) → skipped (kind_at responses most_levels (Some k)) old ≡ Some (tt, new) → length new ≤ 0
    → Skips (Ok k) (read_as_response k old)
skip_whole k old new h none =
    let w = made_of (λ (m : Response). tt) (kind_at responses most_levels (Some k) old) tt new h in
    subst (λ (j : ResponseKind). Skips (Ok j) (read_as_response k old)) (kind_made k old new w.0 w.1)
    (skips (Ok w.0) (read_as_response k old) (kind_whole k old new w.0 w.1 none))

-- ---- the whole body

pub no_id : (old new : List ℕ) (e : ReadFault) → Gives node_id.decode old new (Err e) → Skips (Err (unread_by e)) (response_read old)
no_id old new e h = skips (Err (unread_by e)) (response_read old) (id_fails old new e h)

pub no_kind : (old rest : List ℕ) (id : NodeId) → node_id.decode old ≡ Some (id, rest) → response_kind id ≡ None → Skips (Err Unknown) (response_read old)
no_kind old rest id found is = skips (Err Unknown) (response_read old) (unknown old rest id found is)

pub body_skipped : (k : ResponseKind) (old rest : List ℕ) (id : NodeId) (r : Result ResponseKind ResponseFault) → node_id.decode old ≡ Some (id, rest)
    → response_kind id ≡ Some k → Skips r (read_as_response k rest) → Skips r (response_read old)
body_skipped k old rest id r found is (inl h) =
    subst (λ (s : Result ResponseKind ResponseFault). Skips s (response_read old)) (sym h)
    (skips (read_as_response k rest) (response_read old) (kind_found k old rest id (read_as_response k rest) found is (inl refl)))
body_skipped k old rest id r found is (inr h) = inr h

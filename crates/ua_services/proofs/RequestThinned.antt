-- A request that is read without the values that nodes could not take, against what is kept of the one that is read whole.
use Rattle.std.specs.Prelude.{◌≡◌, ℕ, ◌<◌, ◌≤◌, Bool, List, length, Some, Result, Ok, Err}
use Rattle.std.proofs.Common.{sym, ◌∙◌, ap, inl, inr}
use Rattle.ua_builtin.specs.Exact.{image_read}
use Rattle.ua_builtin.specs.Format.{Gives, most_levels}
use Rattle.ua_builtin.specs.declared.node_id.NodeId.{NodeId}
use Rattle.ua_wire.specs.declared.fault.ReadFault.{ReadFault}
use Rattle.ua_wire.specs.declared.fault.ReadFault.TheVariants.{NoValue}
use Rattle.ua_structures.specs.Attribute.{write_request}
use Rattle.ua_structures.specs.Thin.{thinned_request}
use Rattle.ua_structures.specs.declared.attribute.WriteRequest.{WriteRequest}
use Rattle.ua_structures.specs.declared.thin.ValueType.{ValueType}
use Rattle.ua_services.specs.Request.{read_as_request, thin_read}
use Rattle.ua_services.specs.declared.fault.RequestFault.{RequestFault}
use Rattle.ua_services.specs.declared.request.Request.{Request}
use Rattle.ua_services.specs.declared.request.Request.TheVariants.{Write as WriteMessage}
use Rattle.ua_services.specs.declared.request.RequestKind.TheVariants.{Write}
use Rattle.ua_opening.proofs.BodyRead.{image_fails, image_found}
use Rattle.ua_services.proofs.RequestRead.{IsUnread, Reads, kind_fails, kind_left, kind_whole}
use Rattle.ua_services.proofs.RequestSkipped.{image_err, made_of}

-- which nodes could take which values
abbrev Takes : Type 0
Takes = NodeId → ValueType → Bool

-- ---- a Write behind its NodeId

-- a fault is the same fault of what is kept
pub thin_fault : (takes : Takes) (fault : RequestFault) (r : Result Request RequestFault) → Reads (Err fault) r → Reads (Err fault) (thin_read takes r)
thin_fault takes fault r (inl h) = inl (ap (thin_read takes) h)
thin_fault takes fault r (inr h) = inr h

pub write_fails : (takes : Takes) (head old new : List ℕ) (e : ReadFault) (fault : RequestFault) → head ≡ old
    → Gives (image_read (thinned_request takes) (write_request.decode most_levels)) old new (Err e) → IsUnread head e fault
    → Reads (Err fault) (thin_read takes (read_as_request Write old))
write_fails takes head old new e fault same h is =
    thin_fault takes fault (read_as_request Write old) (kind_fails Write head old new e fault same
    (image_fails WriteMessage (write_request.decode most_levels) old new e (image_err (thinned_request takes) (write_request.decode most_levels) old new e h))
    is)

pub write_left : (takes : Takes) (head old new : List ℕ) (kept : WriteRequest) (fault : RequestFault) → head ≡ old
    → image_read (thinned_request takes) (write_request.decode most_levels) old ≡ Some (kept, new)
    → 0 < length new → IsUnread head NoValue fault → Reads (Err fault) (thin_read takes (read_as_request Write old))
write_left takes head old new kept fault same h more is =
    let whole = made_of (thinned_request takes) (write_request.decode most_levels old) kept new h in
    thin_fault takes fault (read_as_request Write old)
    (kind_left Write head old new (WriteMessage whole.0) fault same (image_found WriteMessage (write_request.decode most_levels) old new whole.0 whole.1) more
    is)

thin_ok : (takes : Takes) (m kept : WriteRequest) (r : Result Request RequestFault) → thinned_request takes m ≡ kept → Reads (Ok (WriteMessage m)) r
    → Reads (Ok (WriteMessage kept)) (thin_read takes r)
thin_ok takes m kept r is (inl h) = inl (ap (λ (w : WriteRequest). Ok (WriteMessage w)) (sym is) ∙ ap (thin_read takes) h)
thin_ok takes m kept r is (inr h) = absurd cc

pub write_whole : (takes : Takes) (old new : List ℕ) (kept : WriteRequest) → image_read (thinned_request takes) (write_request.decode most_levels) old
    ≡ Some (kept, new) → length new ≤ 0
    → Reads (Ok (WriteMessage kept)) (thin_read takes (read_as_request Write old))
write_whole takes old new kept h none =
    let whole = made_of (thinned_request takes) (write_request.decode most_levels old) kept new h in
    thin_ok takes whole.0 kept (read_as_request Write old) whole.2
    (kind_whole Write old new (WriteMessage whole.0) (image_found WriteMessage (write_request.decode most_levels) old new whole.0 whole.1) none)

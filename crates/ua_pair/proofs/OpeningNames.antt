-- The name of the response to an OpenSecureChannel request, which is skipped.
use Rattle.std.specs.Prelude.{◌≡◌, ℕ, ◌<◌, ◌≤◌, List, length, codes, Option, Some, None}
use Rattle.std.proofs.Common.{refl, sym, ◌∙◌, ap, ap₂, subst}
use Rattle.ua_builtin.specs.Exact.{◌>>=◌, skipped}
use Rattle.ua_builtin.specs.Format.{most_levels}
use Rattle.ua_builtin.specs.NodeId.{node_id}
use Rattle.ua_builtin.specs.declared.node_id.NodeId.{NodeId}
use Rattle.ua_opening.specs.Header.{response_header, service_fault}
use Rattle.ua_opening.specs.Message.{body_of, standard_number}
use Rattle.ua_opening.specs.Open.{answer_found, answer_read}
use Rattle.ua_opening.specs.SecureChannel.{open_response}
use Rattle.ua_opening.specs.declared.header.ResponseHeader.{ResponseHeader}
use Rattle.ua_opening.specs.declared.header.ServiceFault.{ServiceFault}
use Rattle.ua_opening.specs.declared.secure_channel.OpenResponse.{OpenResponse}
use Rattle.ua_opening.proofs.BodyRead.{some_left, nothing_left}
use Rattle.ua_pair.specs.Names.{open_answer_name}
use Rattle.ua_fields.proofs.Openings.{behind_id, behind_number, last, other_number, rest, same_last, same_rest, with_header}

-- ---- a structure that was skipped, by what is left

-- the names of a response, or of a fault, that was found
abbrev open_word : Option OpenResponse → List ℕ
open_word found = open_answer_name (answer_found found None)

abbrev fault_word : Option ServiceFault → List ℕ
fault_word found = open_answer_name (answer_found None found)

abbrev fault_of : Option (ResponseHeader × List ℕ) → Option ServiceFault
fault_of found = last (found >>= λ x. Some (with_header x.0, x.1))

open_whole : (found : Option (OpenResponse × List ℕ)) (new : List ℕ) → rest found ≡ Some (tt, new) → length new ≤ 0
    → codes "OpenSecureChannelResponse" ≡ open_word (last found)
open_whole None new e none = absurd cc
open_whole (Some x) new e none = sym (ap open_word (nothing_left x.0 x.1 (subst (λ (o : List ℕ). length o ≤ 0) (sym (same_rest x new e)) none)))

open_more : (found : Option (OpenResponse × List ℕ)) (new : List ℕ) → rest found ≡ Some (tt, new) → 0 < length new
    → codes "unreadable" ≡ open_word (last found)
open_more None new e more = absurd cc
open_more (Some x) new e more = sym (ap open_word (some_left x.0 x.1 (subst (λ (o : List ℕ). 0 < length o) (sym (same_rest x new e)) more)))

open_none : (found : Option (OpenResponse × List ℕ)) → rest found ≡ None → codes "unreadable" ≡ open_word (last found)
open_none None e = refl
open_none (Some x) e = absurd cc

fault_whole : (found : Option (ResponseHeader × List ℕ)) (new : List ℕ) → rest found ≡ Some (tt, new) → length new ≤ 0
    → codes "ServiceFault" ≡ fault_word (fault_of found)
fault_whole None new e none = absurd cc
fault_whole (Some x) new e none =
    sym (ap fault_word (nothing_left (with_header x.0) x.1 (subst (λ (o : List ℕ). length o ≤ 0) (sym (same_rest x new e)) none)))

fault_more : (found : Option (ResponseHeader × List ℕ)) (new : List ℕ) → rest found ≡ Some (tt, new) → 0 < length new
    → codes "unreadable" ≡ fault_word (fault_of found)
fault_more None new e more = absurd cc
fault_more (Some x) new e more =
    sym (ap fault_word (some_left (with_header x.0) x.1 (subst (λ (o : List ℕ). 0 < length o) (sym (same_rest x new e)) more)))

fault_none : (found : Option (ResponseHeader × List ℕ)) → rest found ≡ None → codes "unreadable" ≡ fault_word (fault_of found)
fault_none None e = refl
fault_none (Some x) e = absurd cc

-- ---- the same of the bytes after a NodeId

pub open_skipped : (old new : List ℕ) → skipped (open_response.decode most_levels) old ≡ Some (tt, new) → length new ≤ 0
    → codes "OpenSecureChannelResponse" ≡ open_answer_name (answer_found (body_of open_response old) None)
open_skipped old new = open_whole (open_response.decode most_levels old) new

pub open_left : (old new : List ℕ) → skipped (open_response.decode most_levels) old ≡ Some (tt, new) → 0 < length new
    → codes "unreadable" ≡ open_answer_name (answer_found (body_of open_response old) None)
open_left old new = open_more (open_response.decode most_levels old) new

pub open_fails : (old : List ℕ) → skipped (open_response.decode most_levels) old ≡ None
    → codes "unreadable" ≡ open_answer_name (answer_found (body_of open_response old) None)
open_fails old = open_none (open_response.decode most_levels old)

pub fault_skipped : (old new : List ℕ) → skipped (response_header.decode most_levels) old ≡ Some (tt, new) → length new ≤ 0
    → codes "ServiceFault" ≡ open_answer_name (answer_found None (body_of service_fault old))
unfolding service_fault
fault_skipped old new = fault_whole (response_header.decode most_levels old) new

pub fault_left : (old new : List ℕ) → skipped (response_header.decode most_levels) old ≡ Some (tt, new) → 0 < length new
    → codes "unreadable" ≡ open_answer_name (answer_found None (body_of service_fault old))
unfolding service_fault
fault_left old new = fault_more (response_header.decode most_levels old) new

pub fault_fails : (old : List ℕ) → skipped (response_header.decode most_levels) old ≡ None
    → codes "unreadable" ≡ open_answer_name (answer_found None (body_of service_fault old))
unfolding service_fault
fault_fails old = fault_none (response_header.decode most_levels old)

-- ---- by the NodeId

-- the answer behind a NodeId of this number, if there is one
abbrev answer_behind : List ℕ → Option ℕ → List ℕ
answer_behind rest o = open_answer_name (answer_found (last (behind_number 449 open_response rest o)) (last (behind_number 397 service_fault rest o)))

name_behind : (old rest : List ℕ) (id : NodeId) → node_id.decode old ≡ Some (id, rest)
    → open_answer_name (answer_read old) ≡ answer_behind rest (standard_number id)
name_behind old rest id found =
    ap₂ (λ (o : Option OpenResponse) (f : Option ServiceFault). open_answer_name (answer_found o f)) (behind_id 449 open_response old rest id found)
    (behind_id 397 service_fault old rest id found)

pub no_id : (old : List ℕ) → node_id.decode old ≡ None → codes "unreadable" ≡ open_answer_name (answer_read old)
no_id old none = sym (ap₂ (λ (o : Option OpenResponse) (f : Option ServiceFault). open_answer_name (answer_found o f))
    (ap (λ (o : Option (NodeId × List ℕ)). last (o >>= λ x. behind_number 449 open_response x.1 (standard_number x.0))) none)
    (ap (λ (o : Option (NodeId × List ℕ)). last (o >>= λ x. behind_number 397 service_fault x.1 (standard_number x.0))) none))

pub is_open : (old rest : List ℕ) (id : NodeId) → node_id.decode old ≡ Some (id, rest) → standard_number id ≡ Some 449
    → open_answer_name (answer_read old) ≡ open_answer_name (answer_found (body_of open_response rest) None)
is_open old rest id found is =
    name_behind old rest id found
    ∙ ap (answer_behind rest) is
    ∙ ap (λ (o : Option OpenResponse). open_answer_name (answer_found o None)) (same_last (open_response.decode most_levels rest))

pub is_fault : (old rest : List ℕ) (id : NodeId) → node_id.decode old ≡ Some (id, rest) → standard_number id ≡ Some 397
    → open_answer_name (answer_read old) ≡ open_answer_name (answer_found None (body_of service_fault rest))
is_fault old rest id found is =
    name_behind old rest id found
    ∙ ap (answer_behind rest) is
    ∙ ap (λ (o : Option ServiceFault). open_answer_name (answer_found None o)) (same_last (service_fault.decode most_levels rest))

pub no_answer : (old rest : List ℕ) (id : NodeId) → node_id.decode old ≡ Some (id, rest) → (standard_number id ≡ Some 449 → ⊥)
    → (standard_number id ≡ Some 397 → ⊥)
    → codes "unreadable" ≡ open_answer_name (answer_read old)
no_answer old rest id found no_open no_fault =
    sym (name_behind old rest id found
    ∙ ap₂ (λ (o : Option (OpenResponse × List ℕ)) (f : Option (ServiceFault × List ℕ)). open_answer_name (answer_found (last o) (last f)))
    (other_number 449 open_response rest (standard_number id) no_open) (other_number 397 service_fault rest (standard_number id) no_fault))

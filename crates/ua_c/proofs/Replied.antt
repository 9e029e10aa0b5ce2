-- Views of the response to a Read, against the reader on lists.
use Rattle.std.specs.Prelude.{◌≡◌, ℕ, ◌<◌, ◌≤◌, Bool, false, IsTrue, List, [], length, Option, Some, None, MatchOption, Ok, Err, ◌↔◌}
use Rattle.std.proofs.Common.{refl, sym, ◌∙◌, ap, subst, inl, inr}
use Rattle.ua_builtin.specs.Exact.{◌>>=◌, image_read, pair_read}
use Rattle.ua_builtin.specs.Format.{Gives, most_levels}
use Rattle.ua_builtin.specs.NodeId.{node_id}
use Rattle.ua_builtin.specs.declared.node_id.NodeId.{NodeId}
use Rattle.ua_opening.proofs.BodyRead.{body_reads}
use Rattle.ua_opening.specs.Array.{array}
use Rattle.ua_opening.specs.Header.{response_header}
use Rattle.ua_opening.specs.Message.{IsBody, IsNoBody, kind_at}
use Rattle.ua_opening.specs.declared.header.ResponseHeader.{ResponseHeader}
use Rattle.ua_services.proofs.ResponseLawful.{lawful_response}
use Rattle.ua_services.proofs.ResponseRead.{Reads, id_fails, kind_fails, kind_found, kind_left, kind_whole, response_found, response_refused}
use Rattle.ua_services.specs.Response.{ResponseStructure, response, response_kind, response_read, responses}
use Rattle.ua_services.specs.declared.fault.ResponseFault.TheVariants.{Unreadable}
use Rattle.ua_services.specs.declared.response.Response.{Response}
use Rattle.ua_services.specs.declared.response.Response.TheVariants.{Read}
use Rattle.ua_services.specs.declared.response.ResponseKind.{ResponseKind}
use Rattle.ua_services.specs.declared.response.ResponseKind.TheVariants as kind
use Rattle.ua_structures.specs.Attribute.{read_response}
use Rattle.ua_structures.specs.declared.attribute.ReadResponse.{ReadResponse}
use Rattle.ua_variant.specs.Formats.{data_value_format, diagnostic_format}
use Rattle.ua_variant.specs.declared.values.DataValue.{DataValue}
use Rattle.ua_diagnostic.specs.declared.diagnostic_info.DiagnosticInfo.{DiagnosticInfo}
use Rattle.ua_wire.proofs.Readers.{some_is}
use Rattle.ua_wire.specs.declared.fault.ReadFault.{ReadFault}
use Rattle.ua_wire.specs.declared.fault.ReadFault.TheVariants.{NoValue, OutOfMemory}
use Rattle.ua_c.specs.Responses.{IsNoResponse, OfResponse}
use Rattle.ua_c.specs.Status.{bad_octets}
use Rattle.ua_c.specs.Views.{AnnouncesOther, AreResults, AreViewsOf, HasNoResults, Sees, SeesBy, results_in, status_of_read_fault}
use Rattle.ua_c.specs.declared.readings.UaReading.{UaReading}

-- ---- two readers, one behind the other

pair_reads : {A B : Type 0} (f : List ℕ → Option (A × List ℕ)) (g : List ℕ → Option (B × List ℕ)) (old mid : List ℕ) (a : A) (o : Option (B × List ℕ))
    → f old ≡ Some (a, mid) → g mid ≡ o
    → pair_read f g old ≡ (o >>= λ y. Some ((a, y.0), y.1))
pair_reads f g old mid a o e h = ap (λ u. u >>= λ x. g x.1 >>= λ y. Some ((x.0, y.0), y.1)) e ∙ ap (λ u. u >>= λ y. Some ((a, y.0), y.1)) h

pair_none : {A B : Type 0} (f : List ℕ → Option (A × List ℕ)) (g : List ℕ → Option (B × List ℕ)) (old : List ℕ) → f old ≡ None → pair_read f g old ≡ None
pair_none f g old e = ap (λ u. u >>= λ x. g x.1 >>= λ y. Some ((x.0, y.0), y.1)) e

image_reads : {A B : Type 0} (make : A → B) (read : List ℕ → Option (A × List ℕ)) (old : List ℕ) (o : Option (A × List ℕ)) → read old ≡ o
    → image_read make read old ≡ (o >>= λ x. Some (make x.0, x.1))
image_reads make read old o e = ap (λ u. u >>= λ x. Some (make x.0, x.1)) e

-- ---- the structure

abbrev header_read : List ℕ → Option (ResponseHeader × List ℕ)
header_read = response_header.decode most_levels

abbrev array_read : List ℕ → Option (Option (List DataValue) × List ℕ)
array_read = (array data_value_format).decode most_levels

abbrev diagnostics_read : List ℕ → Option (Option (List DiagnosticInfo) × List ℕ)
diagnostics_read = (array diagnostic_format).decode most_levels

abbrev reply_read : List ℕ → Option (ReadResponse × List ℕ)
reply_read = read_response.decode most_levels

abbrev reply_of : ResponseHeader × (Option (List DataValue) × Option (List DiagnosticInfo)) → ReadResponse
reply_of (response_header, (results, diagnostic_infos)) = record { response_header = response_header; results = results; diagnostic_infos = diagnostic_infos }

reply_is : (old : List ℕ) → reply_read old ≡ image_read reply_of (pair_read header_read (pair_read array_read diagnostics_read)) old
unfolding read_response
reply_is old = refl

pub reply_seen : {X : Type 0} (items : X → List UaReading) (body old a b new : List ℕ) (header : ResponseHeader) (infos : Option (List DiagnosticInfo)) (x : X)
    → header_read old ≡ Some (header, a)
    → Sees array_read (λ ds. AreViewsOf body ds (items x)) a b → diagnostics_read b ≡ Some (infos, new)
    → Sees reply_read (λ m. AreViewsOf body m.results (items x)) old new
reply_seen items body old a b new header infos x e s i = record {
  value = reply_of (header, (s.value, infos));
  read_is = reply_is old ∙ image_reads reply_of (pair_read header_read (pair_read array_read diagnostics_read)) old _
      (pair_reads header_read (pair_read array_read diagnostics_read) old a header _ e (pair_reads array_read diagnostics_read a b s.value _ s.read_is i));
  are = s.are;
}

pub header_fault : {X : Type 0} (Are : X → ReadResponse → Type 0) (old new last : List ℕ) (e : ReadFault) → Gives header_read old new (Err e)
    → SeesBy reply_read Are old last (Err e)
header_fault Are old new last NoValue h = reply_is old ∙ image_reads reply_of (pair_read header_read (pair_read array_read diagnostics_read)) old None
    (pair_none header_read (pair_read array_read diagnostics_read) old h)
header_fault Are old new last OutOfMemory h = tt

pub array_fault : {X Y : Type 0} (All : Y → Option (List DataValue) → Type 0) (Are : X → ReadResponse → Type 0) (old a new last : List ℕ)
    (header : ResponseHeader) (e : ReadFault) → header_read old ≡ Some (header, a)
    → SeesBy array_read All a new (Err e) → SeesBy reply_read Are old last (Err e)
array_fault All Are old a new last header NoValue h none =
    reply_is old ∙ image_reads reply_of (pair_read header_read (pair_read array_read diagnostics_read)) old None
    (pair_reads header_read (pair_read array_read diagnostics_read) old a header None h (pair_none array_read diagnostics_read a none))
array_fault All Are old a new last header OutOfMemory h none = tt

pub diagnostics_fault : {X : Type 0} (Are : X → ReadResponse → Type 0) (One : Option (List DataValue) → Type 0) (old a b new last : List ℕ)
    (header : ResponseHeader) (e : ReadFault) → header_read old ≡ Some (header, a)
    → Sees array_read One a b → Gives diagnostics_read b new (Err e) → SeesBy reply_read Are old last (Err e)
diagnostics_fault Are One old a b new last header NoValue h s none =
    reply_is old ∙ image_reads reply_of (pair_read header_read (pair_read array_read diagnostics_read)) old None
    (pair_reads header_read (pair_read array_read diagnostics_read) old a header None h
    (pair_reads array_read diagnostics_read a b s.value None s.read_is none))
diagnostics_fault Are One old a b new last header OutOfMemory h s none = tt

-- ---- the body

-- what it is refused by
refused : (body : List ℕ) → Reads (Err Unreadable) (response_read body) → IsNoBody response body
refused body h = (response_refused body (Err Unreadable) h).1

pub no_response : (body : List ℕ) (e : ReadFault) (new : List ℕ) (status : ℕ) → Gives node_id.decode body new (Err e) → status ≡ status_of_read_fault e
    → IsNoResponse body status
no_response body NoValue new status h is = inr (is, refused body (id_fails body new NoValue h))
no_response body OutOfMemory new status h is = inl is

kind_of_reply : (rest : List ℕ) (o : Option (ReadResponse × List ℕ)) → reply_read rest ≡ o → kind_at responses most_levels (Some kind.Read) rest
    ≡ (o >>= λ x. Some (Read x.0, x.1))
kind_of_reply rest o e = image_reads Read reply_read rest o e

pub no_reply : {X : Type 0} (Are : X → ReadResponse → Type 0) (body rest new : List ℕ) (id : NodeId) (e : ReadFault) (status : ℕ)
    → node_id.decode body ≡ Some (id, rest) → response_kind id ≡ Some kind.Read
    → SeesBy reply_read Are rest new (Err e) → status ≡ status_of_read_fault e → IsNoResponse body status
no_reply Are body rest new id NoValue status found is none e =
    inr (e, refused body (kind_found kind.Read body rest id (Err Unreadable) found is (kind_fails kind.Read rest new NoValue (kind_of_reply rest None none))))
no_reply Are body rest new id OutOfMemory status found is none e = inl e

pub reply_left : (Are : ReadResponse → Type 0) (body rest new : List ℕ) (id : NodeId) (status : ℕ) → node_id.decode body ≡ Some (id, rest)
    → response_kind id ≡ Some kind.Read → Sees reply_read Are rest new → 0 < length new
    → status ≡ bad_octets → IsNoResponse body status
reply_left Are body rest new id status found is s more e =
    inr (
      e,
      refused body
          (kind_found kind.Read body rest id (Err Unreadable) found is (kind_left kind.Read rest new (Read s.value) (kind_of_reply rest _ s.read_is) more)),
    )

pub reply_found : (body rest new : List ℕ) (id : NodeId) (readings : List UaReading) → node_id.decode body ≡ Some (id, rest) → response_kind id ≡ Some kind.Read
    → Sees reply_read (λ m. AreViewsOf body m.results readings) rest new → length new ≤ 0 → OfResponse body (AreResults body readings)
reply_found body rest new id readings found is s none =
    let whole = kind_found kind.Read body rest id (Ok (Read s.value)) found is
    (kind_whole kind.Read rest new (Read s.value) (kind_of_reply rest _ s.read_is) none) in
    record { r = Read s.value; is = response_found body (Ok (Read s.value)) whole; holds = record { results = s.value.results; given = refl; are = s.are } }

-- ---- another response

of_another_kind : (k : ResponseKind) → (k ≡ kind.Read → ⊥) → (s : ResponseStructure k) → results_in (responses.make k s) ≡ None
of_another_kind kind.GetEndpoints other s = refl
of_another_kind kind.CreateSession other s = refl
of_another_kind kind.ActivateSession other s = refl
of_another_kind kind.CloseSession other s = refl
of_another_kind kind.Read other s = absurd (other refl)
of_another_kind kind.Write other s = refl
of_another_kind kind.ServiceFault other s = refl

abbrev image_of : (k : ResponseKind) → Option (ResponseStructure k × List ℕ) → Option (Response × List ℕ)
image_of k found = found >>= λ x. Some (responses.make k x.0, x.1)

made_by : (k : ResponseKind) → (k ≡ kind.Read → ⊥) → (r : Response) (found : Option (ResponseStructure k × List ℕ)) → image_of k found ≡ Some (r, [])
    → HasNoResults r
made_by k other r None e = absurd cc
made_by k other r (Some x) e =
    let p : Response × List ℕ = (responses.make k x.0, x.1) in
    let q : Response × List ℕ = (r, []) in
    let same : responses.make k x.0 ≡ r = ap (λ (p : Response × List ℕ). p.0) (some_is p q e) in
    subst HasNoResults same (of_another_kind k other x.0)

announced_by : (o : Option ResponseKind) → (o ≡ Some kind.Read → ⊥) → (r : Response) (rest : List ℕ) → kind_at responses most_levels o rest ≡ Some (r, [])
    → HasNoResults r
announced_by None other r rest e = absurd cc
announced_by (Some k) other r rest e = made_by k (λ is. other (ap Some is)) r ((responses.format k).decode most_levels rest) e

decode_is : (body : List ℕ) → response.decode most_levels body ≡ (node_id.decode body >>= λ x. kind_at responses most_levels (response_kind x.0) x.1)
unfolding response
decode_is body = refl

pub has_none : (body : List ℕ) → AnnouncesOther body → (r : Response) → IsBody response r body → HasNoResults r
has_none body a r is =
    let read = body_reads response lawful_response body r is in
    let at : kind_at responses most_levels (response_kind a.id) a.rest ≡ Some (r, []) =
    sym (ap (λ o. o >>= λ x. kind_at responses most_levels (response_kind x.0) x.1) a.found) ∙ sym (decode_is body) ∙ read in
    announced_by (response_kind a.id) a.other r a.rest at

-- ---- what a body begins with

pub match_none : {A : Type 0} (o : Option A) (P : Type 0) (Q : A → Type 0) → o ≡ None → MatchOption o P Q → P
match_none None P Q e h = h
match_none (Some a) P Q e h = absurd cc

pub no_id : (body at new : List ℕ) (e : ReadFault) (status : ℕ) → at ≡ body → Gives node_id.decode at new (Err e) → status ≡ status_of_read_fault e
    → IsNoResponse body status
no_id body at new e status is h told = no_response body e new status (subst (λ (b : List ℕ). Gives node_id.decode b new (Err e)) is h) told

pub announces_other : (body at rest : List ℕ) (id : NodeId) (said : Bool) → at ≡ body → node_id.decode at ≡ Some (id, rest)
    → (IsTrue said ↔ (response_kind id ≡ Some kind.Read)) → said ≡ false → AnnouncesOther body
announces_other body at rest id said is found tells not_said = record {
  id = id;
  rest = rest;
  found = subst (λ (b : List ℕ). node_id.decode b ≡ Some (id, rest)) is found;
  other = λ read. let both : IsTrue false = subst IsTrue not_said (tells.1 read) in absurd cc;
}

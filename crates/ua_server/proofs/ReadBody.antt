-- The body of a Read response, part by part.
use Rattle.std.specs.Prelude.{◌≡◌, ◌<◌, ℕ, suc, List, [], ◌∷◌, ◌++◌, length, Some, None}
use Rattle.std.specs.List.{flat_map}
use Rattle.std.proofs.Common.{inl, inr, ◌+◌, ◌≤◌, Option, length-append, refl, sym, ◌∙◌, ap, append_assoc, arith}
use Rattle.ua_builtin.specs.Counted.{null_count}
use Rattle.ua_builtin.specs.NodeId.{node_id}
use Rattle.ua_builtin.specs.Number.{number_octets}
use Rattle.ua_builtin.specs.declared.date_time.DateTime.{DateTime}
use Rattle.ua_nodes.specs.Read.{result_octets, read_answer}
use Rattle.ua_nodes.specs.Table.{Nodes, node_at}
use Rattle.ua_nodes.specs.Within.{IsWithin}
use Rattle.ua_nodes.specs.declared.stamps.Stamps.{Stamps}
use Rattle.ua_services.proofs.ByKind.{response-canonical}
use Rattle.ua_opening.specs.Message.{standard}
use Rattle.ua_services.specs.Response.{response}
use Rattle.ua_services.specs.declared.response.Response.TheVariants.{Read as ReadMessage}
use Rattle.ua_services.specs.declared.response.ResponseKind.TheVariants.{Read}
use Rattle.ua_opening.specs.Array.{array}
use Rattle.ua_structures.specs.Attribute.{read_response}
use Rattle.ua_opening.specs.Header.{response_header}
use Rattle.ua_structures.specs.Plain.{read_response_of}
use Rattle.ua_structures.specs.Results.{AddsResponse}
use Rattle.ua_structures.specs.declared.attribute.ReadValueId.{ReadValueId}
use Rattle.ua_opening.specs.declared.header.ResponseHeader.{ResponseHeader}
use Rattle.ua_variant.specs.Canonical.{data_value_canonical}
use Rattle.ua_variant.specs.Data.{DataValueData, bare, valued}
use Rattle.ua_variant.specs.Formats.{data_value_format, diagnostic_format}
use Rattle.ua_variant.specs.declared.values.DataValue.{DataValue}
use Rattle.ua_server.specs.Attributes.{value_from, read_answers}
use Rattle.ua_server.specs.Reply.{IsBodyWithin}
use Rattle.ua_nodes.proofs.Appended.{whole_or_past}
use Rattle.ua_server.proofs.GivenUp.{passes_more}

-- the front of a Read response: the NodeId of its encoding, its header, and how many results it has
abbrev pub front : ResponseHeader → ℕ → List ℕ
front header results = node_id.canonical (standard 634) ++ (response_header.canonical header ++ number_octets 4 results)

-- what the array of the results is written as
array_octets : (values : List DataValue) → (array data_value_format).canonical (Some values) ≡ number_octets 4 (length values)
    ++ flat_map data_value_format.canonical values
unfolding array
array_octets values = refl

no_diagnostics : (header : ResponseHeader) (values : List DataValue)
    → read_response.canonical (read_response_of header values) ≡ response_header.canonical header
    ++ ((array data_value_format).canonical (Some values) ++ number_octets 4 null_count)
unfolding read_response array
no_diagnostics header values = refl

-- ---- results

value_octets : (d : DataValueData) → data_value_canonical d ≡ data_value_format.canonical (value_from d)
unfolding data_value_format
value_octets (bare f) = refl
value_octets (valued v f) = refl

results_octets : (nodes : Nodes) (items : List ReadValueId) (stamps : Stamps) (moment : DateTime)
    → flat_map (result_octets nodes stamps moment) items ≡ flat_map data_value_format.canonical (read_answers nodes items stamps moment)
results_octets nodes [] stamps moment = refl
results_octets nodes (item ∷ items) stamps moment =
    rw (value_octets (read_answer (node_at nodes item.node_id) item stamps moment), results_octets nodes items stamps moment)

pub results_count : (nodes : Nodes) (items : List ReadValueId) (stamps : Stamps) (moment : DateTime)
    → length items ≡ length (read_answers nodes items stamps moment)
results_count nodes [] stamps moment = refl
results_count nodes (item ∷ items) stamps moment = ap suc (results_count nodes items stamps moment)

-- ---- the whole

-- parts that are written one behind the other, and the same in the order in which they nest
regrouped : (id header count values last : List ℕ) → ((id ++ (header ++ count)) ++ values) ++ last ≡ id ++ (header ++ ((count ++ values) ++ last))
regrouped id header count values last =
    append_assoc (id ++ (header ++ count)) values last
    ∙ append_assoc id (header ++ count) (values ++ last)
    ∙ rw (append_assoc header count (values ++ last), sym (append_assoc count values last))

written_whole : (header : ResponseHeader) (nodes : Nodes) (items : List ReadValueId) (stamps : Stamps) (moment : DateTime)
    → (front header (length items) ++ flat_map (result_octets nodes stamps moment) items) ++ number_octets 4 null_count
    ≡ response.canonical (ReadMessage (read_response_of header (read_answers nodes items stamps moment)))
written_whole header nodes items stamps moment =
    let values = read_answers nodes items stamps moment in
    ap (λ (b : List ℕ). (front header (length items) ++ b) ++ number_octets 4 null_count) (results_octets nodes items stamps moment)
    ∙ ap (λ (n : ℕ). (front header n ++ flat_map data_value_format.canonical values) ++ number_octets 4 null_count) (results_count nodes items stamps moment)
    ∙ regrouped (node_id.canonical (standard 634)) (response_header.canonical header) (number_octets 4 (length values))
    (flat_map data_value_format.canonical values) (number_octets 4 null_count)
    ∙ ap (λ (b : List ℕ). node_id.canonical (standard 634) ++ (response_header.canonical header ++ (b ++ number_octets 4 null_count)))
    (sym (array_octets values))
    ∙ ap (λ (b : List ℕ). node_id.canonical (standard 634) ++ b) (sym (no_diagnostics header values))
    ∙ sym (response-canonical Read (read_response_of header values))

-- the front, as it is written: the NodeId and the header, and behind them the count
front-parts : (header : ResponseHeader) (results : ℕ) → (node_id.canonical (standard 634) ++ response_header.canonical header) ++ number_octets 4 results
    ≡ front header results
front-parts header results = append_assoc (node_id.canonical (standard 634)) (response_header.canonical header) (number_octets 4 results)

null_diagnostics : (array diagnostic_format).canonical None ≡ number_octets 4 null_count
unfolding array
null_diagnostics = refl

-- what stands there is the front, the results and no diagnostics
pub written_parts : (most : Option ℕ) (header : ResponseHeader) (nodes : Nodes) (items : List ReadValueId) (stamps : Stamps) (moment : DateTime)
    (id body : List ℕ)
    → id ≡ node_id.canonical (standard 634)
    → AddsResponse (λ old new. IsWithin most (result_octets nodes stamps moment) items (old ++ number_octets 4 (length items)) new) header None id body
    → (results : List ℕ) × IsWithin most (result_octets nodes stamps moment) items (front header (length items)) results
    × (body ≡ results ++ number_octets 4 null_count)
written_parts most header nodes items stamps moment id body is adds =
    let named = λ (b : List ℕ). IsWithin most (result_octets nodes stamps moment) items b adds.behind in (
      adds.behind,
      rw (← front-parts header (length items), ← is) adds.results,
      adds.rest ∙ rw null_diagnostics,
    )

-- the body that is written, which may have been given up
pub written_within : (most : Option ℕ) (header : ResponseHeader) (nodes : Nodes) (items : List ReadValueId) (stamps : Stamps) (moment : DateTime)
    (results body : List ℕ)
    → IsWithin most (result_octets nodes stamps moment) items (front header (length items)) results → body ≡ results ++ number_octets 4 null_count
    → IsBodyWithin most (response.canonical (ReadMessage (read_response_of header (read_answers nodes items stamps moment)))) body
written_within most header nodes items stamps moment results body within is =
    let all = front header (length items) ++ flat_map (result_octets nodes stamps moment) items in
    let whole = response.canonical (ReadMessage (read_response_of header (read_answers nodes items stamps moment))) in
    elim (whole_or_past most (result_octets nodes stamps moment) items (front header (length items)) results within) [
      | inl e ↦ inl (is ∙ rw e (written_whole header nodes items stamps moment))
      | inr p ↦
          let few : length body ≡ length results + length (number_octets 4 null_count) = ap length is ∙ length-append results (number_octets 4 null_count) in
          let many : length whole ≡ length all + length (number_octets 4 null_count) =
          sym (ap length (written_whole header nodes items stamps moment)) ∙ length-append all (number_octets 4 null_count) in
          let least : length results ≤ length all = p.1 in
          inr (
            passes_more most (length results) (length body) (omega (arith, few)) p.0,
            passes_more most (length results) (length whole) (omega (arith, many, least)) p.0,
          )
    ]

pub written_some : (results : List ℕ) → 0 < length (results ++ number_octets 4 null_count)
unfolding number_octets
written_some results =
    let count : length (results ++ number_octets 4 null_count) ≡ length results + length (number_octets 4 null_count) =
    length-append results (number_octets 4 null_count) in
    let four : length (number_octets 4 null_count) ≡ 4 = refl in
    omega (arith, count, four)

-- The format of ExpandedNodeIds is sound and lawful.
use Rattle.std.specs.Prelude.{IsTrue, ◌&&◌, ◌^◌, not, nat_lt, is_some}
use Rattle.std.proofs.Common.{◌≡◌, ◌<◌, ◌+◌, ◌*◌, ◌/◌, ◌%◌, ℕ, zero, suc, Bool, true, false, List, ◌∷◌, ◌++◌, refl, sym, ap, subst, ◌∙◌, arith, bit_and}
use Rattle.std.proofs.lemmas.Bool.{eqb-true, ltb-true}
use Rattle.std.proofs.lemmas.Nat.{and_mask}
use Rattle.ua_wire.specs.Exact.{Follows}
use Rattle.ua_wire.specs.Number.{number_octets, number_at, IsNumber}
use Rattle.ua_wire.specs.Format.{Flat, flat, IsSound, IsLawful}
use Rattle.ua_wire.specs.Join.{number, both, made}
use Rattle.ua_wire.proofs.Readers.{both_true, exact_same, exact_bind}
use Rattle.ua_wire.proofs.NumbersRead.{one_octet, octet_front, front_octet, exact_number}
use Rattle.ua_wire.proofs.Lawfulness.{sound_number, sound_made, sound_both, lawful_flat}
use Rattle.ua_wire.proofs.Leasts.{least_starts}
use Rattle.ua_builtin.specs.Flags.{has, flag_bit, flagged_text, EncodesFlagged}
use Rattle.ua_builtin.specs.NodeId.{in_form, form_of, EncodesNodeId}
use Rattle.ua_builtin.specs.ExpandedNodeId.{expanded, expanded_node_id, expanded_fits, expanded_octets, flags_octet_of}
use Rattle.ua_builtin.specs.ExpandedNodeId.{is_here, behind_octet, flagged_index, EncodesIndex, EncodesExpanded}
use Rattle.ua_builtin.specs.declared.expanded_node_id.ExpandedNodeId.{ExpandedNodeId}
use Rattle.ua_builtin.proofs.FlagBits.{flag_has, sound_flagged, sound_flagged_text, text_there, text_back, text_written}
use Rattle.ua_builtin.proofs.NodeIdLawful.{sound_in_form, form_is, form_below, in_form_of}
use Rattle.ua_builtin.proofs.Leasts.{expanded_node_id_least}

-- ---- what an octet of a form and two flags says

-- the lower six bits, and the two flags
abbrev Says : ℕ → ℕ → Bool → Bool → Type 0
Says octet form uri index = (bit_and octet 63 ≡ form) × (has octet 128 ≡ uri) × (has octet 64 ≡ index) × (nat_lt octet (256 ^ 1) ≡ true)

flags_say : (form : ℕ) (uri index : Bool) → form < 6 → Says (form + flag_bit 128 uri + flag_bit 64 index) form uri index
flags_say zero false false h = (refl, refl, refl, refl)
flags_say zero false true h = (refl, refl, refl, refl)
flags_say zero true false h = (refl, refl, refl, refl)
flags_say zero true true h = (refl, refl, refl, refl)
flags_say (suc zero) false false h = (refl, refl, refl, refl)
flags_say (suc zero) false true h = (refl, refl, refl, refl)
flags_say (suc zero) true false h = (refl, refl, refl, refl)
flags_say (suc zero) true true h = (refl, refl, refl, refl)
flags_say (suc (suc zero)) false false h = (refl, refl, refl, refl)
flags_say (suc (suc zero)) false true h = (refl, refl, refl, refl)
flags_say (suc (suc zero)) true false h = (refl, refl, refl, refl)
flags_say (suc (suc zero)) true true h = (refl, refl, refl, refl)
flags_say (suc (suc (suc zero))) false false h = (refl, refl, refl, refl)
flags_say (suc (suc (suc zero))) false true h = (refl, refl, refl, refl)
flags_say (suc (suc (suc zero))) true false h = (refl, refl, refl, refl)
flags_say (suc (suc (suc zero))) true true h = (refl, refl, refl, refl)
flags_say (suc (suc (suc (suc zero)))) false false h = (refl, refl, refl, refl)
flags_say (suc (suc (suc (suc zero)))) false true h = (refl, refl, refl, refl)
flags_say (suc (suc (suc (suc zero)))) true false h = (refl, refl, refl, refl)
flags_say (suc (suc (suc (suc zero)))) true true h = (refl, refl, refl, refl)
flags_say (suc (suc (suc (suc (suc zero))))) false false h = (refl, refl, refl, refl)
flags_say (suc (suc (suc (suc (suc zero))))) false true h = (refl, refl, refl, refl)
flags_say (suc (suc (suc (suc (suc zero))))) true false h = (refl, refl, refl, refl)
flags_say (suc (suc (suc (suc (suc zero))))) true true h = (refl, refl, refl, refl)
flags_say (suc (suc (suc (suc (suc (suc n)))))) uri index h = absurd (omega arith)

-- an octet is its lower six bits and its two flags
octet_sum : (o : ℕ) → o < 256 → o ≡ bit_and o 63 + flag_bit 128 (has o 128) + flag_bit 64 (has o 64)
octet_sum o small =
    let low : bit_and o 63 ≡ o % 64 = and_mask o 6 in
    let uri : flag_bit 128 (has o 128) ≡ (o / 128 % 2) * 128 = flag_has o 7 in
    let index : flag_bit 64 (has o 64) ≡ (o / 64 % 2) * 64 = flag_has o 6 in
    omega (arith, low, uri, index)

-- ---- the parts

here_is : (index : ℕ) → IsTrue (is_here index) → index ≡ 0
here_is index h = eqb-true index 0 h

sound_index : (set : Bool) → IsSound (flagged_index set)
sound_index = sound_flagged (number 4) 0 is_here here_is (sound_number 4)

sound_octet : (octet : ℕ) → IsSound (behind_octet octet)
sound_octet octet =
    sound_made expanded (λ v. (v.node_id, (v.namespace_uri, v.server_index))) (λ v. refl)
    (sound_both (sound_in_form (bit_and octet 63)) (sound_both (sound_flagged_text (has octet 128)) (sound_index (has octet 64))))

-- what stands behind the octet, by its form and flags
abbrev behind_form : ℕ → Bool → Bool → Flat ExpandedNodeId
behind_form form uri index = made expanded (λ v. (v.node_id, (v.namespace_uri, v.server_index)))
    (both (in_form form) (both (flagged_text uri) (flagged_index index)))

index_there : (set : Bool) (v : ℕ) (b : List ℕ) → EncodesIndex set v b → (flagged_index set).encodes v b
index_there true v b h = h
index_there false v b h = h

index_back : (set : Bool) (v : ℕ) (b : List ℕ) → (flagged_index set).encodes v b → EncodesIndex set v b
index_back true v b h = h
index_back false v b h = h

-- ---- the whole

expanded_back : (v : ExpandedNodeId) (b : List ℕ) → EncodesExpanded v b → Follows (IsNumber 1) (λ octet. (behind_octet octet).encodes) v b
expanded_back v b h =
    let m : ℕ = h.form + flag_bit 128 h.has_uri + flag_bit 64 h.has_index in
    let f = in_form_of v.node_id (h.form ∷ h.node) h.node_encoded in
    let form_is : h.form ≡ f.form = (let e = f.octets in cc) in
    let node_is : h.node ≡ f.back = (let e = f.octets in cc) in
    let small : h.form < 6 = omega (arith, f.small, form_is) in
    let node_encoded : (in_form h.form).encodes v.node_id h.node = subst (λ (k : ℕ). (in_form k).encodes v.node_id h.node) (sym form_is)
    (subst ((in_form f.form).encodes v.node_id) (sym node_is) f.encoded) in
    let says = flags_say h.form h.has_uri h.has_index small in
    let fits : m < 256 = ltb-true m 256 says.3 in
    let back : List ℕ = h.node ++ (h.uri ++ h.index) in
    let within : (behind_octet m).encodes v back =
    subst (λ (k : ℕ). (behind_form k (has m 128) (has m 64)).encodes v back) (sym says.0)
    (subst (λ (x : Bool). (behind_form h.form x (has m 64)).encodes v back) (sym says.1)
    (subst (λ (y : Bool). (behind_form h.form h.has_uri y).encodes v back) (sym says.2)
    (record {
      of = (v.node_id, (v.namespace_uri, v.server_index));
      is = refl;
      encoded = record {
        front = h.node;
        back = h.uri ++ h.index;
        parts = refl;
        first_encoded = node_encoded;
        second_encoded = record {
          front = h.uri;
          back = h.index;
          parts = refl;
          first_encoded = text_there h.has_uri v.namespace_uri h.uri h.uri_encoded;
          second_encoded = index_there h.has_index v.server_index h.index h.index_encoded;
        };
      };
    }))) in
    record { head = m; front = number_octets 1 m; back = back; parts = front_octet m b back fits h.octets; head_encoded = (fits, refl); rest_encoded = within }

expanded_there : (v : ExpandedNodeId) (b : List ℕ) → Follows (IsNumber 1) (λ octet. (behind_octet octet).encodes) v b → EncodesExpanded v b
expanded_there v b h =
    let o = h.head in
    let p = h.rest_encoded in
    let node = p.encoded.front in
    let rest = p.encoded.second_encoded in
    record {
      has_uri = has o 128;
      has_index = has o 64;
      form = bit_and o 63;
      node = node;
      uri = rest.front;
      index = rest.back;
      node_encoded = subst (λ (x : ExpandedNodeId). EncodesNodeId x.node_id (bit_and o 63 ∷ node)) (sym p.is)
          (form_is (bit_and o 63) p.of.0 node p.encoded.first_encoded);
      uri_encoded = subst (λ (x : ExpandedNodeId). EncodesFlagged (has o 128) x.namespace_uri rest.front) (sym p.is)
          (text_back (has o 128) p.of.1.0 rest.front rest.first_encoded);
      index_encoded = subst (λ (x : ExpandedNodeId). EncodesIndex (has o 64) x.server_index rest.back) (sym p.is)
          (index_back (has o 64) p.of.1.1 rest.back rest.second_encoded);
      octets = octet_front o b h.front h.back h.parts h.head_encoded
          ∙ ap (λ (t : List ℕ). o ∷ t) (p.encoded.parts ∙ ap (λ (t : List ℕ). node ++ t) rest.parts)
          ∙ ap (λ (m : ℕ). m ∷ (node ++ (rest.front ++ rest.back))) (octet_sum o h.head_encoded.0);
    }

written_octet : (v : ExpandedNodeId) → IsTrue (expanded_fits v) → EncodesExpanded v (expanded_octets v)
written_octet v h =
    let form : ℕ = form_of v.node_id in
    let uri : Bool = is_some v.namespace_uri in
    let index : Bool = not (is_here v.server_index) in
    let first = both_true ((in_form form).encodable v.node_id) ((flagged_text uri).encodable v.namespace_uri && (flagged_index index).encodable v.server_index)
    h in
    let rest = both_true ((flagged_text uri).encodable v.namespace_uri) ((flagged_index index).encodable v.server_index) first.1 in
    let fits : flags_octet_of v < 256 = ltb-true (flags_octet_of v) 256 (flags_say form uri index (form_below v.node_id)).3 in
    record {
      has_uri = uri;
      has_index = index;
      form = form;
      node = (in_form form).canonical v.node_id;
      uri = (flagged_text uri).canonical v.namespace_uri;
      index = (flagged_index index).canonical v.server_index;
      node_encoded = form_is form v.node_id ((in_form form).canonical v.node_id) ((sound_in_form form).canonical_encodes v.node_id first.0);
      uri_encoded = text_written v.namespace_uri rest.0;
      index_encoded = index_back index v.server_index ((flagged_index index).canonical v.server_index)
          ((sound_index index).canonical_encodes v.server_index rest.1);
      octets =
          ap (λ (t : List ℕ).
          t ++ ((in_form form).canonical v.node_id ++ ((flagged_text uri).canonical v.namespace_uri ++ (flagged_index index).canonical v.server_index)))
          (one_octet (flags_octet_of v) fits);
    }

pub sound_expanded_node_id : IsSound expanded_node_id
unfolding expanded_node_id
sound_expanded_node_id = record {
  exact =
      exact_same (Follows (IsNumber 1) (λ octet. (behind_octet octet).encodes)) EncodesExpanded expanded_node_id.decode expanded_there expanded_back
      (exact_bind (IsNumber 1) (number_at 1) (λ octet. (behind_octet octet).encodes) (λ octet. (behind_octet octet).decode) (exact_number 1)
      (λ octet. (sound_octet octet).exact));
  canonical_encodes = written_octet;
}

pub lawful_expanded_node_id : IsLawful (flat expanded_node_id)
lawful_expanded_node_id = lawful_flat sound_expanded_node_id (least_starts 1 expanded_node_id.encodes expanded_node_id_least)

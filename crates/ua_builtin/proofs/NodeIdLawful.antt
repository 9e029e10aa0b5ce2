-- The format of NodeIds is sound and lawful: the forms, as they are read and written, are those of the standard's table.
use Rattle.std.specs.Prelude.{IsTrue, nat_lt, ◌&&◌, List, [], ◌∷◌, ◌++◌}
use Rattle.std.proofs.Common.{◌≡◌, ◌<◌, ◌⊎◌, inl, inr, ℕ, Bool, true, false, cond, nat_eq, refl, sym, ap, subst, ◌∙◌, arith, lit<}
use Rattle.std.proofs.lemmas.Bool.{eqb-true}
use Rattle.ua_wire.specs.Exact.{Follows}
use Rattle.ua_wire.specs.Number.{number_octets, number_at, IsNumber}
use Rattle.ua_wire.specs.Format.{Flat, flat, IsSound, IsLawful}
use Rattle.ua_wire.specs.Join.{nothing}
use Rattle.ua_wire.proofs.Readers.{both_true, not_false, exact_same, exact_bind}
use Rattle.ua_wire.proofs.NumbersRead.{one_octet, octet_front, front_octet, exact_number}
use Rattle.ua_wire.proofs.Lawfulness.{sound_number, sound_nothing, sound_image, sound_both, sound_chosen, lawful_flat}
use Rattle.ua_wire.proofs.CountedLawful.{sound_text, sound_counted}
use Rattle.ua_wire.proofs.Leasts.{least_starts}
use Rattle.ua_builtin.specs.NodeId.{node, node_id, in_form, form_of, is_short, two_octets, numeric, textual, by_guid, opaque, is_numeric, is_textual}
use Rattle.ua_builtin.specs.NodeId.{is_guid, is_opaque, number_of_identifier, text_of_identifier, guid_of}
use Rattle.ua_builtin.specs.NodeId.{octets_of_identifier, TwoOctet, FourOctet, NumericForm, StringForm}
use Rattle.ua_builtin.specs.NodeId.{GuidForm, OpaqueForm, EncodesNodeId, two_octet, four_octet, numeric_form, string_form, guid_form, opaque_form}
use Rattle.ua_builtin.specs.declared.node_id.NodeId.{NodeId}
use Rattle.ua_builtin.specs.declared.node_id.Identifier.{Identifier}
use Rattle.ua_builtin.specs.declared.node_id.Identifier.TheVariants.{Numeric, Text, Guid as Global, Opaque}
use Rattle.ua_builtin.proofs.PlainLawful.{sound_guid}
use Rattle.ua_builtin.proofs.Leasts.{node_id_least}

-- ---- each form is sound

of_numeric_is : (i : Identifier) → IsTrue (is_numeric i) → i ≡ Numeric (number_of_identifier i)
of_numeric_is (Numeric n) h = refl
of_numeric_is (Text t) h = not_false h
of_numeric_is (Global g) h = not_false h
of_numeric_is (Opaque b) h = not_false h

of_textual_is : (i : Identifier) → IsTrue (is_textual i) → i ≡ Text (text_of_identifier i)
of_textual_is (Numeric n) h = not_false h
of_textual_is (Text t) h = refl
of_textual_is (Global g) h = not_false h
of_textual_is (Opaque b) h = not_false h

of_guid_is : (i : Identifier) → IsTrue (is_guid i) → i ≡ Global (guid_of i)
of_guid_is (Numeric n) h = not_false h
of_guid_is (Text t) h = not_false h
of_guid_is (Global g) h = refl
of_guid_is (Opaque b) h = not_false h

of_opaque_is : (i : Identifier) → IsTrue (is_opaque i) → i ≡ Opaque (octets_of_identifier i)
of_opaque_is (Numeric n) h = not_false h
of_opaque_is (Text t) h = not_false h
of_opaque_is (Global g) h = not_false h
of_opaque_is (Opaque b) h = refl

short_back : (v : NodeId) → IsTrue (is_short v) → v ≡ node 0 (Numeric (number_of_identifier v.identifier))
short_back v h =
    let w = both_true (nat_eq v.namespace 0) (is_numeric v.identifier) h in
    ap (node v.namespace) (of_numeric_is v.identifier w.1) ∙ ap (λ (n : ℕ). node n (Numeric (number_of_identifier v.identifier))) (eqb-true v.namespace 0 w.0)

numeric_back : (v : NodeId) → IsTrue (is_numeric v.identifier) → v ≡ node v.namespace (Numeric (number_of_identifier v.identifier))
numeric_back v h = ap (node v.namespace) (of_numeric_is v.identifier h)

textual_back : (v : NodeId) → IsTrue (is_textual v.identifier) → v ≡ node v.namespace (Text (text_of_identifier v.identifier))
textual_back v h = ap (node v.namespace) (of_textual_is v.identifier h)

guid_back : (v : NodeId) → IsTrue (is_guid v.identifier) → v ≡ node v.namespace (Global (guid_of v.identifier))
guid_back v h = ap (node v.namespace) (of_guid_is v.identifier h)

opaque_back : (v : NodeId) → IsTrue (is_opaque v.identifier) → v ≡ node v.namespace (Opaque (octets_of_identifier v.identifier))
opaque_back v h = ap (node v.namespace) (of_opaque_is v.identifier h)

pub sound_in_form : (form : ℕ) → IsSound (in_form form)
sound_in_form form =
    sound_chosen (nat_eq form 0) two_octets _ (sound_image _ _ _ short_back (sound_number 1))
    (sound_chosen (nat_eq form 1) (numeric 1 2) _ (sound_image _ _ _ numeric_back (sound_both (sound_number 1) (sound_number 2)))
    (sound_chosen (nat_eq form 2) (numeric 2 4) _ (sound_image _ _ _ numeric_back (sound_both (sound_number 2) (sound_number 4)))
    (sound_chosen (nat_eq form 3) textual _ (sound_image _ _ _ textual_back (sound_both (sound_number 2) sound_text))
    (sound_chosen (nat_eq form 4) by_guid _ (sound_image _ _ _ guid_back (sound_both (sound_number 2) sound_guid))
    (sound_chosen (nat_eq form 5) opaque nothing (sound_image _ _ _ opaque_back (sound_both (sound_number 2) sound_counted))
    sound_nothing)))))

-- ---- from the format to the forms

pub cond_encodes : {A : Type 0} (test : Bool) (f g : Flat A) (v : A) (b : List ℕ) → (cond test f g).encodes v b → ((test ≡ true) × f.encodes v b)
    ⊎ ((test ≡ false) × g.encodes v b)
cond_encodes true f g v b h = inl (refl, h)
cond_encodes false f g v b h = inr (refl, h)

two_is : (v : NodeId) (b : List ℕ) → two_octets.encodes v b → TwoOctet v (0 ∷ b)
two_is v b h = record { id = h.of; is = h.is; id_fits = h.encoded.0; octets = ap (λ (t : List ℕ). 0 ∷ t) (h.encoded.1 ∙ one_octet h.of h.encoded.0) }

four_is : (v : NodeId) (b : List ℕ) → (numeric 1 2).encodes v b → FourOctet v (1 ∷ b)
four_is v b h = record {
  namespace = h.of.0;
  id = h.of.1;
  is = h.is;
  namespace_fits = h.encoded.first_encoded.0;
  id_fits = h.encoded.second_encoded.0;
  octets =
      ap (λ (t : List ℕ). 1 ∷ t) (h.encoded.parts
      ∙ ap (λ (t : List ℕ). t ++ h.encoded.back) (h.encoded.first_encoded.1 ∙ one_octet h.of.0 h.encoded.first_encoded.0)
      ∙ ap (λ (t : List ℕ). h.of.0 ∷ t) h.encoded.second_encoded.1);
}

numeric_is : (v : NodeId) (b : List ℕ) → (numeric 2 4).encodes v b → NumericForm v (2 ∷ b)
numeric_is v b h = record {
  namespace = h.of.0;
  id = h.of.1;
  is = h.is;
  namespace_fits = h.encoded.first_encoded.0;
  id_fits = h.encoded.second_encoded.0;
  octets = ap (λ (t : List ℕ). 2 ∷ t) (h.encoded.parts ∙ ap (λ (t : List ℕ). t ++ h.encoded.back) h.encoded.first_encoded.1
      ∙ ap (λ (t : List ℕ). number_octets 2 h.of.0 ++ t) h.encoded.second_encoded.1);
}

string_is : (v : NodeId) (b : List ℕ) → textual.encodes v b → StringForm v (3 ∷ b)
string_is v b h = record {
  namespace = h.of.0;
  id = h.of.1;
  back = h.encoded.back;
  is = h.is;
  namespace_fits = h.encoded.first_encoded.0;
  id_encoded = h.encoded.second_encoded;
  octets = ap (λ (t : List ℕ). 3 ∷ t) (h.encoded.parts ∙ ap (λ (t : List ℕ). t ++ h.encoded.back) h.encoded.first_encoded.1);
}

guid_is : (v : NodeId) (b : List ℕ) → by_guid.encodes v b → GuidForm v (4 ∷ b)
guid_is v b h = record {
  namespace = h.of.0;
  id = h.of.1;
  back = h.encoded.back;
  is = h.is;
  namespace_fits = h.encoded.first_encoded.0;
  id_encoded = h.encoded.second_encoded;
  octets = ap (λ (t : List ℕ). 4 ∷ t) (h.encoded.parts ∙ ap (λ (t : List ℕ). t ++ h.encoded.back) h.encoded.first_encoded.1);
}

opaque_is : (v : NodeId) (b : List ℕ) → opaque.encodes v b → OpaqueForm v (5 ∷ b)
opaque_is v b h = record {
  namespace = h.of.0;
  id = h.of.1;
  back = h.encoded.back;
  is = h.is;
  namespace_fits = h.encoded.first_encoded.0;
  id_encoded = h.encoded.second_encoded;
  octets = ap (λ (t : List ℕ). 5 ∷ t) (h.encoded.parts ∙ ap (λ (t : List ℕ). t ++ h.encoded.back) h.encoded.first_encoded.1);
}

at_octet : (v : NodeId) (b : List ℕ) (form k : ℕ) → nat_eq form k ≡ true → EncodesNodeId v (k ∷ b) → EncodesNodeId v (form ∷ b)
at_octet v b form k e h = subst (λ (x : ℕ). EncodesNodeId v (x ∷ b)) (sym (eqb-true form k e)) h

pub form_is : (form : ℕ) (v : NodeId) (b : List ℕ) → (in_form form).encodes v b → EncodesNodeId v (form ∷ b)
form_is form v b h =
    elim (cond_encodes (nat_eq form 0) two_octets _ v b h) as (λ _. EncodesNodeId v (form ∷ b)) [
      | inl p ↦ at_octet v b form 0 p.0 (two_octet (two_is v b p.1))
      | inr p ↦ elim (cond_encodes (nat_eq form 1) (numeric 1 2) _ v b p.1) as (λ _. EncodesNodeId v (form ∷ b)) [
        | inl q ↦ at_octet v b form 1 q.0 (four_octet (four_is v b q.1))
        | inr q ↦ elim (cond_encodes (nat_eq form 2) (numeric 2 4) _ v b q.1) as (λ _. EncodesNodeId v (form ∷ b)) [
          | inl r ↦ at_octet v b form 2 r.0 (numeric_form (numeric_is v b r.1))
          | inr r ↦ elim (cond_encodes (nat_eq form 3) textual _ v b r.1) as (λ _. EncodesNodeId v (form ∷ b)) [
            | inl s ↦ at_octet v b form 3 s.0 (string_form (string_is v b s.1))
            | inr s ↦ elim (cond_encodes (nat_eq form 4) by_guid _ v b s.1) as (λ _. EncodesNodeId v (form ∷ b)) [
              | inl t ↦ at_octet v b form 4 t.0 (guid_form (guid_is v b t.1))
              | inr t ↦ elim (cond_encodes (nat_eq form 5) opaque _ v b t.1) as (λ _. EncodesNodeId v (form ∷ b)) [
                | inl u ↦ at_octet v b form 5 u.0 (opaque_form (opaque_is v b u.1))
                | inr u ↦ absurd u.1
              ]
            ]
          ]
        ]
      ]
    ]

-- ---- from the forms to the format

-- a form octet below 6, and what is encoded behind it
pub record InForm (v : NodeId) (b : List ℕ) : Type 0 where
  pub form : ℕ
  pub back : List ℕ
  pub octets : b ≡ form ∷ back
  pub small : form < 6
  pub encoded : (in_form form).encodes v back

pub in_form_of : (v : NodeId) (b : List ℕ) → EncodesNodeId v b → InForm v b
in_form_of v b (two_octet h) = record {
  form = 0;
  back = h.id ∷ [];
  octets = h.octets;
  small = lit< tt;
  encoded = record { of = h.id; is = h.is; encoded = (h.id_fits, sym (one_octet h.id h.id_fits)) };
}
in_form_of v b (four_octet h) = record {
  form = 1;
  back = h.namespace ∷ number_octets 2 h.id;
  octets = h.octets;
  small = lit< tt;
  encoded =
      record {
        of = (h.namespace, h.id);
        is = h.is;
        encoded =
            record {
              front = number_octets 1 h.namespace;
              back = number_octets 2 h.id;
              parts = ap (λ (t : List ℕ). t ++ number_octets 2 h.id)
                  (sym (one_octet h.namespace h.namespace_fits));
              first_encoded = (h.namespace_fits, refl);
              second_encoded = (h.id_fits, refl);
            };
      };
}
in_form_of v b (numeric_form h) = record {
  form = 2;
  back = number_octets 2 h.namespace ++ number_octets 4 h.id;
  octets = h.octets;
  small = lit< tt;
  encoded =
      record {
        of = (h.namespace, h.id);
        is = h.is;
        encoded = record {
          front = number_octets 2 h.namespace;
          back = number_octets 4 h.id;
          parts = refl;
          first_encoded = (h.namespace_fits, refl);
          second_encoded = (h.id_fits, refl);
        };
      };
}
in_form_of v b (string_form h) = record {
  form = 3;
  back = number_octets 2 h.namespace ++ h.back;
  octets = h.octets;
  small = lit< tt;
  encoded =
      record {
        of = (h.namespace, h.id);
        is = h.is;
        encoded = record {
          front = number_octets 2 h.namespace;
          back = h.back;
          parts = refl;
          first_encoded = (h.namespace_fits, refl);
          second_encoded = h.id_encoded;
        };
      };
}
in_form_of v b (guid_form h) = record {
  form = 4;
  back = number_octets 2 h.namespace ++ h.back;
  octets = h.octets;
  small = lit< tt;
  encoded =
      record {
        of = (h.namespace, h.id);
        is = h.is;
        encoded = record {
          front = number_octets 2 h.namespace;
          back = h.back;
          parts = refl;
          first_encoded = (h.namespace_fits, refl);
          second_encoded = h.id_encoded;
        };
      };
}
in_form_of v b (opaque_form h) = record {
  form = 5;
  back = number_octets 2 h.namespace ++ h.back;
  octets = h.octets;
  small = lit< tt;
  encoded =
      record {
        of = (h.namespace, h.id);
        is = h.is;
        encoded = record {
          front = number_octets 2 h.namespace;
          back = h.back;
          parts = refl;
          first_encoded = (h.namespace_fits, refl);
          second_encoded = h.id_encoded;
        };
      };
}

form_there : (v : NodeId) (b : List ℕ) → Follows (IsNumber 1) (λ form. (in_form form).encodes) v b → EncodesNodeId v b
form_there v b h = subst (EncodesNodeId v) (sym (octet_front h.head b h.front h.back h.parts h.head_encoded)) (form_is h.head v h.back h.rest_encoded)

form_back : (v : NodeId) (b : List ℕ) → EncodesNodeId v b → Follows (IsNumber 1) (λ form. (in_form form).encodes) v b
form_back v b h =
    let f = in_form_of v b h in
    let fits : f.form < 256 = omega (arith, f.small) in
    record {
      head = f.form;
      front = number_octets 1 f.form;
      back = f.back;
      parts = front_octet f.form b f.back fits f.octets;
      head_encoded = (fits, refl);
      rest_encoded = f.encoded;
    }

-- ---- the whole

short_below : (a b : Bool) → cond a 0 (cond b 1 2) < 6
short_below true b = omega arith
short_below false true = omega arith
short_below false false = omega arith

form_small : (n : ℕ) (i : Identifier) → form_of (node n i) < 6
form_small n (Numeric k) = short_below (nat_eq n 0 && nat_lt k 256) (nat_lt n 256 && nat_lt k 65536)
form_small n (Text t) = omega arith
form_small n (Global g) = omega arith
form_small n (Opaque b) = omega arith

-- the form octet that a writer sets is one of the six
pub form_below : (v : NodeId) → form_of v < 6
form_below v = form_small v.namespace v.identifier

written_form : (v : NodeId) → IsTrue ((in_form (form_of v)).encodable v) → EncodesNodeId v (number_octets 1 (form_of v) ++ (in_form (form_of v)).canonical v)
written_form v h =
    let small : form_of v < 6 = form_below v in
    let fits : form_of v < 256 = omega arith in
    subst (EncodesNodeId v) (ap (λ (t : List ℕ). t ++ (in_form (form_of v)).canonical v) (sym (one_octet (form_of v) fits)))
    (form_is (form_of v) v ((in_form (form_of v)).canonical v) ((sound_in_form (form_of v)).canonical_encodes v h))

pub sound_node_id : IsSound node_id
unfolding node_id
sound_node_id = record {
  exact =
      exact_same (Follows (IsNumber 1) (λ form. (in_form form).encodes)) EncodesNodeId node_id.decode form_there form_back
      (exact_bind (IsNumber 1) (number_at 1) (λ form. (in_form form).encodes) (λ form. (in_form form).decode) (exact_number 1)
      (λ form. (sound_in_form form).exact));
  canonical_encodes = written_form;
}

pub lawful_node_id : IsLawful (flat node_id)
lawful_node_id = lawful_flat sound_node_id (least_starts 1 node_id.encodes node_id_least)

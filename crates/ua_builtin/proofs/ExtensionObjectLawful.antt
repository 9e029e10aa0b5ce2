-- The format of ExtensionObjects is sound and lawful.
use Rattle.std.specs.Prelude.{IsTrue, OnOk, Result, Ok, Err}
use Rattle.std.proofs.Common.{◌≡◌, ◌<◌, ℕ, nat_eq, List, [], ◌∷◌, ◌++◌, refl, sym, ap, subst, ◌∙◌, arith, lit<}
use Rattle.std.proofs.lemmas.Bool.{eqb-true, eqb-false}
use Rattle.ua_wire.specs.Exact.{Exact, Follows, IsOnly, only_read, Image, image_read, Never, never_read}
use Rattle.ua_wire.specs.Number.{number_octets, number_at, IsNumber}
use Rattle.ua_wire.specs.Format.{flat, IsSound, IsLawful}
use Rattle.ua_wire.specs.Counted.{counted}
use Rattle.ua_wire.proofs.Readers.{exact_same, exact_bind, exact_only, exact_image, exact_never, exact_chosen}
use Rattle.ua_wire.proofs.NumbersRead.{one_octet, octet_front, front_octet, exact_number}
use Rattle.ua_wire.proofs.Lawfulness.{sound_made, sound_both, lawful_flat}
use Rattle.ua_wire.proofs.CountedLawful.{sound_counted}
use Rattle.ua_wire.proofs.Leasts.{least_starts}
use Rattle.ua_builtin.specs.XmlElement.{xml_element}
use Rattle.ua_builtin.specs.ExtensionObject.{extension_object, body, EncodesBody, body_fits, body_octets, body_at, behind_kind}
use Rattle.ua_builtin.specs.declared.extension_object.ExtensionBody.{ExtensionBody}
use Rattle.ua_builtin.specs.declared.extension_object.ExtensionBody.TheVariants.{Absent, ByteString, Xml}
use Rattle.ua_builtin.proofs.PlainLawful.{sound_xml_element}
use Rattle.ua_builtin.proofs.NodeIdLawful.{sound_node_id}
use Rattle.ua_builtin.proofs.Leasts.{extension_object_least}

-- ---- behind the octet for the kind of body

-- the body is of this kind, and the octets encode it
abbrev OfKind : ℕ → ExtensionBody → List ℕ → Type 0
OfKind kind Absent b = (kind ≡ 0) × (b ≡ [])
OfKind kind (ByteString v) b = (kind ≡ 1) × counted.encodes v b
OfKind kind (Xml v) b = (kind ≡ 2) × xml_element.encodes v b

absent_there : (kind : ℕ) → kind ≡ 0 → (v : ExtensionBody) (b : List ℕ) → IsOnly Absent v b → OfKind kind v b
absent_there kind is v b h = subst (λ (x : ExtensionBody). OfKind kind x b) (sym h.0) (is, h.1)

absent_back : (kind : ℕ) → kind ≡ 0 → (v : ExtensionBody) (b : List ℕ) → OfKind kind v b → IsOnly Absent v b
absent_back kind is Absent b h = (refl, h.1)
absent_back kind is (ByteString v) b h = absurd (omega (arith, h.0))
absent_back kind is (Xml v) b h = absurd (omega (arith, h.0))

octets_there : (kind : ℕ) → kind ≡ 1 → (v : ExtensionBody) (b : List ℕ) → Image ByteString counted.encodes v b → OfKind kind v b
octets_there kind is v b h = subst (λ (x : ExtensionBody). OfKind kind x b) (sym h.is) (is, h.encoded)

octets_back : (kind : ℕ) → kind ≡ 1 → (v : ExtensionBody) (b : List ℕ) → OfKind kind v b → Image ByteString counted.encodes v b
octets_back kind is Absent b h = absurd (omega (arith, h.0))
octets_back kind is (ByteString v) b h = record { of = v; is = refl; encoded = h.1 }
octets_back kind is (Xml v) b h = absurd (omega (arith, h.0))

xml_there : (kind : ℕ) → kind ≡ 2 → (v : ExtensionBody) (b : List ℕ) → Image Xml xml_element.encodes v b → OfKind kind v b
xml_there kind is v b h = subst (λ (x : ExtensionBody). OfKind kind x b) (sym h.is) (is, h.encoded)

xml_back : (kind : ℕ) → kind ≡ 2 → (v : ExtensionBody) (b : List ℕ) → OfKind kind v b → Image Xml xml_element.encodes v b
xml_back kind is Absent b h = absurd (omega (arith, h.0))
xml_back kind is (ByteString v) b h = absurd (omega (arith, h.0))
xml_back kind is (Xml v) b h = record { of = v; is = refl; encoded = h.1 }

no_kind : (kind : ℕ) → (kind ≡ 0 → ⊥) → (kind ≡ 1 → ⊥) → (kind ≡ 2 → ⊥) → (v : ExtensionBody) (b : List ℕ) → OfKind kind v b → Never v b
no_kind kind zero one two Absent b h = zero h.0
no_kind kind zero one two (ByteString v) b h = one h.0
no_kind kind zero one two (Xml v) b h = two h.0

exact_kind : (kind : ℕ) → Exact (OfKind kind) (behind_kind kind)
exact_kind kind =
    exact_chosen (nat_eq kind 0) (OfKind kind) (only_read Absent) _
    (λ is. exact_same (IsOnly Absent) (OfKind kind) (only_read Absent) (absent_there kind (eqb-true kind 0 is)) (absent_back kind (eqb-true kind 0 is))
    (exact_only Absent)) (λ zero.
    exact_chosen (nat_eq kind 1) (OfKind kind) (image_read ByteString counted.decode) _
    (λ is. exact_same (Image ByteString counted.encodes) (OfKind kind) (image_read ByteString counted.decode) (octets_there kind (eqb-true kind 1 is))
    (octets_back kind (eqb-true kind 1 is)) (exact_image ByteString counted.encodes counted.decode sound_counted.exact)) (λ one.
    exact_chosen (nat_eq kind 2) (OfKind kind) (image_read Xml xml_element.decode) never_read
    (λ is. exact_same (Image Xml xml_element.encodes) (OfKind kind) (image_read Xml xml_element.decode) (xml_there kind (eqb-true kind 2 is))
    (xml_back kind (eqb-true kind 2 is)) (exact_image Xml xml_element.encodes xml_element.decode sound_xml_element.exact))
    (λ two. exact_same Never (OfKind kind) never_read (λ v b h. absurd h) (no_kind kind (eqb-false kind 0 zero) (eqb-false kind 1 one) (eqb-false kind 2 two))
    exact_never)))

-- ---- the body

behind_octet : (k kind : ℕ) (b front back : List ℕ) → kind ≡ k → b ≡ front ++ back → IsNumber 1 kind front → b ≡ k ∷ back
behind_octet k kind b front back is e h = octet_front kind b front back e h ∙ ap (λ (n : ℕ). n ∷ back) is

body_there : (v : ExtensionBody) (b : List ℕ) → Follows (IsNumber 1) OfKind v b → EncodesBody v b
body_there Absent b h = behind_octet 0 h.head b h.front h.back h.rest_encoded.0 h.parts h.head_encoded ∙ ap (λ (t : List ℕ). 0 ∷ t) h.rest_encoded.1
body_there (ByteString v) b h = (h.back, behind_octet 1 h.head b h.front h.back h.rest_encoded.0 h.parts h.head_encoded, h.rest_encoded.1)
body_there (Xml v) b h = (h.back, behind_octet 2 h.head b h.front h.back h.rest_encoded.0 h.parts h.head_encoded, h.rest_encoded.1)

kind_follows : (kind : ℕ) (v : ExtensionBody) (b back : List ℕ) → kind < 256 → b ≡ kind ∷ back → OfKind kind v back → Follows (IsNumber 1) OfKind v b
kind_follows kind v b back fits e h = record {
  head = kind;
  front = number_octets 1 kind;
  back = back;
  parts = front_octet kind b back fits e;
  head_encoded = (fits, refl);
  rest_encoded = h;
}

body_back : (v : ExtensionBody) (b : List ℕ) → EncodesBody v b → Follows (IsNumber 1) OfKind v b
body_back Absent b h = kind_follows 0 Absent b [] (lit< tt) h (refl, refl)
body_back (ByteString v) b h = kind_follows 1 (ByteString v) b h.0 (lit< tt) h.1 (refl, h.2)
body_back (Xml v) b h = kind_follows 2 (Xml v) b h.0 (lit< tt) h.1 (refl, h.2)

body_written : (v : ExtensionBody) → IsTrue (body_fits v) → EncodesBody v (body_octets v)
body_written Absent h = refl
body_written (ByteString v) h = (counted.canonical v, refl, sound_counted.canonical_encodes v h)
body_written (Xml v) h = (xml_element.canonical v, refl, sound_xml_element.canonical_encodes v h)

sound_body : IsSound body
sound_body = record {
  exact = exact_same (Follows (IsNumber 1) OfKind) EncodesBody body_at body_there body_back
      (exact_bind (IsNumber 1) (number_at 1) OfKind behind_kind (exact_number 1) exact_kind);
  canonical_encodes = body_written;
}

-- ---- the whole

pub sound_extension_object : IsSound extension_object
unfolding extension_object
sound_extension_object = sound_made _ _ (λ v. refl) (sound_both sound_node_id sound_body)

pub lawful_extension_object : IsLawful (flat extension_object)
lawful_extension_object = lawful_flat sound_extension_object (least_starts 2 extension_object.encodes extension_object_least)

-- ---- what is written of the body

pub written_kind : {E : Type 0} (r : Result (Unit {0}) E) (b : ExtensionBody) (kind : ℕ) (back octets start new : List ℕ) → kind < 256
    → body_octets b ≡ kind ∷ back
    → octets ≡ number_octets 1 kind ++ back → OnOk r (new ≡ start ++ octets) → OnOk r (new ≡ start ++ body_octets b)
written_kind (Ok _) b kind back octets start new fits is all was =
    was ∙ ap (λ (t : List ℕ). start ++ t) (all ∙ ap (λ (t : List ℕ). t ++ back) (one_octet kind fits) ∙ sym is)
written_kind (Err _) b kind back octets start new fits is all was = tt

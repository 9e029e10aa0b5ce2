-- What octets encode in a flat format can be written.
use Rattle.std.specs.Prelude.{◌≡◌, ℕ, ℤ, pos, negsuc, ◌<◌, ◌^◌, List, length, Bool, true}
use Rattle.std.specs.Prelude.{false, ◌&&◌, cond, Option, Some, None, is_some, nat_eq, nat_lt}
use Rattle.std.specs.Int.{Width, w32, w64, cast_signed, cast_unsigned}
use Rattle.std.specs.Int.RustNames.{FitsSigned}
use Rattle.std.proofs.Common.{refl, sym, ap, subst, ◌∙◌, arith}
use Rattle.std.proofs.lemmas.Bool.{lt-ltb}
use Rattle.std.proofs.lemmas.Int.{of_z-to_z}
use Rattle.std.proofs.Math.Facts.{sfits_to_z}
use mir.Val.{bits, hbits}
use Rattle.ua_wire.specs.Format.{Flat}
use Rattle.ua_wire.specs.Join.{number, both, image, made, such}
use Rattle.ua_wire.specs.Boolean.{boolean}
use Rattle.ua_wire.specs.Signed.{signed, in_range, width_octets}
use Rattle.ua_wire.specs.DoubleBits.{double_bits}
use Rattle.ua_wire.specs.Counted.{text, is_text, counted, EncodesCounted, counted_fits, first_negative}
use Rattle.ua_wire.proofs.Readers.{both_true}
use Rattle.ua_builtin.specs.DateTime.{date_time, of_ticks}
use Rattle.ua_builtin.specs.Guid.{guid}
use Rattle.ua_builtin.specs.Status.{status_code}
use Rattle.ua_builtin.specs.XmlElement.{xml_element}
use Rattle.ua_builtin.specs.QualifiedName.{qualified_name}
use Rattle.ua_builtin.specs.LocalizedText.{localized_text}
use Rattle.ua_builtin.specs.Flags.{flagged_text, EncodesFlagged}
use Rattle.ua_builtin.specs.NodeId.{node, node_id, in_form, form_of, EncodesNodeId, two_octet, four_octet, numeric_form, string_form, guid_form, opaque_form}
use Rattle.ua_builtin.specs.ExtensionObject.{extension_object, EncodesBody, body_fits}
use Rattle.ua_builtin.specs.declared.node_id.NodeId.{NodeId}
use Rattle.ua_builtin.specs.declared.node_id.Identifier.TheVariants.{Numeric}
use Rattle.ua_builtin.specs.declared.extension_object.ExtensionBody.{ExtensionBody}
use Rattle.ua_builtin.specs.declared.extension_object.ExtensionBody.TheVariants.{Absent, ByteString, Xml}

-- each value that octets encode can be written
pub record WritesBack {A : Type 0} (f : Flat A) : Type 0 where
  pub fits : (v : A) (b : List ℕ) → f.encodes v b → f.encodable v ≡ true

pub and_true : (a b : Bool) → a ≡ true → b ≡ true → (a && b) ≡ true
and_true true b h k = k
and_true false b h k = absurd cc

-- ---- formats made of formats

pub back_number : (k : ℕ) → WritesBack (number k)
back_number k = record { fits = λ n b h. lt-ltb n (256 ^ k) h.0 }

pub back_both : {A B : Type 0} {f : Flat A} {g : Flat B} → WritesBack f → WritesBack g → WritesBack (both f g)
back_both {f = f} {g = g} first second = record {
  fits = λ v b h. and_true (f.encodable v.0) (g.encodable v.1) (first.fits v.0 h.front h.first_encoded) (second.fits v.1 h.back h.second_encoded);
}

-- forth: the parts of a value are what it is made of
pub back_made : {A B : Type 0} {f : Flat A} (make : A → B) (parts : B → A) (forth : (x : A) → parts (make x) ≡ x) → WritesBack f
    → WritesBack (made make parts f)
back_made {f = f} make parts forth back = record {
  fits = λ v b h. ap f.encodable (ap parts h.is ∙ forth h.of) ∙ back.fits h.of b h.encoded;
}

-- the same where just these values are made
back_image : {A B : Type 0} {f : Flat A} (make : A → B) (parts : B → A) (is : B → Bool)
    → ((x : A) (b : List ℕ) → f.encodes x b → (parts (make x) ≡ x) × (is (make x) ≡ true)) → WritesBack f → WritesBack (image make parts is f)
back_image {f = f} make parts is forth back = record {
  fits = λ v b h.
      let w = forth h.of b h.encoded in
      and_true (is v) (f.encodable (parts v)) (ap is h.is ∙ w.1) (ap f.encodable (ap parts h.is ∙ w.0) ∙ back.fits h.of b h.encoded);
}

back_such : {A : Type 0} {f : Flat A} (test : A → Bool) → WritesBack f → WritesBack (such test f)
back_such {f = f} test back = record { fits = λ v b h. and_true (test v) (f.encodable v) h.0 (back.fits v b h.1) }

-- ---- numbers, octets and texts

bit_fits : (v : Bool) → boolean.encodable v ≡ true
unfolding boolean
bit_fits true = refl
bit_fits false = refl

pub back_boolean : WritesBack boolean
back_boolean = record { fits = λ v b h. bit_fits v }

signed_in_range : (w : Width) (z : ℤ) → FitsSigned w z → in_range w z ≡ true
signed_in_range w (pos n) h = lt-ltb n (2 ^ hbits w) h.sfits
signed_in_range w (negsuc n) h = lt-ltb n (2 ^ hbits w) h.sfits

pub back_signed : (w : Width) → 256 ^ width_octets w ≡ 2 ^ bits w → WritesBack (signed w)
back_signed w same = back_image (cast_signed w) (cast_unsigned w) (in_range w)
    (λ n b h.
    let low : n < 2 ^ bits w = subst (λ m. n < m) same h.0 in
    (of_z-to_z w n low, signed_in_range w (cast_signed w n) (sfits_to_z (record { fits = low }))))
    (back_number (width_octets w))

pub back_signed_32 : WritesBack (signed w32)
back_signed_32 = back_signed w32 refl

pub back_signed_64 : WritesBack (signed w64)
back_signed_64 = back_signed w64 refl

pub back_double_bits : WritesBack double_bits
unfolding double_bits
back_double_bits = back_made _ _ (λ n. refl) (back_number 8)

counted_back : (v : Option (List ℕ)) (b : List ℕ) → EncodesCounted v b → counted_fits v ≡ true
counted_back None b h = refl
counted_back (Some v) b h = lt-ltb (length v) first_negative h.0

pub back_counted : WritesBack counted
unfolding counted
back_counted = record { fits = counted_back }

pub back_text : WritesBack text
unfolding text
back_text = back_such is_text back_counted

-- ---- built-in types

pub back_date_time : WritesBack date_time
unfolding date_time
back_date_time = back_made of_ticks (λ v. v.ticks) (λ n. refl) back_signed_64

pub back_status_code : WritesBack status_code
unfolding status_code
back_status_code = back_made _ _ (λ n. refl) (back_number 4)

pub back_xml_element : WritesBack xml_element
unfolding xml_element
back_xml_element = back_made _ _ (λ b. refl) back_counted

pub back_qualified_name : WritesBack qualified_name
unfolding qualified_name
back_qualified_name = back_made _ _ (λ p. refl) (back_both (back_number 2) back_text)

pub back_guid : WritesBack guid
unfolding guid
back_guid = record { fits = λ v b h. ap guid.encodable h.is }

-- ---- NodeIds

-- a number in the first form that fits
numeric_back : (n k form : ℕ) (a b : Bool) → a ≡ (nat_eq n 0 && nat_lt k 256) → b ≡ (nat_lt n 256 && nat_lt k 65536) → form ≡ cond a 0 (cond b 1 2) → n < 2 ^ 16
    → k < 2 ^ 32
    → (in_form form).encodable (node n (Numeric k)) ≡ true
numeric_back n k form true b e f is low small =
    let w = both_true (nat_eq n 0) (nat_lt k 256) (sym e) in
    ap (λ m. (in_form m).encodable (node n (Numeric k))) is ∙ and_true (nat_eq n 0 && true) (nat_lt k 256) (and_true (nat_eq n 0) true w.0 refl) w.1
numeric_back n k form false true e f is low small =
    ap (λ m. (in_form m).encodable (node n (Numeric k))) is ∙ sym f
numeric_back n k form false false e f is low small =
    ap (λ m. (in_form m).encodable (node n (Numeric k))) is ∙ and_true (nat_lt n (256 ^ 2)) (nat_lt k (256 ^ 4)) (lt-ltb n (256 ^ 2) low)
    (lt-ltb k (256 ^ 4) small)

-- any number that octets of an id encode, in the form that is written
number_back : (v : NodeId) (n k : ℕ) → v ≡ node n (Numeric k) → n < 2 ^ 16 → k < 2 ^ 32 → (in_form (form_of v)).encodable v ≡ true
number_back v n k is low small =
    ap (λ (w : NodeId). (in_form (form_of w)).encodable w) is
    ∙ numeric_back n k (form_of (node n (Numeric k))) (nat_eq n 0 && nat_lt k 256) (nat_lt n 256 && nat_lt k 65536) refl refl refl low small

pub node_back : (v : NodeId) (b : List ℕ) → EncodesNodeId v b → (in_form (form_of v)).encodable v ≡ true
node_back v b (two_octet h) = number_back v 0 h.id h.is (omega arith) (omega (arith, h.id_fits))
node_back v b (four_octet h) = number_back v h.namespace h.id h.is (omega (arith, h.namespace_fits)) (omega (arith, h.id_fits))
node_back v b (numeric_form h) = number_back v h.namespace h.id h.is h.namespace_fits h.id_fits
node_back v b (string_form h) =
    ap (λ (w : NodeId). (in_form (form_of w)).encodable w) h.is
    ∙ and_true (nat_lt h.namespace (256 ^ 2)) (text.encodable h.id) (lt-ltb h.namespace (256 ^ 2) h.namespace_fits) (back_text.fits h.id h.back h.id_encoded)
node_back v b (guid_form h) =
    ap (λ (w : NodeId). (in_form (form_of w)).encodable w) h.is
    ∙ and_true (nat_lt h.namespace (256 ^ 2)) (guid.encodable h.id) (lt-ltb h.namespace (256 ^ 2) h.namespace_fits) (back_guid.fits h.id h.back h.id_encoded)
node_back v b (opaque_form h) =
    ap (λ (w : NodeId). (in_form (form_of w)).encodable w) h.is
    ∙ and_true (nat_lt h.namespace (256 ^ 2)) (counted.encodable h.id) (lt-ltb h.namespace (256 ^ 2) h.namespace_fits)
    (back_counted.fits h.id h.back h.id_encoded)

pub back_node_id : WritesBack node_id
unfolding node_id
back_node_id = record { fits = node_back }

-- ---- what a flag announces

pub text_flagged : (set : Bool) (v : Option (List ℕ)) (b : List ℕ) → EncodesFlagged set v b → (flagged_text (is_some v)).encodable v ≡ true
text_flagged set None b h = refl
text_flagged true (Some v) b h = back_text.fits (Some v) b h
text_flagged false (Some v) b h = absurd (let e : Some v ≡ None = h.0 in cc)

pub back_localized_text : WritesBack localized_text
unfolding localized_text
back_localized_text = record {
  fits = λ v b h.
      and_true ((flagged_text (is_some v.locale)).encodable v.locale) ((flagged_text (is_some v.text)).encodable v.text)
      (text_flagged h.has_locale v.locale h.locale h.locale_encoded) (text_flagged h.has_text v.text h.text h.text_encoded);
}

-- ---- ExtensionObjects

body_back : (v : ExtensionBody) (b : List ℕ) → EncodesBody v b → body_fits v ≡ true
body_back Absent b h = refl
body_back (ByteString v) b h = back_counted.fits v h.0 h.2
body_back (Xml v) b h = back_xml_element.fits v h.0 h.2

pub back_extension_object : WritesBack extension_object
unfolding extension_object
back_extension_object = back_made _ _ (λ p. refl) (back_both back_node_id (record { fits = body_back }))

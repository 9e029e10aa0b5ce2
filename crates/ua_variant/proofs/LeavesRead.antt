-- The formats of scalars that hold no further value are lawful, and their reader by the type id is exact.
use Rattle.std.specs.Prelude.{◌≡◌, ℕ, ◌<◌, Bool, true, false, cond, IsTrue, eqb, List, [], ◌++◌, Option, Some, None}
use Rattle.std.proofs.Common.{refl, sym, subst, ◌∙◌, arith}
use Rattle.std.proofs.lemmas.Grind.{common_steps}
use Rattle.std.specs.Int.{w8, w16, w32, w64}
use Rattle.ua_wire.specs.Exact.{Begins, Exact, Image, image_read}
use Rattle.ua_wire.specs.Format.{Flat, flat, IsLawful, Within}
use Rattle.ua_wire.specs.Join.{number}
use Rattle.ua_wire.specs.Boolean.{boolean as boolean_format}
use Rattle.ua_wire.specs.Signed.{signed}
use Rattle.ua_wire.specs.FloatBits.{float_bits}
use Rattle.ua_wire.specs.DoubleBits.{double_bits}
use Rattle.ua_wire.specs.Counted.{text, counted}
use Rattle.ua_wire.proofs.Readers.{exact_same, exact_image, not_false}
use Rattle.ua_wire.proofs.Lawfulness.{sound_such, lawful_flat, lawful_8, lawful_16, lawful_32, lawful_64}
use Rattle.ua_wire.proofs.ScalarsLawful.{lawful_boolean, lawful_signed_8, lawful_signed_16, lawful_signed_32}
use Rattle.ua_wire.proofs.ScalarsLawful.{lawful_signed_64, lawful_float_bits, lawful_double_bits}
use Rattle.ua_wire.proofs.CountedLawful.{sound_counted, counted_starts, lawful_counted, lawful_text}
use Rattle.ua_builtin.specs.DateTime.{date_time as date_time_format}
use Rattle.ua_builtin.specs.Guid.{guid as guid_format}
use Rattle.ua_builtin.specs.XmlElement.{xml_element as xml_element_format}
use Rattle.ua_builtin.specs.NodeId.{node_id as node_id_format}
use Rattle.ua_builtin.specs.ExpandedNodeId.{expanded_node_id as expanded_node_id_format}
use Rattle.ua_builtin.specs.Status.{status_code as status_code_format}
use Rattle.ua_builtin.specs.QualifiedName.{qualified_name as qualified_name_format}
use Rattle.ua_builtin.specs.LocalizedText.{localized_text as localized_text_format}
use Rattle.ua_builtin.specs.ExtensionObject.{extension_object as extension_object_format}
use Rattle.ua_builtin.proofs.PlainLawful.{lawful_date_time, lawful_guid, lawful_status_code, lawful_xml_element, lawful_qualified_name}
use Rattle.ua_builtin.proofs.NodeIdLawful.{lawful_node_id}
use Rattle.ua_builtin.proofs.ExpandedNodeIdLawful.{lawful_expanded_node_id}
use Rattle.ua_builtin.proofs.LocalizedTextLawful.{lawful_localized_text}
use Rattle.ua_builtin.proofs.ExtensionObjectLawful.{lawful_extension_object}
use Rattle.ua_diagnostic.specs.Parts.{Decoder}
use Rattle.ua_diagnostic.proofs.PartsLawful.{sound_unwritten}
use Rattle.ua_variant.specs.Data.{LeafData, boolean, sbyte, byte, int16, uint16, int32, uint32, int64, uint64, float, double, string, date_time, guid}
use Rattle.ua_variant.specs.Data.{byte_string, xml_element, node_id, expanded_node_id, status_code, qualified_name, localized_text, extension_object, reserved}
use Rattle.ua_variant.specs.Leaf.{leaf_kind, is_reserved, holds_values, reserved_octets, leaf_typed, EncodesLeaf, leaf_encodable, leaf_canonical, leaf_at}

lawful_reserved : (k : ℕ) → IsLawful (flat (reserved_octets k))
lawful_reserved k = lawful_flat (sound_unwritten (sound_such (λ x. is_reserved k) sound_counted)) (λ v h. counted_starts v h.1)

-- each in the format of its type
leaf_lawful : (l : LeafData) → IsLawful (flat (leaf_typed l).format)
leaf_lawful (boolean x) = lawful_boolean
leaf_lawful (sbyte x) = lawful_signed_8
leaf_lawful (byte x) = lawful_8
leaf_lawful (int16 x) = lawful_signed_16
leaf_lawful (uint16 x) = lawful_16
leaf_lawful (int32 x) = lawful_signed_32
leaf_lawful (uint32 x) = lawful_32
leaf_lawful (int64 x) = lawful_signed_64
leaf_lawful (uint64 x) = lawful_64
leaf_lawful (float x) = lawful_float_bits
leaf_lawful (double x) = lawful_double_bits
leaf_lawful (string x) = lawful_text
leaf_lawful (date_time x) = lawful_date_time
leaf_lawful (guid x) = lawful_guid
leaf_lawful (byte_string x) = lawful_counted
leaf_lawful (xml_element x) = lawful_xml_element
leaf_lawful (node_id x) = lawful_node_id
leaf_lawful (expanded_node_id x) = lawful_expanded_node_id
leaf_lawful (status_code x) = lawful_status_code
leaf_lawful (qualified_name x) = lawful_qualified_name
leaf_lawful (localized_text x) = lawful_localized_text
leaf_lawful (extension_object x) = lawful_extension_object
leaf_lawful (reserved k x) = lawful_reserved k

pub leaf_canonical_encodes : (l : LeafData) → IsTrue (leaf_encodable l) → EncodesLeaf l (leaf_canonical l)
leaf_canonical_encodes l h = (leaf_lawful l).canonical_encodes (leaf_typed l).value h

pub leaf_starts : (l : LeafData) → EncodesLeaf l [] → ⊥
leaf_starts l h = (leaf_lawful l).starts (leaf_typed l).value h

-- ---- reading, by the type id

-- the reader of a flat format finds just what is encoded
exact_of : {A : Type 0} (f : Flat A) → IsLawful (flat f) → Exact f.encodes f.decode
exact_of f lawful = exact_same (Within f.encodes (λ v. 0) 0) f.encodes f.decode (λ v b h. h.0) (λ v b h. (h, omega arith)) (lawful.exact 0)

made_exact : {A : Type 0} (make : A → LeafData) (f : Flat A) → IsLawful (flat f) → Exact (Image make f.encodes) (image_read make f.decode)
made_exact make f lawful = exact_image make f.encodes f.decode (exact_of f lawful)

-- a leaf of the type id
abbrev pub IsLeaf : ℕ → LeafData → List ℕ → Type 0
IsLeaf k l b = (leaf_kind l ≡ k) × EncodesLeaf l b

-- where the reader finds a value, the octets begin with an encoding of it, and what the reader leaves stands behind
abbrev pub Sound : {A : Type 0} → (A → List ℕ → Type 0) → Decoder A → Type 0
Sound {A} p r = (octets : List ℕ) (v : A) (rest : List ℕ) → r octets ≡ Some (v, rest) → Begins p octets v rest

pub sound_if : {A : Type 0} {p : A → List ℕ → Type 0} {r s : List ℕ → Option (A × List ℕ)} (b : Bool) → (b ≡ true → Sound p r) → (b ≡ false → Sound p s)
    → Sound p (λ octets. cond b (r octets) (s octets))
sound_if true e f = e refl
sound_if false e f = f refl

sound_none : (k : ℕ) → Sound (IsLeaf k) (λ octets. None)
sound_none k octets v rest h = absurd cc

pub eqb_is : (a b : ℕ) → eqb a b ≡ true → a ≡ b
eqb_is a b h = Prim.grind (arith, common_steps)

leaf_made : {A : Type 0} (make : A → LeafData) (f : Flat A) (k : ℕ) → ((x : A) (b : List ℕ) → f.encodes x b → IsLeaf k (make x) b) → (v : LeafData) (b : List ℕ)
    → Image make f.encodes v b → IsLeaf k v b
leaf_made make f k made v b h = subst (λ l. IsLeaf k l b) (sym h.is) (made h.of b h.encoded)

leaf_part : {A : Type 0} (make : A → LeafData) (f : Flat A) (k : ℕ) → IsLawful (flat f) → ((x : A) (b : List ℕ) → f.encodes x b → IsLeaf k (make x) b)
    → Sound (IsLeaf k) (image_read make f.decode)
leaf_part make f k lawful made octets v rest h =
    let s = (made_exact make f lawful).sound octets v rest h in
    record { front = s.front; parts = s.parts; encoded = leaf_made make f k made v s.front s.encoded }

of_kind : (k j : ℕ) (r : Decoder LeafData) → eqb k j ≡ true → Sound (IsLeaf j) r → Sound (IsLeaf k) r
of_kind k j r h e = subst (λ i. Sound (IsLeaf i) r) (sym (eqb_is k j h)) e

leaf_sound : (k : ℕ) → Sound (IsLeaf k) (leaf_at k)
unfolding leaf_at
leaf_sound k =
    sound_if (is_reserved k) (λ h. leaf_part (reserved k) counted k lawful_counted (λ x b e. (refl, (h, e)))) (λ _.
    sound_if (eqb k 1) (λ h. of_kind k 1 (image_read boolean boolean_format.decode) h (leaf_part boolean boolean_format 1 lawful_boolean (λ x b e. (refl, e))))
    (λ _.
    sound_if (eqb k 2) (λ h. of_kind k 2 (image_read sbyte (signed w8).decode) h (leaf_part sbyte (signed w8) 2 lawful_signed_8 (λ x b e. (refl, e)))) (λ _.
    sound_if (eqb k 3) (λ h. of_kind k 3 (image_read byte (number 1).decode) h (leaf_part byte (number 1) 3 lawful_8 (λ x b e. (refl, e)))) (λ _.
    sound_if (eqb k 4) (λ h. of_kind k 4 (image_read int16 (signed w16).decode) h (leaf_part int16 (signed w16) 4 lawful_signed_16 (λ x b e. (refl, e)))) (λ _.
    sound_if (eqb k 5) (λ h. of_kind k 5 (image_read uint16 (number 2).decode) h (leaf_part uint16 (number 2) 5 lawful_16 (λ x b e. (refl, e)))) (λ _.
    sound_if (eqb k 6) (λ h. of_kind k 6 (image_read int32 (signed w32).decode) h (leaf_part int32 (signed w32) 6 lawful_signed_32 (λ x b e. (refl, e)))) (λ _.
    sound_if (eqb k 7) (λ h. of_kind k 7 (image_read uint32 (number 4).decode) h (leaf_part uint32 (number 4) 7 lawful_32 (λ x b e. (refl, e)))) (λ _.
    sound_if (eqb k 8) (λ h. of_kind k 8 (image_read int64 (signed w64).decode) h (leaf_part int64 (signed w64) 8 lawful_signed_64 (λ x b e. (refl, e)))) (λ _.
    sound_if (eqb k 9) (λ h. of_kind k 9 (image_read uint64 (number 8).decode) h (leaf_part uint64 (number 8) 9 lawful_64 (λ x b e. (refl, e)))) (λ _.
    sound_if (eqb k 10) (λ h. of_kind k 10 (image_read float float_bits.decode) h (leaf_part float float_bits 10 lawful_float_bits (λ x b e. (refl, e)))) (λ _.
    sound_if (eqb k 11) (λ h. of_kind k 11 (image_read double double_bits.decode) h (leaf_part double double_bits 11 lawful_double_bits (λ x b e. (refl, e))))
    (λ _.
    sound_if (eqb k 12) (λ h. of_kind k 12 (image_read string text.decode) h (leaf_part string text 12 lawful_text (λ x b e. (refl, e)))) (λ _.
    sound_if (eqb k 13)
    (λ h. of_kind k 13 (image_read date_time date_time_format.decode) h (leaf_part date_time date_time_format 13 lawful_date_time (λ x b e. (refl, e))))
    (λ _.
    sound_if (eqb k 14) (λ h. of_kind k 14 (image_read guid guid_format.decode) h (leaf_part guid guid_format 14 lawful_guid (λ x b e. (refl, e)))) (λ _.
    sound_if (eqb k 15) (λ h. of_kind k 15 (image_read byte_string counted.decode) h (leaf_part byte_string counted 15 lawful_counted (λ x b e. (refl, e))))
    (λ _.
    sound_if (eqb k 16)
    (λ h. of_kind k 16 (image_read xml_element xml_element_format.decode) h
    (leaf_part xml_element xml_element_format 16 lawful_xml_element (λ x b e. (refl, e)))) (λ _.
    sound_if (eqb k 17)
    (λ h. of_kind k 17 (image_read node_id node_id_format.decode) h (leaf_part node_id node_id_format 17 lawful_node_id (λ x b e. (refl, e)))) (λ _.
    sound_if (eqb k 18)
    (λ h. of_kind k 18 (image_read expanded_node_id expanded_node_id_format.decode) h
    (leaf_part expanded_node_id expanded_node_id_format 18 lawful_expanded_node_id (λ x b e. (refl, e)))) (λ _.
    sound_if (eqb k 19)
    (λ h. of_kind k 19 (image_read status_code status_code_format.decode) h
    (leaf_part status_code status_code_format 19 lawful_status_code (λ x b e. (refl, e)))) (λ _.
    sound_if (eqb k 20)
    (λ h. of_kind k 20 (image_read qualified_name qualified_name_format.decode) h
    (leaf_part qualified_name qualified_name_format 20 lawful_qualified_name (λ x b e. (refl, e)))) (λ _.
    sound_if (eqb k 21)
    (λ h. of_kind k 21 (image_read localized_text localized_text_format.decode) h
    (leaf_part localized_text localized_text_format 21 lawful_localized_text (λ x b e. (refl, e)))) (λ _.
    sound_if (eqb k 22)
    (λ h. of_kind k 22 (image_read extension_object extension_object_format.decode) h
    (leaf_part extension_object extension_object_format 22 lawful_extension_object (λ x b e. (refl, e)))) (λ _.
    sound_none k)))))))))))))))))))))))

pub if_true : {A : Type 0} (b : Bool) (x y : A) → IsTrue b → cond b x y ≡ x
if_true true x y h = refl
if_true false x y h = not_false h

leaf_complete : (l : LeafData) (front rest : List ℕ) → EncodesLeaf l front → leaf_at (leaf_kind l) (front ++ rest) ≡ Some (l, rest)
unfolding leaf_at
leaf_complete (boolean x) front rest h = (made_exact boolean boolean_format lawful_boolean).complete (boolean x) front rest
    (record { of = x; is = refl; encoded = h })
leaf_complete (sbyte x) front rest h = (made_exact sbyte (signed w8) lawful_signed_8).complete (sbyte x) front rest (record { of = x; is = refl; encoded = h })
leaf_complete (byte x) front rest h = (made_exact byte (number 1) lawful_8).complete (byte x) front rest (record { of = x; is = refl; encoded = h })
leaf_complete (int16 x) front rest h = (made_exact int16 (signed w16) lawful_signed_16).complete (int16 x) front rest
    (record { of = x; is = refl; encoded = h })
leaf_complete (uint16 x) front rest h = (made_exact uint16 (number 2) lawful_16).complete (uint16 x) front rest (record { of = x; is = refl; encoded = h })
leaf_complete (int32 x) front rest h = (made_exact int32 (signed w32) lawful_signed_32).complete (int32 x) front rest
    (record { of = x; is = refl; encoded = h })
leaf_complete (uint32 x) front rest h = (made_exact uint32 (number 4) lawful_32).complete (uint32 x) front rest (record { of = x; is = refl; encoded = h })
leaf_complete (int64 x) front rest h = (made_exact int64 (signed w64) lawful_signed_64).complete (int64 x) front rest
    (record { of = x; is = refl; encoded = h })
leaf_complete (uint64 x) front rest h = (made_exact uint64 (number 8) lawful_64).complete (uint64 x) front rest (record { of = x; is = refl; encoded = h })
leaf_complete (float x) front rest h = (made_exact float float_bits lawful_float_bits).complete (float x) front rest (record { of = x; is = refl; encoded = h })
leaf_complete (double x) front rest h = (made_exact double double_bits lawful_double_bits).complete (double x) front rest
    (record { of = x; is = refl; encoded = h })
leaf_complete (string x) front rest h = (made_exact string text lawful_text).complete (string x) front rest (record { of = x; is = refl; encoded = h })
leaf_complete (date_time x) front rest h = (made_exact date_time date_time_format lawful_date_time).complete (date_time x) front rest
    (record { of = x; is = refl; encoded = h })
leaf_complete (guid x) front rest h = (made_exact guid guid_format lawful_guid).complete (guid x) front rest (record { of = x; is = refl; encoded = h })
leaf_complete (byte_string x) front rest h = (made_exact byte_string counted lawful_counted).complete (byte_string x) front rest
    (record { of = x; is = refl; encoded = h })
leaf_complete (xml_element x) front rest h = (made_exact xml_element xml_element_format lawful_xml_element).complete (xml_element x) front rest
    (record { of = x; is = refl; encoded = h })
leaf_complete (node_id x) front rest h = (made_exact node_id node_id_format lawful_node_id).complete (node_id x) front rest
    (record { of = x; is = refl; encoded = h })
leaf_complete (expanded_node_id x) front rest h = (made_exact expanded_node_id expanded_node_id_format lawful_expanded_node_id).complete
    (expanded_node_id x) front rest (record { of = x; is = refl; encoded = h })
leaf_complete (status_code x) front rest h = (made_exact status_code status_code_format lawful_status_code).complete (status_code x) front rest
    (record { of = x; is = refl; encoded = h })
leaf_complete (qualified_name x) front rest h = (made_exact qualified_name qualified_name_format lawful_qualified_name).complete (qualified_name x) front rest
    (record { of = x; is = refl; encoded = h })
leaf_complete (localized_text x) front rest h = (made_exact localized_text localized_text_format lawful_localized_text).complete (localized_text x) front rest
    (record { of = x; is = refl; encoded = h })
leaf_complete (extension_object x) front rest h = (made_exact extension_object extension_object_format lawful_extension_object).complete
    (extension_object x) front rest (record { of = x; is = refl; encoded = h })
leaf_complete (reserved k x) front rest h =
    if_true (is_reserved k) (image_read (reserved k) counted.decode (front ++ rest)) _ h.0
    ∙ (made_exact (reserved k) counted lawful_counted).complete (reserved k x) front rest (record { of = x; is = refl; encoded = h.1 })

complete_at : (k : ℕ) (l : LeafData) (front rest : List ℕ) → IsLeaf k l front → leaf_at k (front ++ rest) ≡ Some (l, rest)
complete_at k l front rest h = subst (λ j. leaf_at j (front ++ rest) ≡ Some (l, rest)) h.0 (leaf_complete l front rest h.1)

pub exact_leaf : (k : ℕ) → Exact (IsLeaf k) (leaf_at k)
exact_leaf k = record { sound = leaf_sound k; complete = complete_at k }

reserved_apart : (k : ℕ) → IsTrue (is_reserved k) → holds_values k ≡ false
reserved_apart k h = Prim.grind (arith, common_steps)

-- a leaf's type id is none of these
pub leaf_apart : (l : LeafData) (b : List ℕ) → EncodesLeaf l b → holds_values (leaf_kind l) ≡ false
leaf_apart (boolean x) b h = refl
leaf_apart (sbyte x) b h = refl
leaf_apart (byte x) b h = refl
leaf_apart (int16 x) b h = refl
leaf_apart (uint16 x) b h = refl
leaf_apart (int32 x) b h = refl
leaf_apart (uint32 x) b h = refl
leaf_apart (int64 x) b h = refl
leaf_apart (uint64 x) b h = refl
leaf_apart (float x) b h = refl
leaf_apart (double x) b h = refl
leaf_apart (string x) b h = refl
leaf_apart (date_time x) b h = refl
leaf_apart (guid x) b h = refl
leaf_apart (byte_string x) b h = refl
leaf_apart (xml_element x) b h = refl
leaf_apart (node_id x) b h = refl
leaf_apart (expanded_node_id x) b h = refl
leaf_apart (status_code x) b h = refl
leaf_apart (qualified_name x) b h = refl
leaf_apart (localized_text x) b h = refl
leaf_apart (extension_object x) b h = refl
leaf_apart (reserved k x) b h = reserved_apart k h.0

reserved_within : (k : ℕ) → IsTrue (is_reserved k) → (0 < k) × (k < 32)
reserved_within k h = (Prim.grind (arith, common_steps), Prim.grind (arith, common_steps))

pub leaf_kind_within : (l : LeafData) (b : List ℕ) → EncodesLeaf l b → (0 < leaf_kind l) × (leaf_kind l < 32)
leaf_kind_within (boolean x) b h = (omega arith, omega arith)
leaf_kind_within (sbyte x) b h = (omega arith, omega arith)
leaf_kind_within (byte x) b h = (omega arith, omega arith)
leaf_kind_within (int16 x) b h = (omega arith, omega arith)
leaf_kind_within (uint16 x) b h = (omega arith, omega arith)
leaf_kind_within (int32 x) b h = (omega arith, omega arith)
leaf_kind_within (uint32 x) b h = (omega arith, omega arith)
leaf_kind_within (int64 x) b h = (omega arith, omega arith)
leaf_kind_within (uint64 x) b h = (omega arith, omega arith)
leaf_kind_within (float x) b h = (omega arith, omega arith)
leaf_kind_within (double x) b h = (omega arith, omega arith)
leaf_kind_within (string x) b h = (omega arith, omega arith)
leaf_kind_within (date_time x) b h = (omega arith, omega arith)
leaf_kind_within (guid x) b h = (omega arith, omega arith)
leaf_kind_within (byte_string x) b h = (omega arith, omega arith)
leaf_kind_within (xml_element x) b h = (omega arith, omega arith)
leaf_kind_within (node_id x) b h = (omega arith, omega arith)
leaf_kind_within (expanded_node_id x) b h = (omega arith, omega arith)
leaf_kind_within (status_code x) b h = (omega arith, omega arith)
leaf_kind_within (qualified_name x) b h = (omega arith, omega arith)
leaf_kind_within (localized_text x) b h = (omega arith, omega arith)
leaf_kind_within (extension_object x) b h = (omega arith, omega arith)
leaf_kind_within (reserved k x) b h = reserved_within k h.0

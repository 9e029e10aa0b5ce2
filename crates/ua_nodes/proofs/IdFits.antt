-- A NodeId that a text names can be written.
use Rattle.std.proofs.Common.{◌≡◌, ℕ, ◌^◌, ◌<◌, ◌≤◌, ◌⊎◌, inl, inr, Bool, true, false, ◌&&◌, cond, nat_eq, nat_lt, List, []}
use Rattle.std.proofs.Common.{◌∷◌, ◌++◌, length, Option, refl, sym, ◌∙◌, ap, subst, arith, lit<, append_assoc, length-append}
use Rattle.std.specs.Str.{IsUtf8}
use Rattle.std.proofs.lemmas.Bool.{eq-eqb, lt-ltb}
use Rattle.ua_builtin.specs.Counted.{text, counted}
use Rattle.ua_builtin.specs.Guid.{guid}
use Rattle.ua_builtin.specs.NodeId.{node_id, node, in_form}
use Rattle.ua_builtin.specs.NodeText.{NamesNode, NamesNamespace, NamesIdentifier}
use Rattle.ua_builtin.specs.declared.guid.Guid.{Guid}
use Rattle.ua_builtin.specs.declared.node_id.NodeId.{NodeId}
use Rattle.ua_builtin.specs.declared.node_id.Identifier.{Identifier}
use Rattle.ua_builtin.specs.declared.node_id.Identifier.TheVariants.{Numeric, Text, Guid as Global, Opaque}
use Rattle.ua_wire.proofs.Readers.{both_true}
use Rattle.ua_nodes.proofs.Fits.{text_fits, counted_fits, parsed_length, encoded_length}
use Rattle.ua_nodes.proofs.Utf8Pieces.{utf8_cut}

pub numeric_fits : (ns n : ℕ) → ns < 65536 → n < 4294967296 → node_id.encodable (node ns (Numeric n)) ≡ true
unfolding node_id
numeric_fits ns n a b = by (nat_eq ns 0 && nat_lt n 256) (nat_lt ns 256 && nat_lt n 65536) refl refl
  where
    by : (s t : Bool) → (nat_eq ns 0 && nat_lt n 256) ≡ s → (nat_lt ns 256 && nat_lt n 65536) ≡ t
        → (in_form (cond s 0 (cond t 1 2))).encodable (node ns (Numeric n)) ≡ true
    by true t e f = let p = both_true (nat_eq ns 0) (nat_lt n 256) e in rw (p.0, p.1) refl
    by false true e f = let p = both_true (nat_lt ns 256) (nat_lt n 65536) f in rw (p.0, p.1) refl
    by false false e f = rw (lt-ltb ns 65536 a, lt-ltb n 4294967296 b) refl

text_id_fits : (ns : ℕ) (t : Option (List ℕ)) → ns < 65536 → text.encodable t ≡ true → node_id.encodable (node ns (Text t)) ≡ true
unfolding node_id
text_id_fits ns t a b = rw (lt-ltb ns 65536 a, b) refl

pub guid_fits : (g : Guid) → length g.uuid ≡ 16 → guid.encodable g ≡ true
unfolding guid
guid_fits g e = rw (eq-eqb (length g.uuid) 16 e) refl

guid_id_fits : (ns : ℕ) (g : Guid) → ns < 65536 → guid.encodable g ≡ true → node_id.encodable (node ns (Global g)) ≡ true
unfolding node_id
guid_id_fits ns g a b = rw (lt-ltb ns 65536 a, b) refl

opaque_id_fits : (ns : ℕ) (b : Option (List ℕ)) → ns < 65536 → counted.encodable b ≡ true → node_id.encodable (node ns (Opaque b)) ≡ true
unfolding node_id
opaque_id_fits ns b a f = rw (lt-ltb ns 65536 a, f) refl

-- what stands behind the sign of a kind of identifier
rest_of : (whole front rest : List ℕ) (letter : ℕ) → whole ≡ front ++ (letter ∷ 61 ∷ rest) → IsUtf8 whole → IsUtf8 rest × (length rest ≤ length whole)
rest_of whole front rest letter e u =
    let is = e ∙ sym (append_assoc front (letter ∷ []) (61 ∷ rest)) in
    let long = ap length e in
    ((utf8_cut (front ++ letter ∷ []) rest 61 (lit< tt) (subst IsUtf8 is u)).1, omega (arith, long, length-append front (letter ∷ 61 ∷ rest)))

identifier_fits : (ns : ℕ) (i : Identifier) (whole front back : List ℕ) → ns < 65536 → whole ≡ front ++ back → IsUtf8 whole → length whole < 2 ^ 31
    → NamesIdentifier i back → node_id.encodable (node ns i) ≡ true
identifier_fits ns (Numeric n) whole front back a e u long h = numeric_fits ns n a (let d = h.2 in d.fits)
identifier_fits ns (Text t) whole front back a e u long h =
    let r = rest_of whole front h.0 115 (e ∙ ap (λ (b : List ℕ). front ++ b) h.1) u in
    let few = r.1 in
    text_id_fits ns t a (ap (text).encodable h.2 ∙ text_fits h.0 r.0 (omega arith))
identifier_fits ns (Global g) whole front back a e u long h =
    let g_is = h.2 in
    guid_id_fits ns g a (guid_fits g (parsed_length h.0 g.uuid g_is.0 g_is.1))
identifier_fits ns (Opaque b) whole front back a e u long h =
    let r = rest_of whole front h.0 98 (e ∙ ap (λ (b : List ℕ). front ++ b) h.2) u in
    let few = r.1 in
    let base = h.3 in
    let short = encoded_length h.1 in
    let same = ap length base.0 in
    opaque_id_fits ns b a (ap (counted).encodable h.4 ∙ counted_fits h.1 (omega arith))

namespace_small : (n : ℕ) (front : List ℕ) → ((n ≡ 0) × (front ≡ [])) ⊎ NamesNamespace n front → n < 65536
namespace_small n front (inl h) = let e = h.0 in omega arith
namespace_small n front (inr h) = let d = h.decimal in d.fits

pub node_fits : (id : NodeId) (whole : List ℕ) → NamesNode id whole → IsUtf8 whole → length whole < 2 ^ 31 → node_id.encodable id ≡ true
node_fits id whole h u long = identifier_fits id.namespace id.identifier whole h.front h.back (namespace_small id.namespace h.front h.namespace) h.parts u long
    h.identifier

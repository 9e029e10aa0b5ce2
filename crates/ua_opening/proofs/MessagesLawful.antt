-- Messages of several kinds are lawful.
use Rattle.std.specs.Prelude.{◌≡◌, ℕ, ◌≤◌, List, ◌++◌, cond, IsTrue, length, Option, Some, None}
use Rattle.std.proofs.Common.{refl, sym, ◌∙◌, ap, subst, arith, eq-eqb, length-append}
use Rattle.ua_builtin.specs.Exact.{Exact, Follows, Image}
use Rattle.ua_builtin.specs.Format.{Format, IsLawful, Within, most_levels}
use Rattle.ua_builtin.specs.NodeId.{node_id}
use Rattle.ua_wire.proofs.Readers.{both_true, exact_never, exact_bind, exact_image, exact_same}
use Rattle.ua_wire.proofs.Lawfulness.{bind_starts}
use Rattle.ua_builtin.proofs.NodeIdLawful.{sound_node_id, lawful_node_id}
use Rattle.ua_opening.proofs.FormatsBack.{AllWriteBack}
use Rattle.ua_opening.proofs.Sound.{Sound}
use Rattle.ua_opening.specs.Message.{Kinds, standard, announced, OfKind, kind_at, message_depth, message_count, message_id}
use Rattle.ua_opening.specs.Message.{message_encodable, message_canonical, IsMessage, message_at, message_of, alone, message}

-- a format is lawful; and where this holds, what was read in it can be written back
pub record Written {A : Type 0} (P : Type 0) (f : Format A) : Type 0 where
  pub lawful : IsLawful f
  pub back : P → AllWriteBack f

pub sound_but : {A P : Type 0} {f : Format A} → Sound f → Written P f
sound_but sound = record { lawful = sound.lawful; back = λ p. sound.back }

-- what is owed of a kind: a message of it has the parts that it was made of, its number announces it, and its structure is lawful
pub record IsKind {K V : Type 0} (kinds : Kinds K V) (k : K) : Type 0 where
  pub forth : (s : kinds.structure k) → kinds.parts (kinds.make k s) ≡ (k, s)
  pub numbers : kinds.numbered (kinds.number k) ≡ Some k
  pub lawful : IsLawful (kinds.format k)

-- and of all kinds: each message is made of its parts
pub record AreKinds {K V : Type 0} (kinds : Kinds K V) : Type 0 where
  pub back : (v : V) → v ≡ kinds.make (kinds.parts v).0 (kinds.parts v).1
  pub each : (k : K) → IsKind kinds k

-- the same where the structure has at most so many levels
abbrev OfKindWithin : {K V : Type 0} → Kinds K V → ℕ → Option K → V → List ℕ → Type 0
OfKindWithin kinds levels None v b = ⊥
OfKindWithin kinds levels (Some k) v b = Image (kinds.make k) (Within (kinds.format k).encodes (kinds.format k).depth levels) v b

exact_kind : {K V : Type 0} (kinds : Kinds K V) → AreKinds kinds → (levels : ℕ) (o : Option K) → Exact (OfKindWithin kinds levels o) (kind_at kinds levels o)
exact_kind kinds are levels None = exact_never
exact_kind kinds are levels (Some k) = exact_image (kinds.make k) (Within (kinds.format k).encodes (kinds.format k).depth levels)
    ((kinds.format k).decode levels) ((are.each k).lawful.exact levels)

depth-made : {K V : Type 0} (kinds : Kinds K V) → AreKinds kinds → (k : K) (v : V) (s : kinds.structure k) → v ≡ kinds.make k s
    → message_depth kinds v ≡ (kinds.format k).depth s
depth-made kinds are k v s is =
    ap (λ (p : (k : _) × kinds.structure k). (kinds.format p.0).depth p.1) (ap kinds.parts is ∙ (are.each k).forth s)

kind_within : {K V : Type 0} (kinds : Kinds K V) → AreKinds kinds → (levels : ℕ) (o : Option K) (v : V) (b : List ℕ) → OfKindWithin kinds levels o v b
    → OfKind kinds o v b × (message_depth kinds v ≤ levels)
kind_within kinds are levels None v b h = absurd h
kind_within kinds are levels (Some k) v b h =
    let same = depth-made kinds are k v h.of h.is in
    (record { of = h.of; is = h.is; encoded = h.encoded.0 }, omega (arith, same, h.encoded.1))

within_kind : {K V : Type 0} (kinds : Kinds K V) → AreKinds kinds → (levels : ℕ) (o : Option K) (v : V) (b : List ℕ) → OfKind kinds o v b
    → message_depth kinds v ≤ levels → OfKindWithin kinds levels o v b
within_kind kinds are levels None v b h deep = absurd h
within_kind kinds are levels (Some k) v b h deep =
    let same = depth-made kinds are k v h.of h.is in
    record { of = h.of; is = h.is; encoded = (h.encoded, omega (arith, same, deep)) }

message_within : {K V : Type 0} (kinds : Kinds K V) → AreKinds kinds → (levels : ℕ) (v : V) (b : List ℕ)
    → Follows node_id.encodes (λ id. OfKindWithin kinds levels (announced kinds id)) v b → Within (IsMessage kinds) (message_depth kinds) levels v b
message_within kinds are levels v b h =
    let rest = kind_within kinds are levels (announced kinds h.head) v h.back h.rest_encoded in
    (record { head = h.head; front = h.front; back = h.back; parts = h.parts; head_encoded = h.head_encoded; rest_encoded = rest.0 }, rest.1)

within_message : {K V : Type 0} (kinds : Kinds K V) → AreKinds kinds → (levels : ℕ) (v : V) (b : List ℕ)
    → Within (IsMessage kinds) (message_depth kinds) levels v b → Follows node_id.encodes (λ id. OfKindWithin kinds levels (announced kinds id)) v b
within_message kinds are levels v b h =
    record {
      head = h.0.head;
      front = h.0.front;
      back = h.0.back;
      parts = h.0.parts;
      head_encoded = h.0.head_encoded;
      rest_encoded = within_kind kinds are levels (announced kinds h.0.head) v h.0.back h.0.rest_encoded h.1;
    }

message_exact : {K V : Type 0} (kinds : Kinds K V) → AreKinds kinds → (levels : ℕ)
    → Exact (Within (IsMessage kinds) (message_depth kinds) levels) (message_at kinds levels)
message_exact kinds are levels =
    exact_same (Follows node_id.encodes (λ id. OfKindWithin kinds levels (announced kinds id))) (Within (IsMessage kinds) (message_depth kinds) levels)
    (message_at kinds levels) (message_within kinds are levels) (within_message kinds are levels)
    (exact_bind node_id.encodes node_id.decode (λ id. OfKindWithin kinds levels (announced kinds id)) (λ id. kind_at kinds levels (announced kinds id))
    sound_node_id.exact (λ id. exact_kind kinds are levels (announced kinds id)))

message_canonical_encodes : {K V : Type 0} (kinds : Kinds K V) → AreKinds kinds → (v : V) → IsTrue (message_encodable kinds v)
    → IsMessage kinds v (message_canonical kinds v)
message_canonical_encodes kinds are v h =
    let k = (kinds.parts v).0 in
    let w = both_true (node_id.encodable (message_id kinds v)) ((kinds.format k).encodable (kinds.parts v).1) h in
    let structure : OfKind kinds (Some k) v ((kinds.format k).canonical (kinds.parts v).1) =
    record { of = (kinds.parts v).1; is = are.back v; encoded = (are.each k).lawful.canonical_encodes (kinds.parts v).1 w.1 } in
    record {
      head = message_id kinds v;
      front = node_id.canonical (message_id kinds v);
      back = (kinds.format k).canonical (kinds.parts v).1;
      parts = refl;
      head_encoded = sound_node_id.canonical_encodes (message_id kinds v) w.0;
      rest_encoded = subst (λ o. OfKind kinds o v ((kinds.format k).canonical (kinds.parts v).1)) (sym ((are.each k).numbers)) structure;
    }

message_encodable_depth : {K V : Type 0} (kinds : Kinds K V) → AreKinds kinds → (v : V) → IsTrue (message_encodable kinds v)
    → message_depth kinds v ≤ most_levels
message_encodable_depth kinds are v h =
    let w = both_true (node_id.encodable (message_id kinds v)) ((kinds.format (kinds.parts v).0).encodable (kinds.parts v).1) h in
    (are.each (kinds.parts v).0).lawful.encodable_depth (kinds.parts v).1 w.1

count-made : {K V : Type 0} (kinds : Kinds K V) → AreKinds kinds → (k : K) (v : V) (s : kinds.structure k) → v ≡ kinds.make k s
    → message_count kinds v ≡ (kinds.format k).count s
count-made kinds are k v s is =
    ap (λ (p : (k : _) × kinds.structure k). (kinds.format p.0).count p.1) (ap kinds.parts is ∙ (are.each k).forth s)

kind_counted : {K V : Type 0} (kinds : Kinds K V) → AreKinds kinds → (o : Option K) (v : V) (b : List ℕ) → OfKind kinds o v b → message_count kinds v ≤ length b
kind_counted kinds are None v b h = absurd h
kind_counted kinds are (Some k) v b h =
    let same = count-made kinds are k v h.of h.is in
    let most : (kinds.format k).count h.of ≤ length b = (are.each k).lawful.counted h.of b h.encoded in
    omega (arith, same, most)

message_counted : {K V : Type 0} (kinds : Kinds K V) → AreKinds kinds → (v : V) (b : List ℕ) → IsMessage kinds v b → message_count kinds v ≤ length b
message_counted kinds are v b h =
    let most : message_count kinds v ≤ length h.back = kind_counted kinds are (announced kinds h.head) v h.back h.rest_encoded in
    let len : length b ≡ length (h.front ++ h.back) = ap length h.parts in
    omega (arith, most, len, length-append h.front h.back)

pub lawful_message_of : {K V : Type 0} (kinds : Kinds K V) → AreKinds kinds → IsLawful (message_of kinds)
lawful_message_of kinds are = record {
  exact = message_exact kinds are;
  canonical_encodes = message_canonical_encodes kinds are;
  encodable_depth = message_encodable_depth kinds are;
  counted = message_counted kinds are;
  starts = bind_starts node_id.encodes (λ id. OfKind kinds (announced kinds id)) lawful_node_id.starts;
}

-- ---- a message of a known kind

pub canonical-made : {K V : Type 0} (kinds : Kinds K V) → AreKinds kinds → (k : K) (s : kinds.structure k)
    → message_canonical kinds (kinds.make k s) ≡ node_id.canonical (standard (kinds.number k)) ++ (kinds.format k).canonical s
canonical-made kinds are k s =
    ap (λ (p : (k : _) × kinds.structure k). node_id.canonical (standard (kinds.number p.0)) ++ (kinds.format p.0).canonical p.1) ((are.each k).forth s)

-- ---- a message of one kind alone

is_alone : {A : Type 0} (number : ℕ) (f : Format A) → IsLawful f → AreKinds (alone number f)
is_alone number f lawful =
    record {
      back = λ v. refl;
      each = λ k. record {
        forth = λ s. refl;
        numbers = ap (λ t. cond t (Some tt) None) (eq-eqb number number refl);
        lawful = lawful;
      };
    }

pub lawful_message : {A : Type 0} (number : ℕ) {f : Format A} → IsLawful f → IsLawful (message number f)
lawful_message number {f = f} lawful = lawful_message_of (alone number f) (is_alone number f lawful)

-- Values of a width at the front of octets, and many of them one behind the other.
use Rattle.std.proofs.Common.{◌≡◌, ℕ, zero, suc, ◌+◌, ◌-◌, ◌*◌, ◌/◌, ◌%◌, ◌<◌, ◌≤◌, Bool, true, false, List, [], ◌∷◌, ◌++◌, length, get_or}
use Rattle.std.proofs.Common.{take, drop, set, map, cond, Option, None, Some, refl, sym, ap, ◌∙◌, arith, length-append, append-nil}
use Rattle.std.specs.Prelude.{nat_lt, slice_index}
use Rattle.std.proofs.lemmas.Bool.{le-ltb, lt-ltb}
use lib.Seq.{take-nil}
use borrow.Rule.Slice.PartMut.{post_of}
use Rattle.std.proofs.Math.Nat.{mul_comm, le-div_iff_mul-le}
use Rattle.std.proofs.lemmas.Grind.{common_steps}
use Rattle.std.proofs.lemmas.List.{length-take-le, length-drop, length-set, take-append-drop, take_all}
use Rattle.std.proofs.lemmas.List.{take_at, take_more_set, drop-drop, append_assoc, map-append}
use Rattle.byteorder.specs.Endian.{little_number}
use Rattle.byteorder.specs.Numbers.{little_from-take}
use Rattle.uuid.specs.Parts.{swap_fields}
use Rattle.ua_wire.specs.Exact.{◌>>=◌, image_read}
use Rattle.ua_wire.specs.Boolean.{octet_of}
use Rattle.ua_wire.specs.Counted.{octets_at}
use Rattle.ua_wire.specs.Number.{number_at, number_octets}
use Rattle.ua_wire.proofs.NumbersRead.{number_at-octets}
use Rattle.ua_wire.proofs.Readers.{guard_true}
use Rattle.ua_builtin.specs.Guid.{swapped}
use Rattle.ua_builtin.specs.declared.guid.Guid.{Guid}
use Rattle.ua_diagnostic.specs.Parts.{Decoder}
use Rattle.ua_variant.specs.Blocks.{before, with_front, row_behind}
use Rattle.ua_variant.specs.Decoding.{row_at}
use Rattle.ua_variant.specs.Data.{LeafData, guid, ScalarData, leaf, ScalarsData, no_scalars}
use Rattle.ua_variant.specs.Canonical.{row_canonical, scalar_canonical}
use Rattle.ua_variant.specs.Leaf.{leaf_canonical}
use Rattle.ua_variant.specs.View.{row}
use Rattle.ua_variant.proofs.BlocksRead.{leaf_step, leaf_ends, before_before}
use Rattle.ua_variant.proofs.Loops.{before_row}
use Rattle.ua_variant.proofs.PackedRows.{leaves_after}

-- each is an octet
abbrev pub AreOctets : List ℕ → Type 0
AreOctets o = (i : ℕ) → slice_index o i < 256

front_octets : (k : ℕ) (o : List ℕ) → AreOctets o → AreOctets (take k o)
front_octets zero o b i = omega arith
front_octets (suc k) [] b i = b i
front_octets (suc k) (x ∷ o) b zero = b zero
front_octets (suc k) (x ∷ o) b (suc i) = front_octets k o (λ j. b (suc j)) i

-- the number in the first octets, and what stands behind them
number_first : (k : ℕ) (o : List ℕ) → k ≤ length o → AreOctets o → number_at k o ≡ Some (little_number k o, drop k o)
number_first k o l b =
    ap (number_at k) (sym (take-append-drop k o))
    ∙ number_at-octets k (take k o) (drop k o) (length-take-le k o l) (front_octets k o b)
    ∙ ap (λ (n : ℕ). Some (n, drop k o)) (little_from-take 0 k k o (omega arith))

-- what is made of what was read
pub image_via : {A B : Type 0} (make : A → B) (p : List ℕ → Option (A × List ℕ)) (o rest : List ℕ) (x : A) → p o ≡ Some (x, rest)
    → image_read make p o ≡ Some (make x, rest)
image_via {A} {B} make p o rest x e = ap (λ (r : Option (A × List ℕ)). ◌>>=◌ {A = A × List ℕ} {B = B × List ℕ} r (λ y. Some (make y.0, y.1))) e

-- a number as a value
pub plain_first : (k : ℕ) (make : ℕ → LeafData) (o : List ℕ) (x : ℕ) → k ≤ length o → AreOctets o → x ≡ little_number k o
    → image_read make (number_at k) o ≡ Some (make x, drop k o)
plain_first k make o x l b e = image_via make (number_at k) o (drop k o) x (number_first k o l b ∙ ap (λ (y : ℕ). Some (y, drop k o)) (sym e))

-- what is made of a number
pub made_first : {A : Type 0} (k : ℕ) (inner : ℕ → A) (make : A → LeafData) (o : List ℕ) (x : A) → k ≤ length o → AreOctets o → x ≡ inner (little_number k o)
    → image_read make (image_read inner (number_at k)) o ≡ Some (make x, drop k o)
made_first {A} k inner make o x l b e =
    image_via make (image_read inner (number_at k)) o (drop k o) x (image_via inner (number_at k) o (drop k o) (little_number k o) (number_first k o l b)
    ∙ ap (λ (y : A). Some (y, drop k o)) (sym e))

-- what is made of what is made of a number
pub remade_first : {A B : Type 0} (k : ℕ) (inner : ℕ → A) (outer : A → B) (make : B → LeafData) (o : List ℕ) (x : A) → k ≤ length o → AreOctets o
    → x ≡ inner (little_number k o)
    → image_read make (image_read outer (image_read inner (number_at k))) o ≡ Some (make (outer x), drop k o)
remade_first {A} k inner outer make o x l b e =
    image_via make (image_read outer (image_read inner (number_at k))) o (drop k o) (outer x) (image_via outer (image_read inner (number_at k)) o (drop k o) x
    (image_via inner (number_at k) o (drop k o) (little_number k o) (number_first k o l b) ∙ ap (λ (y : A). Some (y, drop k o)) (sym e)))

-- ---- values of one octet

-- the first octet, as a number, and what stands behind it
byte_first : (o : List ℕ) → 1 ≤ length o → AreOctets o → number_at 1 o ≡ Some (slice_index o 0, drop 1 o)
unfolding number_at
byte_first [] l b = absurd (omega (arith, l))
byte_first (x ∷ o) l b =
    let same : x + 256 * 0 ≡ x = omega arith in
    guard_true (nat_lt x 256) (Some (x + 256 * 0, o)) (lt-ltb x 256 (b zero)) ∙ ap (λ (n : ℕ). Some (n, o)) same

-- a value that is an octet
pub plain_byte : (make : ℕ → LeafData) (o : List ℕ) → 1 ≤ length o → AreOctets o → image_read make (number_at 1) o ≡ Some (make (slice_index o 0), drop 1 o)
plain_byte make o l b = image_via make (number_at 1) o (drop 1 o) (slice_index o 0) (byte_first o l b)

-- what is made of an octet
pub made_byte : {A : Type 0} (inner : ℕ → A) (make : A → LeafData) (o : List ℕ) (x : A) → 1 ≤ length o → AreOctets o → x ≡ inner (slice_index o 0)
    → image_read make (image_read inner (number_at 1)) o ≡ Some (make x, drop 1 o)
made_byte {A} inner make o x l b e =
    image_via make (image_read inner (number_at 1)) o (drop 1 o) x (image_via inner (number_at 1) o (drop 1 o) (slice_index o 0) (byte_first o l b)
    ∙ ap (λ (y : A). Some (y, drop 1 o)) (sym e))

-- an octet that is written
pub byte_set : (o : List ℕ) (x : ℕ) → 1 ≤ length o → x < 256 → set o 0 x ≡ number_octets 1 x ++ drop 1 o
unfolding number_octets
byte_set [] x l h = absurd (omega (arith, l))
byte_set (y ∷ o) x l h =
    let same : x ≡ x % 256 = omega (arith, h) in
    ap (λ (n : ℕ). n ∷ o) same

pub octet_below : (b : Bool) → octet_of b < 256
octet_below false = omega arith
octet_below true = omega arith

-- ---- Guids

-- the octets of a Guid, and what stands behind them
pub guid_first : (o : List ℕ) (x : Guid) → 16 ≤ length o → x ≡ swapped (take 16 o)
    → image_read guid (image_read swapped (octets_at 16)) o ≡ Some (guid x, drop 16 o)
unfolding octets_at
guid_first o x l e =
    image_via guid (image_read swapped (octets_at 16)) o (drop 16 o) x (image_via swapped (octets_at 16) o (drop 16 o) (take 16 o)
    (ap (λ b. cond b None (Some (take 16 o, drop 16 o))) (le-ltb (length o) 16 l)) ∙ ap (λ (y : Guid). Some (y, drop 16 o)) (sym e))

pub same_guid : {u b : List ℕ} (o : List ℕ) → u ≡ swap_fields b → b ≡ take 16 o → (let made : Guid = record { uuid = u } in made) ≡ swapped (take 16 o)
same_guid {u} {b} o e is = ap (λ (t : List ℕ). let made : Guid = record { uuid = t } in made) (e ∙ ap swap_fields is)

-- ---- many of them

next_place : (w i : ℕ) → w * i + w ≡ w * (i + 1)
next_place w i = Prim.grind (arith, common_steps)

-- one more value, as the loop over places meets it
pub value_step : {X : Type 0} (f : X → LeafData) (p : Decoder ScalarData) (whole : Option (ScalarsData × List ℕ)) (w i : ℕ) (octets : List ℕ) (xs : List X)
    (x : X) → i < length xs
    → p (drop (w * i) octets) ≡ Some (leaf (f x), drop w (drop (w * i) octets))
    → row_behind (map leaf (map f (take i xs))) (length xs - i) p (drop (w * i) octets) ≡ whole
    → row_behind (map leaf (map f (take (i + 1) (set xs i x)))) (length (set xs i x) - (i + 1)) p (drop (w * (i + 1)) octets) ≡ whole
value_step {X} f p whole w i octets xs x lt read before =
    let there : drop w (drop (w * i) octets) ≡ drop (w * (i + 1)) octets = drop-drop w (w * i) octets ∙ ap (λ (n : ℕ). drop n octets) (next_place w i) in
    ap (λ (n : ℕ). row_behind (map leaf (map f (take (i + 1) (set xs i x)))) (n - (i + 1)) p (drop (w * (i + 1)) octets)) (length-set xs i x)
    ∙ leaf_step f p (take (i + 1) (set xs i x)) (take i xs) x (length xs) i (drop (w * i) octets) (drop (w * (i + 1)) octets) whole lt (take_more_set xs i x lt)
    (read ∙ ap (λ (o : List ℕ). Some (leaf (f x), o)) there) before

no_items : {X : Type 0} (b : List X) → length b ≡ 0 → b ≡ []
no_items [] h = refl
no_items (x ∷ b) h = absurd (omega (arith, h))

-- all values, where the loop ends
pub values_end : {X : Type 0} (f : X → LeafData) (p : Decoder ScalarData) (whole : Option (ScalarsData × List ℕ)) (w i : ℕ) (octets : List ℕ) (xs : List X)
    → i ≡ length xs → length octets ≡ length xs * w
    → row_behind (map leaf (map f (take i xs))) (length xs - i) p (drop (w * i) octets) ≡ whole → whole ≡ Some (row (map leaf (map f xs)), [])
values_end {X} f p whole w i octets xs is all so_far =
    let times : w * i ≡ length octets = mul_comm w i ∙ (ap (λ (n : ℕ). n * w) is ∙ sym all) in
    let none : drop (w * i) octets ≡ [] = no_items (drop (w * i) octets) (length-drop (w * i) octets ∙ omega (arith, times)) in
    let whole_list : take i xs ≡ xs = take_all i xs (omega (arith, is)) in
    leaf_ends p (map leaf (map f (take i xs))) (length xs - i) (drop (w * i) octets) whole (omega (arith, is)) so_far
    ∙ ap (λ (ys : List X). Some (row (map leaf (map f ys)), drop (w * i) octets)) whole_list ∙ ap (λ (o : List ℕ). Some (row (map leaf (map f xs)), o)) none

-- ---- writing

-- there is room for one more
pub room_for : (w i n len : ℕ) → i < n → len ≡ n * w → w * i + w ≤ len
room_for w i n len lt all = Prim.grind (arith, common_steps)

-- one more value is written
pub write_more : {X : Type 0} (f : X → LeafData) (w i : ℕ) (dst bs rest post : List ℕ) (xs : List X) (x : X) → w * i ≤ length dst → i < length xs
    → x ≡ get_or xs i x → length bs ≡ w → bs ≡ leaf_canonical (f x)
    → take (w * i) dst ≡ row_canonical (row (map leaf (map f (take i xs))))
    → take (w * (i + 1)) (take (w * i) dst ++ ((bs ++ rest) ++ post)) ≡ row_canonical (row (map leaf (map f (take (i + 1) xs))))
write_more {X} f w i dst bs rest post xs x room lt is width made before =
    let front : List ℕ = take (w * i) dst in
    let lf : length front ≡ w * i = length-take-le (w * i) dst room in
    let parts : front ++ ((bs ++ rest) ++ post) ≡ (front ++ bs) ++ (rest ++ post) =
    ap (λ (r : List ℕ). front ++ r) (append_assoc bs rest post) ∙ sym (append_assoc front bs (rest ++ post)) in
    let lw : length (front ++ bs) ≡ w * (i + 1) = length-append front bs
    ∙ (ap (λ (n : ℕ). n + length bs) lf ∙ (ap (λ (n : ℕ). w * i + n) width ∙ next_place w i)) in
    ap (take (w * (i + 1))) parts ∙ take_at (front ++ bs) (rest ++ post) (w * (i + 1)) lw
    ∙ ap (λ (t : List ℕ). t ++ bs) before ∙ ap (λ (t : List ℕ). row_canonical (row (map leaf (map f (take i xs)))) ++ t) made
    ∙ leaves_after f [] xs i x lt is

-- so many of a width lie within a block
pub many_within : (w n block : ℕ) → 0 < w → n ≤ block / w → n * w ≤ block
many_within w n block h l = (le-div_iff_mul-le h).0 l

-- two rows, one behind the other
row_two : (a b : List ScalarData) → row_canonical (row (a ++ b)) ≡ row_canonical (row a) ++ row_canonical (row b)
row_two [] b = refl
row_two (s ∷ a) b = ap (λ (t : List ℕ). scalar_canonical s ++ t) (row_two a b)
    ∙ sym (append_assoc (scalar_canonical s) (row_canonical (row a)) (row_canonical (row b)))

mapped_two : {X : Type 0} (f : X → LeafData) (xs ys : List X) → map leaf (map f (xs ++ ys)) ≡ map leaf (map f xs) ++ map leaf (map f ys)
mapped_two f xs ys = ap (map leaf) (map-append f xs ys) ∙ map-append leaf (map f xs) (map f ys)

take_two : {X : Type 0} (i n : ℕ) (xs : List X) → take (i + n) xs ≡ take i xs ++ take n (drop i xs)
take_two {X} zero n xs = let e : 0 + n ≡ n = omega arith in ap (λ (m : ℕ). take m xs) e
take_two {X} (suc i) n [] = let e : suc i + n ≡ suc (i + n) = omega arith in ap (λ (m : ℕ). take {A = X} m []) e ∙ sym (take-nil n)
take_two {X} (suc i) n (x ∷ xs) = let e : suc i + n ≡ suc (i + n) = omega arith in ap (λ (m : ℕ). take m (x ∷ xs)) e
    ∙ ap (λ (t : List X). x ∷ t) (take_two i n xs)

-- so many more values are added
pub values_after : {X : Type 0} (f : X → LeafData) (old out part : List ℕ) (i n : ℕ) (xs : List X)
    → out ≡ old ++ row_canonical (row (map leaf (map f (take i xs)))) → part ≡ row_canonical (row (map leaf (map f (take n (drop i xs)))))
    → out ++ part ≡ old ++ row_canonical (row (map leaf (map f (take (i + n) xs))))
values_after {X} f old out part i n xs so_far more =
    ap (λ (t : List ℕ). t ++ part) so_far ∙ append_assoc old (row_canonical (row (map leaf (map f (take i xs))))) part
    ∙ ap (λ (t : List ℕ). old ++ t) (ap (λ (t : List ℕ). row_canonical (row (map leaf (map f (take i xs)))) ++ t) more
    ∙ sym (ap (λ (ys : List X). row_canonical (row (map leaf (map f ys)))) (take_two i n xs)
    ∙ ap (λ (ys : List ScalarData). row_canonical (row ys)) (mapped_two f (take i xs) (take n (drop i xs)))
    ∙ row_two (map leaf (map f (take i xs))) (map leaf (map f (take n (drop i xs))))))

-- room that was made behind elements, and then filled: the list d, which is r, with xs in the place of its last n elements
pub refilled : {X : Type 0} (a b xs d r : List X) (old m n len : ℕ) → old ≡ length a → d ≡ r → r ≡ take (old + n) a ++ b → length b ≡ n → m ≡ n → len ≡ old + n
    → length xs ≡ n
    → take len ((take old d ++ (xs ++ post_of old m d)) ++ drop (length (take old d ++ (xs ++ post_of old m d))) r) ≡ a ++ xs
refilled {X} a b xs d r old m n len is same parts width all whole filled =
    let made : d ≡ a ++ b = same ∙ parts ∙ ap (λ (t : List X). t ++ b) (take_all (old + n) a (omega (arith, is))) in
    let front : take old d ≡ a = ap (take old) made ∙ take_at a b old (sym is) in
    let rest : post_of old m d ≡ [] = no_items (post_of old m d)
    (length-drop m (drop old d) ∙ omega (arith, length-drop old d, ap length made, length-append a b, width, all, is)) in
    let put : take old d ++ (xs ++ post_of old m d) ≡ a ++ xs =
    ap (λ (t : List X). t ++ (xs ++ post_of old m d)) front ∙ ap (λ (t : List X). a ++ (xs ++ t)) rest ∙ ap (λ (t : List X). a ++ t) (append-nil xs) in
    ap (λ (t : List X). take len (t ++ drop (length t) r)) put
    ∙ take_at (a ++ xs) (drop (length (a ++ xs)) r) len (length-append a xs ∙ omega (arith, filled, is, whole))

-- values that were read, behind the elements that there are
pub values_behind : {X : Type 0} (f : X → LeafData) (p : Decoder ScalarData) (n : ℕ) (block : List ℕ) (items xs all : List X) → all ≡ items ++ xs
    → row_at n p block ≡ Some (row (map leaf (map f xs)), [])
    → row_behind (map leaf (map f items)) n p block ≡ Some (row (map leaf (map f all)), [])
values_behind {X} f p n block items xs all is read =
    let a = map leaf (map f items) in
    let b = map leaf (map f xs) in
    let joined : before a (row b) ≡ row (a ++ b) = ap (before a) (sym (before_row b)) ∙ (before_before a b no_scalars ∙ before_row (a ++ b)) in
    ap (with_front a) read
    ∙ ap (λ (r : ScalarsData). Some (r, [])) (joined ∙ sym (ap (λ (ys : List X). row (map leaf (map f ys))) is ∙ ap row (mapped_two f items xs)))

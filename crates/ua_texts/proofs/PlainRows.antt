-- Elements of arrays as people write them, one at a time.
use Rattle.std.proofs.Common.{◌≡◌, ℕ, zero, suc, ◌+◌, Bool, true, List, [], ◌∷◌, ◌++◌, length, map, take, slice_get, option_map}
use Rattle.std.proofs.Common.{Option, Some, None, refl, sym, ◌∙◌, ap, arith, append-nil, append_assoc}
use Rattle.ua_variant.specs.Data.{LeafData, ScalarData, leaf}
use Rattle.ua_variant.specs.View.{row}
use Rattle.ua_texts.specs.Plain.{ArePlain, IsLeafOrOctets, IsPlainItems, IsPlainScalar}
use Rattle.ua_texts.specs.Values.{comma_at, parted, item_text}
use Rattle.ua_texts.proofs.Rows.{get_map, take_next, length_next, parted_more}

each_push : (names : Bool) (ss : List ScalarData) (ts : List (List ℕ)) (s : ScalarData) (t : List ℕ) → ArePlain names (row ss) ts → IsPlainScalar names true s t
    → ArePlain names (row (ss ++ s ∷ [])) (ts ++ t ∷ [])
each_push names [] [] s t h k = (k, tt)
each_push names [] (u ∷ ts) s t h k = absurd h
each_push names (r ∷ ss) [] s t h k = absurd h
each_push names (r ∷ ss) (u ∷ ts) s t h k = (h.0, each_push names ss ts s t h.1 k)

each_length : (names : Bool) (ss : List ScalarData) (ts : List (List ℕ)) → ArePlain names (row ss) ts → length ts ≡ length ss
each_length names [] [] h = refl
each_length names [] (u ∷ ts) h = absurd h
each_length names (r ∷ ss) [] h = absurd h
each_length names (r ∷ ss) (u ∷ ts) h = ap suc (each_length names ss ts h.1)

comma_item : (n : ℕ) (text : List ℕ) → comma_at n ++ text ≡ item_text n text
comma_item zero text = refl
comma_item (suc n) text = refl

-- the elements up to a place, and the one there
items_push : (names : Bool) (ss : List ScalarData) (s : ScalarData) (n : ℕ) (front text : List ℕ) → length ss ≡ n → IsPlainItems names ss front
    → IsPlainScalar names true s text
    → IsPlainItems names (ss ++ s ∷ []) (front ++ (comma_at n ++ text))
items_push names ss s n front text e h k =
    let long : length h.0 ≡ n = each_length names ss h.0 h.2 ∙ e in (
      h.0 ++ text ∷ [],
      ap (λ (t : List ℕ). t ++ (comma_at n ++ text)) h.1 ∙ ap (λ (t : List ℕ). parted h.0 ++ t) (comma_item n text ∙ ap (λ m. item_text m text) (sym long))
          ∙ sym (parted_more h.0 text),
      each_push names ss h.0 s text h.2 k,
    )

-- elements up to a place were added
abbrev pub Added : Bool → List ScalarData → List ℕ → List ℕ → Type 0
Added names items start now = (text : List ℕ) × (now ≡ start ++ text) × IsPlainItems names items text

-- no elements
pub plain_none : (names : Bool) (start : List ℕ) → Added names [] start start
plain_none names start = ([], sym (append-nil start), ([], refl, tt))

-- the elements up to the next place were added
pub plain_next : {A : Type 0} (names : Bool) (f : A → ScalarData) (xs : List A) (n : ℕ) (s : ScalarData) (start now mid new : List ℕ)
    → Some s ≡ option_map f (slice_get xs n)
    → Added names (take n (map f xs)) start now → mid ≡ now ++ comma_at n → ((text : List ℕ) × (new ≡ mid ++ text) × IsPlainScalar names true s text)
    → Added names (take (n + 1) (map f xs)) start new
plain_next names f xs n s start now mid new e h m k =
    let there : slice_get (map f xs) n ≡ Some s = get_map f xs n ∙ sym e in
    let next : take (n + 1) (map f xs) ≡ take n (map f xs) ++ s ∷ [] = let p : n + 1 ≡ suc n = omega arith in ap (λ i. take i (map f xs)) p
    ∙ take_next (map f xs) n s there in
    let items = items_push names (take n (map f xs)) s n h.0 k.0 (length_next (map f xs) n s there) h.2 k.2 in
    let whole : new ≡ start ++ (h.0 ++ (comma_at n ++ k.0)) =
    k.1 ∙ ap (λ (t : List ℕ). t ++ k.0) m ∙ append_assoc now (comma_at n) k.0 ∙ ap (λ (t : List ℕ). t ++ (comma_at n ++ k.0)) h.1
    ∙ append_assoc start h.0 (comma_at n ++ k.0) in
    (h.0 ++ (comma_at n ++ k.0), whole, rw next items)

-- a scalar that holds no further value
leaf_is : (names within : Bool) (s : ScalarData) (o : Option LeafData) (text : List ℕ) → Some s ≡ option_map leaf o → IsLeafOrOctets names within s text
    → IsPlainScalar names within s text
leaf_is names within s None text e h = absurd cc
leaf_is names within s (Some l) text e h = let same : s ≡ leaf l = cc in rw same (rw same at h)

-- one was added
pub leaf_added : (names within : Bool) (s : ScalarData) (o : Option LeafData) (mid new : List ℕ) → Some s ≡ option_map leaf o
    → ((text : List ℕ) × (new ≡ mid ++ text) × IsLeafOrOctets names within s text)
    → (text : List ℕ) × (new ≡ mid ++ text) × IsPlainScalar names within s text
leaf_added names within s o mid new e k = (k.0, k.1, leaf_is names within s o k.0 e k.2)

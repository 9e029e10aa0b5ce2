-- The values of an array's elements, one at a time.
use Rattle.std.proofs.Common.{◌≡◌, ℕ, zero, suc, false, ◌==◌, ◌<◌, length, map, arith, List, []}
use Rattle.std.proofs.Common.{◌∷◌, ◌++◌, Option, Some, None, Err, refl, sym, ◌∙◌, ap, append_assoc}
use Rattle.std.proofs.lemmas.List.{map-append}
use Rattle.std.specs.Option.{option_map}
use Rattle.ua_builtin.specs.Exact.{◌>>=◌}
use Rattle.ua_variant.specs.Data.{LeafData, ScalarData, leaf}
use Rattle.ua_nodes.specs.ValueText.{leaf_denoted, leaves_denoted, elements, in_front, Denotes}
use Rattle.ua_nodes.proofs.Pieces.{pieces}
use Rattle.ua_nodes.specs.declared.fault.ValueFault.{ValueFault}
use Rattle.ua_nodes.specs.declared.fault.ValueFault.TheVariants.{NotValue, OutOfMemory}

leaf_some : (o : Option LeafData) (back : Option (List ScalarData)) (v : ScalarData) → option_map leaf o ≡ Some v
    → (o >>= λ l. back >>= λ vs. Some (leaf l ∷ vs)) ≡ in_front (v ∷ []) back
leaf_some None back v e = absurd cc
leaf_some (Some l) None v e = refl
leaf_some (Some l) (Some vs) v e = let same : leaf l ≡ v = cc in ap (λ (u : ScalarData). Some (u ∷ vs)) same

leaf_none : (o : Option LeafData) (back : Option (List ScalarData)) → option_map leaf o ≡ None → (o >>= λ l. back >>= λ vs. Some (leaf l ∷ vs)) ≡ None
leaf_none None back e = refl
leaf_none (Some l) back e = absurd cc

front_front : (front : List ScalarData) (v : ScalarData) (back : Option (List ScalarData))
    → in_front front (in_front (v ∷ []) back) ≡ in_front (front ++ v ∷ []) back
front_front front v None = refl
front_front front v (Some vs) = ap Some (sym (append_assoc front (v ∷ []) vs))

-- one more element's value
pub element_ok : (kind : ℕ) (whole : Option (List ScalarData)) (front : List ScalarData) (text : List ℕ) (texts : List (List ℕ)) (v : ScalarData)
    → whole ≡ in_front front (leaves_denoted kind (text ∷ texts)) → option_map leaf (leaf_denoted kind text) ≡ Some v
    → whole ≡ in_front (front ++ v ∷ []) (leaves_denoted kind texts)
element_ok kind whole front text texts v e h =
    e ∙ ap (in_front front) (leaf_some (leaf_denoted kind text) (leaves_denoted kind texts) v h) ∙ front_front front v (leaves_denoted kind texts)

-- an element that denotes no value
pub element_none : (kind : ℕ) (whole : Option (List ScalarData)) (front : List ScalarData) (text : List ℕ) (texts : List (List ℕ))
    → whole ≡ in_front front (leaves_denoted kind (text ∷ texts)) → option_map leaf (leaf_denoted kind text) ≡ None → whole ≡ None
element_none kind whole front text texts e h = e ∙ ap (in_front front) (leaf_none (leaf_denoted kind text) (leaves_denoted kind texts) h)

append_nil : (vs : List ScalarData) → vs ++ [] ≡ vs
append_nil [] = refl
append_nil (v ∷ vs) = ap (λ (t : List ScalarData). v ∷ t) (append_nil vs)

-- the last element's value
pub element_last : (kind : ℕ) (whole : Option (List ScalarData)) (front : List ScalarData) (text : List ℕ) (v : ScalarData)
    → whole ≡ in_front front (leaves_denoted kind (text ∷ [])) → option_map leaf (leaf_denoted kind text) ≡ Some v → whole ≡ Some (front ++ v ∷ [])
element_last kind whole front text v e h = element_ok kind whole front text [] v e h ∙ ap Some (append_nil (front ++ v ∷ []))

-- a fault says the same of the whole
pub fault_of : {X Y A B : Type 0} (f : X → A) (g : Y → B) (part : Option A) (whole : Option B) (e : ValueFault) → (part ≡ None → whole ≡ None)
    → Denotes f part (Err e) → Denotes g whole (Err e)
fault_of f g part whole NotValue h d = h d
fault_of f g part whole OutOfMemory h d = tt

pub map_push : {X A : Type 0} (f : X → A) (old new : List X) (x : X) → new ≡ old ++ x ∷ [] → map f new ≡ map f old ++ f x ∷ []
map_push f old new x e = ap (map f) e ∙ map-append f old (x ∷ [])

pub leaves_push : {X : Type 0} (f : X → LeafData) (old new : List X) (x : X) → new ≡ old ++ x ∷ []
    → map leaf (map f new) ≡ map leaf (map f old) ++ leaf (f x) ∷ []
leaves_push f old new x e = map_push leaf (map f old) (map f new) (f x) (map_push f old new x e)

-- a text that isn't empty has the pieces round its commas
pub elements_are : (text : List ℕ) → 0 < length text → elements text ≡ pieces 44 text
elements_are [] h = absurd (omega (arith, h))
elements_are (c ∷ cs) h = refl

front_nil : (front : List ScalarData) (back : Option (List ScalarData)) → front ≡ [] → back ≡ in_front front back
front_nil front None e = refl
front_nil front (Some vs) e = ap (λ (t : List ScalarData). Some (t ++ vs)) (sym e)

-- before the first element
pub elements_start : (kind : ℕ) (text : List ℕ) (front : List ScalarData) → front ≡ [] → 0 < length text
    → leaves_denoted kind (elements text) ≡ in_front front (leaves_denoted kind (pieces 44 text))
elements_start kind text front e h = ap (leaves_denoted kind) (elements_are text h) ∙ front_nil front (leaves_denoted kind (pieces 44 text)) e

pub not_empty : (n : ℕ) → false ≡ (n == 0) → 0 < n
not_empty zero e = absurd cc
not_empty (suc n) e = omega arith

-- What a view makes of options: they are equal, and hashed, as their views are.
use Rattle.std.specs.Prelude.{◌≡◌, Bool, Option, Some, None, option_map}
use Rattle.std.proofs.Common.{refl}
use Rattle.std.specs.Option.{option_eq}
use Rattle.std.specs.Hash.{HashWrites, option}

pub option_eq-map : {X Y : Type 0} (view : X → Y) (same : Y → Y → Bool) (a b : Option X)
    → option_eq (λ x y. same (view x) (view y)) a b ≡ option_eq same (option_map view a) (option_map view b)
option_eq-map view same None None = refl
option_eq-map view same None (Some y) = refl
option_eq-map view same (Some x) None = refl
option_eq-map view same (Some x) (Some y) = refl

pub option-map : {X Y : Type 0} (view : X → Y) (written : Y → HashWrites) (a : Option X) → option (λ x. written (view x)) a ≡ option written (option_map view a)
option-map view written None = refl
option-map view written (Some x) = refl

pub ruleset seen = (option_eq-map, option-map)

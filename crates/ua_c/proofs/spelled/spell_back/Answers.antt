use Rattle.std.proofs.Common.{rules, ◌≡◌, ◌++◌, ◌∷◌, inr, refl, string_bytes}
use Rattle.ua_variant.specs.View.{variant_of}
use Rattle.ua_c.specs.Spelled.{HasNoSpace, IsBack, IsSpelled}
use Rattle.ua_c.proofs.Spelling.{not_parts}
use Rattle.ua_c.proofs.spelled.spell_back.Goals as goal

pub returns-in-Ok-false-clause-fault : goal.returns-in-Ok-false-clause-fault
returns-in-Ok-false-clause-fault c =
    let text = string_bytes c.in-Ok.text in
    let kind = c.in-Some.kind.now in
    let rest = c.in-Some.rest.now in
    let printed : IsSpelled c.args.plain (variant_of c.args.value.now) text = search rules in
    let parts : text ≡ kind ++ 32 ∷ rest = search rules in
    let first : HasNoSpace kind = search rules in
    let denied : ¬ (IsBack c.args.plain kind rest c.args.canonical.now) = search rules in
    inr (refl, not_parts c.args.plain (variant_of c.args.value.now) text kind rest c.args.canonical.now printed parts first denied)

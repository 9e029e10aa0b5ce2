use Rattle.std.proofs.Common.{◌≡◌, Bool, true, false, cond, None, codes, ap, ◌∙◌}
use Rattle.std.proofs.lemmas.Str.Pattern.{ends_text}
use Rattle.std.specs.Option.{option_map}
use Rattle.ua_nodes.specs.TypeName.{type_named, type_with_array, unmarked}
use Rattle.ua_nodes.proofs.type_name.parse_type.Goals as goal

pub returns-in_err-kind_named-in-None-clause-denoted : goal.returns-in_err-kind_named-in-None-clause-denoted
returns-in_err-kind_named-in-None-clause-denoted c =
    let text = c.args.text.now in
    let plain = ends_text false (codes "[]") text c.in-None.ensures.cases in
    let none : None ≡ type_named text = c.in_err-kind_named-in-None.ensures in
    c.from_residual-in_err-kind_named-in-None.ensures
    ∙ ap (option_map (type_with_array false)) none
    ∙ ap (λ (t : Bool). cond t (option_map (type_with_array true) (type_named (unmarked text))) (option_map (type_with_array false) (type_named text))) plain

use Rattle.std.proofs.Common.{Option, List, ℕ, Bor, option_map, sym, ◌∙◌, ap}
use Rattle.ua_wire.specs.Counted.{is_text}
use Rattle.ua_wire.proofs.FrontsRead.{utf8_test}
use Rattle.ua_wire.proofs.fronts.is_text.Goals as goal

pub returns-in-Some : goal.returns-in-Some
returns-in-Some c =
    utf8_test c.is_utf8.result c.in-Some.text.now c.is_utf8.ensures
    ∙ ap (λ (f : Option (Bor (List ℕ))). is_text (option_map (λ (o : Bor (List ℕ)). o.now) f)) (sym c.in-Some.is)

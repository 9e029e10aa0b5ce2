use Rattle.std.proofs.Common.{ℕ, List, [], ◌∷◌, ◌++◌, ap, ◌∙◌}
use Rattle.ua_builtin.specs.Number.{number_octets}
use Rattle.ua_server.proofs.GoodHeader.{good_octets}
use Rattle.ua_server.proofs.attributes.append_good_header.Goals as goal

pub returns-clause-ok : goal.returns-clause-ok
returns-clause-ok c =
    c.in_ok-extend_from_slice.ensures.items
    ∙ ap (λ (t : List ℕ). t ++ (0 ∷ 0 ∷ 0 ∷ 0 ∷ 0 ∷ 255 ∷ 255 ∷ 255 ∷ 255 ∷ 0 ∷ 0 ∷ 0 ∷ []))
    (c.in_ok-append-2.ensures.ok ∙ ap (λ (t : List ℕ). t ++ number_octets 4 c.args.handle) c.in_ok-append.ensures.ok)
    ∙ good_octets c.args.out.now.items c.args.moment c.args.handle

use Rattle.std.proofs.Common.{◌≡◌, length, refl, ap, ◌∙◌, arith}
use Rattle.ua_wire.proofs.Behind.{stays_behind}
use Rattle.ua_wire.specs.Number.{number_at}
use Rattle.ua_wire.proofs.NumbersRead.{number_at-octets, number_at-short}
use Rattle.ua_wire.proofs.numbers.take_number.Goals as goal

pub returns-then-not-take_into-clause-exact : goal.returns-then-not-take_into-clause-exact
returns-then-not-take_into-clause-exact g c = (refl, number_at-short _ _ c.if-not-take_into.ensures.0)

pub returns-clause-exact : goal.returns-clause-exact
returns-clause-exact g c =
    let same : length c.take_into.new.out ≡ length c.args.octets.now = omega arith in
    ap (number_at (length c.args.octets.now)) c.if-not-take_into.ensures
    ∙ number_at-octets (length c.args.octets.now) c.take_into.new.out (g.S.Source.octets c.take_into.new.self) same (λ i. omega (arith, c.type_inv.octets i))

pub returns-clause-behind : goal.returns-clause-behind
returns-clause-behind g c = stays_behind _ _ (record { taken = c.take_into.new.out; parts = c.if-not-take_into.ensures })

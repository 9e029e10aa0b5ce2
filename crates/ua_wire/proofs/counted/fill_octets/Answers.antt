use Rattle.std.proofs.Common.{◌≡◌, length, refl, ap, ◌∙◌, arith}
use Rattle.ua_wire.proofs.Behind.{stays_behind}
use Rattle.ua_wire.specs.Counted.{octets_at}
use Rattle.ua_wire.proofs.CountedRead.{octets_taken, octets_at-short}
use Rattle.ua_wire.proofs.counted.fill_octets.Goals as goal

pub returns-then-not-take_into-clause-exact : goal.returns-then-not-take_into-clause-exact
returns-then-not-take_into-clause-exact g c = (refl, octets_at-short _ _ c.if-not-take_into.ensures.0)

pub returns-clause-exact : goal.returns-clause-exact
returns-clause-exact g c =
    let same : length c.take_into.new.out ≡ length c.args.octets.now = omega arith in
    ap (octets_at (length c.args.octets.now)) c.if-not-take_into.ensures
    ∙ octets_taken (length c.args.octets.now) c.take_into.new.out (g.S.Source.octets c.take_into.new.self) same

pub returns-clause-behind : goal.returns-clause-behind
returns-clause-behind g c = stays_behind _ _ (record { taken = c.take_into.new.out; parts = c.if-not-take_into.ensures })

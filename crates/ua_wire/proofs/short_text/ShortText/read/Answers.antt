use Rattle.std.proofs.Common.{arith, refl}
use Rattle.std.proofs.lemmas.Str.{is_utf8-from_IsUtf8}
use Rattle.ua_wire.proofs.Readers.{not_false}
use Rattle.ua_wire.proofs.FrontsRead.{room_read, text_front, no_text_front, octets_enough}
use Rattle.ua_wire.proofs.short_text.ShortText.read.Goals as goal

pub returns-then-not-is_utf8-clause-exact : goal.returns-then-not-is_utf8-clause-exact
returns-then-not-is_utf8-clause-exact g c =
    let there = room_read _ _ _ _ c.args.count c.requires c.in_ok-fill_octets.ensures.exact in
    no_text_front _ c.fill_octets.new.octets _ _ _ there.1 there.0 (λ u. not_false (c.if-not-is_utf8.ensures.1 u))

pub invariant_of-result : goal.invariant_of-result
invariant_of-result g c = (omega arith, is_utf8-from_IsUtf8 _ (c.if-not-is_utf8.ensures.0 refl))

pub returns-clause-exact : goal.returns-clause-exact
returns-clause-exact g c =
    let there = room_read _ _ _ _ c.args.count c.requires c.in_ok-fill_octets.ensures.exact in
    text_front _ c.fill_octets.new.octets _ _ _ there.1 there.0 (c.if-not-is_utf8.ensures.0 refl)

pub returns-clause-long : goal.returns-clause-long
returns-clause-long g c =
    let there = room_read _ _ _ _ c.args.count c.requires c.in_ok-fill_octets.ensures.exact in
    λ short. absurd (octets_enough _ _ _ _ there.0 short)

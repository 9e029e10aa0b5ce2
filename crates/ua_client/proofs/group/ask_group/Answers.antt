use Rattle.std.proofs.Common.{rules, ◌≡◌, Some, length, length-append, take, arith, sym, ◌∙◌, ap}
use Rattle.std.specs.Prelude.{ℕ, unwrap_or}
use Rattle.ua_channel.specs.ClientSends.{appended}
use Rattle.ua_client.proofs.Askings.{asked-more, asked-all, asked-as, take-push, take-whole}
use Rattle.ua_client.proofs.group.ask_group.Goals as goal

pub loop-body-preserved : goal.loop-body-preserved
loop-body-preserved c =
    let more = appended c.loop-body.octets.items c.call.new.out.items in
    let first : c.unwrap_or.result ≡ unwrap_or c.loop-body.first c.in-Ok.call.id = search rules in
    record {
      asked = asked-as _ _ c.args.channel.now c.call.new.self _ _ _ _
          (asked-more (take c.loop-body.body-index c.args.bodies.now) c.octets.result.now c.args.channel.now c.loop-body.channel c.call.new.self
          c.loop-body.octets.items c.loop-body.first c.in-Ok.call.id more
          c.loop-body.invariant.asked c.in-Ok.ensures.stands c.in-Ok.ensures.sent c.in-Ok.ensures.same)
          (take-push c.args.bodies.now c.loop-body.body-index c.octets.result.now c.body-item.result c.loop-body-test.true (c.octets.ensures.value
          ∙ c.body-item.is))
          (sym c.in-Ok.ensures.behind) (ap (λ (n : ℕ). Some n) (sym first));
      len = omega (
        arith,
        c.in-Ok-add_call.ensures.len,
        c.loop-body.invariant.len,
        c.in-Ok.ensures.len,
        ap length c.in-Ok.ensures.behind,
        length-append c.loop-body.octets.items more,
      );
    }

pub returns-clause-asks : goal.returns-clause-asks
returns-clause-asks c = λ asks octets frames rest s.
    let r = asked-all (take c.loop-body.body-index c.args.bodies.now) c.args.bodies.now c.args.channel.now c.loop-body.channel
    c.loop-body.octets.items c.loop-body.first c.loop-body.invariant.asked
    (take-whole c.args.bodies.now c.loop-body.body-index c.loop-body-test.false) asks octets frames rest s in
    let first : c.unwrap_or-2.result ≡ unwrap_or c.loop-body.first 0 = search rules in
    (λ some. first ∙ r.0 some, r.1)

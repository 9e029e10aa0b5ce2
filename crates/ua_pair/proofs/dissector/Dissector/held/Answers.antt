use Rattle.std.proofs.Common.{◌≡◌, ◌+◌, ◌≤◌, [], arith}
use Rattle.ua_pair.proofs.Dissections.{held_is, held_closed, tells}
use Rattle.ua_pair.proofs.dissector.Dissector.held.Goals as goal

pub returns-clause-held : goal.returns-clause-held
returns-clause-held c = λ options octets told s.
    let t = tells c.args.self.now options octets told s in
    let most : c.held-2.result ≤ 67108864 = c.held-2.ensures.bound t.frames t.stands in
    let sum : c.saturating_add.result ≡ c.held.result + c.held-2.result = omega (arith, c.saturating_add.ensures, c.held.ensures.bound, most) in
    held_is c.args.self.now options octets told c.held.result c.held-2.result c.saturating_add.result s c.held.ensures.count c.held-2.ensures.held sum

pub returns-clause-closed : goal.returns-clause-closed
returns-clause-closed c = λ closed.
    let most : c.held-2.result ≤ 67108864 = c.held-2.ensures.bound [] closed.nothing.teller in
    let sum : c.saturating_add.result ≡ c.held.result + c.held-2.result = omega (arith, c.saturating_add.ensures, c.held.ensures.bound, most) in
    held_closed c.args.self.now c.held.result c.held-2.result c.saturating_add.result closed c.held.ensures.count c.held-2.ensures.held sum

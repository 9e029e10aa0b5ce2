use Rattle.std.proofs.Common.{◌≡◌, refl, sym, ◌∙◌, subst, ℕ, Some, None, slice_set, ◌+◌, arith}
use Rattle.ua_concurrent.specs.All.{IsFree}
use Rattle.ua_concurrent.specs.Standing.{StandTogether}
use Rattle.ua_concurrent.proofs.Together.{get_within, together_opened}
use Rattle.ua_concurrent.proofs.connections.Connections.open.Goals as goal

pub returns-in-Ok-clause-opens : goal.returns-in-Ok-clause-opens
returns-in-Ok-clause-opens g c = (
  c.is_free.ensures.0 c.if-not-is_free.false,
  record {
    talk = c.in-Ok.conversation;
    number_is = c.in-Ok.ensures.number;
    socket_is = c.in-Ok.ensures.begins.0;
    idle = (c.in-Ok.ensures.begins.1, c.in-Ok.ensures.begins.2);
    is = refl;
  },
)

pub returns-in-Ok-clause-stand : goal.returns-in-Ok-clause-stand
returns-in-Ok-clause-stand g c = λ es first now fresh s.
    let places = c.args.self.now.places.items in
    let last = c.args.self.now.opened in
    let free : IsFree places c.args.place = c.is_free.ensures.0 c.if-not-is_free.false in
    let more : c.in-Some.number ≡ last + 1 = c.in-Some.ensures.1 in
    let told = s.unheard c.in-Some.number (omega (arith, more)) in
    subst (λ (n : ℕ). StandTogether g.S.Socket.seen es first now n (slice_set places c.args.place (Some c.in-Ok.conversation))) (sym more)
    (together_opened g.S.Socket.seen es first now last c.args.place c.in-Ok.conversation places (get_within places c.args.place None free)
    (c.in-Ok.ensures.number ∙ more)
    (c.in-Ok.ensures.stands es first now told s.state_is fresh) s)

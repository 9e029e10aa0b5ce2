use Rattle.std.proofs.Common.{List}
use Rattle.ua_server.specs.Sharing.{SharedEvent}
use Rattle.ua_server.specs.State.{State}
use Rattle.ua_concurrent.specs.Standing.{TalkStands, Went}
use Rattle.ua_concurrent.specs.Turning.{Stepped}
use Rattle.ua_concurrent.proofs.conversation.Conversation.step_on.Given as goal

abbrev pub invariant-loop : goal.invariant-loop
invariant-loop g l = record {
  stepped : Stepped l.fn.self l.self;
  went : (es : List SharedEvent) (first : State) (s : TalkStands g.S.Socket.seen es first l.fn.services l.fn.self)
      → Went g.S.Socket.seen g.A.Application.acts es first (l.fn.services, l.fn.application) (l.services, l.application) s.octets l.self;
}

use Rattle.ua_channel.specs.Client.{client_limits}
use Rattle.ua_judge.proofs.ClientTakes.{last_decides, last_keeps}
use Rattle.ua_judge.proofs.server_judge.finish.Goals as goal

pub returns-in-Some : goal.returns-in-Some
returns-in-Some c = λ asks s.
    last_decides (client_limits c.args.client.now) c.args.requests.now asks c.args.octets.now c.args.from _ c.in_ok-taken.taken.at c.take_to.new.client
    c.in_ok-taken.taken.verdict c.in-Some.verdict c.in-Some.is
    (c.in_ok-taken.ensures.takes asks s)

pub returns-in-None : goal.returns-in-None
returns-in-None c = λ asks s. (
  tt,
  last_keeps (client_limits c.args.client.now) c.args.requests.now asks c.args.octets.now c.args.from c.in_ok-taken.taken.at c.take_to.new.client
      c.in_ok-taken.taken.verdict c.in-None.is c.requires c.in_ok-taken.ensures.limits
      (c.in_ok-taken.ensures.takes asks s),
)

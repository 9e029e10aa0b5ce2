use Rattle.std.proofs.Common.{◌-◌, length-drop, length-take, take, drop, refl, sym, arith}
use Rattle.ua_channel.specs.Client.{client_limits}
use Rattle.ua_judge.proofs.ClientTakes.{client_took, goes_so}
use Rattle.ua_judge.proofs.server_judge.take_next.Goals as goal

pub returns-in_ok-verdict-in-Ok-clause-takes : goal.returns-in_ok-verdict-in-Ok-clause-takes
returns-in_ok-verdict-in-Ok-clause-takes c = λ asks s.
    let g = goes_so c.args.requests.now c.args.client.now asks (take c.args.at c.args.octets.now) s in
    client_took _ c.args.octets.now (take (c.args.end - c.args.at) (drop c.args.at c.args.octets.now)) c.args.at (c.args.end - c.args.at) c.in-Ok.size
    c.in-Ok.event (client_limits c.args.client.now) c.args.requests.now c.take.new.self asks g.0
    c.in_ok-verdict-in-Ok.verdict (omega (arith, c.requires.some, c.requires.within)) c.in-Ok.ensures.progress.0 refl (sym c.in-Ok.ensures.same.limits) g.1.1
    c.in_ok-verdict-in-Ok.ensures
    (c.in-Ok.ensures.answers asks (take c.args.at c.args.octets.now) g.0 g.1.0)

pub returns-in_ok-verdict-in-Ok-clause-within : goal.returns-in_ok-verdict-in-Ok-clause-within
returns-in_ok-verdict-in-Ok-clause-within c = omega (
  arith,
  c.in-Ok.ensures.progress.0,
  length-take (c.args.end - c.args.at)
      (drop c.args.at c.args.octets.now),
  c.requires.some,
)

pub returns-in_ok-verdict-in-Ok-clause-further : goal.returns-in_ok-verdict-in-Ok-clause-further
returns-in_ok-verdict-in-Ok-clause-further c =
    omega (
      arith,
      c.in-Ok.ensures.progress.1 (omega (
        arith,
        c.requires.some,
        c.requires.within,
        length-take (c.args.end - c.args.at)
            (drop c.args.at c.args.octets.now),
        length-drop c.args.at c.args.octets.now,
      )),
    )

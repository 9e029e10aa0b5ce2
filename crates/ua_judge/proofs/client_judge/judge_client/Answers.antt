use Rattle.std.proofs.Common.{[], arith, subst}
use Rattle.std.proofs.lemmas.List.{take_all}
use Rattle.ua_channel.specs.ServerRules.{server_rules}
use Rattle.ua_judge.specs.Verdicts.{GoOnFaultless}
use Rattle.ua_judge.proofs.ServerTakes.{on_end, server_decides, server_follows}
use Rattle.ua_judge.proofs.client_judge.judge_client.Goals as goal

pub loop-at-init : goal.loop-at-init
loop-at-init c = record {
  within = omega arith;
  follows = record {
    limits_are = c.new-server.ensures.limits;
    channel_is = c.new-server.ensures.channel;
    frames = [];
    rest = [];
    stands = c.new-server.ensures.stands;
  };
}

pub loop-at-preserved : goal.loop-at-preserved
loop-at-preserved c = record {
  within = c.in_ok-taken.ensures.within;
  follows =
      server_follows c.args.limits c.args.channel c.args.octets.now c.in_ok-taken.taken.at c.take_next.new.server c.in_ok-taken.taken.verdict c.in_default.is
      (c.in_ok-taken.ensures.takes c.args.limits c.args.channel c.loop-at.invariant.follows);
}

pub loop-at-smaller : goal.loop-at-smaller
loop-at-smaller c = omega (arith, c.in_ok-taken.ensures.further c.in_default.is, c.in_ok-taken.ensures.within, c.loop-at-test.true)

pub returns-in-Some : goal.returns-in-Some
returns-in-Some c =
    server_decides c.args.limits c.args.channel c.args.octets.now c.in_ok-taken.taken.at c.take_next.new.server c.in_ok-taken.taken.verdict c.in-Some.verdict
    c.in-Some.is
    (c.in_ok-taken.ensures.takes c.args.limits c.args.channel c.loop-at.invariant.follows)

pub returns : goal.returns
returns c =
    subst (GoOnFaultless (server_rules c.args.limits c.args.channel)) (take_all c.loop-at.at c.args.octets.now c.loop-at-test.false)
    (on_end c.args.limits c.args.channel c.loop-at.server _ c.loop-at.invariant.follows)

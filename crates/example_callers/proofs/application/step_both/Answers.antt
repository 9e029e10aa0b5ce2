use Rattle.std.proofs.Common.{arith, ◌++◌}
use Rattle.ua_server.specs.Served.{channel_at, session_at}
use Rattle.ua_server.specs.Sharing.{at_moment}
use Rattle.example_callers.proofs.application.step_both.Goals as goal

pub returns : goal.returns
returns c = λ channels octets others es begun one two.
    let first = c.step-one.ensures.among channels 0 octets es begun one in
    let apart = (first.others 1 (λ e. omega (arith, e))).2 in
    record {
      between = c.step-one.new.services;
      first = first;
      second = c.step-two.ensures.among channels 1 others (es ++ at_moment 0 c.args.moment first.told) begun
          (apart (channel_at c.args.second.now) (session_at c.args.second.now) others two);
    }

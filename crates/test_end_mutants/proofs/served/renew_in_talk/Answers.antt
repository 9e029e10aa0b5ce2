use Rattle.test_end_mutants.proofs.served.renew_in_talk.Goals as goal

pub returns : goal.returns
returns g c = λ t k.
    c.renewals_go_on.ensures.fails t c.args.client.now c.renew.new.self (g.L.Line.traffic c.args.line.now) (g.L.Line.traffic c.renew.new.line)
    c.renew.result k (c.renew.ensures.renews k.ready)

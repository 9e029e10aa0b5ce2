use Rattle.ua_server.specs.State.{begun}
use Rattle.ua_server.proofs.Undisturbed.{serves-alone}
use Rattle.ua_server.proofs.serving.serve_watched.Goals as goal

pub returns-clause-serves : goal.returns-clause-serves
returns-clause-serves g c =
    serves-alone c.args.terms.limits c.args.terms.channel_id g.M.Moments.gives g.W.Watch.notes _ (λ a b s t same. same) (begun c.args.services.now, _)
    (c.args.moments.now, c.args.watch.now) c.serve_application.result
    (c.serve_application.new.services, _) (c.serve_application.new.moments, c.serve_application.new.watch) (g.L.Line.traffic c.args.line.now)
    (g.L.Line.traffic c.serve_application.new.line) c.serve_application.ensures.serves

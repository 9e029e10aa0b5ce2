use Rattle.ua_server.specs.State.{begun}
use Rattle.ua_server.proofs.Happened.{serves-plain}
use Rattle.ua_server.proofs.serving.serve.Goals as goal

pub returns-clause-serves : goal.returns-clause-serves
returns-clause-serves g c =
    serves-plain c.args.limits c.args.channel_id g.M.Moments.gives _ (begun c.args.services.now) (c.args.moments.now, _) (c.serve_watched.new.moments, _)
    c.serve_watched.result c.serve_watched.new.services
    (g.L.Line.traffic c.args.line.now) (g.L.Line.traffic c.serve_watched.new.line) c.serve_watched.ensures.serves

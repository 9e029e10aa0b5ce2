use Rattle.std.proofs.lemmas.Result.{IfErr-weaker}
use Rattle.ua_program.proofs.Readings.{listed_stops, loop_stops, serve_stops, talk_stops}
use Rattle.ua_program.proofs.program.perform.Goals as goal

pub returns-in-Ask-clause-stopped : goal.returns-in-Ask-clause-stopped
returns-in-Ask-clause-stopped g c =
    IfErr-weaker c.ask_server.result _ _
    (λ why stopped. talk_stops c.in-Ask.asked.style (g.O.Write.contents c.args.out.now) (g.O.Write.contents c.ask_server.new.out) stopped)
    c.ask_server.ensures.stopped

pub returns-in-Loop-clause-stopped : goal.returns-in-Loop-clause-stopped
returns-in-Loop-clause-stopped g c =
    IfErr-weaker c.run_files.result _ _ (λ why stopped. loop_stops c.in-Loop.asked.plain c.in-Loop.asked.names why (g.O.Write.contents c.args.out.now)
    (g.O.Write.contents c.run_files.new.out) stopped) c.run_files.ensures.stopped

pub returns-in-Err-clause-stopped : goal.returns-in-Err-clause-stopped
returns-in-Err-clause-stopped g c =
    serve_stops c.in-Serve.asked (g.O.Write.contents c.args.out.now) (g.O.Write.contents c.serve_connections.new.out) c.in-Err.ensures.stopped

pub returns-in-Err-endpoints-clause-stopped : goal.returns-in-Err-endpoints-clause-stopped
returns-in-Err-endpoints-clause-stopped g c =
    listed_stops c.in-Endpoints.asked.style (g.O.Write.contents c.args.out.now) (g.O.Write.contents c.endpoints.new.out) c.in-Err-endpoints.ensures.stopped

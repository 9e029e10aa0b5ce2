use Rattle.std.proofs.Common.{rules, refl}
use Rattle.std.proofs.lemmas.Result.{IfErr-weaker, IfOk-weaker}
use Rattle.ua_poll.proofs.Flattened.{told_of_all}
use Rattle.ua_serving.proofs.Ends.{all_ended, ends_some_as, err_ended, lines_ended, told_all, told_some}
use Rattle.ua_serving.proofs.at_once.serve_places.Goals as goal

pub returns-clause-served : goal.returns-clause-served
returns-clause-served g c =
    IfOk-weaker c.ended.result _ _ (λ x done.
    let told = told_all _ _ _ _ _ done.1 (told_of_all _ _ _ _ _ _ c.serve_at_once-served.ensures) in
    let comes = lines_ended g.O.Write.contents _ c.serve_at_once-served.new.endings _ _ told refl (search rules) in
    all_ended _ _ _ _ _ _ _ _ _ c.writes_of.ensures c.in_ok-say_listening.ensures.said done.0 comes)
    c.ended.ensures.done

pub returns-clause-stopped : goal.returns-clause-stopped
returns-clause-stopped g c =
    IfErr-weaker c.ended.result _ _ (λ why stops.
    let told = told_some _ _ _ _ _ (told_of_all _ _ _ _ _ _ c.serve_at_once-served.ensures) in
    let comes = lines_ended g.O.Write.contents _ c.serve_at_once-served.new.endings _ _ told.2 refl (search rules) in
    ends_some_as _ _ _ _ _ _ _ why _ _ _ c.writes_of.ensures told.1 c.in_ok-say_listening.ensures.said comes stops)
    c.ended.ensures.stopped

pub returns-clause-quiet : goal.returns-clause-quiet
returns-clause-quiet g c = λ quiet.
    let told = told_some _ _ _ _ _ (told_of_all _ _ _ _ _ _ c.serve_at_once-served.ensures) in
    err_ended g.O.Write.contents _ c.serve_at_once-served.new.endings _ _ told.2 (search rules) quiet

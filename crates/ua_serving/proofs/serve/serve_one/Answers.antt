use Rattle.std.proofs.Common.{rules}
use Rattle.std.proofs.lemmas.Result.{IfErr-weaker, IfOk-weaker}
use Rattle.ua_serving.proofs.Serves.{memory_said, one_said, outlived_left, starved_left}
use Rattle.ua_serving.proofs.serve.serve_one.Goals as goal

pub returns-in-Ok-clause-served : goal.returns-in-Ok-clause-served
returns-in-Ok-clause-served g c =
    let before = c.in-Ok.ensures.served in
    IfOk-weaker c.say.result _ _ (λ x added. one_said _ _ _ _ _ _ _ _ before.0 before.1 (search rules) added) c.say.ensures.said

pub returns-in-Err-clause-served : goal.returns-in-Err-clause-served
returns-in-Err-clause-served g c =
    IfOk-weaker c.outlive.result _ _
    (λ x said. memory_said _ _ _ _ _ _ (starved_left _ said.1 c.in-Err.ensures.stopped) said.0 said.2)
    c.outlive.ensures.said

pub returns-in-Err-clause-lasts : goal.returns-in-Err-clause-lasts
returns-in-Err-clause-lasts g c = λ on. c.outlive.ensures.lasts on c.in-Err.ensures.only

pub returns-in-Err-clause-stopped : goal.returns-in-Err-clause-stopped
returns-in-Err-clause-stopped g c =
    IfErr-weaker c.outlive.result _ _
    (λ why left. outlived_left g.O.Write.contents _ _ _ _ _ _ why c.in-Err.ensures.stopped left)
    c.outlive.ensures.stopped

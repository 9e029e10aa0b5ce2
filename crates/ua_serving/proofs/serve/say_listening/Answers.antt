use Rattle.std.proofs.Common.{◌≡◌, rules, subst, append_assoc}
use Rattle.std.proofs.lemmas.Result.{IfOk-weaker}
use Rattle.std.specs.Io.KnownBytes.{Appends}
use Rattle.ua_serving.specs.Served.{listening_line}
use Rattle.ua_serving.proofs.serve.say_listening.Goals as goal

pub returns-clause-said : goal.returns-clause-said
unfolding listening_line
returns-clause-said g c =
    let same : c.deref.result.now ≡ listening_line c.args.port = search (rules, append_assoc) in
    IfOk-weaker c.say.result _ _ (λ x added. subst (λ t. Appends (g.O.Write.contents c.args.out.now) (g.O.Write.contents c.say.new.out) t) same added)
    c.say.ensures.said

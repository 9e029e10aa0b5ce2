use Rattle.std.proofs.Common.{FitsSigned, IsTrue, rules, w64}
use Rattle.ua_builtin.specs.DateTime.{date_time}
use Rattle.ua_headline.proofs.Calling.{moment_fits, renewal_done, renewal_fails}
use Rattle.ua_headline.proofs.calling_laws.renewals_add_operations.Goals as goal

dated : (c : goal.Start) → IsTrue (date_time.encodable c.args.moment)
dated c = let fits : FitsSigned w64 c.args.moment.ticks = search rules in moment_fits c.args.moment fits

pub returns-clause-answered : goal.returns-clause-answered
returns-clause-answered c = λ e deeds x y read written before after done h k.
    let a = k.answers h.done.did.last h.at in
    renewal_done e deeds x y read written h before after k.sent k.moves k.same c.args.moment (dated c) (k.judged h.done.did.last h.at) a.0 a.1.0 a.1.1

pub returns-clause-failed : goal.returns-clause-failed
returns-clause-failed c = λ e deeds x y read written before after fault h k left.
    renewal_fails e deeds x y read written h before after k.sent k.moves k.same c.args.moment (dated c) fault (k.judged h.done.did.last h.at) left
    (k.answers h.done.did.last h.at)

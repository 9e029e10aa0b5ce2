use Rattle.std.proofs.Common.{FitsSigned, IsTrue, rules, w64}
use Rattle.ua_builtin.specs.DateTime.{date_time}
use Rattle.ua_loopback.proofs.Calling.{renews_fails, renews_not, renews_on, renews_sent, renews_stop}
use Rattle.ua_loopback.proofs.Fitting.{moment_fits}
use Rattle.ua_loopback.proofs.talking_laws.renewals_go_on.Goals as goal

dated : (c : goal.Start) → IsTrue (date_time.encodable c.args.moment)
dated c = let fits : FitsSigned w64 c.args.moment.ticks = search rules in moment_fits c.args.moment fits

pub returns-clause-stays : goal.returns-clause-stays
returns-clause-stays c = λ t x y before after result k renews left. renews_on t x before k y after c.args.moment (dated c) result renews left

pub returns-clause-sends : goal.returns-clause-sends
returns-clause-sends c = λ t x y before after result k renews. renews_sent t x before k y after c.args.moment (dated c) result renews

pub returns-clause-refused : goal.returns-clause-refused
returns-clause-refused c = λ t x y before after result k renews. renews_not t x before k y after c.args.moment result renews

pub returns-clause-fails : goal.returns-clause-fails
returns-clause-fails c = λ t x y before after result k renews. renews_fails t x before k y after c.args.moment (dated c) result renews

pub returns-clause-stops : goal.returns-clause-stops
returns-clause-stops c = λ t x y before after result k renews. renews_stop t x before k y after c.args.moment (dated c) result renews

use Rattle.std.proofs.Common.{drop, sym}
use Rattle.ua_loopback.proofs.Clocks.{time_first}
use Rattle.ua_loopback.proofs.answer_clock.AnswerClock.moment.Goals as goal

pub returns : goal.returns
returns c = let s = c.args.self.now in sym (time_first s.moment (drop s.place s.later.items))

use Rattle.ua_session.proofs.Runs.{ends_by, under_by}
use Rattle.ua_session.proofs.session.ask_under.Goals as goal

pub returns : goal.returns
returns g c = under_by _ _ _ _ _ _ _ _ _ _ _ _ _ _ _ _ c.first_call-handle.ensures.handle (record {
  asked_at = c.next_moment-moment.result;
  behind = c.next_moment-moment.new.moments;
  asking_given = c.next_moment-moment.ensures;
  called = c.call_question-called.result;
  asked = c.call_question-called.new.client;
  answered = record { traffic = g.L.Line.traffic c.call_question-called.new.line; failures = g.L.Line.failures c.call_question-called.new.line };
  asks = c.call_question-called.ensures;
  printed = c.print-printed.result;
  prints = c.print-printed.ensures;
  ended_at = c.next_moment-ended_at.result;
  ending_given = c.next_moment-ended_at.ensures;
  ended = c.end_session-ended.result;
  ends = ends_by _ _ _ _ _ _ _ _ _ c.handle_behind-behind.ensures c.end_session-ended.ensures;
  result_is = c.first_of.ensures;
})

use Rattle.std.proofs.Common.{Err, ap, refl}
use Rattle.ua_session.proofs.Runs.{asks_by}
use Rattle.ua_session.specs.declared.fault.QuestionFault.{QuestionFault}
use Rattle.ua_session.proofs.session.ask_in_session.Goals as goal

pub returns-in-Err : goal.returns-in-Err
returns-in-Err g c = asks_by _ _ _ _ _ _ _ _ _ _ _ _ _ _ _ _ c.first_call-handle.ensures.handle (record {
  begun_at = c.next_moment-begun_at.result;
  behind = c.next_moment-begun_at.new.moments;
  given = c.next_moment-begun_at.ensures;
  begun = Err c.in-Err.refused;
  client = c.begin.new.client;
  once_begun = record { traffic = g.L.Line.traffic c.begin.new.line; failures = g.L.Line.failures c.begin.new.line };
  begins = c.in-Err.ensures;
  further = (ap (λ (fault : QuestionFault). Err fault) c.end_unbegun.ensures.fault, refl, c.end_unbegun.ensures.ends);
})

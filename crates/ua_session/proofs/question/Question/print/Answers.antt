use Rattle.ua_session.proofs.Printing.{answers_written}
use Rattle.ua_session.proofs.question.Question.print.Goals as goal

pub returns : goal.returns
returns g c =
    answers_written g.O.Write.contents c.args.style c.args.self.now c.args.out.now c.print_lines.new.out c.args.called c.in_ok-response.response _ _
    c.deref.result.now c.verdict_of-verdict.result c.in_ok-response.ensures c.new-lines.ensures.bytes c.deref.ensures
    c.in_ok-pushed.ensures.lines c.in_ok-print_lines.ensures.written c.verdict_of-verdict.ensures

use Rattle.ua_session.proofs.Printing.{endpoints_written}
use Rattle.ua_session.proofs.answer.print_endpoints.Goals as goal

pub returns : goal.returns
returns g c =
    endpoints_written g.O.Write.contents c.args.style c.args.out.now c.print_lines.new.out c.args.called c.in_ok-response.response _ _ c.deref.result.now
    c.print_lines.result c.in_ok-response.ensures c.new-lines.ensures.bytes c.deref.ensures
    c.in_ok-pushed.ensures.lines c.print_lines.ensures.written c.print_lines.ensures.failed

use Rattle.std.proofs.Common.{◌∙◌}
use Rattle.ua_client.proofs.Openings.{opens-nothing, opens-unwritten, opens-unagreed, opens-unasked, opens-last}
use Rattle.ua_client.proofs.connection.Connection.open.Goals as goal

pub returns-in_default-clause-opens : goal.returns-in_default-clause-opens
returns-in_default-clause-opens g c = opens-nothing c.args.moment c.args.self.now (g.L.Line.traffic c.args.line.now)

pub returns-in_default-send_whole-clause-opens : goal.returns-in_default-send_whole-clause-opens
returns-in_default-send_whole-clause-opens g c =
    opens-unwritten c.args.moment c.args.self.now c.deref.result.now (g.L.Line.traffic c.args.line.now) (g.L.Line.traffic c.send_whole.new.line)
    (c.deref.ensures.value ∙ c.in-Ok.ensures) c.in_default-send_whole.ensures.some c.in_default-send_whole.ensures.written

pub returns-in-Err-clause-opens : goal.returns-in-Err-clause-opens
returns-in-Err-clause-opens g c =
    opens-unagreed c.args.moment c.args.self.now c.wait_for_opening.new.self c.deref.result.now (g.L.Line.traffic c.args.line.now)
    (g.L.Line.traffic c.send_whole.new.line) (g.L.Line.traffic c.wait_for_opening.new.line) c.wait_for_opening.new.reads (c.deref.ensures.value
    ∙ c.in-Ok.ensures) c.in-Ok-send_whole.ensures.written
    _ c.in-Err.fault c.in-Err.ensures.waits

pub returns-in_default-send_whole-2-clause-opens : goal.returns-in_default-send_whole-2-clause-opens
returns-in_default-send_whole-2-clause-opens g c =
    opens-unasked c.args.moment c.args.self.now c.wait_for_opening.new.self c.deref.result.now (g.L.Line.traffic c.args.line.now)
    (g.L.Line.traffic c.send_whole.new.line) (g.L.Line.traffic c.wait_for_opening.new.line) c.wait_for_opening.new.reads (c.deref.ensures.value
    ∙ c.in-Ok.ensures) c.in-Ok-send_whole.ensures.written
    _ c.in-Ok-wait_for_opening.opening c.in-Ok-wait_for_opening.ensures.waits c.deref-2.result.now (λ e. c.deref-2.ensures.value ∙ e) c.client_goes_on.ensures
    (g.L.Line.traffic c.send_whole-2.new.line) c.in_default-send_whole-2.ensures.some c.in_default-send_whole-2.ensures.written

pub returns-clause-opens : goal.returns-clause-opens
returns-clause-opens g c =
    opens-last c.args.moment c.args.self.now c.wait_for_opening.new.self c.deref.result.now (g.L.Line.traffic c.args.line.now)
    (g.L.Line.traffic c.send_whole.new.line) (g.L.Line.traffic c.wait_for_opening.new.line) c.wait_for_opening.new.reads (c.deref.ensures.value
    ∙ c.in-Ok.ensures) c.in-Ok-send_whole.ensures.written
    _ c.in-Ok-wait_for_opening.opening c.in-Ok-wait_for_opening.ensures.waits c.deref-2.result.now (λ e. c.deref-2.ensures.value ∙ e) c.client_goes_on.ensures
    (g.L.Line.traffic c.send_whole-2.new.line) (g.L.Line.traffic c.wait_until_open.new.line) c.wait_until_open.new.self c.wait_until_open.new.reads
    c.in-Ok-send_whole-2.ensures.written
    c.wait_until_open.result c.wait_until_open.ensures.waits

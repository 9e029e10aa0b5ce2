use Rattle.std.proofs.Common.{◌-◌, length, take, ◌∙◌, ap, arith}
use Rattle.ua_client.specs.Sent.{asked_len}
use Rattle.ua_client.proofs.Askings.{asked-len-at, asked-len-push, take-push}
use Rattle.ua_client.proofs.Carrying.{part-written, part-front}
use Rattle.ua_client.proofs.sending.write_calls.Goals as goal

pub call_end-end-requires : goal.call_end-end-requires
call_end-end-requires g c =
    let parts = asked-len-at c.args.calls.now c.loop-call.call-index c.call-item.result _ c.loop-call-test.true c.call-item.is in
    omega (arith, c.loop-call.invariant.at, parts, c.requires.len)

pub loop-call-preserved : goal.loop-call-preserved
loop-call-preserved g c =
    let all = take-push c.args.calls.now c.loop-call.call-index c.call-item.result _ c.loop-call-test.true c.call-item.is in
    let pushed = asked-len-push (take c.loop-call.call-index c.args.calls.now) c.call-item.result in
    record {
      at = omega (arith, c.call_end-end.ensures.is, c.loop-call.invariant.at, pushed, ap asked_len all);
      written = part-written c.args.octets.now c.loop-call.at c.call_end-end.result (g.L.Line.traffic c.args.line.now)
          (g.L.Line.traffic c.loop-call.line) (g.L.Line.traffic c.write_frames.new.line)
          c.loop-call.invariant.written (omega (arith, c.call_end-end.ensures.is)) c.call_end-end.ensures.within c.in-Ok.ensures.written;
      same = c.in-Ok.ensures.failed ∙ c.loop-call.invariant.same;
    }

pub returns-in-Err-clause-written : goal.returns-in-Err-clause-written
returns-in-Err-clause-written g c =
    part-front c.args.octets.now c.loop-call.at (c.call_end-end.result - c.loop-call.at) (g.L.Line.traffic c.args.line.now)
    (g.L.Line.traffic c.loop-call.line) (g.L.Line.traffic c.write_frames.new.line)
    c.loop-call.invariant.written c.in-Err.ensures.some c.in-Err.ensures.written

pub returns-in-Err-write_frames-clause-written : goal.returns-in-Err-write_frames-clause-written
returns-in-Err-write_frames-clause-written g c =
    part-front c.args.octets.now c.loop-call.at (length c.args.octets.now - c.loop-call.at) (g.L.Line.traffic c.args.line.now)
    (g.L.Line.traffic c.loop-call.line) (g.L.Line.traffic c.write_frames-2.new.line)
    c.loop-call.invariant.written c.in-Err-write_frames.ensures.some c.in-Err-write_frames.ensures.written

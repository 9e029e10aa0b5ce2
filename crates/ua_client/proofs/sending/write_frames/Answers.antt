use Rattle.std.proofs.Common.{rules, ◌<◌, ◌≤◌, ◌-◌, length, ◌∙◌, arith}
use Rattle.ua_client.proofs.Carrying.{part-written, part-front}
use Rattle.ua_client.proofs.sending.write_frames.Goals as goal

pub loop-at-preserved : goal.loop-at-preserved
loop-at-preserved g c =
    let more : c.loop-at.at < c.frame_end-end.result = search rules in
    let fits : c.frame_end-end.result ≤ length c.args.octets.now = search rules in
    record {
      written = part-written c.args.octets.now c.loop-at.at c.frame_end-end.result (g.L.Line.traffic c.args.line.now) (g.L.Line.traffic c.loop-at.line)
          (g.L.Line.traffic c.send_whole.new.line)
          c.loop-at.invariant.written (omega (arith, more)) fits c.in-Ok.ensures.written;
      same = c.in-Ok.ensures.failed ∙ c.loop-at.invariant.same;
    }

pub returns-in-Err-clause-written : goal.returns-in-Err-clause-written
returns-in-Err-clause-written g c =
    part-front c.args.octets.now c.loop-at.at (c.frame_end-end.result - c.loop-at.at) (g.L.Line.traffic c.args.line.now) (g.L.Line.traffic c.loop-at.line)
    (g.L.Line.traffic c.send_whole.new.line)
    c.loop-at.invariant.written c.in-Err.ensures.some c.in-Err.ensures.written

use Rattle.std.proofs.Common.{inl, inr, sym, subst, arith}
use Rattle.std.proofs.lemmas.Result.{err_from_is_err_and}
use Rattle.ua_program.specs.Dissects.{StopsNext}
use Rattle.ua_report.specs.Reasons.{StopsWriting}
use Rattle.ua_report.specs.declared.output.Stop.{Stop}
use Rattle.ua_program.proofs.Readings.{as_last, as_piece, has_begun, read_first, reads_all, reads_on, stops_reading}
use Rattle.ua_program.proofs.dissect.dissect_source.Goals as goal

pub loop-reads-init : goal.loop-reads-init
loop-reads-init g c = record {
  room = omega arith;
  so_far = read_first c.args.asked.now.hex c.args.asked.now.options c.new-digits.result.half c.new-dissector.result (g.I.Read.remaining c.args.source.now)
      (g.O.Write.contents c.args.out.now) c.new-digits.ensures c.new-dissector.ensures;
}

pub returns-in_err-ended-clause-begun : goal.returns-in_err-ended-clause-begun
returns-in_err-ended-clause-begun g c =
    let s = c.loop-reads.invariant.so_far in
    let p = err_from_is_err_and c.from_residual.result c.from_residual.ensures.1 in
    rw p.1 (elim c.in_err-ended.ensures.kept [
      | inl output ↦ inl (subst StopsWriting (sym p.2) output)
      | inr same ↦
          inr (rw same (has_begun c.args.asked.now.hex c.args.asked.now.options c.loop-reads.dissection.digits.half c.loop-reads.dissection.dissector
          (g.I.Read.remaining c.args.source.now) (g.I.Read.remaining c.loop-reads.source) (g.O.Write.contents c.args.out.now)
          (g.O.Write.contents c.loop-reads.out) s))
    ])

pub returns-in_err-ended-clause-stopped : goal.returns-in_err-ended-clause-stopped
returns-in_err-ended-clause-stopped g c =
    let asked = c.args.asked.now in
    let s = c.loop-reads.invariant.so_far in
    let p = err_from_is_err_and c.from_residual.result c.from_residual.ensures.1 in
    rw p.1 (stops_reading asked.hex asked.file (g.I.Read.remaining c.args.source.now) (g.I.Read.remaining c.loop-reads.source) s.content p.0 s.consumed
    (subst (λ (why : Stop). StopsNext asked.hex asked.file s.content (g.I.Read.remaining c.loop-reads.source) why) (sym p.2)
    (c.in_err-ended.ensures.stopped s.content s.told s.so_far)))

pub returns-in-Some-clause-lines : goal.returns-in-Some-clause-lines
returns-in-Some-clause-lines g c =
    let s = c.loop-reads.invariant.so_far in
    reads_all c.in-Some.verdict c.args.asked.now.hex c.args.asked.now.options c.loop-reads.dissection.digits.half c.loop-reads.dissection.dissector
    (g.I.Read.remaining c.args.source.now) (g.I.Read.remaining c.loop-reads.source) (g.I.Read.remaining c.print_next.new.source)
    (g.O.Write.contents c.args.out.now) (g.O.Write.contents c.loop-reads.out) (g.O.Write.contents c.print_next.new.out) s
    (as_last c.in_ok-ended.ended c.in-Some.verdict c.args.asked.now.hex c.args.asked.now.options c.print_next.new.dissection.digits.half
    c.print_next.new.dissection.dissector
    s.content s.told (g.I.Read.remaining c.loop-reads.source) (g.I.Read.remaining c.print_next.new.source) (g.O.Write.contents c.loop-reads.out)
    (g.O.Write.contents c.print_next.new.out)
    c.in-Some.is (c.in_ok-ended.ensures.prints s.content s.told s.so_far))

pub loop-reads-preserved : goal.loop-reads-preserved
loop-reads-preserved g c =
    let s = c.loop-reads.invariant.so_far in
    record {
      room = (let was = c.loop-reads.invariant.room in let same = c.print_next.auto.piece in omega (arith, was, same));
      so_far =
          reads_on c.args.asked.now.hex c.args.asked.now.options c.loop-reads.dissection.digits.half c.print_next.new.dissection.digits.half
          c.loop-reads.dissection.dissector
          c.print_next.new.dissection.dissector (g.I.Read.remaining c.args.source.now) (g.I.Read.remaining c.loop-reads.source)
          (g.I.Read.remaining c.print_next.new.source) (g.O.Write.contents c.args.out.now) (g.O.Write.contents c.loop-reads.out)
          (g.O.Write.contents c.print_next.new.out) s
          (as_piece c.in_ok-ended.ended c.args.asked.now.hex c.args.asked.now.options c.print_next.new.dissection.digits.half
          c.print_next.new.dissection.dissector s.content s.told
          (g.I.Read.remaining c.loop-reads.source) (g.I.Read.remaining c.print_next.new.source) (g.O.Write.contents c.loop-reads.out)
          (g.O.Write.contents c.print_next.new.out)
          c.in_default.is (c.in_ok-ended.ensures.prints s.content s.told s.so_far));
    }

pub returns-clause-begun : goal.returns-clause-begun
returns-clause-begun g c =
    inr (has_begun c.args.asked.now.hex c.args.asked.now.options c.loop-reads.dissection.digits.half c.loop-reads.dissection.dissector
    (g.I.Read.remaining c.args.source.now)
    (g.I.Read.remaining c.loop-reads.source) (g.O.Write.contents c.args.out.now) (g.O.Write.contents c.loop-reads.out) c.loop-reads.invariant.so_far)

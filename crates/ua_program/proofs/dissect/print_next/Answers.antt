use Rattle.std.proofs.Common.{◌++◌, ℕ, Option, Some, take, sym, subst, string_bytes, arith}
use Rattle.std.proofs.lemmas.Result.{err_from_is_err_and}
use Rattle.ua_program.specs.Dissects.{ReadsIntoFragment, StopsLast}
use Rattle.ua_report.specs.declared.output.Stop.{Stop}
use Rattle.ua_program.proofs.Readings.{at_end_none, last_stops, never_left, none_plain, nothing_read, prints_last, prints_refused, reason_left, stops_next}
use Rattle.ua_program.proofs.dissect.print_next.Goals as goal

pub returns-in_err-print_last-clause-stopped : goal.returns-in_err-print_last-clause-stopped
returns-in_err-print_last-clause-stopped g c = λ content told s.
    let asked = c.args.asked.now in
    let known = g.I.Read.remaining c.args.source.now in
    let after = g.I.Read.remaining c.read_piece.new.source in
    let read : ReadsIntoFragment (Some c.in-Some.n) known after c.read_piece.new.piece =
    subst (λ (n : Option ℕ). ReadsIntoFragment n known after c.read_piece.new.piece) c.in-Some.is
    c.in_ok-n.ensures.read in
    let none = nothing_read c.in-Some.n known after c.read_piece.new.piece read c.if-n-eq0.true
    (let was = c.requires.room in let same = c.read_piece.auto.piece in omega (arith, was, same)) in
    let p = err_from_is_err_and c.from_residual-in_err-print_last.result c.from_residual-in_err-print_last.ensures.1 in
    rw p.1 (last_stops asked.hex asked.file content content known p.0
    (λ holds. at_end_none known after (take c.in-Some.n c.read_piece.new.piece) asked.hex content none.0 read.1 none.1 holds)
    (subst (λ (why : Stop). StopsLast asked.hex asked.file content why) (sym p.2) (c.in_err-print_last.ensures.stopped content told s)))

pub returns-then-n-eq0-clause-prints : goal.returns-then-n-eq0-clause-prints
returns-then-n-eq0-clause-prints g c = λ content told s.
    let asked = c.args.asked.now in
    let known = g.I.Read.remaining c.args.source.now in
    let after = g.I.Read.remaining c.read_piece.new.source in
    let read : ReadsIntoFragment (Some c.in-Some.n) known after c.read_piece.new.piece =
    subst (λ (n : Option ℕ). ReadsIntoFragment n known after c.read_piece.new.piece) c.in-Some.is
    c.in_ok-n.ensures.read in
    let none = nothing_read c.in-Some.n known after c.read_piece.new.piece read c.if-n-eq0.true
    (let was = c.requires.room in let same = c.read_piece.auto.piece in omega (arith, was, same)) in
    prints_last _ asked.hex asked.options content told (string_bytes c.clear.new.self) (string_bytes c.print_last.new.text) known after
    (g.O.Write.contents c.args.out.now) (g.O.Write.contents c.print_last.new.out) (take c.in-Some.n c.read_piece.new.piece) none.0 read.1 none.1
    c.clear.ensures.bytes
    (c.in_ok-print_last.ensures.prints content told s) c.in_ok-print_last.ensures.added

pub returns-in_err-push_piece-clause-stopped : goal.returns-in_err-push_piece-clause-stopped
returns-in_err-push_piece-clause-stopped g c = λ content told s.
    let asked = c.args.asked.now in
    let known = g.I.Read.remaining c.args.source.now in
    let after = g.I.Read.remaining c.read_piece.new.source in
    let read : ReadsIntoFragment (Some c.in-Some.n) known after c.read_piece.new.piece =
    subst (λ (n : Option ℕ). ReadsIntoFragment n known after c.read_piece.new.piece) c.in-Some.is
    c.in_ok-n.ensures.read in
    let p = err_from_is_err_and c.from_residual-in_err-push_piece.result c.from_residual-in_err-push_piece.ensures.1 in
    rw p.1 (stops_next asked.hex asked.file content known c.in_err-push_piece.field-0.0 p.0 p.2
    (reason_left (λ never. never_left known after (take c.in-Some.n c.read_piece.new.piece) asked.hex content read.1 never)
    (c.in_err-push_piece.ensures.faults content told s)))

pub returns-then-done-clause-prints : goal.returns-then-done-clause-prints
returns-then-done-clause-prints g c = λ content told s.
    let asked = c.args.asked.now in
    let known = g.I.Read.remaining c.args.source.now in
    let after = g.I.Read.remaining c.read_piece.new.source in
    let piece = take c.in-Some.n c.read_piece.new.piece in
    let read : ReadsIntoFragment (Some c.in-Some.n) known after c.read_piece.new.piece =
    subst (λ (n : Option ℕ). ReadsIntoFragment n known after c.read_piece.new.piece) c.in-Some.is
    c.in_ok-n.ensures.read in
    prints_refused _ asked.hex asked.options c.push_piece.new.digits.half c.push_piece.new.dissector content piece told (string_bytes c.clear.new.self)
    (string_bytes c.push_piece.new.text)
    (string_bytes c.print_last-then-done.new.text) known after (g.O.Write.contents c.args.out.now) (g.O.Write.contents c.print_last-then-done.new.out)
    (c.is_told-done.ensures.plain c.if-done.true)
    (λ octets lines more stands. c.is_told-done.ensures.stays asked.options octets lines more c.if-done.true stands)
    read.1 c.clear.ensures.bytes (c.in_ok-push_piece.ensures.lines content told s)
    c.in_ok-print_last-2.ensures.prints c.in_ok-print_last-2.ensures.added

pub returns-in_err-print_last-2-clause-stopped : goal.returns-in_err-print_last-2-clause-stopped
returns-in_err-print_last-2-clause-stopped g c = λ content told s.
    let asked = c.args.asked.now in
    let known = g.I.Read.remaining c.args.source.now in
    let all = content ++ take c.in-Some.n c.read_piece.new.piece in
    let t = c.in_ok-push_piece.ensures.lines content told s in
    let p = err_from_is_err_and c.from_residual-in_err-print_last-2.result c.from_residual-in_err-print_last-2.ensures.1 in
    rw p.1 (last_stops asked.hex asked.file content all known p.0
    (λ holds. none_plain asked.hex all (c.is_told-done.ensures.plain c.if-done.true) holds)
    (subst (λ (why : Stop). StopsLast asked.hex asked.file all why) (sym p.2) (c.in_err-print_last-2.ensures.stopped all (told ++ t.lines) t.so_far)))

use Rattle.std.proofs.Common.{arith}
use Rattle.ua_builtin.specs.Exact.{image_read}
use Rattle.ua_builtin.specs.Format.{most_levels}
use Rattle.ua_structures.specs.Attribute.{write_request}
use Rattle.ua_structures.specs.Thin.{thinned_request}
use Rattle.ua_services.specs.Request.{read_as_request, thin_read}
use Rattle.ua_services.specs.declared.request.Request.TheVariants.{Write as WriteMessage}
use Rattle.ua_services.specs.declared.request.RequestKind.TheVariants.{Write}
use Rattle.ua_opening.proofs.BodyRead.{placed_fails}
use Rattle.ua_services.proofs.RequestRead.{read_whole, refused_by}
use Rattle.ua_services.proofs.RequestThinned.{write_fails, write_left, write_whole}
use Rattle.ua_services.proofs.request.read_write_request_for.Goals as goal

pub returns-in-Err-clause-refused : goal.returns-in-Err-clause-refused
returns-in-Err-clause-refused g c =
    let takes = g.T.TakesTypes.takes c.args.types.now in
    let old = g.S.Source.octets c.args.src.now in
    let new = g.S.Source.octets c.read_thinned_into.new.src in
    refused_by c.unreadable.result (thin_read takes (read_as_request Write old))
    (write_fails takes (g.S.Source.octets c.fork-head.result) old new c.in-Err.fault c.unreadable.result c.fork-head.ensures
    (placed_fails c.read_thinned_into.new.self (image_read (thinned_request takes) (write_request.decode most_levels)) old new c.in-Err.fault
    c.in-Err.ensures.exact)
    c.unreadable.ensures)

pub returns-then-left-gt0-clause-refused : goal.returns-then-left-gt0-clause-refused
returns-then-left-gt0-clause-refused g c =
    let takes = g.T.TakesTypes.takes c.args.types.now in
    let old = g.S.Source.octets c.args.src.now in
    refused_by c.unreadable-then-left-gt0.result (thin_read takes (read_as_request Write old))
    (write_left takes (g.S.Source.octets c.fork-head.result) old (g.S.Source.octets c.read_thinned_into.new.src) c.read_thinned_into.new.self
    c.unreadable-then-left-gt0.result c.fork-head.ensures c.in_default.ensures.exact
    (omega (arith, c.if-left-gt0.true, c.left.ensures)) c.unreadable-then-left-gt0.ensures)

pub returns-clause-read : goal.returns-clause-read
returns-clause-read g c =
    let takes = g.T.TakesTypes.takes c.args.types.now in
    let old = g.S.Source.octets c.args.src.now in
    read_whole (WriteMessage c.read_thinned_into.new.self) (thin_read takes (read_as_request Write old))
    (write_whole takes old (g.S.Source.octets c.read_thinned_into.new.src) c.read_thinned_into.new.self c.in_default.ensures.exact
    (omega (arith, c.if-left-gt0.false, c.left.ensures)))

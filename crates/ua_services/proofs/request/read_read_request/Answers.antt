use Rattle.std.proofs.Common.{arith}
use Rattle.ua_builtin.specs.Format.{most_levels}
use Rattle.ua_structures.specs.Attribute.{read_request}
use Rattle.ua_services.specs.Request.{read_as_request}
use Rattle.ua_services.specs.declared.request.Request.TheVariants.{Read as ReadMessage}
use Rattle.ua_services.specs.declared.request.RequestKind.TheVariants.{Read}
use Rattle.ua_opening.proofs.BodyRead.{image_found, image_fails, placed_fails}
use Rattle.ua_services.proofs.RequestRead.{kind_fails, kind_left, kind_whole, read_whole, refused_by}
use Rattle.ua_services.proofs.request.read_read_request.Goals as goal

pub returns-in-Err-clause-refused : goal.returns-in-Err-clause-refused
returns-in-Err-clause-refused g c =
    let read = read_request.decode most_levels in
    let old = g.S.Source.octets c.args.src.now in
    refused_by c.unreadable.result (read_as_request Read old)
    (kind_fails Read (g.S.Source.octets c.fork-head.result) old (g.S.Source.octets c.read_into.new.src) c.in-Err.fault
    c.unreadable.result c.fork-head.ensures
    (image_fails ReadMessage read old (g.S.Source.octets c.read_into.new.src) c.in-Err.fault
    (placed_fails c.read_into.new.self read old (g.S.Source.octets c.read_into.new.src) c.in-Err.fault c.in-Err.ensures.exact))
    c.unreadable.ensures)

pub returns-then-left-gt0-clause-refused : goal.returns-then-left-gt0-clause-refused
returns-then-left-gt0-clause-refused g c =
    let old = g.S.Source.octets c.args.src.now in
    refused_by c.unreadable-then-left-gt0.result (read_as_request Read old)
    (kind_left Read (g.S.Source.octets c.fork-head.result) old (g.S.Source.octets c.read_into.new.src)
    (ReadMessage c.read_into.new.self) c.unreadable-then-left-gt0.result c.fork-head.ensures
    (image_found ReadMessage (read_request.decode most_levels) old (g.S.Source.octets c.read_into.new.src) c.read_into.new.self
    c.in_default.ensures.exact)
    (omega (arith, c.if-left-gt0.true, c.left.ensures)) c.unreadable-then-left-gt0.ensures)

pub returns-clause-read : goal.returns-clause-read
returns-clause-read g c =
    let old = g.S.Source.octets c.args.src.now in
    read_whole (ReadMessage c.read_into.new.self) (read_as_request Read old)
    (kind_whole Read old (g.S.Source.octets c.read_into.new.src) (ReadMessage c.read_into.new.self)
    (image_found ReadMessage (read_request.decode most_levels) old (g.S.Source.octets c.read_into.new.src) c.read_into.new.self
    c.in_default.ensures.exact)
    (omega (arith, c.if-left-gt0.false, c.left.ensures)))

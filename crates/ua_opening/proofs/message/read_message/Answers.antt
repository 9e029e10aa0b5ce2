use Rattle.std.proofs.Common.{◌≡◌, sym, None, arith}
use Rattle.std.proofs.lemmas.Result.{err_from_is_err_and}
use Rattle.ua_opening.specs.Message.{standard_number}
use Rattle.ua_opening.proofs.MessageRead.{no_message_id, no_message_number, other_message, message_found, message_none}
use Rattle.ua_opening.proofs.message.read_message.Goals as goal

pub returns-in_err-id-clause-none : goal.returns-in_err-id-clause-none
returns-in_err-id-clause-none g c =
    let p = err_from_is_err_and c.from_residual.result c.from_residual.ensures.1 in
    rw (p.1, p.2) (no_message_id c.args.number g.T.Wire.format c.lawful.ensures (g.S.Source.octets c.args.src.now) (g.S.Source.octets c.read_value.new.src)
    c.in_err-id.field-0.0 c.in_err-id.ensures.exact)

pub returns-in_default-clause-none : goal.returns-in_default-clause-none
returns-in_default-clause-none g c =
    let none : standard_number c.in_ok-id.id ≡ None = cc in
    λ e. no_message_number c.args.number g.T.Wire.format c.lawful.ensures (g.S.Source.octets c.args.src.now) (g.S.Source.octets c.read_value.new.src)
    c.in_ok-id.id c.in_ok-id.ensures.exact none

pub returns-clause-found : goal.returns-clause-found
returns-clause-found g c = message_found c.args.number g.T.Wire.format c.lawful.ensures (g.S.Source.octets c.args.src.now)
    (g.S.Source.octets c.read_value.new.src) c.in_ok-id.id c.in-Some.found c.read_whole.result c.in_ok-id.ensures.exact (sym c.in-Some.ensures)
    (omega arith) c.read_whole.ensures.found

pub returns-clause-none : goal.returns-clause-none
returns-clause-none g c = λ e. message_none c.args.number g.T.Wire.format c.lawful.ensures (g.S.Source.octets c.args.src.now)
    (g.S.Source.octets c.read_value.new.src) c.in_ok-id.id c.in-Some.found c.in_ok-id.ensures.exact (sym c.in-Some.ensures) (omega arith)
    (c.read_whole.ensures.none e)

pub returns-then-found-number-clause-none : goal.returns-then-found-number-clause-none
returns-then-found-number-clause-none g c = λ e. other_message c.args.number g.T.Wire.format c.lawful.ensures (g.S.Source.octets c.args.src.now)
    (g.S.Source.octets c.read_value.new.src) c.in_ok-id.id c.in-Some.found c.in_ok-id.ensures.exact (sym c.in-Some.ensures) c.if-found-number.true

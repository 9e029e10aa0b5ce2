use Rattle.std.proofs.Common.{◌≡◌, refl, Some, Ok, arith}
use Rattle.std.proofs.lemmas.Result.{err_from_is_err_and}
use Rattle.ua_opening.specs.Header.{service_fault}
use Rattle.ua_opening.specs.SecureChannel.{open_response}
use Rattle.ua_opening.specs.Message.{standard_number}
use Rattle.ua_opening.proofs.MessageRead.{no_answer_id, no_answer, no_open, no_fault_answer, message_found}
use Rattle.ua_opening.proofs.HeaderSound.{sound_service_fault}
use Rattle.ua_opening.proofs.SecureChannelLawful.{lawful_open_response}
use Rattle.ua_opening.proofs.open.read_answer.Goals as goal
use Rattle.ua_opening.proofs.open.read_answer.Goals.{in_default-via-in-Some+in_default, in_default-via-in_default}

pub returns-in_err-id-clause-none : goal.returns-in_err-id-clause-none
returns-in_err-id-clause-none g c =
    let p = err_from_is_err_and c.from_residual.result c.from_residual.ensures.1 in
    rw (p.1, p.2) (no_answer_id (g.S.Source.octets c.args.src.now) (g.S.Source.octets c.read_value.new.src) c.in_err-id.field-0.0 c.in_err-id.ensures.exact)

pub returns-in_err-read_whole-in-Some-eq449-clause-none : goal.returns-in_err-read_whole-in-Some-eq449-clause-none
returns-in_err-read_whole-in-Some-eq449-clause-none g c =
    let p = err_from_is_err_and c.from_residual-in_err-read_whole-in-Some-eq449.result c.from_residual-in_err-read_whole-in-Some-eq449.ensures.1 in
    let is : standard_number c.in_ok-id.id ≡ Some 449 = cc in
    rw (p.1, p.2) (no_open (g.S.Source.octets c.args.src.now) (g.S.Source.octets c.read_value.new.src) c.in_ok-id.id c.in_err-read_whole-in-Some-eq449.field-0.0
    c.in_ok-id.ensures.exact is c.in_err-read_whole-in-Some-eq449.ensures.none)

pub returns-in-Some-eq449-clause-found : goal.returns-in-Some-eq449-clause-found
returns-in-Some-eq449-clause-found g c =
    let is : standard_number c.in_ok-id.id ≡ Some 449 = cc in
    message_found 449 open_response lawful_open_response (g.S.Source.octets c.args.src.now) (g.S.Source.octets c.read_value.new.src) c.in_ok-id.id 449
    (Ok c.in_ok-read_whole-in-Some-eq449.field-0) c.in_ok-id.ensures.exact is refl c.in_ok-read_whole-in-Some-eq449.ensures.found

pub returns-in_err-read_whole-in-Some-eq397-clause-none : goal.returns-in_err-read_whole-in-Some-eq397-clause-none
returns-in_err-read_whole-in-Some-eq397-clause-none g c =
    let p = err_from_is_err_and c.from_residual-in_err-read_whole-in-Some-eq397.result c.from_residual-in_err-read_whole-in-Some-eq397.ensures.1 in
    let is : standard_number c.in_ok-id.id ≡ Some 397 = cc in
    rw (p.1, p.2)
    (no_fault_answer (g.S.Source.octets c.args.src.now) (g.S.Source.octets c.read_value.new.src) c.in_ok-id.id c.in_err-read_whole-in-Some-eq397.field-0.0
    c.in_ok-id.ensures.exact is c.in_err-read_whole-in-Some-eq397.ensures.none)

pub returns-in-Some-eq397-clause-found : goal.returns-in-Some-eq397-clause-found
returns-in-Some-eq397-clause-found g c =
    let is : standard_number c.in_ok-id.id ≡ Some 397 = cc in
    message_found 397 service_fault sound_service_fault.lawful (g.S.Source.octets c.args.src.now) (g.S.Source.octets c.read_value.new.src) c.in_ok-id.id 397
    (Ok c.in_ok-read_whole-in-Some-eq397.field-0) c.in_ok-id.ensures.exact is refl c.in_ok-read_whole-in-Some-eq397.ensures.found

pub returns-clause-none : goal.returns-clause-none
returns-clause-none g c = λ e. no_answer (g.S.Source.octets c.args.src.now) (g.S.Source.octets c.read_value.new.src) c.in_ok-id.id c.in_ok-id.ensures.exact
    (λ is. elim c.in_default.branch [ in_default-via-in-Some+in_default w ↦ grind arith | in_default-via-in_default w ↦ grind arith ])
    (λ is. elim c.in_default.branch [ in_default-via-in-Some+in_default w ↦ grind arith | in_default-via-in_default w ↦ grind arith ])

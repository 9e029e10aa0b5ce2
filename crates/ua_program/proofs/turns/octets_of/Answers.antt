use Rattle.std.proofs.Common.{inr, refl, [], sym, ◌∙◌}
use Rattle.std.proofs.lemmas.Result.{err_from_is_err_and}
use Rattle.ua_program.proofs.Recordings.{hex_begun, hex_fault, hex_half, hex_whole}
use Rattle.ua_program.proofs.turns.octets_of.Goals as goal

pub returns-in_err-octets-clause-faults : goal.returns-in_err-octets-clause-faults
returns-in_err-octets-clause-faults c =
    let p = err_from_is_err_and c.from_residual.result c.from_residual.ensures.1 in
    rw p.1 (hex_fault c.args.file c.as_bytes.result.now c.args.digits.now c.in_err-octets.field-0.0 p.0 p.2 c.as_bytes.ensures.value
    (c.in_err-octets.ensures.faults [] [] (hex_begun c.new-pieces.result.half c.new-pieces.ensures)))

pub returns-then-is_whole-clause-octets : goal.returns-then-is_whole-clause-octets
returns-then-is_whole-clause-octets c =
    hex_whole c.take.new.self.half c.as_bytes.result.now c.args.digits.now c.in_ok-octets.octets.items c.as_bytes.ensures.value
    (sym c.is_whole.ensures ∙ c.if-is_whole.true)
    (c.in_ok-octets.ensures.octets [] [] (hex_begun c.new-pieces.result.half c.new-pieces.ensures))

pub returns-else-is_whole-clause-faults : goal.returns-else-is_whole-clause-faults
returns-else-is_whole-clause-faults c =
    inr (
      refl,
      hex_half c.take.new.self.half c.as_bytes.result.now c.args.digits.now c.in_ok-octets.octets.items c.as_bytes.ensures.value
          (sym c.is_whole.ensures ∙ c.if-is_whole.false)
          (c.in_ok-octets.ensures.octets [] [] (hex_begun c.new-pieces.result.half c.new-pieces.ensures)),
    )

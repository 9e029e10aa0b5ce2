use Rattle.ua_wire.proofs.NumbersRead.{little_bytes-is}
use Rattle.ua_wire.proofs.numbers.U32Wire.append.Goals as goal

pub returns-clause-ok : goal.returns-clause-ok
returns-clause-ok c = rw (← little_bytes-is 4 c.args.self.now, ← c.write_u32.ensures) c.in_ok-extend_from_slice.ensures.items

use Rattle.ua_wire.proofs.NumbersRead.{little_bytes-is}
use Rattle.ua_wire.proofs.numbers.U64Wire.append.Goals as goal

pub returns-clause-ok : goal.returns-clause-ok
returns-clause-ok c = rw (← little_bytes-is 8 c.args.self.now, ← c.write_u64.ensures) c.in_ok-extend_from_slice.ensures.items

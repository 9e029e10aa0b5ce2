use Rattle.std.proofs.Common.{arith}
use Rattle.ua_chunk.proofs.Moves.{number_behind-of}
use Rattle.ua_chunk.proofs.in_place.number_behind.Goals as goal

pub returns : goal.returns
returns c = number_behind-of c.args.sequence c.args.count (omega arith) (omega arith)

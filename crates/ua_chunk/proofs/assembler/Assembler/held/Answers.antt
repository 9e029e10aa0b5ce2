use Rattle.ua_chunk.proofs.Bounds.{held_is, held_bounded}
use Rattle.ua_chunk.proofs.assembler.Assembler.held.Goals as goal

pub returns-clause-held : goal.returns-clause-held
returns-clause-held c = λ cs s. held_is c.args.self.now cs c.held.result c.held.ensures s

pub returns-clause-bound : goal.returns-clause-bound
returns-clause-bound c = λ cs s some. held_bounded c.args.self.now cs c.held.result c.held.ensures s some

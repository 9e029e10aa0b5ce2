use Rattle.std.proofs.lemmas.Result.{IfOk-weaker}
use Rattle.ua_chunk.proofs.AbortsRead.{read_is}
use Rattle.ua_chunk.proofs.abort.read.Goals as goal

pub returns : goal.returns
returns c = IfOk-weaker c.read_whole.result _ _ (λ read whole. read_is c.args.body.now read whole) c.read_whole.ensures.read

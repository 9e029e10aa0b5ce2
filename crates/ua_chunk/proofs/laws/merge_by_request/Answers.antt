use Rattle.ua_chunk.proofs.Interleaved.{merge_by_id}
use Rattle.ua_chunk.proofs.laws.merge_by_request.Goals as goal

pub returns : goal.returns
returns c = merge_by_id

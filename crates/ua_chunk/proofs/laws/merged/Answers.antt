use Rattle.std.proofs.Common.{[]}
use Rattle.ua_chunk.proofs.Interleaved.{merge_by_id}
use Rattle.ua_chunk.proofs.Merged.{merged, messages_behind, takes_behind}
use Rattle.ua_chunk.proofs.Once.{once}
use Rattle.ua_chunk.proofs.laws.merged.Goals as goal

pub returns-clause-taken : goal.returns-clause-taken
returns-clause-taken c = λ octets chunks last ms cs own within merge order few. takes_behind octets chunks ms last [] cs within (merge_by_id ms cs own merge)
    order few

pub returns-clause-messages : goal.returns-clause-messages
returns-clause-messages c = λ octets chunks ms cs own within merge few. messages_behind octets chunks ms [] cs within (merge_by_id ms cs own merge) few

pub returns-clause-delivered : goal.returns-clause-delivered
returns-clause-delivered c = λ ms cs own merge. merged ms cs (merge_by_id ms cs own merge)

pub returns-clause-once : goal.returns-clause-once
returns-clause-once c = λ ms cs id own merge. once ms cs id (merge_by_id ms cs own merge)

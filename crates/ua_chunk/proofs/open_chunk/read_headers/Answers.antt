use Rattle.ua_chunk.proofs.Layouts.{shorter, headers_at}
use Rattle.ua_chunk.proofs.open_chunk.read_headers.Goals as goal

pub overflow_sub-result : goal.overflow_sub-result
overflow_sub-result c = shorter c.args.octets.now c.in-Some.rest.now c.in-Some-split_sequence.rest.now _ _ _ _ _ _ c.in-Some.ensures
    c.in-Some-split_sequence.ensures

pub returns : goal.returns
returns c = headers_at c.args.octets.now c.in-Some.rest.now c.in-Some-split_sequence.rest.now _ _ _ _ _ _ c.in-Some.ensures c.if-not-is_none.ensures
    c.in-Some-split_sequence.ensures

use Rattle.ua_c.proofs.Items.{of_handles, tells_lent}
use Rattle.ua_c.proofs.telling.ua_next_written.Goals as goal

-- both handles hold something
pub returns : goal.returns
returns c =
    of_handles c.args.connection.now.value c.of-2.result.value c.args.nodes.now.value c.of-3.result.value _ _ c.in-Some.held.value c.tell_over-told.new.self
    c.in-Some-take.shared.value
    c.in-Some-take.shared.value c.in-Some.ensures.taken c.of-2.ensures c.in-Some-take.ensures.taken c.of-3.ensures
    (tells_lent c.deref_mut.result.now c.in-Some.held.value c.tell_over-told.new.self c.deref.result.now c.in-Some-take.shared.value c.args.buffer.now
    c.tell_over-told.new.buffer c.tell_over-told.result
    c.deref_mut.ensures.value c.deref.ensures c.tell_over-told.ensures)

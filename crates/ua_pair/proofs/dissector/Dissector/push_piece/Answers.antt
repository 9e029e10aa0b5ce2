use Rattle.std.proofs.Common.{string_bytes}
use Rattle.std.proofs.lemmas.List.{take_rest}
use Rattle.ua_pair.proofs.Dissections.{so_far_end, so_far_first, so_far_pending}
use Rattle.ua_pair.proofs.dissector.Dissector.push_piece.Goals as goal

pub loop-lines-init : goal.loop-lines-init
loop-lines-init c = so_far_first c.args.self.now c.args.piece.now (string_bytes c.args.text.now)

pub loop-lines-preserved : goal.loop-lines-preserved
loop-lines-preserved c =
    so_far_pending c.args.self.now c.loop-lines.self c.take_next.new.self c.args.piece.now c.loop-lines.at c.in-Some.taken _ _ _ _ _ _ _ c.in-Some.pending
    c.loop-lines.invariant (take_rest c.args.piece.now c.loop-lines.at) (rw c.in-Some.is at c.in_ok-taken.ensures.taken)
    c.deref.ensures c.in_ok-push_str.ensures.bytes c.in_ok-push_pending.ensures

pub loop-lines-preserved-in_ok-push_pending : goal.loop-lines-preserved-in_ok-push_pending
loop-lines-preserved-in_ok-push_pending c =
    so_far_pending c.args.self.now c.loop-lines.self c.take_next.new.self c.args.piece.now c.loop-lines.at c.in-Some.taken _ _ _ _ _ _ _ c.in-Some.pending
    c.loop-lines.invariant (take_rest c.args.piece.now c.loop-lines.at) (rw c.in-Some.is at c.in_ok-taken.ensures.taken)
    c.deref.ensures c.in_ok-push_str.ensures.bytes c.in_ok-push_pending.ensures

pub loop-lines-preserved-in_ok-push_pending-2 : goal.loop-lines-preserved-in_ok-push_pending-2
loop-lines-preserved-in_ok-push_pending-2 c =
    so_far_pending c.args.self.now c.loop-lines.self c.take_next.new.self c.args.piece.now c.loop-lines.at c.in-Some.taken _ _ _ _ _ _ _ c.in-Some.pending
    c.loop-lines.invariant (take_rest c.args.piece.now c.loop-lines.at) (rw c.in-Some.is at c.in_ok-taken.ensures.taken)
    c.deref.ensures c.in_ok-push_str.ensures.bytes c.in_ok-push_pending.ensures

pub loop-lines-preserved-in_ok-push_pending-3 : goal.loop-lines-preserved-in_ok-push_pending-3
loop-lines-preserved-in_ok-push_pending-3 c =
    so_far_pending c.args.self.now c.loop-lines.self c.take_next.new.self c.args.piece.now c.loop-lines.at c.in-Some.taken _ _ _ _ _ _ _ c.in-Some.pending
    c.loop-lines.invariant (take_rest c.args.piece.now c.loop-lines.at) (rw c.in-Some.is at c.in_ok-taken.ensures.taken)
    c.deref.ensures c.in_ok-push_str.ensures.bytes c.in_ok-push_pending.ensures

pub returns-clause-takes : goal.returns-clause-takes
returns-clause-takes c =
    so_far_end c.args.self.now c.loop-lines.self c.take_next.new.self c.args.piece.now c.loop-lines.at _ _ _ _
    c.loop-lines.invariant (take_rest c.args.piece.now c.loop-lines.at) (rw c.in_default-2.is at c.in_ok-taken.ensures.taken)

pub returns-clause-closed : goal.returns-clause-closed
returns-clause-closed c = λ x. absurd (c.in_default.not-Closed x.state)

use Rattle.std.proofs.Common.{ℕ, Option, ◌-◌, max, min, ◌∙◌, ap, length}
use Rattle.ua_frame.specs.Reader.{Reader, TakesFrame}
use Rattle.ua_channel.proofs.Ends.{least_small, moves_failed, step_fault, step_frame}
use Rattle.ua_channel.proofs.end_core.EndCore.step.Goals as goal

pub on_whole-requires : goal.on_whole-requires
on_whole-requires g c =
    let taken : TakesFrame c.args.self.now.reader c.args.piece.now c.in-Ok-default-Some.size c.in-Ok-default-Some.frame c.take.new.self =
    rw c.in-Ok-default-Some.field-0-1-is at c.in-Ok-default-Some.ensures.takes in
    record { shape = record { flag = taken.let_in.flag; least = taken.let_in.least }; empty = ap (λ (r : Reader). r.held) taken.new_is }

pub returns-in-Ok-default-Some-clause-steps : goal.returns-in-Ok-default-Some-clause-steps
returns-in-Ok-default-Some-clause-steps g c =
    let taken : TakesFrame c.args.self.now.reader c.args.piece.now c.in-Ok-default-Some.size c.in-Ok-default-Some.frame c.take.new.self =
    rw c.in-Ok-default-Some.field-0-1-is at c.in-Ok-default-Some.ensures.takes in
    step_frame g.R.EndRules.side c.lawful.ensures c.args.self.now c.on_whole.new.self c.take.new.self c.args.piece.now c.in-Ok-default-Some.size
    c.in-Ok-default-Some.frame c.on_whole.result taken c.on_whole.ensures.kept c.on_whole.ensures.judges

pub returns-in-Err-clause-steps : goal.returns-in-Err-clause-steps
returns-in-Err-clause-steps g c =
    step_fault g.R.EndRules.side c.args.self.now c.fail.new.self c.take.new.self c.args.piece.now c.min.result c.least.result c.in-Err.fault
    c.from_frame-fault.result (least_small c.from_frame-fault.result c.least.result c.least.ensures)
    (c.min.ensures
    ∙ ap (λ (k : ℕ). min k (length c.args.piece.now)) (c.max-size.ensures
    ∙ ap (λ (k : ℕ). max k c.least.result) (c.saturating_sub.ensures ∙ ap (λ (k : ℕ). 8 - k) c.held-held.ensures.count))) c.in-Err.ensures.takes
    c.from_frame-fault.ensures c.fail.ensures.done c.fail.ensures.kept

pub returns-in-Err-clause-moves : goal.returns-in-Err-clause-moves
returns-in-Err-clause-moves g c = moves_failed (Option g.row.R-Event.Denot) c.args.piece.now c.min.result c.saturating_sub.result c.least.result
    c.from_frame-fault.result c.least.ensures (c.min.ensures ∙ ap (λ (k : ℕ). min k (length c.args.piece.now)) c.max-size.ensures)

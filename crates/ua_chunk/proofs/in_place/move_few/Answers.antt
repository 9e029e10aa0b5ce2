use Rattle.std.proofs.Common.{◌-◌, ◌+◌, ◌∙◌, ◌≡◌, ℕ, ap, arith, drop, sym, take}
use Rattle.ua_chunk.proofs.Moves.{moved_few, part_long, put_is}
use Rattle.ua_chunk.proofs.in_place.move_few.Goals as goal

pub returns : goal.returns
returns c =
    let n = c.args.end - c.args.start in
    let same : c.args.start + n - c.args.start ≡ n = omega arith in
    let moved = moved_few c.args.octets.now _ c.copy_from_slice-2.new.self c.args.start c.args.end c.args.gap c.requires.order c.requires.room
    (c.copy_from_slice-2.ensures.after ∙ c.copy_from_slice.ensures.after ∙ ap (λ (k : ℕ). take k (drop c.args.start c.args.octets.now)) same)
    (put_is (c.args.start + c.args.gap) n _ c.args.octets.now c.copy_from_slice-2.new.self (omega arith)
    (sym (c.copy_from_slice-2.ensures.len ∙ part_long _ _ c.args.octets.now (omega arith) ∙ omega arith))) in
    record { len = moved.len; front = moved.front; back = moved.back }

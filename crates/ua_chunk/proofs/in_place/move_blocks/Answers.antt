use Rattle.std.proofs.Common.{◌-◌, ◌+◌, ◌∙◌, ◌≡◌, ℕ, ap, arith, drop, subst, sym, take}
use Rattle.std.proofs.lemmas.List.{length-take-le}
use Rattle.ua_chunk.specs.InPlace.{MovedUp}
use Rattle.ua_chunk.proofs.Moves.{moved_more, moved_none, part_long, put_is}
use Rattle.ua_chunk.proofs.in_place.move_blocks.Goals as goal

pub loop-at-init : goal.loop-at-init
loop-at-init c = (moved_none c.args.octets.now c.args.end c.args.gap, (c.requires.order, omega arith))

pub copy_from_slice-requires : goal.copy_from_slice-requires
copy_from_slice-requires c =
    let n = c.min-n.result in
    let at = c.loop-at.at - n in
    length-take-le n c.loop-at.block (omega arith)
    ∙ sym (part_long at (at + n - at) c.loop-at.octets (omega (arith, c.loop-at.invariant.0.len)) ∙ omega arith)

pub copy_from_slice-requires-in-loop-at : goal.copy_from_slice-requires-in-loop-at
copy_from_slice-requires-in-loop-at c =
    let n = c.min-n.result in
    let place = c.loop-at.at - n + c.args.gap in
    part_long place (place + n - place) c.loop-at.octets (omega (arith, c.loop-at.invariant.0.len))
    ∙ sym (c.copy_from_slice.ensures.len ∙ length-take-le n c.loop-at.block (omega arith) ∙ omega arith)

pub returns : goal.returns
returns c =
    let start : c.loop-at.at ≡ c.args.start = omega arith in
    let moved : MovedUp c.args.octets.now c.args.end c.args.gap c.args.start c.loop-at.octets =
    subst (λ (k : ℕ). MovedUp c.args.octets.now c.args.end c.args.gap k c.loop-at.octets) start c.loop-at.invariant.0 in
    record { len = moved.len; front = moved.front; back = moved.back }

pub loop-at-preserved : goal.loop-at-preserved
loop-at-preserved c =
    let n = c.min-n.result in
    let at = c.loop-at.at - n in
    let same : at + n - at ≡ n = omega arith in (
      moved_more c.args.octets.now c.loop-at.octets _ c.copy_from_slice-in-loop-at.new.self c.args.end c.args.gap c.loop-at.at at n
          c.loop-at.invariant.0 (omega arith) (omega arith) (omega arith)
          (c.copy_from_slice-in-loop-at.ensures.after ∙ c.copy_from_slice.ensures.after ∙ ap (λ (k : ℕ). take k (drop at c.loop-at.octets)) same)
          (put_is (at + c.args.gap) n _ c.loop-at.octets c.copy_from_slice-in-loop-at.new.self (omega arith)
          (sym (c.copy_from_slice-in-loop-at.ensures.len ∙ part_long _ _ c.loop-at.octets (omega arith) ∙ omega arith))),
      (omega arith, omega arith),
    )

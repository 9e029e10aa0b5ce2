use Rattle.std.proofs.Common.{◌-◌, ◌+◌, ◌∙◌, ◌≡◌, ◌++◌, ℕ, List, ap, arith, drop, length, sym, take}
use Rattle.ua_chunk.proofs.Moves.{part_long, placed, put_is}
use Rattle.ua_chunk.proofs.in_place.place_chunk.Goals as goal

pub overflow_add-place : goal.overflow_add-place
overflow_add-place c = omega arith

pub overflow_add-place-2 : goal.overflow_add-place-2
overflow_add-place-2 c = omega arith

pub slice_bounds-copy_from_slice-start : goal.slice_bounds-copy_from_slice-start
slice_bounds-copy_from_slice-start c = omega arith

pub slice_bounds-copy_from_slice-end : goal.slice_bounds-copy_from_slice-end
slice_bounds-copy_from_slice-end c = omega (arith, c.move_up.ensures.len)

pub copy_from_slice-requires : goal.copy_from_slice-requires
copy_from_slice-requires c =
    let place = c.args.start + (c.args.gap - 24) in
    part_long place (place + 24 - place) c.move_up.new.octets (omega (arith, c.move_up.ensures.len)) ∙ omega arith

pub returns : goal.returns
returns c =
    let long : length c.copy_from_slice.new.self ≡ 24 =
    c.copy_from_slice.ensures.len ∙ part_long _ _ c.move_up.new.octets (omega (arith, c.move_up.ensures.len)) ∙ omega arith in
    let whole = placed c.args.start c.args.end c.args.gap (c.args.start + (c.args.gap - 24)) c.args.octets.now c.move_up.new.octets
    _ c.copy_from_slice.new.self
    c.requires.order c.requires.gap c.requires.room (omega arith) c.move_up.ensures.len c.move_up.ensures.front c.move_up.ensures.back
    long (put_is (c.args.start + (c.args.gap - 24)) 24 _ c.move_up.new.octets c.copy_from_slice.new.self (omega arith) (sym long)) in
    record {
      len = whole.len;
      front = whole.front;
      back =
          whole.back
          ∙ ap (λ (t : List ℕ).
          t ++ (take (c.args.end - c.args.start) (drop c.args.start c.args.octets.now) ++ drop (c.args.end + c.args.gap) c.args.octets.now))
          c.copy_from_slice.ensures.after;
    }

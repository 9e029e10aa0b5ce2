use Rattle.std.proofs.Common.{◌≡◌, ◌-◌, ◌+◌, ◌/◌, ◌<◌, ◌≤◌, ℕ, arith, length, take, subst, sym, ◌∙◌}
use Rattle.std.proofs.lemmas.List.{length-take-le}
use Rattle.ua_chunk.specs.InPlace.{number_behind}
use Rattle.ua_chunk.proofs.Moves.{last_low, last_high, placed_first, placed_more, placed_all, behind_some, one_less}
use Rattle.ua_chunk.proofs.in_place.place_chunks.Goals as goal

pub loop-left-init : goal.loop-left-init
loop-left-init c = (
  placed_first c.args.lane.now c.args.request c.args.sequence c.args.len ((c.args.len - 1) / c.args.lane.now.room) c.number_behind.result _
      c.headers-front.result c.args.octets.now c.place_chunk.new.octets (last_low c.args.len c.args.lane.now.room c.requires.body)
      (last_high c.args.len c.args.lane.now.room c.requires.body c.requires.room) c.requires.headers c.number_behind.ensures
      c.headers-front.ensures (omega arith)
      (record { len = c.place_chunk.ensures.len; front = c.place_chunk.ensures.front; back = c.place_chunk.ensures.back }),
  omega arith,
)

pub loop-left-preserved : goal.loop-left-preserved
loop-left-preserved c =
    let short : length (take c.args.len c.args.octets.now) ≤ length c.args.octets.now =
    omega (arith, c.requires.headers, length-take-le c.args.len c.args.octets.now (omega (arith, c.requires.headers))) in (
      placed_more c.args.lane.now c.args.request c.args.sequence _ _ c.loop-left.left (c.loop-left.left - 1) c.number_behind-in-loop-left.result _
          (take c.args.len c.args.octets.now) c.headers-front-in-loop-left.result c.loop-left.octets c.place_chunk-in-loop-left.new.octets c.requires.room
          (omega arith) c.loop-left.invariant.0
          c.number_behind-in-loop-left.ensures c.headers-front-in-loop-left.ensures (omega arith) short
          (record {
            len = c.place_chunk-in-loop-left.ensures.len;
            front = c.place_chunk-in-loop-left.ensures.front;
            back = c.place_chunk-in-loop-left.ensures.back;
          }),
      omega arith,
    )

pub returns-clause-range : goal.returns-clause-range
returns-clause-range c =
    subst (λ (m : ℕ). (0 < m) × (m ≤ 4294966272)) (sym c.number_behind-2.ensures)
    (behind_some c.args.sequence ((c.args.len - 1) / c.args.lane.now.room + 1) c.requires.sequence (omega arith))

pub overflow_mul-start : goal.overflow_mul-start
overflow_mul-start c = omega (arith, last_low c.args.len c.args.lane.now.room c.requires.body)

pub overflow_sub-size : goal.overflow_sub-size
overflow_sub-size c = omega (arith, last_low c.args.len c.args.lane.now.room c.requires.body)

pub overflow_add-size : goal.overflow_add-size
overflow_add-size c = omega (arith, c.requires.headers)

pub overflow_cast-size : goal.overflow_cast-size
overflow_cast-size c = omega (arith, last_high c.args.len c.args.lane.now.room c.requires.body c.requires.room)

pub number_behind-requires-clause-count : goal.number_behind-requires-clause-count
number_behind-requires-clause-count c = omega (arith, c.requires.headers)

pub overflow_add-last : goal.overflow_add-last
overflow_add-last c = omega (arith, c.requires.headers)

pub overflow_mul-last : goal.overflow_mul-last
overflow_mul-last c = omega (arith, c.requires.headers)

pub place_chunk-requires-clause-order : goal.place_chunk-requires-clause-order
place_chunk-requires-clause-order c = omega (arith, last_low c.args.len c.args.lane.now.room c.requires.body)

pub place_chunk-requires-clause-room : goal.place_chunk-requires-clause-room
place_chunk-requires-clause-room c = omega (arith, c.requires.headers)

pub overflow_mul-start-in-loop-left : goal.overflow_mul-start-in-loop-left
overflow_mul-start-in-loop-left c =
    let long : length (take c.args.len c.args.octets.now) ≡ c.args.len = length-take-le c.args.len c.args.octets.now (omega (arith, c.requires.headers)) in
    omega (
      arith,
      long,
      one_less c.loop-left.left c.args.lane.now.room (omega arith),
      c.loop-left.invariant.0.inside,
      c.loop-left.invariant.0.len,
      c.requires.headers,
    )

pub number_behind-requires-in-loop-left-clause-count : goal.number_behind-requires-in-loop-left-clause-count
number_behind-requires-in-loop-left-clause-count c = omega (arith, c.requires.headers)

pub overflow_add-start : goal.overflow_add-start
overflow_add-start c =
    let long : length (take c.args.len c.args.octets.now) ≡ c.args.len = length-take-le c.args.len c.args.octets.now (omega (arith, c.requires.headers)) in
    omega (
      arith,
      long,
      one_less c.loop-left.left c.args.lane.now.room (omega arith),
      c.loop-left.invariant.0.inside,
      c.loop-left.invariant.0.len,
      c.requires.headers,
    )

pub overflow_mul-left : goal.overflow_mul-left
overflow_mul-left c = omega (arith, c.requires.headers)

pub place_chunk-requires-in-loop-left-clause-room : goal.place_chunk-requires-in-loop-left-clause-room
place_chunk-requires-in-loop-left-clause-room c =
    let long : length (take c.args.len c.args.octets.now) ≡ c.args.len = length-take-le c.args.len c.args.octets.now (omega (arith, c.requires.headers)) in
    omega (
      arith,
      long,
      one_less c.loop-left.left c.args.lane.now.room (omega arith),
      c.loop-left.invariant.0.inside,
      c.loop-left.invariant.0.len,
      c.requires.headers,
    )

pub number_behind-requires-2-clause-count : goal.number_behind-requires-2-clause-count
number_behind-requires-2-clause-count c = omega (arith, c.requires.headers)

pub overflow_add-last-2 : goal.overflow_add-last-2
overflow_add-last-2 c = omega (arith, c.requires.headers)

pub returns-clause-chunks : goal.returns-clause-chunks
returns-clause-chunks c =
    let last = (c.args.len - 1) / c.args.lane.now.room in
    let all = placed_all c.args.lane.now c.args.request c.args.sequence (number_behind c.args.sequence (last + 1)) (length c.args.octets.now)
    c.loop-left.left (take c.args.len c.args.octets.now) c.loop-left.octets c.loop-left.invariant.0 (omega arith) in
    all.chunks

pub returns-clause-next : goal.returns-clause-next
returns-clause-next c =
    let last = (c.args.len - 1) / c.args.lane.now.room in
    let all = placed_all c.args.lane.now c.args.request c.args.sequence (number_behind c.args.sequence (last + 1)) (length c.args.octets.now)
    c.loop-left.left (take c.args.len c.args.octets.now) c.loop-left.octets c.loop-left.invariant.0 (omega arith) in
    c.number_behind-2.ensures ∙ sym all.after

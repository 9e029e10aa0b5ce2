use Rattle.std.proofs.Common.{arith, length, length-append, ap}
use Rattle.ua_c.proofs.Seen.{value_seen, value_takes}
use Rattle.ua_c.proofs.views.view_value.Goals as goal

pub overflow_sub-behind : goal.overflow_sub-behind
overflow_sub-behind c =
    let takes = value_takes c.args.source.now c.read_value.new.src c.in_ok-value.value c.in_ok-value.ensures.exact in
    omega (arith, takes, c.left-before.ensures, c.left.ensures)

pub overflow_sub-size : goal.overflow_sub-size
overflow_sub-size c =
    let takes = value_takes c.args.source.now c.read_value.new.src c.in_ok-value.value c.in_ok-value.ensures.exact in
    omega (arith, takes, c.left-before.ensures, c.left.ensures)

-- what was read, and where
pub returns-clause-sees : goal.returns-clause-sees
returns-clause-sees c =
    let takes = value_takes c.args.source.now c.read_value.new.src c.in_ok-value.value c.in_ok-value.ensures.exact in
    let whole = ap length c.requires.stands.parts in
    value_seen c.args.body.now c.args.source.now c.read_value.new.src c.in_ok-value.value c.from_value.result _ _ c.requires.stands c.in_ok-value.ensures.exact
    (omega (arith, whole, length-append c.requires.stands.taken c.args.source.now, c.left-before.ensures))
    (omega (arith, takes, c.left-before.ensures, c.left.ensures, c.fields_size.ensures)) c.from_value.ensures

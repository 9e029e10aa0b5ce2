use Rattle.std.proofs.Common.{◌<◌, ◌+◌, ◌∙◌, inl, inr, refl, arith}
use Rattle.ua_serving.proofs.Serves.{none_served, none_told, one_served, some_served, stops_at}
use Rattle.ua_serving.proofs.serve.serve_all.Goals as goal

pub loop-number-init : goal.loop-number-init
loop-number-init g c = (none_served _ _ _ _ _ c.in_ok-say_listening.ensures.said, λ quiet. refl)

pub loop-number-preserved : goal.loop-number-preserved
loop-number-preserved g c = (
  one_served _ _ _ _ _ _ _ _ _ c.loop-number.invariant.0 c.in_ok-serve_one.ensures.served (omega arith) (omega arith),
  λ quiet. c.next_stream.ensures.quiet quiet ∙ c.loop-number.invariant.1 quiet,
)

pub returns-in_err-stream-clause-stopped : goal.returns-in_err-stream-clause-stopped
returns-in_err-stream-clause-stopped g c =
    let fewer : c.loop-number.number < c.args.setup.now.asked.connections = omega (arith, c.loop-number-test.true) in
    stops_at _ _ c.in_err-stream.field-0.0 c.from_residual-in_err-stream.ensures.1 (
    inr (inr (some_served _ _ _ _ (c.loop-number.number + 1) _ _ _ _ c.loop-number.invariant.0 fewer (none_told _ _ _ _ refl) refl)))

pub returns-in_err-serve_one-clause-stopped : goal.returns-in_err-serve_one-clause-stopped
returns-in_err-serve_one-clause-stopped g c =
    let fewer : c.loop-number.number < c.args.setup.now.asked.connections = omega (arith, c.loop-number-test.true) in
    stops_at _ _ c.in_err-serve_one.field-0.0 c.from_residual-in_err-serve_one.ensures.1 (
    elim c.in_err-serve_one.ensures.stopped [
      | inl output ↦ inl output
      | inr told ↦ inr (inr (some_served _ _ _ _ _ _ _ _ _ c.loop-number.invariant.0 fewer told (omega arith)))
    ])

pub returns-in_err-say_listening-clause-lasts : goal.returns-in_err-say_listening-clause-lasts
returns-in_err-say_listening-clause-lasts g c = λ on.
    let why = c.in_err-say_listening.field-0.0 in
    stops_at _ _ why c.from_residual-in_err-say_listening.ensures.1 (
    elim c.in_err-say_listening.ensures.stopped [
      | inl output ↦ inl (inl output)
      | inr same ↦ inr same
    ])

pub returns-in_err-stream-clause-lasts : goal.returns-in_err-stream-clause-lasts
returns-in_err-stream-clause-lasts g c = λ on.
    stops_at _ _ c.in_err-stream.field-0.0 c.from_residual-in_err-stream.ensures.1 (inl (inr (c.in_err-stream.ensures.lasts on)))

pub returns-in_err-serve_one-clause-lasts : goal.returns-in_err-serve_one-clause-lasts
returns-in_err-serve_one-clause-lasts g c = λ on.
    stops_at _ _ c.in_err-serve_one.field-0.0 c.from_residual-in_err-serve_one.ensures.1 (inl (inl (c.in_err-serve_one.ensures.lasts on)))

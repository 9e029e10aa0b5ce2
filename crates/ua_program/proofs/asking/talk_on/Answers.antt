use Rattle.std.proofs.Common.{refl, ◌∙◌}
use Rattle.ua_program.specs.Talked.{Nothing}
use Rattle.ua_program.proofs.Talks.{talked_next}
use Rattle.ua_program.proofs.asking.talk_on.Goals as goal

pub loop-turns-init : goal.loop-turns-init
loop-turns-init g c = (Nothing, refl)

pub loop-turns-preserved : goal.loop-turns-preserved
loop-turns-preserved g c = (
  talked_next g.O.Write.contents c.args.talk.now.style c.loop-turns.talk.style (g.O.Write.contents c.args.out.now) c.loop-turns.out c.perform.new.out
      c.loop-turns.invariant.1 c.loop-turns.invariant.0 c.in-Ok.ensures.answered,
  c.perform.ensures.style ∙ c.loop-turns.invariant.1,
)

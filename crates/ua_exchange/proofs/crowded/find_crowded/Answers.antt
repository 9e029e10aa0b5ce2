use Rattle.std.proofs.Common.{◌∙◌, sym, take}
use Rattle.ua_exchange.proofs.Finding.{counted-first, counted-more, crowded-here}
use Rattle.ua_exchange.proofs.crowded.find_crowded.Goals as goal

pub loop-index-init : goal.loop-index-init
loop-index-init c = counted-first c.args.turns.now

pub returns-then-is_crowded : goal.returns-then-is_crowded
returns-then-is_crowded c =
    let at = c.loop-index in
    record {
      found = crowded-here c.args.turns.now at.index at.last.renewals at.last.calls at.invariant c.index-turns-index.result c.loop-index-test.true
          c.index-turns-index.is
          (sym (c.is_crowded.ensures (take at.index c.args.turns.now) at.invariant.counts) ∙ c.if-is_crowded.true);
    }

pub loop-index-preserved : goal.loop-index-preserved
loop-index-preserved c =
    let at = c.loop-index in
    counted-more c.args.turns.now at.index at.last.renewals at.last.calls at.invariant c.index-turns-index.result c.loop-index-test.true c.index-turns-index.is
    (sym (c.is_crowded.ensures (take at.index c.args.turns.now) at.invariant.counts) ∙ c.if-is_crowded.false) c.with-last.result.renewals
    c.with-last.result.calls c.with-last.ensures.counts c.with-last.ensures.few

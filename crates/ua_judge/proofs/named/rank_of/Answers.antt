use Rattle.std.proofs.Common.{◌∙◌, arith, sym}
use Rattle.ua_judge.specs.Names.{is_known}
use Rattle.ua_judge.proofs.Ranks.{rank_found, rank_on}
use Rattle.ua_judge.proofs.named.rank_of.Goals as goal

pub returns-then-is_known-clause-rank : goal.returns-then-is_known-clause-rank
returns-then-is_known-clause-rank c =
    rank_found (is_known c.args.number c.args.end) c.args.names.now c.loop-at.at _ c.loop-at-test.true c.loop-at.invariant.within c.loop-at.invariant.none_later
    (sym c.is_known.ensures ∙ c.if-is_known.true)

pub loop-at-preserved : goal.loop-at-preserved
loop-at-preserved c = record {
  within = omega (arith, c.loop-at.invariant.within);
  none_later = rank_on (is_known c.args.number c.args.end) c.args.names.now c.loop-at.at _ c.loop-at-test.true c.loop-at.invariant.within
      c.loop-at.invariant.none_later (sym c.is_known.ensures ∙ c.if-is_known.false);
}

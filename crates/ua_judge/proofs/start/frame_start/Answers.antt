use Rattle.ua_judge.proofs.EndsRead.{end_alone, ends_all, ends_more, ends_none}
use Rattle.ua_judge.proofs.FramesRead.{read_shorter}
use Rattle.ua_judge.proofs.start.frame_start.Goals as goal

pub loop-more-init : goal.loop-more-init
loop-more-init c = ends_none c.args.octets.now c.args.place

pub loop-more-preserved : goal.loop-more-preserved
loop-more-preserved c =
    ends_more c.args.octets.now c.loop-more.rest.now _ c.in-Some.more.now c.args.place c.loop-more.start _ c.loop-more.invariant c.in-Some.ensures.0
    c.in-Some.ensures.1 c.later_end-start.ensures

pub returns : goal.returns
returns c = ends_all c.args.octets.now c.loop-more.rest.now c.args.place c.loop-more.start c.loop-more.invariant c.in_default.ensures

pub overflow_sub-end : goal.overflow_sub-end
overflow_sub-end c = read_shorter end_alone c.args.octets.now c.loop-more.rest.now _ c.in-Some.more.now _ c.loop-more.invariant.read c.in-Some.ensures.0

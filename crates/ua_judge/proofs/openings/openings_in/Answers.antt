use Rattle.ua_judge.proofs.FramesRead.{read_all, read_more, read_none}
use Rattle.ua_judge.proofs.openings.openings_in.Goals as goal

pub loop-frame-init : goal.loop-frame-init
loop-frame-init c = read_none _ c.args.octets.now _ c.new-found.ensures.items

pub loop-frame-preserved : goal.loop-frame-preserved
loop-frame-preserved c =
    read_more _ c.args.octets.now c.loop-frame.rest.now c.in-Some.frame.now c.in-Some.more.now c.loop-frame.found.items c.push_opened.new.found.items
    c.loop-frame.invariant c.in-Some.ensures.0 c.in-Some.ensures.1 c.in_ok-push_opened.ensures

pub returns : goal.returns
returns c = record {
  frames = c.loop-frame.invariant.frames;
  rest = c.loop-frame.rest.now;
  framed = read_all _ c.args.octets.now c.loop-frame.rest.now c.loop-frame.found.items c.loop-frame.invariant c.in_default.ensures;
  found_are = c.loop-frame.invariant.out_is;
}

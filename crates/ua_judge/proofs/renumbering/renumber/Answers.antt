use Rattle.std.proofs.Common.{rules, ◌≡◌, ◌++◌, ℕ, List, ◌∙◌, ap}
use Rattle.ua_judge.proofs.FramesRead.{read_all, read_more, read_none, read_shorter}
use Rattle.ua_judge.proofs.renumbering.renumber.Goals as goal

pub loop-frame-init : goal.loop-frame-init
loop-frame-init c = read_none _ c.args.octets.now _ c.in_ok-out.ensures.items

pub loop-frame-preserved : goal.loop-frame-preserved
loop-frame-preserved c =
    read_more _ c.args.octets.now c.loop-frame.rest.now c.in-Some.frame.now c.in-Some.more.now c.loop-frame.out.items c.push_renumbered.new.out.items
    c.loop-frame.invariant c.in-Some.ensures.0 c.in-Some.ensures.1 c.in_ok-push_renumbered.ensures

pub returns : goal.returns
returns c =
    let added : c.extend_from_slice.new.self.items ≡ c.loop-frame.out.items ++ c.loop-frame.rest.now = search rules in
    record {
      frames = c.loop-frame.invariant.frames;
      rest = c.loop-frame.rest.now;
      framed = read_all _ c.args.octets.now c.loop-frame.rest.now c.loop-frame.out.items c.loop-frame.invariant c.in_default.ensures;
      out_is = added ∙ ap (λ (t : List ℕ). t ++ c.loop-frame.rest.now) c.loop-frame.invariant.out_is;
    }

pub overflow_sub-end : goal.overflow_sub-end
overflow_sub-end c = read_shorter _ c.args.octets.now c.loop-frame.rest.now c.in-Some.frame.now c.in-Some.more.now _ c.loop-frame.invariant c.in-Some.ensures.0

use Rattle.std.proofs.Common.{◌∙◌, ap, ◌++◌, ℕ}
use Rattle.std.specs.Prelude.{option_to_list}
use Rattle.ua_judge.specs.RawFrames.{id_place}
use Rattle.ua_judge.specs.Requests.{request_behind_id}
use Rattle.ua_judge.proofs.Begins.{end_place, sent_all, sent_more, sent_none, sent_shorter}
use Rattle.ua_judge.proofs.requests.requests_in.Goals as goal

pub loop-frame-init : goal.loop-frame-init
loop-frame-init c = sent_none c.args.octets.now _ _ c.new-requests.ensures.items c.new-begun.ensures.items

pub loop-frame-preserved : goal.loop-frame-preserved
loop-frame-preserved c =
    let s = c.loop-frame.invariant in
    let place = end_place c.args.octets.now c.loop-frame.rest.now c.in-Some.frame.now c.in-Some.more.now c.loop-frame.requests.items c.loop-frame.begun.items
    s c.in-Some.ensures.0 in
    sent_more c.args.octets.now c.loop-frame.rest.now c.in-Some.frame.now c.in-Some.more.now c.loop-frame.requests.items c.push_request.new.requests.items
    c.loop-frame.begun.items c.push_request.new.begun.items s
    c.in-Some.ensures.0 c.in-Some.ensures.1
    (c.in_ok-push_request.ensures.sends s.frames s.begun_are
    ∙ ap (λ (n : ℕ). c.loop-frame.requests.items ++ option_to_list (request_behind_id s.frames n (id_place c.in-Some.frame.now) c.in-Some.frame.now)) place)
    (c.in_ok-push_request.ensures.begun s.frames s.begun_are)

pub returns : goal.returns
returns c = record {
  frames = c.loop-frame.invariant.frames;
  rest = c.loop-frame.rest.now;
  framed = sent_all c.args.octets.now c.loop-frame.rest.now c.loop-frame.requests.items c.loop-frame.begun.items c.loop-frame.invariant c.in_default.ensures;
  requests_are = c.loop-frame.invariant.requests_are;
}

pub overflow_sub-end : goal.overflow_sub-end
overflow_sub-end c = sent_shorter c.args.octets.now c.loop-frame.rest.now c.in-Some.frame.now c.in-Some.more.now _ _ c.loop-frame.invariant
    c.in-Some.ensures.0

use Rattle.std.proofs.Common.{rules, ℕ, ◌+◌, List, ◌++◌, length, map, sym, ◌∙◌, ap}
use Rattle.ua_judge.proofs.Guesses.{guessed_all, guessed_more, guessed_none, guessed_on, replies_read, slice_behind, slice_within}
use Rattle.ua_judge.specs.Guessed.{mark_at}
use Rattle.ua_judge.specs.declared.named.Named.{Named}
use Rattle.ua_judge.specs.Guessing.{count_to_id}
use Rattle.ua_judge.proofs.guess.guess_marks.Goals as goal

pub loop-frame-init : goal.loop-frame-init
loop-frame-init c = guessed_none c.args.up.now c.in_ok-requests.requests.items c.args.down.now c.new-unfinished.result.items c.in_ok-marks.marks.items
    c.new-unfinished.ensures.items c.in_ok-marks.ensures

pub loop-frame-preserved-in_ok-push_marks : goal.loop-frame-preserved-in_ok-push_marks
loop-frame-preserved-in_ok-push_marks c =
    let g = c.loop-frame.invariant in
    guessed_more c.args.up.now c.in_ok-requests.requests.items c.args.down.now c.loop-frame.rest.now c.in-Some.frame.now c.in-Some.more.now
    c.loop-frame.unfinished.items c.begun_by.new.unfinished.items c.loop-frame.sent c.loop-frame.marks.items g c.in-Some.ensures.0 c.in-Some.ensures.1
    (c.in_ok-id.ensures.unfinished g.frames g.ids_are)
    c.in-Some-2.id (c.loop-frame.sent + c.first_of.result) c.push_marks.new.marks.items
    (sym c.in-Some-2.is ∙ c.in_ok-id.ensures.begins g.frames g.ids_are)
    (ap (λ (n : ℕ). c.loop-frame.sent + n) (c.first_of.ensures.first
    ∙ ap (count_to_id c.in-Some-2.id) (slice_behind c.in_ok-requests.requests.items c.deref.result.now c.loop-frame.sent c.deref.ensures.value)))
    (slice_within c.in_ok-requests.requests.items c.deref.result.now c.loop-frame.sent c.first_of.result c.deref.ensures.value g.within
    c.first_of.ensures.within)
    (search rules)

pub loop-frame-preserved : goal.loop-frame-preserved
loop-frame-preserved c =
    let g = c.loop-frame.invariant in
    guessed_on c.args.up.now c.in_ok-requests.requests.items c.args.down.now c.loop-frame.rest.now c.in-Some.frame.now c.in-Some.more.now
    c.loop-frame.unfinished.items c.begun_by.new.unfinished.items c.loop-frame.sent c.loop-frame.marks.items g c.in-Some.ensures.0 c.in-Some.ensures.1
    (c.in_ok-id.ensures.unfinished g.frames g.ids_are)
    (sym c.in_default-2.is ∙ c.in_ok-id.ensures.begins g.frames g.ids_are)

pub returns : goal.returns
returns c =
    let g = c.loop-frame.invariant in
    record {
      first = g.first;
      is_first = g.is_first;
      requests = c.in_ok-requests.requests.items;
      requests_are = c.in_ok-requests.ensures;
      replies = _;
      replies_are = replies_read c.args.up.now c.in_ok-requests.requests.items c.args.down.now c.loop-frame.rest.now c.loop-frame.unfinished.items
          c.loop-frame.sent c.loop-frame.marks.items g c.in_default.ensures;
      marks_are = guessed_all c.args.up.now c.in_ok-requests.requests.items c.args.down.now c.loop-frame.rest.now c.loop-frame.unfinished.items
          c.loop-frame.sent c.loop-frame.marks.items c.push_marks-2.new.marks.items g
          (c.in_ok-push_marks-2.ensures
          ∙ ap (λ (t : List Named). c.loop-frame.marks.items ++ map (mark_at (length c.args.down.now)) t)
          (slice_behind c.in_ok-requests.requests.items c.deref-2.result.now c.loop-frame.sent c.deref-2.ensures.value));
    }

use Rattle.std.proofs.Common.{rules, Some, None}
use Rattle.ua_judge.proofs.Firsts.{first_none, first_some}
use Rattle.ua_judge.proofs.guess.first_marks.Goals.{in-Some+in_ok-push, in_default}
use Rattle.ua_judge.proofs.guess.first_marks.Goals as goal

pub returns : goal.returns
returns c = elim c.match-split_frame.branch [
  | in-Some+in_ok-push w ↦
      record {
        first = Some w.in-Some.first.now;
        is_first = first_some c.args.up.now w.in-Some.first.now _ w.in-Some.ensures.0 w.in-Some.ensures.1;
        marks_are = search rules;
      }
  | in_default w ↦ record { first = None; is_first = first_none c.args.up.now w.in_default.ensures; marks_are = search rules }
]

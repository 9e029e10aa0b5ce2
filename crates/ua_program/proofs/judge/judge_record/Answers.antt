use Rattle.std.proofs.Common.{rules, ◌≡◌, string_bytes, subst}
use Rattle.std.specs.Io.KnownBytes.{Appends}
use Rattle.ua_program.proofs.PrintedSides.{record_as, turns_as}
use Rattle.ua_program.proofs.judge.judge_record.Goals as goal

pub returns-clause-judged : goal.returns-clause-judged
returns-clause-judged g c =
    let same : c.as_str.result.now ≡ string_bytes c.push_verdicts.new.out = search rules in
    record {
      up = c.as_slice.result.now;
      down = c.as_slice-2.result.now;
      marks = c.as_slice-3.result.now;
      is_record = record_as c.args.asked.now.down _ _ _ _ _ _ c.as_slice.ensures.value c.as_slice-2.ensures.value c.as_slice-3.ensures.value
          c.in_ok-turns.ensures.record;
      lines = string_bytes c.push_turns.new.out;
      printed = turns_as c.args.asked.now _ _ _ _ _ _ _ _ c.as_slice.ensures.value c.as_slice-2.ensures.value c.as_slice-3.ensures.value
          c.new-text.ensures.bytes c.in_ok-push_turns.ensures;
      text = string_bytes c.push_verdicts.new.out;
      broken = c.in_ok-broken.broken;
      verdicts = c.in_ok-broken.ensures;
      outcome_is = c.status_of.ensures.outcome;
      added = subst (Appends (g.O.Write.contents c.args.out.now) (g.O.Write.contents c.say.new.out)) same c.in_ok-say.ensures.said;
    }

pub returns-clause-some : goal.returns-clause-some
returns-clause-some g c = record { asked = c.args.asked.now; outcome = c.status_of.result; printed = returns-clause-judged g c }

use Rattle.ua_answers.proofs.PlainPairs.{times_added}
use Rattle.ua_answers.proofs.plain_answer.push_plain_times.Goals as goal

pub returns : goal.returns
returns c =
    times_added c.push_plain_time-2.result c.args.answer.now _ _ _ _ _ c.in_ok-push_str.ensures.bytes c.in_ok-push_plain_time.ensures
    c.in_ok-push_str-2.ensures.bytes c.push_plain_time-2.ensures

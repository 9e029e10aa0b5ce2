use Rattle.ua_answers.proofs.PlainTokens.{both_put}
use Rattle.ua_answers.proofs.Tokens.{put_one}
use Rattle.ua_answers.proofs.plain_object.put_plain_both.Goals as goal

pub returns : goal.returns
returns c =
    both_put c.put_plain_time-2.result c.args.answer.now c.args.line.now c.key.new.self c.put_plain_time.new.line c.key-2.new.self c.put_plain_time-2.new.line
    (put_one c.in_ok-key.ensures) c.in_ok-put_plain_time.ensures
    (put_one c.in_ok-key-2.ensures) c.put_plain_time-2.ensures

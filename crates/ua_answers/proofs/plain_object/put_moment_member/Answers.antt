use Rattle.ua_answers.proofs.PlainTokens.{moment_put, no_moment}
use Rattle.ua_answers.proofs.Tokens.{put_one}
use Rattle.ua_answers.proofs.plain_object.put_moment_member.Goals as goal

pub returns-in_ok-key-in-Some : goal.returns-in_ok-key-in-Some
returns-in_ok-key-in-Some c =
    moment_put c.put_moment.result c.args.name.now c.args.moment c.in-Some.moment c.args.line.now c.key.new.self c.put_moment.new.line c.in-Some.is
    (put_one c.in_ok-key-in-Some.ensures) c.put_moment.ensures

pub returns-in-None : goal.returns-in-None
returns-in-None c = no_moment c.args.name.now c.args.moment c.args.line.now c.in-None.is

use Rattle.std.proofs.Common.{sym, None, Some}
use Rattle.ua_frame.specs.Messages.{hello}
use Rattle.ua_frame.proofs.MessagesLawful.{sound_hello}
use Rattle.ua_frame.proofs.Wholes.{whole_read}
use Rattle.ua_channel.proofs.Greets.{refuses_unreadable, refuses_hello, agrees}
use Rattle.ua_channel.proofs.agreement.judge_hello.Goals as goal

pub returns-in_default : goal.returns-in_default
returns-in_default c = λ channel before. refuses_unreadable c.args.limits.now channel before c.args.body.now
    (whole_read hello sound_hello c.args.body.now None (rw c.in_default.is at c.in_ok-hello.ensures.read))

pub returns-in-Ok : goal.returns-in-Ok
returns-in-Ok c =
    agrees c.args.limits.now c.args.body.now c.in-Some.hello c.in-Ok.ack
    (whole_read hello sound_hello c.args.body.now (Some c.in-Some.hello) (rw c.in-Some.is at c.in_ok-hello.ensures.read))
    (sym c.in-Ok.ensures) c.tighter-octets.result c.tighter-octets.ensures

pub returns : goal.returns
returns c = λ channel before.
    refuses_hello c.args.limits.now channel before c.args.body.now c.in-Some.hello c.in-Err.code
    (whole_read hello sound_hello c.args.body.now (Some c.in-Some.hello) (rw c.in-Some.is at c.in_ok-hello.ensures.read)) (sym c.in-Err.ensures)

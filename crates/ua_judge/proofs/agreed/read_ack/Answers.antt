use Rattle.std.proofs.Common.{sym}
use Rattle.std.proofs.lemmas.Result.{IfOk-weaker}
use Rattle.ua_frame.specs.Messages.{ack}
use Rattle.ua_frame.proofs.MessagesLawful.{sound_ack}
use Rattle.ua_frame.proofs.Wholes.{whole_read}
use Rattle.ua_judge.proofs.agreed.read_ack.Goals as goal

pub returns : goal.returns
returns c = IfOk-weaker c.read_whole.result _ _ (λ read whole. sym (whole_read ack sound_ack c.args.body.now read whole)) c.read_whole.ensures.read

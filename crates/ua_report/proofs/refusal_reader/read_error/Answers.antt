use Rattle.std.proofs.Common.{sym}
use Rattle.std.proofs.lemmas.Result.{IfOk-weaker}
use Rattle.ua_frame.specs.Messages.{error}
use Rattle.ua_frame.proofs.MessagesLawful.{sound_error}
use Rattle.ua_frame.proofs.Wholes.{whole_read}
use Rattle.ua_report.proofs.refusal_reader.read_error.Goals as goal

pub returns : goal.returns
returns c = IfOk-weaker c.read_whole.result _ _ (λ read whole. sym (whole_read error sound_error c.args.body.now read whole)) c.read_whole.ensures.read

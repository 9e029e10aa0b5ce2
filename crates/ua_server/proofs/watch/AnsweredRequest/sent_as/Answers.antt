use Rattle.std.proofs.Common.{sym, ◌∙◌}
use Rattle.ua_chunk.specs.Cutting.{cut_refusal}
use Rattle.ua_server.proofs.SentAs.{sent-aborted, sent-whole}
use Rattle.ua_server.proofs.watch.AnsweredRequest.sent_as.Goals as goal

pub returns-then-is_abort : goal.returns-then-is_abort
returns-then-is_abort c = λ lane body is. sent-aborted c.args.self (cut_refusal lane body) (sym is ∙ c.if-is_abort.true)

pub returns-else-is_abort : goal.returns-else-is_abort
returns-else-is_abort c = λ lane body is. sent-whole c.args.self (cut_refusal lane body) (sym is ∙ c.if-is_abort.false)

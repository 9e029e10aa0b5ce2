use Rattle.std.proofs.Common.{◌∙◌, ap}
use Rattle.std.proofs.lemmas.Result.{err_from_is_err_and}
use Rattle.ua_services.specs.Request.{read_as_request, request_read}
use Rattle.ua_services.specs.declared.request.RequestKind.{RequestKind}
use Rattle.ua_services.specs.declared.request.RequestKind.TheVariants.{Read, Write}
use Rattle.ua_server.proofs.Replying.{as_read, unread}
use Rattle.ua_server.proofs.services.Services.reply_to_request.Goals as goal

pub returns-in_err-kind : goal.returns-in_err-kind
returns-in_err-kind g c =
    let p = err_from_is_err_and c.from_residual.result c.from_residual.ensures.1 in
    rw (p.1, p.2) (unread c.args.most (request_read (g.S.Source.octets c.args.src.now)) c.args.self.now c.args.moment c.in_err-kind.field-0.0
    c.in_err-kind.ensures.refused)

pub returns-in-Read : goal.returns-in-Read
returns-in-Read g c =
    let rest = g.S.Source.octets c.read_request_kind.new.src in
    as_read c.args.most (request_read (g.S.Source.octets c.args.src.now)) (read_as_request Read rest) c.args.self.now c.args.self.now c.args.moment
    c.reply_to_read.result (c.in_ok-kind.ensures.found ∙ ap (λ (k : RequestKind). read_as_request k rest) c.in-Read.is) c.reply_to_read.ensures

pub returns-in-Write : goal.returns-in-Write
returns-in-Write g c =
    let rest = g.S.Source.octets c.read_request_kind.new.src in
    as_read c.args.most (request_read (g.S.Source.octets c.args.src.now)) (read_as_request Write rest) c.args.self.now c.reply_to_write.new.self c.args.moment
    c.reply_to_write.result (c.in_ok-kind.ensures.found ∙ ap (λ (k : RequestKind). read_as_request k rest) c.in-Write.is) c.reply_to_write.ensures

pub returns-in_default : goal.returns-in_default
returns-in_default g c =
    let rest = g.S.Source.octets c.read_request_kind.new.src in
    as_read c.args.most (request_read (g.S.Source.octets c.args.src.now)) (read_as_request c.in_ok-kind.kind rest) c.args.self.now c.reply_to_other.new.self
    c.args.moment c.reply_to_other.result c.in_ok-kind.ensures.found c.reply_to_other.ensures

use Rattle.std.proofs.Common.{refl}
use Rattle.std.proofs.lemmas.Result.{err_from_is_err_and}
use Rattle.ua_services.specs.Request.{kind_of_request, read_as_request}
use Rattle.ua_server.specs.Answer.{answer}
use Rattle.ua_server.specs.Requests.{items_asked}
use Rattle.ua_server.proofs.Replying.{no_memory, other_left, other_read, other_unread, replied, unread}
use Rattle.ua_server.proofs.services.Services.reply_to_other.Goals as goal

pub returns-in_err-request : goal.returns-in_err-request
returns-in_err-request g c =
    let p = err_from_is_err_and c.from_residual.result c.from_residual.ensures.1 in
    let read = read_as_request c.args.kind (g.S.Source.octets c.args.src.now) in
    rw (p.1, p.2) (unread c.args.most read c.args.self.now c.args.moment c.in_err-request.field-0.0
    (other_unread c.in_err-request.field-0.0 read c.in_err-request.ensures))

pub returns-in-Ok : goal.returns-in-Ok
returns-in-Ok g c =
    let s = c.args.self.now in
    let read = read_as_request c.args.kind (g.S.Source.octets c.args.src.now) in
    let m = c.in_ok-request.request in
    replied c.args.most read s c.body_for-told.new.self c.args.moment (kind_of_request m) (items_asked m) (answer s c.args.moment m) c.in-Ok.told
    (record { request = m; read_is = other_read m read c.in_ok-request.ensures; kind_is = refl; items_are = refl; answer_is = refl })
    (record {
      body = c.in-Ok.ensures.body;
      some = c.in-Ok.ensures.some;
      request = c.in-Ok.ensures.request;
      results = c.in-Ok.ensures.results;
      state = c.in-Ok.ensures.state;
    })

pub returns-in-Err : goal.returns-in-Err
returns-in-Err g c =
    let s = c.args.self.now in
    let read = read_as_request c.args.kind (g.S.Source.octets c.args.src.now) in
    let m = c.in_ok-request.request in
    no_memory c.args.most read s c.body_for-told.new.self c.args.moment
    (other_left s c.body_for-told.new.self read m c.args.moment (other_read m read c.in_ok-request.ensures) c.in-Err.ensures.refused)

use Rattle.std.proofs.Common.{subst, inl}
use Rattle.std.proofs.lemmas.Result.{err_from_is_err_and}
use Rattle.ua_services.specs.Request.{read_as_request}
use Rattle.ua_services.specs.declared.request.RequestKind.TheVariants.{Write}
use Rattle.ua_server.specs.Answer.{write_items}
use Rattle.ua_server.specs.Attributes.{takes_now}
use Rattle.ua_server.specs.State.{State}
use Rattle.ua_server.proofs.Replying.{no_memory, replied, tells, unread}
use Rattle.ua_server.proofs.Thinned.{ChangesNothing, kept_answered, kept_left, refused_by}
use Rattle.ua_server.proofs.services.Services.reply_to_write.Goals as goal

pub returns-in_err-read_write_request_for : goal.returns-in_err-read_write_request_for
returns-in_err-read_write_request_for g c =
    let p = err_from_is_err_and c.from_residual.result c.from_residual.ensures.1 in
    let s = c.args.self.now in
    let read = read_as_request Write (g.S.Source.octets c.args.src.now) in
    rw (p.1, p.2) (unread c.args.most read s c.args.moment c.in_err-read_write_request_for.field-0.0
    (refused_by (takes_now s) read c.in_err-read_write_request_for.field-0.0 c.in_err-read_write_request_for.ensures.refused))

pub returns-in-Ok : goal.returns-in-Ok
returns-in-Ok g c =
    let s = c.args.self.now in
    let read = read_as_request Write (g.S.Source.octets c.args.src.now) in
    let m = c.read_write_request_for.new.message in
    let law = c.values_that_their_nodes_cannot_take_change_no_write.ensures in
    let there : ChangesNothing c.self.inside.nodes = record { answers = law.answers; left = law.nodes } in
    let same = subst (λ (s : State). ChangesNothing s.nodes) c.self.view_is there in
    replied c.args.most read s c.write_body.new.self c.args.moment Write c.item_count-items.result (write_items s c.args.moment m) c.replied.result
    (kept_answered s read m c.item_count-items.result c.args.moment same c.in_ok-read_write_request_for.ensures.read
    c.item_count-items.ensures)
    (tells c.args.most Write c.item_count-items.result (write_items s c.args.moment m) c.write_body.new.self c.in-Ok.answer c.replied.result
    c.replied.ensures.body
    c.replied.ensures.request c.replied.ensures.results (inl c.in-Ok.ensures.body) c.in-Ok.ensures.some c.in-Ok.ensures.code c.in-Ok.ensures.results
    c.in-Ok.ensures.state)

pub returns : goal.returns
returns g c =
    let s = c.args.self.now in
    let read = read_as_request Write (g.S.Source.octets c.args.src.now) in
    let m = c.read_write_request_for.new.message in
    let law = c.values_that_their_nodes_cannot_take_change_no_write.ensures in
    let there : ChangesNothing c.self.inside.nodes = record { answers = law.answers; left = law.nodes } in
    let same = subst (λ (s : State). ChangesNothing s.nodes) c.self.view_is there in
    no_memory c.args.most read s c.write_body.new.self c.args.moment
    (kept_left s c.write_body.new.self read m c.args.moment same c.in_ok-read_write_request_for.ensures.read c.in-Err.ensures.refused)

use Rattle.std.proofs.Common.{refl, sym, ◌∙◌, inl}
use Rattle.std.proofs.lemmas.Result.{err_from_is_err_and}
use Rattle.ua_services.specs.Request.{read_as_request}
use Rattle.ua_services.specs.declared.request.Request.TheVariants.{Read as ReadMessage}
use Rattle.ua_services.specs.declared.request.RequestKind.TheVariants.{Read}
use Rattle.ua_builtin.specs.Reasons.{first_reason}
use Rattle.ua_server.specs.Answer.{read_items}
use Rattle.ua_server.specs.Attributes.{read_reasons, values_given}
use Rattle.ua_server.proofs.Answered.{kept_by}
use Rattle.ua_server.proofs.Replying.{no_memory, replied, tells, unread}
use Rattle.ua_server.proofs.Stores.{read_results}
use Rattle.ua_server.proofs.services.Services.reply_to_read.Goals as goal

pub returns-in_err-read_read_request : goal.returns-in_err-read_read_request
returns-in_err-read_read_request g c =
    let p = err_from_is_err_and c.from_residual.result c.from_residual.ensures.1 in
    rw (p.1, p.2) (unread c.args.most (read_as_request Read (g.S.Source.octets c.args.src.now)) c.args.self.now c.args.moment
    c.in_err-read_read_request.field-0.0 c.in_err-read_read_request.ensures.refused)

pub returns-in-Ok : goal.returns-in-Ok
returns-in-Ok g c =
    let m = c.read_read_request.new.message in
    let given = read_items c.args.self.now c.args.moment m in
    let s = c.args.self.now in
    replied c.args.most (read_as_request Read (g.S.Source.octets c.args.src.now)) s s c.args.moment Read c.item_count-items.result given
    c.replied.result (record {
      request = ReadMessage m;
      read_is = c.in_ok-read_read_request.ensures.read;
      kind_is = refl;
      items_are = sym c.item_count-items.ensures;
      answer_is = refl;
    }) (tells c.args.most Read c.item_count-items.result given s c.in-Ok.answer c.replied.result c.replied.ensures.body c.replied.ensures.request
    c.replied.ensures.results c.in-Ok.ensures.body c.in-Ok.ensures.some c.in-Ok.ensures.code
    (c.in-Ok.ensures.results ∙ sym (read_results s c.args.moment m))
    (kept_by (first_reason (read_reasons s m)) s c.args.moment m.request_header (values_given s c.args.moment m)))

pub returns : goal.returns
returns g c = no_memory c.args.most (read_as_request Read (g.S.Source.octets c.args.src.now)) c.args.self.now c.args.self.now c.args.moment (inl refl)

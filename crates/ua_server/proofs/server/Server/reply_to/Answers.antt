use Rattle.std.proofs.Common.{rules, None, ◌≡◌, ◌++◌, ◌∷◌, [], Result, Err, ap}
use Rattle.std.specs.List.{concat}
use Rattle.ua_services.specs.Response.{response}
use Rattle.ua_channel_laws.proofs.Opened.{server_asked}
use Rattle.ua_channel.specs.ServerStands.{next_of}
use Rattle.ua_channel.specs.ServerTold.{Asked}
use Rattle.ua_channel.specs.declared.sent_reply.SentReply.{SentReply}
use Rattle.ua_channel.specs.declared.server_fault.ReplyFault.{ReplyFault}
use Rattle.ua_server.specs.Reply.{IsBodyWithin, answered}
use Rattle.ua_server.specs.Requests.{request_answered}
use Rattle.ua_server.specs.Served.{channel_in}
use Rattle.ua_server.proofs.Events.{telling-on, replied-there, noted-there}
use Rattle.ua_server.proofs.GivenUp.{same_reply, same_code}
use Rattle.ua_server.specs.Stored.{results_of}
use Rattle.ua_server.proofs.Stores.{kept-stored}
use Rattle.ua_server.proofs.server.Server.reply_to.Goals as goal

pub returns-in-Ok-respond_with-clause-sent : goal.returns-in-Ok-respond_with-clause-sent
returns-in-Ok-respond_with-clause-sent c = λ octets before token g.
    let whole = response.canonical (answered c.args.services.now c.args.moment (concat c.args.message)).1 in
    let sent = c.in-Ok-respond_with.ensures.sent octets (g.frames ++ g.frame ∷ []) [] g.stands in
    let limit = c.most_octets-most.ensures.most octets (g.frames ++ g.frame ∷ []) [] g.stands
    (server_asked (channel_in c.args.self.now) octets before c.args.id token (concat c.args.message) g) sent.0 sent.1 in
    let within : IsBodyWithin c.most_octets-most.result whole c.in-Ok.told.body.items = search rules in (
      telling-on (channel_in c.args.self.now) c.respond_with.new.self octets before (Asked c.args.id token (concat c.args.message)) g
          c.respond_with.ensures.limits
          c.respond_with.ensures.channel (c.in-Ok-respond_with.ensures.stands octets (g.frames ++ g.frame ∷ []) [] g.stands),
      replied-there (channel_in c.args.self.now) octets before c.args.id token (concat c.args.message) g sent.0 whole c.in-Ok-respond_with.sent.octets.items
          (next_of c.respond_with.new.self) sent.1
          (same_reply sent.0 c.most_octets-most.result whole c.in-Ok.told.body.items (next_of (channel_in c.args.self.now)) c.args.id
          c.in-Ok-respond_with.sent.octets.items
          (next_of c.respond_with.new.self) limit within sent.2),
    )

pub returns-in-Ok-respond_with-clause-noted : goal.returns-in-Ok-respond_with-clause-noted
returns-in-Ok-respond_with-clause-noted c = λ octets before token g.
    let whole = response.canonical (answered c.args.services.now c.args.moment (concat c.args.message)).1 in
    let sent = c.in-Ok-respond_with.ensures.sent octets (g.frames ++ g.frame ∷ []) [] g.stands in
    let limit = c.most_octets-most.ensures.most octets (g.frames ++ g.frame ∷ []) [] g.stands
    (server_asked (channel_in c.args.self.now) octets before c.args.id token (concat c.args.message) g) sent.0 sent.1 in
    let within : IsBodyWithin c.most_octets-most.result whole c.in-Ok.told.body.items = search rules in
    let request : c.in-Ok.told.request ≡ request_answered None c.args.services.now c.args.moment (concat c.args.message) = search rules in
    noted-there (channel_in c.args.self.now) octets before c.args.id token (concat c.args.message) g sent.0 c.args.services.now c.args.moment
    c.in-Ok.told.body.items
    c.in-Ok.told.request c.sent_as-request.result sent.1
    (λ code. same_code sent.0 c.most_octets-most.result whole c.in-Ok.told.body.items code limit within) request
    (c.sent_as-request.ensures sent.0 c.in-Ok.told.body.items sent.3)

pub returns-clause-failed : goal.returns-clause-failed
returns-clause-failed c = λ octets before token g.
    let not_open : ReplyFault → Result SentReply ReplyFault = λ f. Err f in
    absurd (server_asked (channel_in c.args.self.now) octets before c.args.id token (concat c.args.message) g
    (c.in-Err-NotOpen.ensures.not_open.0 (ap not_open c.in-Err-NotOpen.field-0-is)))

pub returns-in-Ok-respond_with-clause-stored : goal.returns-in-Ok-respond_with-clause-stored
returns-in-Ok-respond_with-clause-stored c =
    let results : c.in-Ok.told.results ≡ results_of (answered c.args.services.now c.args.moment (concat c.args.message)).1 = search rules in
    kept-stored c.args.services.now c.args.moment (concat c.args.message) c.keep.new.self c.in-Ok.told.results c.keep.ensures results

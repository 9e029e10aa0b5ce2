use Rattle.std.specs.List.{concat}
use Rattle.ua_channel.specs.ClientTold.ClientTold.{Answered}
use Rattle.ua_client.proofs.Answering.{answered_none, fills_none, puts_fills}
use Rattle.ua_client.proofs.reply.put_by.Goals as goal

pub returns-in_default-clause-fills : goal.returns-in_default-clause-fills
returns-in_default-clause-fills c = λ told once slots.
    fills_none c.args.requests.now c.args.first told (Answered c.args.id (concat c.args.message.now)) c.args.slots.now.slots
    (answered_none c.args.requests.now c.args.first c.args.id (concat c.args.message.now) c.in_default.ensures) slots

pub returns-clause-fills : goal.returns-clause-fills
returns-clause-fills c =
    puts_fills c.args.requests.now c.args.first c.args.id (concat c.args.message.now) c.in-Some.place c.index-requests-place.result _ c.kind.result
    c.args.slots.now.slots c.put_answer_of.new.slots.slots c.put_answer_of.result
    c.in-Some.ensures c.index-requests-place.is c.kind.ensures c.put_answer_of.ensures.puts

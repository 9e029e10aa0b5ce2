use Rattle.std.proofs.Common.{Ok}
use Rattle.std.specs.List.{concat}
use Rattle.ua_channel.specs.ClientTold.ClientTold.{Answered, GaveUp}
use Rattle.ua_client.specs.declared.reply.Reply.TheVariants.{Aborted}
use Rattle.ua_client.proofs.Answering.{fills_none, put_count, put_faults, put_fills, gave_up_none}
use Rattle.ua_client.proofs.Answering.{gave_up_at, placed_other, told_fills, says_answered, says_aborted}
use Rattle.ua_client.proofs.reply.put_reply.Goals as goal

pub returns-in-Answered-clause-fills : goal.returns-in-Answered-clause-fills
returns-in-Answered-clause-fills c =
    told_fills c.args.requests.now c.args.first (Answered c.in-Answered.id (concat c.in-Answered.message)) c.args.event.now c.args.slots.now.slots
    c.put_by.new.slots.slots c.put_by.result (says_answered c.in-Answered.id c.in-Answered.message c.args.event.now c.in-Answered.is) c.put_by.ensures.fills

pub returns-in-None-clause-fills : goal.returns-in-None-clause-fills
returns-in-None-clause-fills c =
    told_fills c.args.requests.now c.args.first (GaveUp c.in-Aborted.id c.in-Aborted.code) c.args.event.now c.args.slots.now.slots c.args.slots.now.slots
    (Ok tt)
    (says_aborted c.in-Aborted.id c.in-Aborted.code c.args.event.now c.in-Aborted.is)
    (λ told once slots. fills_none c.args.requests.now c.args.first told (GaveUp c.in-Aborted.id c.in-Aborted.code) c.args.slots.now.slots
    (gave_up_none c.args.requests.now c.args.first c.in-Aborted.id c.in-Aborted.code c.in-None.ensures) slots)

pub returns-in-Some-clause-fills : goal.returns-in-Some-clause-fills
returns-in-Some-clause-fills c =
    told_fills c.args.requests.now c.args.first (GaveUp c.in-Aborted.id c.in-Aborted.code) c.args.event.now c.args.slots.now.slots c.put.new.self.slots
    c.put.result
    (says_aborted c.in-Aborted.id c.in-Aborted.code c.args.event.now c.in-Aborted.is)
    (λ told once slots.
    put_fills c.args.requests.now c.args.first told (GaveUp c.in-Aborted.id c.in-Aborted.code) c.args.slots.now.slots c.put.new.self.slots c.in-Some.place
    (Aborted c.in-Aborted.code) c.put.result
    (gave_up_at c.args.requests.now c.args.first c.in-Aborted.id c.in-Aborted.code c.in-Some.place c.in-Some.ensures) c.put.ensures.ok c.put.ensures.memory
    once slots)

pub returns-in-Some-clause-faults : goal.returns-in-Some-clause-faults
returns-in-Some-clause-faults c = put_faults c.put.result c.put.ensures.memory

pub returns-in-Some-clause-count : goal.returns-in-Some-clause-count
returns-in-Some-clause-count c =
    put_count c.args.slots.now.slots c.put.new.self.slots c.in-Some.place (Aborted c.in-Aborted.code) c.put.result c.put.ensures.ok c.put.ensures.err

pub returns-in_default-clause-fills : goal.returns-in_default-clause-fills
returns-in_default-clause-fills c = λ moment told t says once slots.
    fills_none c.args.requests.now c.args.first told t c.args.slots.now.slots
    (placed_other c.args.requests.now c.args.first c.args.event.now c.in_default.not-Answered c.in_default.not-Aborted moment t says) slots

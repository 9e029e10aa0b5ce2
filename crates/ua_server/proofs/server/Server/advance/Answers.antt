use Rattle.std.proofs.Common.{Ok, Err}
use Rattle.ua_server.specs.Served.{channel_in}
use Rattle.ua_server.proofs.Bounds.{fault-bound}
use Rattle.ua_server.proofs.Standing.{behind-as}
use Rattle.ua_server.proofs.Nows.{now-ended}
use Rattle.ua_server.proofs.Stores.{stores-ended}
use Rattle.ua_server.proofs.server.Server.advance.Goals as goal

pub returns-in-Ok-clause-starved : goal.returns-in-Ok-clause-starved
returns-in-Ok-clause-starved c = λ octets told g.
    let n = c.next_answered-size in
    c.answer.ensures.starved (channel_in c.args.self.now) c.args.piece.now octets told g
    (behind-as (channel_in c.args.self.now) n.new.channel c.args.moment c.args.piece.now n.result.size octets told n.result.outcome (Ok c.in-Ok.event)
    c.in-Ok.is (n.ensures.answers octets told g))

pub returns-in-Err-refusal-clause-starved : goal.returns-in-Err-refusal-clause-starved
returns-in-Err-refusal-clause-starved c = λ octets told g fails.
    let n = c.next_answered-size in
    fault-bound (channel_in c.args.self.now) n.new.channel c.args.moment c.args.piece.now n.result.size octets told g c.in-Err.fault n.result.outcome
    c.in-Err.is (n.ensures.starved octets told g)
    (behind-as (channel_in c.args.self.now) n.new.channel c.args.moment c.args.piece.now n.result.size octets told n.result.outcome (Err c.in-Err.fault)
    c.in-Err.is (n.ensures.answers octets told g))

pub returns-in-Ok-clause-now : goal.returns-in-Ok-clause-now
returns-in-Ok-clause-now c = λ octets told g.
    let n = c.next_answered-size in
    c.answer.ensures.now (channel_in c.args.self.now) c.args.piece.now octets told
    (behind-as (channel_in c.args.self.now) n.new.channel c.args.moment c.args.piece.now n.result.size octets told n.result.outcome (Ok c.in-Ok.event)
    c.in-Ok.is (n.ensures.answers octets told g))

pub returns-in-Ok-refusal-clause-now : goal.returns-in-Ok-refusal-clause-now
returns-in-Ok-refusal-clause-now c = λ octets told g.
    let n = c.next_answered-size in
    let step = c.in-Ok-refusal.step in
    now-ended (channel_in c.args.self.now) n.new.channel c.args.moment c.args.piece.now step.taken step.out.items octets told c.args.services.now
    c.args.services.now step.end c.in-Ok-refusal.ensures.taken.1
    (c.in-Ok-refusal.ensures.now (channel_in c.args.self.now) n.new.channel c.args.moment c.args.piece.now octets told c.args.services.now
    (behind-as (channel_in c.args.self.now) n.new.channel c.args.moment c.args.piece.now n.result.size octets told n.result.outcome (Err c.in-Err.fault)
    c.in-Err.is (n.ensures.answers octets told g)))

pub returns-in-Err-refusal-clause-now : goal.returns-in-Err-refusal-clause-now
returns-in-Err-refusal-clause-now c = λ octets told g.
    let n = c.next_answered-size in
    c.in-Err-refusal.ensures.now (channel_in c.args.self.now) n.new.channel c.args.moment c.args.piece.now octets told c.args.services.now
    (behind-as (channel_in c.args.self.now) n.new.channel c.args.moment c.args.piece.now n.result.size octets told n.result.outcome (Err c.in-Err.fault)
    c.in-Err.is (n.ensures.answers octets told g))

pub returns-in-Ok-clause-stores : goal.returns-in-Ok-clause-stores
returns-in-Ok-clause-stores c = λ octets told g.
    let n = c.next_answered-size in
    c.answer.ensures.stores (channel_in c.args.self.now) c.args.piece.now octets told
    (behind-as (channel_in c.args.self.now) n.new.channel c.args.moment c.args.piece.now n.result.size octets told n.result.outcome (Ok c.in-Ok.event)
    c.in-Ok.is (n.ensures.answers octets told g))

pub returns-in-Ok-refusal-clause-stores : goal.returns-in-Ok-refusal-clause-stores
returns-in-Ok-refusal-clause-stores c = λ octets told g.
    let step = c.in-Ok-refusal.step in
    stores-ended c.args.piece.now step.end step.taken step.out.items c.forget.new.self c.next_answered-size.new.channel octets told c.args.services.now
    c.in-Ok-refusal.ensures.taken.1 c.forget.ensures

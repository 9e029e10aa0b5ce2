use Rattle.std.specs.List.{concat}
use Rattle.std.proofs.Common.{◌++◌, ◌∙◌, None, Some, refl, take}
use Rattle.ua_channel.specs.declared.server_event.ServerEvent.TheVariants as event
use Rattle.ua_server.specs.Served.{channel_in}
use Rattle.ua_server.specs.Stepping.{given_up}
use Rattle.ua_server.specs.declared.step.End.TheVariants as ending
use Rattle.ua_server.specs.declared.step.Step.{Step}
use Rattle.ua_server.proofs.Bounds.{asked-bound}
use Rattle.ua_server.proofs.Standing.{event-as}
use Rattle.ua_server.proofs.Nows.{now-silently, now-saying, now-quiet, now-send, now-reply, now-break, now-breaks, now-close}
use Rattle.ua_server.proofs.EndpointStays.{broken_limit, left_stays, left_ids, left_limit}
use Rattle.ua_server.proofs.Stores.{silent-stores, saying-stores, stores-quiet, stores-sent, stores-replied}
use Rattle.ua_server.proofs.server.Server.answer.Goals as goal

pub returns-in-Err-clause-starved : goal.returns-in-Err-clause-starved
returns-in-Err-clause-starved c = λ old piece octets told g b fails.
    c.reply_to.ensures.bound
    ∙ asked-bound old (channel_in c.args.self.now) c.args.moment piece c.args.taken octets told g c.in-Asked.id c.in-Asked.message
    (event-as old (channel_in c.args.self.now) c.args.moment piece c.args.taken octets told c.args.event
    (event.Asked c.in-Asked.id c.in-Asked.message) c.in-Asked.is b)

pub returns-in-NeedMore-clause-now : goal.returns-in-NeedMore-clause-now
returns-in-NeedMore-clause-now c = λ old piece octets told b.
    now-silently old (channel_in c.args.self.now) c.args.moment piece c.args.taken octets told c.args.services.now c.silent.result None c.silent.ensures.taken
    c.silent.ensures.out c.silent.ensures.end
    (now-quiet old (channel_in c.args.self.now) c.args.moment piece c.args.taken octets told c.args.services.now
    (event-as old (channel_in c.args.self.now) c.args.moment piece c.args.taken octets told c.args.event event.NeedMore c.in-NeedMore.is b))

pub returns-in-Send-clause-now : goal.returns-in-Send-clause-now
returns-in-Send-clause-now c = λ old piece octets told b.
    let said : Step = record { taken = c.args.taken; out = c.in-Send.out; end = None } in
    now-saying old (channel_in c.args.self.now) c.args.moment piece c.args.taken octets told c.args.services.now None c.saying.result said
    (channel_in c.args.self.now) c.args.services.now c.saying.ensures
    (now-send old (channel_in c.args.self.now) c.args.moment piece c.args.taken octets told c.args.services.now c.in-Send.out
    (event-as old (channel_in c.args.self.now) c.args.moment piece c.args.taken octets told c.args.event (event.Send c.in-Send.out) c.in-Send.is b))

pub returns-in-Ok-clause-now : goal.returns-in-Ok-clause-now
returns-in-Ok-clause-now c = λ old piece octets told b.
    let said : Step = record { taken = c.args.taken; out = c.in-Ok.told.out; end = None } in
    let there = event-as old (channel_in c.args.self.now) c.args.moment piece c.args.taken octets told c.args.event
    (event.Asked c.in-Asked.id c.in-Asked.message) c.in-Asked.is b in
    now-saying old (channel_in c.args.self.now) c.args.moment piece c.args.taken octets told c.args.services.now (Some c.in-Ok.told.request)
    c.saying-in-Ok.result said (channel_in c.reply_to.new.self) c.reply_to.new.services c.saying-in-Ok.ensures
    (now-reply old (channel_in c.args.self.now) c.args.moment piece c.args.taken octets told c.args.services.now c.in-Ok.told.request
    (channel_in c.reply_to.new.self)
    c.in-Asked.id c.in-Asked.message c.in-Ok.told.out.items c.reply_to.new.services there
    (c.in-Ok.ensures.sent (octets ++ take c.args.taken piece) (told ++ given_up there.quiet) there.answers.1.0.token there.answers.1.0.goes)
    c.in-Ok.ensures.state
    (c.in-Ok.ensures.noted (octets ++ take c.args.taken piece) (told ++ given_up there.quiet) there.answers.1.0.token there.answers.1.0.goes))

pub returns-in-Err-clause-now : goal.returns-in-Err-clause-now
returns-in-Err-clause-now c = λ old piece octets told b.
    let there = event-as old (channel_in c.args.self.now) c.args.moment piece c.args.taken octets told c.args.event
    (event.Asked c.in-Asked.id c.in-Asked.message) c.in-Asked.is b in
    let failed = c.in-Err.ensures.failed (octets ++ take c.args.taken piece) (told ++ given_up there.quiet) there.answers.1.0.token there.answers.1.0.goes in
    now-breaks old (channel_in c.reply_to.new.self) c.args.moment piece c.in-Err.fault octets told c.args.services.now c.reply_to.new.services failed.0
    (now-break old (channel_in c.args.self.now) c.args.moment piece c.args.taken octets told c.args.services.now (channel_in c.reply_to.new.self) c.in-Asked.id
    c.in-Asked.message c.reply_to.new.services there failed.1 c.in-Err.ensures.broken)

pub returns-in-Closed-clause-now : goal.returns-in-Closed-clause-now
returns-in-Closed-clause-now c = λ old piece octets told b.
    now-silently old (channel_in c.args.self.now) c.args.moment piece c.args.taken octets told c.args.services.now c.silent-step.result
    (Some ending.Closed) c.silent-step.ensures.taken c.silent-step.ensures.out c.silent-step.ensures.end
    (λ out none. (
      now-close old (channel_in c.args.self.now) c.args.moment piece c.args.taken octets told c.args.services.now
          (event-as old (channel_in c.args.self.now) c.args.moment piece c.args.taken octets told c.args.event event.Closed c.in-Closed.is b) out none,
      refl,
    ))

pub returns-in-NeedMore-clause-stores : goal.returns-in-NeedMore-clause-stores
returns-in-NeedMore-clause-stores c = λ old piece octets told b.
    silent-stores old (channel_in c.args.self.now) c.args.moment piece c.args.taken octets told c.args.services.now c.silent.result
    None c.args.written.now c.silent.ensures.taken c.silent.ensures.out c.silent.ensures.end c.requires.empty
    (stores-quiet old (channel_in c.args.self.now) c.args.moment piece c.args.taken octets told c.args.services.now
    (event-as old (channel_in c.args.self.now) c.args.moment piece c.args.taken octets told c.args.event event.NeedMore
    c.in-NeedMore.is b))

pub returns-in-Send-clause-stores : goal.returns-in-Send-clause-stores
returns-in-Send-clause-stores c = λ old piece octets told b.
    let said : Step = record { taken = c.args.taken; out = c.in-Send.out; end = None } in
    saying-stores old (channel_in c.args.self.now) c.args.moment piece c.args.taken octets told c.args.services.now c.saying.result
    said c.args.written.now (channel_in c.args.self.now) c.saying.ensures
    (stores-sent old (channel_in c.args.self.now) c.args.moment piece c.args.taken octets told c.args.services.now c.in-Send.out
    (event-as old (channel_in c.args.self.now) c.args.moment piece c.args.taken octets told c.args.event (event.Send c.in-Send.out)
    c.in-Send.is b) c.args.written.now c.requires.empty)

pub returns-in-Ok-clause-stores : goal.returns-in-Ok-clause-stores
returns-in-Ok-clause-stores c = λ old piece octets told b.
    let said : Step = record { taken = c.args.taken; out = c.in-Ok.told.out; end = None } in
    let there = event-as old (channel_in c.args.self.now) c.args.moment piece c.args.taken octets told c.args.event
    (event.Asked c.in-Asked.id c.in-Asked.message) c.in-Asked.is b in
    saying-stores old (channel_in c.args.self.now) c.args.moment piece c.args.taken octets told c.args.services.now
    c.saying-in-Ok.result said c.reply_to.new.written (channel_in c.reply_to.new.self) c.saying-in-Ok.ensures
    (stores-replied old (channel_in c.args.self.now) c.args.moment piece c.args.taken octets told c.args.services.now c.in-Asked.id
    c.in-Asked.message (channel_in c.reply_to.new.self) c.in-Ok.told.out.items there c.reply_to.new.written
    (c.in-Ok.ensures.sent (octets ++ take c.args.taken piece) (told ++ given_up there.quiet) there.answers.1.0.token there.answers.1.0.goes).0
    c.in-Ok.ensures.stored)

pub returns-in-Closed-clause-stores : goal.returns-in-Closed-clause-stores
returns-in-Closed-clause-stores c = λ old piece octets told b.
    silent-stores old (channel_in c.args.self.now) c.args.moment piece c.args.taken octets told c.args.services.now
    c.silent-step.result (Some ending.Closed) c.args.written.now c.silent-step.ensures.taken c.silent-step.ensures.out c.silent-step.ensures.end
    c.requires.empty
    (λ out none written nothing. nothing)

pub returns-in-Ok-clause-endpoint : goal.returns-in-Ok-clause-endpoint
returns-in-Ok-clause-endpoint c = left_stays c.args.services.now c.reply_to.new.services c.args.moment (concat c.in-Asked.message) c.in-Ok.ensures.state

pub returns-in-Ok-clause-ids : goal.returns-in-Ok-clause-ids
returns-in-Ok-clause-ids c = left_ids c.args.services.now c.reply_to.new.services c.args.moment (concat c.in-Asked.message) c.in-Ok.ensures.state

pub returns-in-Ok-clause-memory_limit : goal.returns-in-Ok-clause-memory_limit
returns-in-Ok-clause-memory_limit c = left_limit c.args.services.now c.reply_to.new.services c.args.moment (concat c.in-Asked.message) c.in-Ok.ensures.state

pub returns-in-Err-clause-memory_limit : goal.returns-in-Err-clause-memory_limit
returns-in-Err-clause-memory_limit c = broken_limit c.args.services.now c.reply_to.new.services c.args.moment (concat c.in-Asked.message)
    c.in-Err.ensures.broken

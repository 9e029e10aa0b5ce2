use Rattle.ua_server.specs.Served.{channel_in}
use Rattle.ua_server.specs.declared.step.StepFault.TheVariants as step_fault
use Rattle.ua_server.proofs.Bounds.{same-fault}
use Rattle.ua_server.proofs.Nows.{now-without}
use Rattle.ua_server.proofs.server.Server.step_telling.Goals as goal

pub returns-in-Err-clause-starved : goal.returns-in-Err-clause-starved
returns-in-Err-clause-starved c = λ octets told g fails.
    c.in-Err.ensures.starved octets told g (same-fault c.in-Err.fault step_fault.OutOfMemory fails)

pub returns-in-Ok-clause-now : goal.returns-in-Ok-clause-now
returns-in-Ok-clause-now c = λ octets told g.
    let found = c.in-Ok.found in
    now-without (channel_in c.args.self.now) (channel_in c.advance.new.self) c.args.moment c.args.piece.now found.step.taken found.step.out.items octets told
    c.args.services.now c.advance.new.services found.answered found.request found.step.end (c.in-Ok.ensures.now octets told g)

use Rattle.std.proofs.Common.{ℕ, ◌+◌, ◌*◌, List, Ok, Err, Some, refl, ap, subst}
use Rattle.ua_frame.specs.Hello.{hello_in}
use Rattle.ua_channel.specs.Content.{opening_of}
use Rattle.ua_channel.specs.Content.Content.{Closes, Greets, Opens}
use Rattle.ua_channel.specs.declared.server.Phase.TheVariants.{Waiting, Greeted, Open}
use Rattle.ua_channel.specs.inside.ServerParts.{AgreesTo, JudgesHello}
use Rattle.ua_channel.proofs.Carried.{content_clo, content_hel, content_opn}
use Rattle.ua_channel.proofs.Ends.{bound_kept}
use Rattle.ua_channel.proofs.Frames.{clo_taken, hel_only, hel_taken, opn_only, place, refuses, refuses_hello, running_judged, was}
use Rattle.ua_channel.proofs.server_rules.ServerRules.judge.Goals as goal

pub returns-in-Ok-clause-judges : goal.returns-in-Ok-clause-judges
returns-in-Ok-clause-judges c = λ before h bound_is let_in.
    clo_taken c.args.self.now before c.args.frame c.args.bound.now bound_is c.read_chunk.result c.in-Clo.is c.read_chunk.ensures.found
    (c.in-Ok.ensures c.args.self.now.limits before (was c.args.self.now.limits before c.args.phase.now (Open c.in-Open.running) c.in-Open.is h))

pub returns-in-Clo-clause-judges : goal.returns-in-Clo-clause-judges
returns-in-Clo-clause-judges c = λ before h bound_is let_in.
    refuses c.args.self.now.limits c.args.self.now.channel before c.args.frame (Closes c.read_chunk.result) c.in-Err.fault
    (content_clo c.args.frame c.read_chunk.result c.in-Clo.is c.read_chunk.ensures.found)
    (c.in-Err.ensures c.args.self.now.limits before (was c.args.self.now.limits before c.args.phase.now (Open c.in-Open.running) c.in-Open.is h))

pub returns-in-Open : goal.returns-in-Open
returns-in-Open c = record {
  judges = λ before h bound_is let_in.
      c.on_running.ensures before c.args.bound.now (was c.args.self.now.limits before c.args.phase.now (Open c.in-Open.running) c.in-Open.is h) bound_is
      (place c.args.phase.now (Open c.in-Open.running) c.args.frame.kind c.in-Open.is let_in);
  failed = bound_kept c.on_running.result c.args.bound.now;
}

pub returns-in-Ok-judge_hello-clause-judges : goal.returns-in-Ok-judge_hello-clause-judges
returns-in-Ok-judge_hello-clause-judges c = λ before h bound_is let_in.
    hel_taken c.args.self.now before c.args.frame _ c.in-Ok-judge_hello.agreement
    (hel_only c.args.frame.kind (place c.args.phase.now Waiting c.args.frame.kind c.in-Waiting.is let_in))
    (was c.args.self.now.limits before c.args.phase.now Waiting c.in-Waiting.is h)
    (ap (λ (n : ℕ). n + 4 * c.args.self.now.limits.max_message_size) c.receive_size.ensures.size)
    (subst (λ (t : List ℕ). AgreesTo c.args.self.now.limits t c.in-Ok-judge_hello.agreement) c.deref.ensures c.in-Ok-judge_hello.ensures)

pub returns-in-Waiting-clause-judges : goal.returns-in-Waiting-clause-judges
returns-in-Waiting-clause-judges c = λ before h bound_is let_in.
    refuses c.args.self.now.limits c.args.self.now.channel before c.args.frame (Greets (hello_in c.args.frame.body)) c.in-Err-judge_hello.fault
    (content_hel c.args.frame (hel_only c.args.frame.kind (place c.args.phase.now Waiting c.args.frame.kind c.in-Waiting.is let_in)))
    (refuses_hello c.args.self.now.limits c.args.self.now.channel before c.args.frame.body c.in-Err-judge_hello.fault
    (subst (λ (t : List ℕ). JudgesHello c.args.self.now.limits t (Err c.in-Err-judge_hello.fault)) c.deref.ensures c.in-Err-judge_hello.ensures))

pub returns-in-Ok-open-clause-judges : goal.returns-in-Ok-open-clause-judges
returns-in-Ok-open-clause-judges c = λ before h bound_is let_in.
    running_judged c.args.self.now before c.args.frame c.args.bound.now bound_is c.in-Ok-open.running (Opens (opening_of c.args.frame.body))
    (Ok (Some c.in-Ok-open.event))
    (content_opn c.args.frame
    (opn_only c.in-Greeted.agreement.ack.receive_buffer_size c.args.frame.kind
    (place c.args.phase.now (Greeted c.in-Greeted.agreement) c.args.frame.kind c.in-Greeted.is let_in))) refl
    (c.in-Ok-open.ensures before (was c.args.self.now.limits before c.args.phase.now (Greeted c.in-Greeted.agreement) c.in-Greeted.is h))

pub returns-in-Greeted-clause-judges : goal.returns-in-Greeted-clause-judges
returns-in-Greeted-clause-judges c = λ before h bound_is let_in.
    refuses c.args.self.now.limits c.args.self.now.channel before c.args.frame (Opens (opening_of c.args.frame.body)) c.in-Err-open.fault
    (content_opn c.args.frame
    (opn_only c.in-Greeted.agreement.ack.receive_buffer_size c.args.frame.kind
    (place c.args.phase.now (Greeted c.in-Greeted.agreement) c.args.frame.kind c.in-Greeted.is let_in)))
    (c.in-Err-open.ensures before (was c.args.self.now.limits before c.args.phase.now (Greeted c.in-Greeted.agreement) c.in-Greeted.is h))

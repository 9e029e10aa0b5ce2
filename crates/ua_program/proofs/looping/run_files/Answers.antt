use Rattle.std.proofs.Common.{rules, None, Some, inr}
use Rattle.ua_program.proofs.Loops.{looped_of}
use Rattle.ua_program.proofs.looping.run_files.Goals as goal

pub returns-in-None-clause-looped : goal.returns-in-None-clause-looped
returns-in-None-clause-looped g c =
    looped_of c.args.asked.now.plain c.args.asked.now.names None c.deref.result.now _ _ _ _ _ _ _ c.in_ok-nodes.ensures.nodes c.in_ok-looped.ensures.ran
    (search rules) (search rules) (search rules) c.in_ok-say_lines.ensures.said

pub returns-clause-stopped : goal.returns-clause-stopped
returns-clause-stopped g c = inr (inr (record {
  fault = c.in-Some.fault;
  stop_is = search rules;
  looped = looped_of c.args.asked.now.plain c.args.asked.now.names (Some c.in-Some.fault) c.deref.result.now _ _ _ _ _ _ _ c.in_ok-nodes.ensures.nodes
      c.in_ok-looped.ensures.ran (search rules) (search rules) (search rules) c.in_ok-say_lines.ensures.said;
}))

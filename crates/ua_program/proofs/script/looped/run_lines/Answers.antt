use Rattle.std.proofs.Common.{◌∙◌, ap, rules}
use Rattle.std.specs.List.{list_any}
use Rattle.ua_program.specs.ScriptPrinted.{is_bad_reply, is_bad_told}
use Rattle.ua_program.proofs.ScriptTold.{any_told}
use Rattle.ua_program.proofs.script.looped.run_lines.Goals as goal

pub returns-clause-up : goal.returns-clause-up
returns-clause-up c = c.in_ok-transcript.ensures.up_is

pub returns-clause-down : goal.returns-clause-down
returns-clause-down c = c.in_ok-transcript.ensures.down_is

pub returns-clause-bad : goal.returns-clause-bad
returns-clause-bad c = c.are_bad-has_bad.ensures ∙ ap (list_any is_bad_reply) c.deref.ensures.value ∙ any_told c.in_ok-transcript.transcript.replies.items
    ∙ ap (list_any is_bad_told) c.in_ok-transcript.ensures.replies_are

pub returns-clause-lines : goal.returns-clause-lines
returns-clause-lines c = record { nodes = c.args.nodes; lines = c.args.lines.now; is = search rules }

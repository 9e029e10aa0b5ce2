use Rattle.std.proofs.Common.{length, lit<, arith}
use Rattle.std.proofs.lemmas.Iterator.Consumers.{YieldsList-turn, YieldsList-end}
use Rattle.std.proofs.lemmas.Iterator.Splits.{YieldsList-from_str_split}
use Rattle.std.proofs.lemmas.List.{length_push}
use Rattle.ua_nodes.proofs.Files.{turn_more, turn_fault, turns_end, count_fits}
use Rattle.ua_nodes.proofs.SoundFile.{file_sound}
use Rattle.ua_nodes.proofs.table.NodeTable.load.Goals as goal

pub overflow_add-number : goal.overflow_add-number
overflow_add-number c =
    let at = c.loop-line in
    let t = YieldsList-turn (YieldsList-from_str_split 10 c.args.text.now (lit< tt) (cc) (cc) (cc)) at.yielded _ at.yielded_by _ _ c.in-Some.line c.in-Some.is
    c.next.ensures.steps in
    let few = count_fits c.args.text.now at.number (length at.yielded) c.in-Some.line.now at.invariant.0 t in
    omega arith

pub loop-line-preserved : goal.loop-line-preserved
loop-line-preserved c =
    let at = c.loop-line in
    let t = YieldsList-turn (YieldsList-from_str_split 10 c.args.text.now (lit< tt) (cc) (cc) (cc)) at.yielded _ at.yielded_by _ _ c.in-Some.line c.in-Some.is
    c.next.ensures.steps in
    let adds = rw c.without_return.ensures at c.in_default.ensures.adds in (
      (let long = length_push at.yielded c.in-Some.line in let was = at.invariant.0 in omega arith),
      turn_more c.args.text.now at.number (length at.yielded) c.in-Some.line.now at.table c.add_line.new.self at.invariant.0 t at.invariant.1 adds,
    )

pub returns-in-Err-clause-fault : goal.returns-in-Err-clause-fault
returns-in-Err-clause-fault c =
    let at = c.loop-line in
    let t = YieldsList-turn (YieldsList-from_str_split 10 c.args.text.now (lit< tt) (cc) (cc) (cc)) at.yielded _ at.yielded_by _ _ c.in-Some.line c.in-Some.is
    c.next.ensures.steps in
    let refuses = rw c.without_return.ensures at c.in-Err.ensures.refuses in
    rw c.at.ensures (turn_fault c.args.text.now at.number (length at.yielded) c.in-Some.line.now at.table c.in-Err.fault at.invariant.0 t at.invariant.1
    refuses)

pub returns-clause-nodes : goal.returns-clause-nodes
returns-clause-nodes c =
    let at = c.loop-line in
    let t = YieldsList-end (YieldsList-from_str_split 10 c.args.text.now (lit< tt) (cc) (cc) (cc)) at.yielded _ at.yielded_by _ _ c.in-None.is
    c.next.ensures.steps in
    turns_end c.args.text.now at.number (length at.yielded) at.table at.invariant.0 t.1 at.invariant.1

pub returns-clause-sound : goal.returns-clause-sound
returns-clause-sound c = file_sound c.args.text.now c.loop-line.table c.utf8.text (returns-clause-nodes c)

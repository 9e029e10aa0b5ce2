use Rattle.ua_program.proofs.blame.bad_node.Goals as goal

pub returns-then-branch : goal.returns-then-branch
returns-then-branch c = c.in_ok-is_no_node.ensures c.if-branch.true

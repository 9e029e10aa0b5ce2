use Rattle.ua_builtin.proofs.node_text.parse_guid.Goals as goal

pub returns-in-Err : goal.returns-in-Err
returns-in-Err c = λ g h. let wrong = c.in-Err.ensures.ok.1 (g.uuid, h.1) in absurd cc

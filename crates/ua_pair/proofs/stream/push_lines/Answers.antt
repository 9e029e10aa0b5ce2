use Rattle.std.proofs.Common.{[]}
use Rattle.ua_pair.proofs.Dissections.{lines_at_once, told_extends}
use Rattle.ua_pair.proofs.stream.push_lines.Goals as goal

pub returns-clause-lines : goal.returns-clause-lines
returns-clause-lines c =
    lines_at_once c.finish.result c.args.options c.args.octets.now _ _ _ c.take.new.self
    (c.in_ok-take.ensures.told c.args.options [] [] c.new-dissector.ensures) c.finish.ensures.last

pub returns-clause-err : goal.returns-clause-err
returns-clause-err c =
    told_extends c.finish.result c.args.options c.args.octets.now _ _ _ c.take.new.self
    (c.in_ok-take.ensures.told c.args.options [] [] c.new-dissector.ensures) c.finish.ensures.err

use Rattle.ua_builtin.proofs.Texts.{cut_is}
use Rattle.ua_builtin.proofs.node_text.cut_at_semicolon.Goals as goal

pub returns : goal.returns
returns c = cut_is c.args.text.now c.split_once.result c.split_once.ensures.cases

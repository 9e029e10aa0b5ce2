use Rattle.std.proofs.Common.{lit<, refl}
use Rattle.ua_nodes.proofs.Pieces.{pieces_once}
use Rattle.ua_answers.proofs.Steps.{cut_behind}
use Rattle.ua_answers.proofs.script.split_range.Goals as goal

pub returns : goal.returns
returns c =
    rw c.unwrap_or.ensures
    (cut_behind c.args.rest.now c.split_once.result _ refl refl (pieces_once 9 c.args.rest.now c.split_once.result (lit< tt) c.split_once.ensures.cases))

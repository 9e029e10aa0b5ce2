use Rattle.std.proofs.Common.{◌∙◌, sym}
use Rattle.ua_frame.proofs.Fronts.{header_frame}
use Rattle.ua_frame.proofs.header.make_frame.Goals as goal

pub returns-clause-sized : goal.returns-clause-sized
returns-clause-sized c =
    (header_frame c.args.header.now c.args.body c.unwrap-kind.result c.requires.head (sym c.read_kind.ensures ∙ c.unwrap-kind.ensures) c.requires.sized).1

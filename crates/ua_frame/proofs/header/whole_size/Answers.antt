use Rattle.std.proofs.Common.{sym, ◌∙◌, arith}
use Rattle.ua_frame.proofs.Fragments.{no_fault, begins_whole}
use Rattle.ua_frame.proofs.header.whole_size.Goals as goal

pub returns : goal.returns
returns c =
    begins_whole c.args.gate.now c.args.piece.now c.read_size-size.result (omega (arith, c.if-piece-lt-HEADER_LEN.false)) c.if-piece-size.false
    (sym c.judge.ensures ∙ no_fault c.judge.result (sym c.is_some.ensures ∙ c.if-is_some.false)) c.read_size-size.ensures

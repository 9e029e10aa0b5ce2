use Rattle.ua_frame.proofs.Readers.{takes_as}
use Rattle.ua_frame.proofs.reader.FrameReader.advance.Goals as goal

pub returns : goal.returns
returns c =
    takes_as c.args.self.now c.self.inside.unfinished c.take-taken.new.self c.self.inside.failed c.is_err-self-inside.result c.args.piece.now
    c.take-taken.result c.self.view_is c.if-self.false c.is_err-self-inside.ensures.value
    c.take-taken.ensures.makes c.take-taken.ensures.gate

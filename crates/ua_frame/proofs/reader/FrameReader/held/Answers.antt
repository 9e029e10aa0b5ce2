use Rattle.std.proofs.Common.{ap}
use Rattle.ua_frame.specs.Reader.{Reader}
use Rattle.ua_frame.proofs.Parts.{held_below}
use Rattle.ua_frame.proofs.reader.FrameReader.held.Goals as goal

pub returns-clause-bound : goal.returns-clause-bound
returns-clause-bound c = held_below c.self.inside.unfinished c.args.self.now.gate c.len.result c.self.invariant (ap (λ (r : Reader). r.gate) c.self.view_is)
    c.len.ensures

use Rattle.ua_frame.specs.Unfinished.{octets_of}
use Rattle.ua_frame.proofs.Parts.{makes_behind}
use Rattle.ua_frame.proofs.unfinished.Unfinished.gather.Goals as goal

pub returns-clause-makes : goal.returns-clause-makes
returns-clause-makes c =
    makes_behind c.args.self.now.gate (octets_of c.args.self.now) (octets_of c.begin.new.self) c.args.piece.now c.in_ok-n.n c.in_ok-n.ensures.within
    c.in_ok-n.ensures.taken c.begin.new.self.gate c.in_ok-n.ensures.gate c.in_ok-m.m c.in_ok-m.frame _ c.in_ok-m.ensures.makes

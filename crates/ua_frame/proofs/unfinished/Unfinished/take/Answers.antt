use Rattle.std.proofs.Common.{take}
use Rattle.ua_frame.proofs.Fragments.{nothing_held, whole_completes, whole_starves}
use Rattle.ua_frame.proofs.Parts.{good_header}
use Rattle.ua_frame.proofs.unfinished.Unfinished.take.Goals as goal

pub read_frame-requires-clause-known : goal.read_frame-requires-clause-known
read_frame-requires-clause-known c = (good_header c.args.self.now.gate (take c.in-Some.size c.args.piece.now) c.in-Some.ensures.good).0

pub returns-in-Ok-clause-makes : goal.returns-in-Ok-clause-makes
returns-in-Ok-clause-makes c = (
  whole_completes c.args.self.now c.requires.kept c.if-self-eq0.true c.args.piece.now c.in-Some.size c.in-Some.ensures c.in-Ok.frame
      c.in-Ok.ensures.octets c.in-Ok.ensures.sized,
  nothing_held c.args.self.now c.requires.kept c.if-self-eq0.true,
)

pub returns-in-Err-clause-makes : goal.returns-in-Err-clause-makes
returns-in-Err-clause-makes c = (
  whole_starves c.args.self.now c.requires.kept c.if-self-eq0.true c.args.piece.now c.in-Some.size c.in-Some.ensures,
  nothing_held c.args.self.now c.requires.kept c.if-self-eq0.true,
)

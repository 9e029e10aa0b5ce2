use Rattle.ua_frame.proofs.RawFrames.{one_framing}
use Rattle.ua_frame.proofs.laws.one_framing.Goals as goal

pub returns : goal.returns
returns c = one_framing

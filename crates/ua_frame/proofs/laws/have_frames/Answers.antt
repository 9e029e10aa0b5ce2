use Rattle.ua_frame.proofs.Readings.{framing}
use Rattle.ua_frame.proofs.laws.have_frames.Goals as goal

pub returns : goal.returns
returns c = framing

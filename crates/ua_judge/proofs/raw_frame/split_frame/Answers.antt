use Rattle.ua_judge.proofs.FramesRead.{split_raw}
use Rattle.ua_judge.proofs.raw_frame.split_frame.Goals as goal

pub returns : goal.returns
returns c =
    split_raw c.args.octets.now c.split_at.result.0.now c.split_at.result.1.now c.size_of-size.result c.size_of-size.ensures c.split_at.ensures.front
    c.split_at.ensures.back c.if-size-lt8.false c.if-octets-size.false

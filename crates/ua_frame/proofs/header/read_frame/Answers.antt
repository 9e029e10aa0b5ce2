use Rattle.std.proofs.Common.{ap, length, arith}
use Rattle.ua_frame.proofs.Fragments.{header_size, header_kind}
use Rattle.ua_frame.proofs.header.read_frame.Goals as goal

pub make_frame-requires-clause-sized : goal.make_frame-requires-clause-sized
make_frame-requires-clause-sized c = header_size c.args.octets.now c.split_at.result.0.now c.in_ok-body.body c.requires.raw c.split_at.ensures.front
    (omega (arith, c.split_at.ensures.back_len, ap length c.in_ok-body.ensures))

pub make_frame-requires-clause-known : goal.make_frame-requires-clause-known
make_frame-requires-clause-known c = header_kind c.args.octets.now c.split_at.result.0.now c.requires.raw c.split_at.ensures.front c.requires.known

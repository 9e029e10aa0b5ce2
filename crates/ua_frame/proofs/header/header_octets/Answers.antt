use Rattle.ua_frame.proofs.Octets.{header_octets-is}
use Rattle.ua_frame.proofs.header.header_octets.Goals as goal

pub returns : goal.returns
returns c = header_octets-is c.args.kind c.octets-name.result c.to_le_bytes-size.result c.args.flag c.args.size c.octets-name.ensures c.to_le_bytes-size.ensures

use Rattle.ua_frame.proofs.Octets.{error_frame-is}
use Rattle.ua_frame.proofs.error.error_frame.Goals as goal

pub returns : goal.returns
returns c = error_frame-is c.args.code.code c.header_octets-header.result c.to_le_bytes-code.result c.header_octets-header.ensures c.to_le_bytes-code.ensures

use Rattle.std.proofs.Common.{◌∙◌}
use Rattle.ua_frame.proofs.Octets.{ack_octets-is}
use Rattle.ua_frame.proofs.ack.ack_octets.Goals as goal

pub returns : goal.returns
returns c = ack_octets-is c.args.ack.now c.copy_from_slice.new.self c.write_u32_into.new.dst (c.copy_from_slice.ensures.after ∙ c.header_octets.ensures)
    c.write_u32_into.ensures

use Rattle.std.proofs.Common.{◌∙◌}
use Rattle.ua_chunk.proofs.AbortOctets.{abort_octets-is}
use Rattle.ua_chunk.proofs.abort.abort_octets.Goals as goal

pub returns : goal.returns
returns c = abort_octets-is c.args.lane.now c.args.sequence c.args.request c.args.code c.copy_from_slice.new.self c.write_u32_into.new.dst
    (c.copy_from_slice.ensures.after ∙ c.header_octets.ensures) c.write_u32_into.ensures

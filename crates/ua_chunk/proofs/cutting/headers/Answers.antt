use Rattle.std.proofs.Common.{◌∙◌}
use Rattle.ua_chunk.proofs.ChunkHeaders.{front_octets-is}
use Rattle.ua_chunk.proofs.cutting.headers.Goals as goal

pub returns : goal.returns
returns c = front_octets-is c.args.lane.now c.args.flag c.octet.result c.args.size c.args.sequence c.args.request c.copy_from_slice.new.self
    c.write_u32_into.new.dst c.octet.ensures (c.copy_from_slice.ensures.after ∙ c.header_octets.ensures) c.write_u32_into.ensures

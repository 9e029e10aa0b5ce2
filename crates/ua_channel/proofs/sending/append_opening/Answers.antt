use Rattle.std.proofs.Common.{arith, refl}
use Rattle.ua_channel.proofs.OpeningFrames.{opening_appended}
use Rattle.ua_channel.proofs.sending.append_opening.Goals as goal

pub returns : goal.returns
returns c =
    opening_appended c.args.channel c.args.sequence c.args.request c.args.len _ c.args.out.now.items c.header_octets.result c.as_bytes.result.now
    c.extend_from_slice.new.self.items c.append.new.out.items c.append-2.new.out.items c.extend_from_slice-2.new.self.items c.append-3.new.out.items
    c.append-4.new.out.items c.append-5.new.out.items c.append-6.new.out.items _
    c.header_octets.ensures (omega arith) c.as_bytes.ensures.value refl c.in_ok-extend_from_slice.ensures.items c.in_ok-append.ensures.ok
    c.in_ok-append-2.ensures.ok c.in_ok-extend_from_slice-2.ensures.items c.in_ok-append-3.ensures.ok c.in_ok-append-4.ensures.ok
    c.in_ok-append-5.ensures.ok c.in_ok-append-6.ensures.ok

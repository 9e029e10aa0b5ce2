use Rattle.std.proofs.Common.{sym}
use Rattle.std.proofs.lemmas.List.{length-take-le}
use Rattle.ua_builtin.specs.Guid.{guid as guid_format}
use Rattle.ua_variant.specs.Leaf.{leaf_at}
use Rattle.ua_variant.specs.Least.{least_octets}
use Rattle.ua_variant.proofs.ValuesRead.{guid_first, same_guid}
use Rattle.ua_variant.proofs.fixed_width.GuidFixedWidth.first.Goals as goal

pub slice_bounds-copy_from_slice-end-2 : goal.slice_bounds-copy_from_slice-end-2
unfolding least_octets
slice_bounds-copy_from_slice-end-2 c = sym (length-take-le 16 c.args.octets.now c.requires.whole)

pub copy_from_slice-requires : goal.copy_from_slice-requires
unfolding least_octets
copy_from_slice-requires c = sym (length-take-le 16 c.args.octets.now c.requires.whole)

pub returns : goal.returns
unfolding leaf_at least_octets guid_format
returns c =
    record { read = guid_first c.args.octets.now _ c.requires.whole (same_guid c.args.octets.now c.from_bytes_le.ensures c.copy_from_slice.ensures.after) }

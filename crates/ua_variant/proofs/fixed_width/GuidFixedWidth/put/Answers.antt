use Rattle.std.proofs.Common.{◌++◌, ap, drop, length, sym, ◌∙◌}
use Rattle.std.proofs.lemmas.List.{length-take-le}
use Rattle.ua_builtin.specs.Guid.{guid as guid_format}
use Rattle.ua_variant.specs.Least.{least_octets}
use Rattle.ua_variant.proofs.fixed_width.GuidFixedWidth.put.Goals as goal

pub slice_bounds-copy_from_slice-end : goal.slice_bounds-copy_from_slice-end
unfolding least_octets
slice_bounds-copy_from_slice-end c = c.requires.whole

pub slice_bounds-copy_from_slice-end-2 : goal.slice_bounds-copy_from_slice-end-2
unfolding least_octets
slice_bounds-copy_from_slice-end-2 c = sym (length-take-le 16 c.args.octets.now c.requires.whole)

pub copy_from_slice-requires : goal.copy_from_slice-requires
unfolding least_octets
copy_from_slice-requires c = length-take-le 16 c.args.octets.now c.requires.whole ∙ sym (ap length c.to_bytes_le.ensures)

pub returns : goal.returns
unfolding least_octets guid_format
returns c = record { written = ap (λ b. b ++ drop 16 c.args.octets.now) (c.copy_from_slice.ensures.after ∙ c.to_bytes_le.ensures) }

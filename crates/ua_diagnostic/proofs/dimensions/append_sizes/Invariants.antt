use Rattle.std.proofs.Common.{◌≡◌, ◌++◌, take}
use Rattle.ua_diagnostic.specs.Dimensions.{sizes_canonical}
use Rattle.ua_diagnostic.proofs.dimensions.append_sizes.Given as goal

abbrev pub invariant-loop-d : goal.invariant-loop-d
invariant-loop-d l = l.out.items ≡ l.fn.out.items ++ sizes_canonical (take l.d-index l.dims)

use Rattle.std.proofs.Common.{◌≡◌, take, true}
use Rattle.ua_diagnostic.specs.Dimensions.{are_sizes}
use Rattle.ua_diagnostic.proofs.dimensions.are_dimensions.Given as goal

abbrev pub invariant-loop-d : goal.invariant-loop-d
invariant-loop-d l = are_sizes (take l.d-index l.dims) ≡ true

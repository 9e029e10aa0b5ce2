use Rattle.std.proofs.Common.{◌≡◌, min, take}
use Rattle.ua_diagnostic.specs.Dimensions.{product}
use Rattle.ua_diagnostic.proofs.dimensions.product_of.Given as goal

abbrev pub invariant-loop-d : goal.invariant-loop-d
invariant-loop-d l = l.all ≡ min (product (take l.d-index l.dims)) 18446744073709551615

use Rattle.std.proofs.Common.{arith}
use Rattle.ua_variant.proofs.Leaves.{no_leaf}
use Rattle.ua_variant.proofs.records.read_leaf.Goals as goal
use Rattle.ua_variant.proofs.records.read_leaf.Goals.{in_default-via-then-kind-lt1, in_default-via-else-kind-lt1+else-kind-lt12+else-kind-lt23+then-kind-lt26}
use Rattle.ua_variant.proofs.records.read_leaf.Goals.{in_default-via-else-kind-lt1+else-kind-lt12+else-kind-lt23+else-kind-lt26+else-kind-lt32}

pub returns-in_default-clause-exact : goal.returns-in_default-clause-exact
returns-in_default-clause-exact g c =
    no_leaf c.args.kind (g.S.Source.octets c.args.src.now)
    (λ low high.
    elim c.in_default.branch [
      | in_default-via-then-kind-lt1 w ↦ absurd (omega arith)
      | in_default-via-else-kind-lt1+else-kind-lt12+else-kind-lt23+then-kind-lt26 w ↦ absurd
          (omega arith)
      | in_default-via-else-kind-lt1+else-kind-lt12+else-kind-lt23+else-kind-lt26+else-kind-lt32 w ↦ absurd (omega arith)
    ])
    (λ low high.
    elim c.in_default.branch [
      | in_default-via-then-kind-lt1 w ↦ absurd (omega arith)
      | in_default-via-else-kind-lt1+else-kind-lt12+else-kind-lt23+then-kind-lt26 w ↦ absurd
          (omega arith)
      | in_default-via-else-kind-lt1+else-kind-lt12+else-kind-lt23+else-kind-lt26+else-kind-lt32 w ↦ absurd (omega arith)
    ])

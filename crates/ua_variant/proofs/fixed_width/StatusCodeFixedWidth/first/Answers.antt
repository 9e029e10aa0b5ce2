use Rattle.std.proofs.Common.{ap, arith}
use Rattle.ua_builtin.specs.Status.{of_code, status_code as status_code_format}
use Rattle.ua_variant.specs.Data.{status_code}
use Rattle.ua_variant.specs.Leaf.{leaf_at}
use Rattle.ua_variant.specs.Least.{least_octets}
use Rattle.ua_variant.proofs.ValuesRead.{made_first}
use Rattle.ua_variant.proofs.fixed_width.StatusCodeFixedWidth.first.Goals as goal

pub read_u32-requires : goal.read_u32-requires
unfolding least_octets
read_u32-requires c = c.requires.whole

pub returns : goal.returns
unfolding leaf_at least_octets status_code_format
returns c =
    record {
      read = made_first 4 of_code status_code c.args.octets.now (of_code c.read_u32.result) c.requires.whole (λ i. omega (arith, c.type_inv.octets i))
          (ap of_code c.read_u32.ensures);
    }

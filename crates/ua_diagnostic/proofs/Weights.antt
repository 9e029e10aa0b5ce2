-- Numbers that fall: what is in a value counts less than the value, twice over.
use Rattle.std.specs.Prelude.{ℕ, ◌+◌, ◌*◌, ◌≤◌}
use Rattle.std.proofs.Common.{arith}

pub twice_within : (n a : ℕ) → 2 * a + 1 ≤ 2 * (1 + n + a)
twice_within n a = omega arith

pub twice_more : (a : ℕ) → 2 * a + 1 ≤ 2 * (1 + a)
twice_more a = omega arith

pub twice_before : (n a : ℕ) → 2 * a + 1 + 1 ≤ 2 * (1 + a + n)
twice_before n a = omega arith

pub twice_first : (x a b : ℕ) → x ≤ 2 * a + 1 → x ≤ 2 * (a + b) + 1
twice_first x a b h = omega (arith, h)

pub twice_second : (x a b : ℕ) → x ≤ 2 * b + 1 → x ≤ 2 * (a + b) + 1
twice_second x a b h = omega (arith, h)

-- How responses are printed, where the answers alone do not determine the text.
use Rattle.std.specs.Prelude.{◌≡◌, ℕ, List, ◌++◌, length, Option, Some}

-- there are as many answers as were requested, and their lines were appended
pub record HaveLines {A : Type 0} (answers : Option (List A)) (asked : ℕ) (AreLines : List A → List ℕ → Type 0) (old new : List ℕ) : Type 0 where
  pub each : List A
  pub lines : List ℕ
  pub given : answers ≡ Some each
  pub many : length each ≡ asked
  pub added : new ≡ old ++ lines
  pub are : AreLines each lines

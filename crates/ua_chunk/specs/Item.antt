-- What chunks deliver.
use Rattle.std.specs.Prelude.{ℕ, List, Option}
use Rattle.ua_builtin.specs.declared.status_code.StatusCode.{StatusCode}

-- a whole message under its RequestId, or a message that its sender aborted, with the StatusCode
-- and the reason
pub data Item : Type 0 where
  Whole : (id : ℕ) (octets : List ℕ) → Item
  Aborted : (id : ℕ) (code : StatusCode) (reason : Option (List ℕ)) → Item

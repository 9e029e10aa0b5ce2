-- Tables of reasons: the first that holds, as (Bad_DecodingError, false), (Bad_TcpMessageTooLarge,
-- true) gives the second.
use Rattle.std.specs.Prelude.{List, [], ◌∷◌, Bool, if◌then◌else◌, Option, Some, None}

-- the first reason of a table that holds
abbrev pub first_reason : {A : Type 0} → List (A × Bool) → Option A
first_reason [] = None
first_reason (r ∷ rs) = if r.1 then Some r.0 else first_reason rs

-- the first, or the other if there is no first
abbrev pub or_else : {A : Type 0} → Option A → Option A → Option A
or_else None other = other
or_else (Some first) other = Some first

-- a reason by another name
abbrev pub renamed_reason : {A B : Type 0} → (A → B) → A × Bool → B × Bool
renamed_reason name r = (name r.0, r.1)

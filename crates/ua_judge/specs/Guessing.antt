-- What the steps towards the marks of a record without an order come to.
use Rattle.std.specs.Prelude.{◌≡◌, ℕ, suc, ◌==◌, Bool, not, cond, List, [], ◌∷◌, ◌++◌, Option, Some, None}
use Rattle.std.specs.List.{filter, list_any, position}
use Rattle.ua_judge.specs.Agreed.{IsFirst}
use Rattle.ua_judge.specs.Guessed.{first_mark, is_unfinished}
use Rattle.ua_judge.specs.declared.mark.Mark.{Mark}
use Rattle.ua_judge.specs.declared.named.Named.{Named}

-- these are the RequestIds of the messages that frames leave unfinished
abbrev pub AreUnfinished : List ℕ → List (List ℕ) → Type 0
AreUnfinished ids before = (id : ℕ) → list_any (λ held. held == id) ids ≡ is_unfinished id before

-- RequestIds without one of them
abbrev pub unfinished_without : ℕ → List ℕ → List ℕ
unfinished_without id ids = filter (λ held. not (held == id)) ids

-- a RequestId, if more chunks of its message follow
abbrev pub id_if : Bool → ℕ → List ℕ
id_if more id = cond more (id ∷ []) []

-- the RequestIds of unfinished messages, after a chunk of this one
abbrev pub ids_after : Bool → ℕ → List ℕ → List ℕ
ids_after more id ids = unfinished_without id ids ++ id_if more id

-- the request has this RequestId
abbrev pub is_request_of : ℕ → Named → Bool
is_request_of id request = request.number == id

-- how many there are up to an index, that one among them
abbrev pub counted_up_to : Option ℕ → ℕ
counted_up_to None = 0
counted_up_to (Some i) = suc i

-- how many of the requests there are up to the first of this RequestId, that one among them; 0 if there
-- is none
abbrev pub count_to_id : ℕ → List Named → ℕ
count_to_id id requests = counted_up_to (position (is_request_of id) requests)

-- the mark of the first frame of a client, if there is one
pub record IsBegunWith (up : List ℕ) (marks : List Mark) : Type 0 where
  pub first : Option (List ℕ)
  pub is_first : IsFirst up first
  pub marks_are : marks ≡ first_mark first

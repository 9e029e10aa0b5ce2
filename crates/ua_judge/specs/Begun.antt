-- What is kept of the unfinished messages of a client, while its frames are gone over.
use Rattle.std.specs.Prelude.{◌≡◌, ℕ, ◌==◌, Bool, not, cond, List, [], ◌∷◌, ◌++◌, Option}
use Rattle.std.specs.List.{filter}
use Rattle.ua_services.specs.declared.request.RequestKind.{RequestKind}
use Rattle.ua_judge.specs.declared.requests.Begun.{Begun}
use Rattle.ua_judge.specs.Requests.{request_message_kind}

-- the kind that is kept of the message of a RequestId, or else this one
abbrev pub begun_kind : ℕ → List Begun → Option RequestKind → Option RequestKind
begun_kind number [] own = own
begun_kind number (b ∷ bs) own = cond (b.number == number) b.kind (begun_kind number bs own)

-- the message of this RequestId and kind, if more chunks of it follow
abbrev pub begun_if : Bool → ℕ → Option RequestKind → List Begun
begun_if more number kind = cond more (record { number = number; kind = kind } ∷ []) []

-- what is kept after a chunk of this RequestId, whose message is of this kind
abbrev pub begun_after : Bool → ℕ → Option RequestKind → List Begun → List Begun
begun_after more number kind begun = filter (λ (b : Begun). not (b.number == number)) begun ++ begun_if more number kind

-- what is kept is right after these frames: the kind of each message that they leave unfinished
abbrev pub AreBegun : List Begun → List (List ℕ) → Type 0
AreBegun begun before = (number : ℕ) (own : Option RequestKind) → begun_kind number begun own ≡ request_message_kind before number own

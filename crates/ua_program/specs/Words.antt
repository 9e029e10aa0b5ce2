-- What a run makes of its words.
use Rattle.std.specs.Prelude.{◌≡◌, ◌⊎◌, ◌++◌, Any, ℕ, Bool, true, cond, List, Option, None, Some, codes}
use Rattle.std.specs.Str.{bytes_eq}
use Rattle.ua_services.specs.SessionRequests.{local_url}
use Rattle.ua_session.specs.declared.policy.TokenPolicy.{TokenPolicy}
use Rattle.ua_session.specs.declared.policy.TokenPolicy.TheVariants.{Named, Auto}
use Rattle.ua_answers.specs.PlainLines.{exact_typed}
use Rattle.ua_words.specs.declared.arguments.Task.{Task}
use Rattle.ua_words.specs.declared.arguments.Task.TheVariants.{Dissect, Judge, Read, Write, Ask, Loop}

-- the URL by which a server on a port of this machine is called, without its path: the one that is
-- given, else that of the port
abbrev pub base_url : ℕ → Option (List ℕ) → Option (List ℕ)
base_url port None = Some (local_url port)
base_url port (Some url) = Some url

-- a URL with a path after it
abbrev pub with_path : Option (List ℕ) → List ℕ → Option (List ℕ)
with_path None path = None
with_path (Some url) path = Some (url ++ path)

-- a word requests all connections, in one of the two ways in which `--connections all` is written, or
-- that the node file is read again: faults are then told after which the command goes on
abbrev pub MayTell : {S : Type 0} → (S → List ℕ) → List S → Type 0
MayTell text words = Any (λ word. text word ≡ codes "all") words ⊎ Any (λ word. text word ≡ codes "--connections=all") words
    ⊎ Any (λ word. text word ≡ codes "--live") words

-- a word requests reasons
abbrev pub SaysWhy : {S : Type 0} → (S → List ℕ) → List S → Type 0
SaysWhy text words = Any (λ word. text word ≡ codes "--why") words

-- a bad StatusCode, or a frame that is rejected, has a status of its own
abbrev pub IsStrict : Task → Type 0
IsStrict (Dissect asked) = asked.strict ≡ true
IsStrict (Judge asked) = asked.strict ≡ true
IsStrict (Read asked) = asked.strict ≡ true
IsStrict (Write asked) = asked.strict ≡ true
IsStrict (Ask asked) = asked.strict ≡ true
IsStrict (Loop asked) = asked.strict ≡ true
IsStrict other = ⊥

-- the text of a value after its type: unchanged, or for the human-readable form with bit patterns
-- and ticks in place of decimals and times
abbrev pub value_given : Bool → List ℕ → List ℕ → List ℕ
value_given plain kind text = cond plain (exact_typed kind text) text

-- the token policy that a word names: with `auto` the one that the server offers, else the one of
-- this id
abbrev pub policy_named : List ℕ → TokenPolicy
policy_named word = cond (bytes_eq word (codes "auto")) Auto (Named (Some word))

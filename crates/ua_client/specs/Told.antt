-- What a client is told of a call.
use Rattle.std.specs.Prelude.{◌≡◌, ◌==◌, ℕ, Bool, true, false, List, []}
use Rattle.std.specs.List.{filter}
use Rattle.ua_channel.specs.ClientTold.{ClientTold}
use Rattle.ua_channel.specs.ClientTold.ClientTold.{Agreed, Opened, Answered, GaveUp, Renewed}

-- it is told of the call with this RequestId: the reply to it, or that the server aborted it
abbrev pub is_told_of : ℕ → ClientTold → Bool
is_told_of id (Agreed ack) = false
is_told_of id (Opened channel token) = false
is_told_of id (Answered n octets) = n == id
is_told_of id (GaveUp n code) = n == id
is_told_of id (Renewed token) = false

-- all of this that is told of a call, in order
abbrev pub told_of : ℕ → List ClientTold → List ClientTold
told_of id told = filter (is_told_of id) told

-- nothing was told before of a call of which this is told
abbrev pub IsFirstOf : List ClientTold → ClientTold → Type 0
IsFirstOf told t = (id : ℕ) → is_told_of id t ≡ true → told_of id told ≡ []

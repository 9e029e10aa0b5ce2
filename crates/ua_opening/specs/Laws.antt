-- What holds of the bodies of every kind of message.
use Rattle.std.specs.Prelude.{◌≡◌, ℕ, List, IsTrue}
use Rattle.ua_builtin.specs.Format.{Format}
use Rattle.ua_opening.specs.Message.{IsBody}

-- the canonical body of a message is the body of that message, and of no other
abbrev pub BodyReadsBack : {A : Type 0} → Format A → Type 0
BodyReadsBack {A = A} format = (m : A) → IsTrue (format.encodable m) → IsBody format m (format.canonical m)
    × ((w : A) → IsBody format w (format.canonical m) → w ≡ m)

-- no bytes are the body of two messages
abbrev pub OneMessage : {A : Type 0} → Format A → Type 0
OneMessage {A = A} format = (m w : A) (octets : List ℕ) → IsBody format m octets → IsBody format w octets → m ≡ w

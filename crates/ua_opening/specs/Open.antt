-- The response to an OpenSecureChannel request.
use Rattle.std.specs.Prelude.{ℕ, List, Option, Some, None}
use Rattle.ua_opening.specs.Header.{service_fault}
use Rattle.ua_opening.specs.SecureChannel.{open_response}
use Rattle.ua_opening.specs.Message.{IsBody, message, body_of}
use Rattle.ua_opening.specs.declared.header.ServiceFault.{ServiceFault}
use Rattle.ua_opening.specs.declared.secure_channel.OpenResponse.{OpenResponse}
use Rattle.ua_opening.specs.declared.open.OpenAnswer.{OpenAnswer}
use Rattle.ua_opening.specs.declared.open.OpenAnswer.TheVariants.{Open, Fault}

-- the bytes are the body of this answer: of an OpenSecureChannel response, or of a ServiceFault
abbrev pub IsOpenAnswer : OpenAnswer → List ℕ → Type 0
IsOpenAnswer (Open m) octets = IsBody (message 449 open_response) m octets
IsOpenAnswer (Fault m) octets = IsBody (message 397 service_fault) m octets

-- no answer has these bytes as its body
abbrev pub IsNoOpenAnswer : List ℕ → Type 0
IsNoOpenAnswer octets = (answer : OpenAnswer) → IsOpenAnswer answer octets → ⊥

-- a fault, if there is one
abbrev pub fault_found : Option ServiceFault → Option OpenAnswer
fault_found None = None
fault_found (Some m) = Some (Fault m)

-- a response, or else a fault
abbrev pub answer_found : Option OpenResponse → Option ServiceFault → Option OpenAnswer
answer_found None fault = fault_found fault
answer_found (Some m) fault = Some (Open m)

-- the answer whose body the bytes are
abbrev pub answer_read : List ℕ → Option OpenAnswer
answer_read octets = answer_found (body_of (message 449 open_response) octets) (body_of (message 397 service_fault) octets)

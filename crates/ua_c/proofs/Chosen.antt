-- What is chosen in a response.
use Rattle.std.specs.Prelude.{string_bytes}
use Rattle.std_alloc.specs.declared.string.String.{String}
use Rattle.std.proofs.Common.{◌≡◌, ℕ, Global, List, Option, Some, Result, Ok, Err, IfOk}
use Rattle.ua_services.specs.Policy.{array_items}
use Rattle.ua_services.specs.declared.response.Response.{Response}
use Rattle.ua_structures.specs.declared.discovery.EndpointDescription.{EndpointDescription}
use Rattle.ua_answers.specs.Replies.{endpoints_in}
use Rattle.ua_c.specs.Choosing.{IsChosenAmong, IsPolicy}

-- what is chosen among its endpoints is chosen in it
pub chosen_in : (r : Response) (list : Option (List EndpointDescription)) (result : Result (String Global) ℕ) → endpoints_in r ≡ Some list
    → IfOk result (λ text. IsChosenAmong (array_items list) (string_bytes text)) → IfOk result (λ text. IsPolicy r (string_bytes text))
chosen_in r list (Ok text) has chosen = record { list = list; given = has; is = chosen }
chosen_in r list (Err status) has chosen = tt

-- The token policy that a client uses, from the endpoints in a response.
use Rattle.std.specs.Prelude.{◌≡◌, ◌⊎◌, ℕ, List, Option, Some, None, Result, Ok, Err}
use Rattle.ua_services.specs.Policy.{chosen_id, array_items}
use Rattle.ua_services.specs.declared.response.Response.{Response}
use Rattle.ua_structures.specs.declared.discovery.EndpointDescription.{EndpointDescription}
use Rattle.ua_answers.specs.Replies.{endpoints_in}
use Rattle.ua_c.specs.Responses.{IsNoResponse, OfResponse, TellsNone}
use Rattle.ua_c.specs.Status.{no_memory, no_policy}

-- bytes are the PolicyId of the first anonymous token policy of the first endpoint that fits; none
-- if it is null
pub record IsChosenAmong (endpoints : List EndpointDescription) (text : List ℕ) : Type 0 where
  pub id : Option (List ℕ)
  pub chosen : chosen_id endpoints ≡ Some id
  pub is : text ≡ array_items id

-- an allocation failed, or no endpoint fits
abbrev pub IsNotChosenAmong : List EndpointDescription → ℕ → Type 0
IsNotChosenAmong endpoints status = (status ≡ no_memory) ⊎ ((status ≡ no_policy) × (chosen_id endpoints ≡ None))

-- the same of the list of a response to GetEndpoints
pub record IsPolicy (r : Response) (text : List ℕ) : Type 0 where
  pub list : Option (List EndpointDescription)
  pub given : endpoints_in r ≡ Some list
  pub is : IsChosenAmong (array_items list) text

-- no endpoint of that list fits
pub record HasNoPolicy (r : Response) : Type 0 where
  pub list : Option (List EndpointDescription)
  pub given : endpoints_in r ≡ Some list
  pub none : chosen_id (array_items list) ≡ None

-- why a response gives none, and the code of a service that failed
abbrev pub ChoosesNone : Response → ℕ → ℕ → Type 0
ChoosesNone r code status = TellsNone (λ other. endpoints_in other ≡ None) r code status ⊎ ((status ≡ no_policy) × (code ≡ 0) × HasNoPolicy r)

-- the PolicyId that the response gives that bytes are the body of, or why there is none
abbrev pub PolicyBy : List ℕ → ℕ → Result (List ℕ) ℕ → Type 0
PolicyBy body code (Ok text) = (code ≡ 0) × OfResponse body (λ r. IsPolicy r text)
PolicyBy body code (Err status) = (IsNoResponse body status × (code ≡ 0)) ⊎ OfResponse body (λ r. ChoosesNone r code status)

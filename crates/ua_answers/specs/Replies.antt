-- How responses are printed.
use Rattle.std.specs.Prelude.{◌≡◌, ◌≢◌, ℕ, Bool, false, List, [], ◌++◌, length, Option, Some, None}
use Rattle.std.specs.List.{flat_map, list_any}
use Rattle.std.specs.Option.{unwrap_or}
use Rattle.ua_builtin.specs.Status.{is_bad, of_code}
use Rattle.ua_builtin.specs.declared.status_code.StatusCode.{StatusCode}
use Rattle.ua_services.specs.declared.response.Response.{Response}
use Rattle.ua_services.specs.declared.response.Response.TheVariants.{GetEndpoints, Read, Write, ServiceFault}
use Rattle.ua_structures.specs.declared.discovery.EndpointDescription.{EndpointDescription}
use Rattle.ua_variant.specs.declared.values.DataValue.{DataValue}
use Rattle.ua_answers.specs.Answers.{endpoint_line}
use Rattle.ua_answers.specs.declared.fault.AnswerFault.{AnswerFault}
use Rattle.ua_answers.specs.declared.fault.AnswerFault.TheVariants.{Service, Unknown, OutOfMemory}
use Rattle.ua_answers.specs.declared.style.EndpointStyle.{EndpointStyle}

-- ---- what a response has

-- the results of a Read
abbrev pub values_in : Response → Option (List DataValue)
values_in (Read m) = m.results
values_in m = None

-- the results of a Write
abbrev pub statuses_in : Response → Option (List StatusCode)
statuses_in (Write m) = m.results
statuses_in m = None

-- the list of a response to GetEndpoints, which may be null
abbrev pub endpoints_in : Response → Option (Option (List EndpointDescription))
endpoints_in (GetEndpoints m) = Some m.endpoints
endpoints_in m = None

-- the code of a ServiceFault
abbrev pub fault_in : Response → Option StatusCode
fault_in (ServiceFault m) = Some m.response_header.service_result
fault_in m = None

-- ---- bad codes

-- an answer to an item of a Read has a bad code; one without a code is Good
abbrev pub is_bad_value : DataValue → Bool
is_bad_value answer = is_bad (unwrap_or answer.status (of_code 0))

-- whether any of them passes
abbrev pub any_in : {A : Type 0} → (A → Bool) → Option (List A) → Bool
any_in test None = false
any_in test (Some items) = list_any test items

-- any result of a Read or a Write has a bad code
abbrev pub has_bad : Response → Bool
has_bad (Read m) = any_in is_bad_value m.results
has_bad (Write m) = any_in is_bad m.results
has_bad m = false

-- ---- what is printed

-- there are as many answers as were requested, and their lines were appended
pub record AreAnswers {A : Type 0} (answers : Option (List A)) (asked : ℕ) (lines : List A → List ℕ) (old new : List ℕ) : Type 0 where
  pub each : List A
  pub given : answers ≡ Some each
  pub many : length each ≡ asked
  pub added : new ≡ old ++ lines each

-- why no answers were printed: the service failed, or their number is not that of the items
-- requested
abbrev pub NoAnswers : {A : Type 0} → Option (List A) → ℕ → Response → AnswerFault → Type 0
NoAnswers answers asked response (Service code) = fault_in response ≡ Some code
NoAnswers {A = A} answers asked response Unknown = (fault_in response ≡ None) × ((each : List A) → answers ≡ Some each → length each ≢ asked)
NoAnswers answers asked response OutOfMemory = Unit {0}

-- the text after a fault: it is unchanged, unless an allocation failed
abbrev pub Leaves : List ℕ → List ℕ → AnswerFault → Type 0
Leaves old new (Service code) = new ≡ old
Leaves old new Unknown = new ≡ old
Leaves old new OutOfMemory = Unit {0}

-- the lines of the list, none if it is null
abbrev pub endpoint_lines : EndpointStyle → Option (List EndpointDescription) → List ℕ
endpoint_lines style None = []
endpoint_lines style (Some endpoints) = flat_map (endpoint_line style) endpoints

-- there is a list, and its lines were appended
pub record AreEndpoints (style : EndpointStyle) (list : Option (Option (List EndpointDescription))) (old new : List ℕ) : Type 0 where
  pub each : Option (List EndpointDescription)
  pub given : list ≡ Some each
  pub added : new ≡ old ++ endpoint_lines style each

-- why no endpoints were printed: the service failed, or the response is of another service
abbrev pub NoEndpoints : Response → AnswerFault → Type 0
NoEndpoints response (Service code) = fault_in response ≡ Some code
NoEndpoints response Unknown = (fault_in response ≡ None) × (endpoints_in response ≡ None)
NoEndpoints response OutOfMemory = Unit {0}

-- What is chosen by a reply.
use Rattle.std.proofs.Common.{◌≡◌, ℕ, List, Option, Some, Result, Ok, Err}
use Rattle.ua_structures.specs.declared.discovery.EndpointDescription.{EndpointDescription}
use Rattle.ua_client.specs.declared.reply.Reply.{Reply}
use Rattle.ua_services.specs.Policy.{array_items}
use Rattle.ua_session.specs.Policy.{ChoosesAmong, ChoosesBy}
use Rattle.ua_session.specs.Replies.{endpoints_of}
use Rattle.ua_session.specs.declared.fault.QuestionFault.{QuestionFault}
use Rattle.ua_session.specs.declared.fault.QuestionFault.TheVariants.{Connection, NoMemory, NoPolicy, Output, Service}

-- what is chosen among the endpoints of a reply is chosen by it
pub chosen_by : (reply : Reply) (list : Option (List EndpointDescription)) (result : Result (Option (List ℕ)) QuestionFault) → endpoints_of reply ≡ Some list
    → ChoosesAmong (array_items list) result → ChoosesBy (Ok reply) result
chosen_by reply list (Ok id) has chooses = (list, has, chooses)
chosen_by reply list (Err NoPolicy) has chooses = (list, has, chooses)
chosen_by reply list (Err NoMemory) has chooses = tt
chosen_by reply list (Err (Service code)) has chooses = absurd chooses
chosen_by reply list (Err (Connection fault)) has chooses = absurd chooses
chosen_by reply list (Err (Output error)) has chooses = absurd chooses

-- The token policy of a server by which a session is begun.
use Rattle.std.specs.Prelude.{ℕ, ◌≡◌, List, Option, Some, None, Result, Ok, Err}
use Rattle.ua_structures.specs.declared.discovery.EndpointDescription.{EndpointDescription}
use Rattle.ua_services.specs.Policy.{chosen_id, array_items}
use Rattle.ua_client.specs.declared.reply.Reply.{Reply}
use Rattle.ua_session.specs.Replies.{IsRefusedBy, endpoints_of}
use Rattle.ua_session.specs.declared.fault.QuestionFault.{QuestionFault}
use Rattle.ua_session.specs.declared.fault.QuestionFault.TheVariants.{Connection, NoMemory, NoPolicy, Output, Service}

-- ---- the choice among endpoints

-- the PolicyId that endpoints give; they give none; or an allocation failed
abbrev pub ChoosesAmong : List EndpointDescription → Result (Option (List ℕ)) QuestionFault → Type 0
ChoosesAmong endpoints (Ok id) = chosen_id endpoints ≡ Some id
ChoosesAmong endpoints (Err NoPolicy) = chosen_id endpoints ≡ None
ChoosesAmong endpoints (Err NoMemory) = Unit {0}
ChoosesAmong endpoints (Err (Service code)) = ⊥
ChoosesAmong endpoints (Err (Connection fault)) = ⊥
ChoosesAmong endpoints (Err (Output error)) = ⊥

-- ---- the choice by a reply

-- by a reply to GetEndpoints: the PolicyId that its list gives; it gives none; or why there is no
-- list; a fault is returned unchanged
abbrev pub ChoosesBy : Result Reply QuestionFault → Result (Option (List ℕ)) QuestionFault → Type 0
ChoosesBy (Ok reply) (Ok id) = (list : Option (List EndpointDescription)) × (endpoints_of reply ≡ Some list) × (chosen_id (array_items list) ≡ Some id)
ChoosesBy (Ok reply) (Err NoPolicy) = (list : Option (List EndpointDescription)) × (endpoints_of reply ≡ Some list) × (chosen_id (array_items list) ≡ None)
ChoosesBy (Ok reply) (Err (Service code)) = IsRefusedBy (endpoints_of reply ≡ None) reply (Service code)
ChoosesBy (Ok reply) (Err (Connection fault)) = IsRefusedBy (endpoints_of reply ≡ None) reply (Connection fault)
ChoosesBy (Ok reply) (Err (Output error)) = ⊥
ChoosesBy (Ok reply) (Err NoMemory) = Unit {0}
ChoosesBy (Err fault) result = result ≡ Err fault

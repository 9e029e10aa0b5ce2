-- The replies to a client's calls: each is what was told under the RequestId of its call.
use Rattle.std.specs.Prelude.{◌≡◌, ◌+◌, ◌<◌, ◌⊎◌, ◌++◌, ℕ, zero, suc, Bool, true, false, is_none}
use Rattle.std.specs.Prelude.{List, [], ◌∷◌, length, slice_set, Option, Some, None, Result, Ok, Err}
use Rattle.std.specs.List.{list_any}
use Rattle.ua_channel.specs.ClientTold.{ClientTold}
use Rattle.ua_channel.specs.ClientTold.ClientTold.{Answered, GaveUp}
use Rattle.ua_opening.specs.Message.{IsBody}
use Rattle.ua_services.specs.Request.{kind_of_request}
use Rattle.ua_services.specs.Response.{response, Answers, kind_of_response}
use Rattle.ua_services.specs.declared.request.Request.{Request}
use Rattle.ua_services.specs.declared.request.RequestKind.{RequestKind}
use Rattle.ua_services.specs.declared.response.Response.{Response}
use Rattle.ua_client.specs.Told.{is_told_of, told_of}
use Rattle.ua_client.specs.declared.fault.ClientFault.{ClientFault}
use Rattle.ua_client.specs.declared.fault.ClientFault.TheVariants as fault
use Rattle.ua_client.specs.declared.reply.Reply.{Reply}
use Rattle.ua_client.specs.declared.reply.Reply.TheVariants.{Response as Responds, Aborted}

-- ---- responses

-- bytes are the body of a response that answers a request of this kind: it is of the request's own
-- kind, or a ServiceFault
-- (OPC 10000-4, 5.3)
abbrev pub IsAnswer : RequestKind → List ℕ → Response → Type 0
IsAnswer kind octets m = IsBody response m octets × Answers (kind_of_response m) kind

-- they are not
abbrev pub IsNoAnswer : RequestKind → List ℕ → Type 0
IsNoAnswer kind octets = (m : Response) → IsAnswer kind octets m → ⊥

-- what bytes are decoded as
abbrev pub ReadsAnswer : RequestKind → List ℕ → Result Response ClientFault → Type 0
ReadsAnswer kind octets (Ok m) = IsAnswer kind octets m
ReadsAnswer kind octets (Err fault.UnknownResponse) = IsNoAnswer kind octets
ReadsAnswer kind octets (Err fault.OutOfMemory) = Unit {0}
ReadsAnswer kind octets (Err other) = ⊥

-- the answer that bytes are was put at this index, or nothing was
abbrev pub PutsAnswer : RequestKind → List ℕ → ℕ → List (Option Reply) → List (Option Reply) → Result (Unit {0}) ClientFault → Type 0
PutsAnswer kind octets place before now (Ok done) = (m : Response) × IsAnswer kind octets m × (now ≡ slice_set before place (Some (Responds m)))
PutsAnswer kind octets place before now (Err fault) = (now ≡ before) × ReadsAnswer kind octets (Err fault)

-- bytes are no answer, or an allocation failed
abbrev pub is_reading_fault : ClientFault → Bool
is_reading_fault fault.UnknownResponse = true
is_reading_fault fault.OutOfMemory = true
is_reading_fault other = false

-- ---- replies

-- the reply to a request of this kind, whose call has this RequestId, is this one that was told
abbrev pub IsReplyBy : RequestKind → ℕ → ClientTold → Reply → Type 0
IsReplyBy kind id t (Responds m) = (octets : List ℕ) × (t ≡ Answered id octets) × IsAnswer kind octets m
IsReplyBy kind id t (Aborted code) = t ≡ GaveUp id code

-- a message that was told under the RequestId of a call is no answer to its request
abbrev pub IsMisanswer : RequestKind → ℕ → ClientTold → Type 0
IsMisanswer kind id t = (octets : List ℕ) × (t ≡ Answered id octets) × IsNoAnswer kind octets

-- the reply to a request is the one thing that was told of its call
abbrev pub IsReplyTo : Request → ℕ → List ClientTold → Reply → Type 0
IsReplyTo request id told reply = (t : ClientTold) × (told_of id told ≡ t ∷ []) × IsReplyBy (kind_of_request request) id t reply

-- each reply is that of its own request, where the calls of the requests have RequestIds from this
-- one on
abbrev pub AreReplies : List Request → ℕ → List ClientTold → List Reply → Type 0
AreReplies [] id told [] = Unit {0}
AreReplies [] id told (reply ∷ replies) = ⊥
AreReplies (request ∷ requests) id told [] = ⊥
AreReplies (request ∷ requests) id told (reply ∷ replies) = IsReplyTo request id told reply × AreReplies requests (id + 1) told replies

-- ---- replies that are still waited for

-- the reply to a request, if there is one: nothing was told of its call, or the reply was
abbrev pub IsSlot : Request → ℕ → List ClientTold → Option Reply → Type 0
IsSlot request id told None = told_of id told ≡ []
IsSlot request id told (Some reply) = IsReplyTo request id told reply

-- the replies to requests, as far as there are any
abbrev pub AreSlots : List Request → ℕ → List ClientTold → List (Option Reply) → Type 0
AreSlots [] id told [] = Unit {0}
AreSlots [] id told (slot ∷ slots) = ⊥
AreSlots (request ∷ requests) id told [] = ⊥
AreSlots (request ∷ requests) id told (slot ∷ slots) = IsSlot request id told slot × AreSlots requests (id + 1) told slots

-- each of the calls was answered, or nothing was told of it; and of one nothing was told
pub record AreAwaited (requests : List Request) (id : ℕ) (told : List ClientTold) : Type 0 where
  pub slots : List (Option Reply)
  pub slots_are : AreSlots requests id told slots
  pub missing : list_any is_none slots ≡ true

-- the replies before the first that is missing, in order
abbrev pub front_of : List (Option Reply) → List Reply
front_of [] = []
front_of (None ∷ slots) = []
front_of (Some reply ∷ slots) = reply ∷ front_of slots

-- ---- replies that are kept where one is missing

-- these are the replies to the first of the requests, and of the next one, whose reply is missing,
-- this holds
abbrev pub IsFront : (Request → ℕ → List ClientTold → Type 0) → List Reply → List Request → ℕ → List ClientTold → Type 0
IsFront Misses replies [] id told = ⊥
IsFront Misses [] (request ∷ requests) id told = Misses request id told
IsFront Misses (reply ∷ replies) (request ∷ requests) id told = IsReplyTo request id told reply × IsFront Misses replies requests (id + 1) told

-- nothing was told of its call
abbrev pub IsUntold : Request → ℕ → List ClientTold → Type 0
IsUntold request id told = told_of id told ≡ []

-- nothing was told of its call, or a message that is no answer to it
abbrev pub LacksAnswer : Request → ℕ → List ClientTold → Type 0
LacksAnswer request id told = (told_of id told ≡ []) ⊎ ((t : ClientTold) × (told_of id told ≡ t ∷ []) × IsMisanswer (kind_of_request request) id t)

-- nothing was told of its call except, maybe, the last of all that was told
abbrev pub IsUntoldBefore : Request → ℕ → List ClientTold → Type 0
IsUntoldBefore request id told = (told_of id told ≡ [])
    ⊎ ((before : List ClientTold) × (last : ClientTold) × (told ≡ before ++ last ∷ []) × (told_of id before ≡ []))

-- ---- the place of a reply

-- the request at an index of a list
abbrev pub IsRequestAt : List Request → ℕ → Request → Type 0
IsRequestAt [] n request = ⊥
IsRequestAt (r ∷ rs) zero request = request ≡ r
IsRequestAt (r ∷ rs) (suc n) request = IsRequestAt rs n request

-- the last that was told is a message that is no answer to the request of its call, of which
-- nothing was told before; and before it each of the calls was answered, or nothing was told of it
pub record IsMisanswered (requests : List Request) (id : ℕ) (told : List ClientTold) : Type 0 where
  pub before : List ClientTold
  pub last : ClientTold
  pub told_is : told ≡ before ++ last ∷ []
  pub slots : List (Option Reply)
  pub slots_are : AreSlots requests id before slots
  pub place : ℕ
  pub request : Request
  pub request_is : IsRequestAt requests place request
  pub untold : told_of (id + place) before ≡ []
  pub misanswers : IsMisanswer (kind_of_request request) (id + place) last

-- what was told is of none of this many calls from this RequestId on
abbrev pub IsOfNone : ℕ → ℕ → ClientTold → Type 0
IsOfNone first count t = (n : ℕ) → n < count → is_told_of (first + n) t ≡ false

-- the index of a RequestId among this many from the first on
abbrev pub IsPlace : ℕ → ℕ → ℕ → Option ℕ → Type 0
IsPlace first id count None = (n : ℕ) → n < count → id ≡ first + n → ⊥
IsPlace first id count (Some n) = (n < count) × (id ≡ first + n)

-- the reply that something told is to one of the requests, at its index; none if it is of none of
-- their calls
abbrev pub PlacesReply : List Request → ℕ → ClientTold → Result (Option (ℕ × Reply)) ClientFault → Type 0
PlacesReply requests first t (Ok None) = IsOfNone first (length requests) t
PlacesReply requests first t (Ok (Some (n, reply))) = (request : Request) × IsRequestAt requests n request
    × IsReplyBy (kind_of_request request) (first + n) t reply
PlacesReply requests first t (Err fault.UnknownResponse) = (n : ℕ) × (request : Request) × IsRequestAt requests n request
    × IsMisanswer (kind_of_request request) (first + n) t
PlacesReply requests first t (Err fault.OutOfMemory) = Unit {0}
PlacesReply requests first t (Err other) = ⊥

-- the replies after something more that was told
abbrev pub FillsSlots : List Request → ℕ → List ClientTold → List (Option Reply) → Result (Unit {0}) ClientFault → Type 0
FillsSlots requests first told slots (Ok done) = AreSlots requests first told slots
FillsSlots requests first told slots (Err fault.UnknownResponse) = IsMisanswered requests first told × IsFront LacksAnswer (front_of slots) requests first told
FillsSlots requests first told slots (Err fault.OutOfMemory) = Unit {0}
FillsSlots requests first told slots (Err other) = ⊥

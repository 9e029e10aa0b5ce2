-- The outcome of a client's operations over a transport: which bytes it sends, its state then, and
-- the replies.
use Rattle.std.specs.Prelude.{◌≡◌, ◌++◌, ℕ, List, [], ◌∷◌, Option, Some, None}
use Rattle.ua_builtin.specs.declared.date_time.DateTime.{DateTime}
use Rattle.ua_frame.specs.declared.limits.Limits.{Limits}
use Rattle.ua_channel.specs.declared.client.channel.ClientChannel.{ClientChannel}
use Rattle.ua_services.specs.declared.request.Request.{Request}
use Rattle.ua_client.specs.Calls.{AreGroups, Rounds, all_of}
use Rattle.ua_client.specs.Client.{closing_at}
use Rattle.ua_client.specs.Opening.{IsOpened, hello_octets, open_frame_octets}
use Rattle.ua_client.specs.Renewing.{IsRenewed, renewal_at}
use Rattle.ua_client.specs.ClientPlace.{ClientPlace, StandsAt}
use Rattle.ua_client.specs.declared.reply.Reply.{Reply}

-- the operations of a client in this state, each done in the state that those before it left, and
-- all of them answered: its state then, what it sent, and the replies
pub data ClientCourse (moment : DateTime) (s : ClientPlace) : List (Option (List Request)) → ClientPlace → List ℕ → List Reply → Type 0 where
  Begun : ClientCourse moment s [] s [] []
  -- requests, in groups of 64, of which the last may have fewer, each call with its own reply, by
  -- the channel of a client
  Asked : {x : ClientChannel} {turns : List (Option (List Request))} {m u : ClientPlace} {sent more taken : List ℕ} {replies added : List Reply}
      (t : Option (List Request)) (groups : List (List Request))
      → ClientCourse moment s turns m sent replies → t ≡ Some (all_of groups) → AreGroups groups → Rounds x m groups u more taken added
      → ClientCourse moment s (turns ++ t ∷ []) u (sent ++ more) (replies ++ added)
  -- a renewal
  Renewed : {turns : List (Option (List Request))} {m u : ClientPlace} {sent taken : List ℕ} {replies : List Reply} (t : Option (List Request))
      (x : ClientChannel)
      → ClientCourse moment s turns m sent replies → t ≡ None → IsRenewed x m u taken
      → ClientCourse moment s (turns ++ t ∷ []) u (sent ++ renewal_at m moment) replies

-- what a client sends to open its connection
abbrev pub opening_octets : Limits → Option (List ℕ) → DateTime → List ℕ
opening_octets limits url moment = hello_octets limits url ++ open_frame_octets moment

-- all of it, from the HEL to the CLO, and what it took: these bytes were sent and all of those were
-- taken, by a client with these operations, whose replies are these
pub record Converses (limits : Limits) (url : Option (List ℕ)) (moment : DateTime) (turns : List (Option (List Request))) (up down : List ℕ)
    (replies : List Reply) : Type 0 where
  -- the state in which the channel was open
  pub x : ClientChannel
  pub opened : ClientPlace
  pub opens : IsOpened x opened.octets
  pub opened_at : StandsAt x opened
  -- and the state that the last operation left
  pub last : ClientPlace
  pub sent : List ℕ
  pub course : ClientCourse moment opened turns last sent replies
  pub up_is : up ≡ opening_octets limits url moment ++ (sent ++ closing_at last moment)
  pub took : last.octets ≡ down

-- What a client's operations tell a server, from the HEL to the CLO.
use Rattle.std.specs.Prelude.{ℕ, ◌+◌, length, map, List, [], ◌∷◌, ◌++◌, Option, Some, None}
use Rattle.ua_frame.specs.declared.limits.Limits.{Limits}
use Rattle.ua_channel.specs.Agreement.{agreement_of}
use Rattle.ua_channel.specs.ClientSends.{hello_to}
use Rattle.ua_channel_laws.specs.Outgoing.{outgoing_told}
use Rattle.ua_channel_laws.specs.Outgoing.Outgoing.{CallWith}
use Rattle.ua_channel.specs.ServerTold.{Told, Agreed, Opened, Closed}
use Rattle.ua_services.specs.declared.request.Request.{Request}
use Rattle.ua_client.specs.Sent.{bodies_of}

-- ---- one operation, by its requests; none if it is a renewal

-- calls with these bodies under this token and RequestIds from this one on: each body whole and
-- once, in order (OPC 10000-6, 6.7.2), however many tokens were issued
abbrev pub calls_told : ℕ → ℕ → List (List ℕ) → List Told
calls_told token id bodies = outgoing_told token token id (map CallWith bodies)

-- if this is the newest token: the requests under it, each by its canonical encoding; or that the
-- next token is issued, for an hour (OPC 10000-4, 5.6.2)
abbrev pub turn_told : ℕ → ℕ → Option (List Request) → List Told
turn_told token id (Some requests) = calls_told token id (bodies_of requests)
turn_told token id None = Opened id 0 (token + 1) 3600000 ∷ []

-- the newest token after it
abbrev pub token_behind_turn : ℕ → Option (List Request) → ℕ
token_behind_turn token (Some requests) = token
token_behind_turn token None = token + 1

-- the next RequestId after it: each request and each renewal has one
abbrev pub id_behind_turn : ℕ → Option (List Request) → ℕ
id_behind_turn id (Some requests) = id + length requests
id_behind_turn id None = id + 1

-- ---- all operations

-- operations in order, if this is the newest token and the next RequestId
abbrev pub turns_told : ℕ → ℕ → List (Option (List Request)) → List Told
turns_told token id [] = []
turns_told token id (t ∷ turns) = turn_told token id t ++ turns_told (token_behind_turn token t) (id_behind_turn id t) turns

-- the newest token after them
abbrev pub tokens_behind : ℕ → List (Option (List Request)) → ℕ
tokens_behind token [] = token
tokens_behind token (t ∷ turns) = tokens_behind (token_behind_turn token t) turns

-- the next RequestId after them
abbrev pub ids_behind : ℕ → List (Option (List Request)) → ℕ
ids_behind id [] = id
ids_behind id (t ∷ turns) = ids_behind (id_behind_turn id t) turns

-- ---- a whole conversation

-- the opening of a client with these limits for this URL, at a server with those: what is agreed,
-- and the first token, 1, which is issued under the RequestId 1, for an hour
abbrev pub opening_told : Limits → Limits → Option (List ℕ) → List Told
opening_told server client url = Agreed (agreement_of server (hello_to client url)) ∷ (Opened 1 0 1 3600000 ∷ [])

-- all of it: the opening, the operations, and the CLO
abbrev pub conversation_told : Limits → Limits → Option (List ℕ) → List (Option (List Request)) → List Told
conversation_told server client url turns = (opening_told server client url ++ turns_told 1 2 turns) ++ Closed ∷ []

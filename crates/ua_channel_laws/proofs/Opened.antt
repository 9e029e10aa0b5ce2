-- When a channel is open.
use Rattle.std.proofs.Common.{◌≡◌, ◌↔◌, ℕ, List, [], ◌∷◌, ◌++◌, Some, ◌∙◌, ap}
use Rattle.ua_frame.specs.declared.frame.Frame.{Frame}
use Rattle.ua_frame.specs.declared.limits.Limits.{Limits}
use Rattle.ua_opening.specs.declared.secure_channel.OpenResponse.{OpenResponse}
use Rattle.ua_channel.specs.Asks.{Asking, Placed, asked_in}
use Rattle.ua_channel.specs.Client.{client_limits, ClientStands, InPhase, IsNotOpen, phase_of}
use Rattle.ua_channel.specs.ClientTokens.{first_channel, open_responses}
use Rattle.ua_channel.specs.Content.{content}
use Rattle.ua_channel.specs.Content.Content.{Sends}
use Rattle.ua_channel.specs.Received.{Received, received, after}
use Rattle.ua_channel.specs.ServerStands as server
use Rattle.ua_channel.specs.ServerTold.{Told}
use Rattle.ua_channel.specs.ServerTold.Told.{Asked}
use Rattle.ua_channel.specs.declared.client.channel.ClientChannel.{ClientChannel}
use Rattle.ua_channel.specs.declared.client.phase.Phase.{Phase as ClientPhase}
use Rattle.ua_channel.specs.declared.client.phase.Phase.TheVariants as asking
use Rattle.ua_channel.specs.declared.server.Phase.{Phase}
use Rattle.ua_channel.specs.declared.server.Phase.TheVariants.{Waiting, Greeted, Open, Done}
use Rattle.ua_channel.specs.declared.server.ServerChannel.{ServerChannel}
use Rattle.ua_channel.proofs.OneFrameMore.{received-push}
use Rattle.ua_channel_laws.proofs.Replies.{asks_by}

-- ---- at a server

-- where nothing was received but a Hello, no token was used
none_used : (limits : Limits) (p : Phase) (before : Received) (token : ℕ) → server.InServerPhase limits p before → server.HasNoToken p
    → before.used ≡ Some token → ⊥
none_used limits Waiting before token h none used = let e = ap (λ (b : Received). b.used) h in absurd cc
none_used limits (Greeted a) before token h none used = let e = ap (λ (b : Received). b.used) h.before_is in absurd cc
none_used limits (Open r) before token h none used = none
none_used limits Done before token h none used = h

pub server_asked : (x : ServerChannel) (octets : List ℕ) (told : List Told) (id token : ℕ) (message : List ℕ)
    → server.GoesTelling x octets told (Asked id token message) → server.IsWithoutToken x → ⊥
server_asked x octets told id token message g none =
    let chunk = asks_by (server.limits_of x) (received g.frames) (content g.frame) id token message g.tells in
    let now : received (g.frames ++ g.frame ∷ []) ≡ after (received g.frames) (Sends chunk.0) = received-push g.frames g.frame
    ∙ ap (after (received g.frames)) chunk.1 in
    none_used (server.limits_of x) x.end.phase (received (g.frames ++ g.frame ∷ [])) chunk.0.token g.stands.phase_is none (rw now)

-- ---- at a client

no_channel : (rs : List OpenResponse) (n : ℕ) → first_channel rs ≡ Some n → rs ≡ [] → ⊥
no_channel [] n e none = absurd cc
no_channel (r ∷ rs) n e none = absurd cc

client_phase : (limits : Limits) (p : ClientPhase) (before : Received) (asked : List Asking) → InPhase limits p before asked
    → IsNotOpen p ↔ (open_responses before.openings ≡ [])
unfolding open_responses
client_phase limits asking.Waiting before asked h = (λ t. ap (λ (b : Received). open_responses b.openings) h.0, λ e. tt)
client_phase limits (asking.Agreed a) before asked h = (λ t. ap (λ (b : Received). open_responses b.openings) h.0, λ e. tt)
client_phase limits (asking.Open t) before asked h = (λ n. absurd n, λ e. no_channel (open_responses before.openings) t.channel h.channel_is e)
client_phase limits asking.Done before asked h = absurd h

pub client_open : (x : ClientChannel) (asks : List Placed) (octets : List ℕ) (frames : List Frame) (rest : List ℕ) → ClientStands x asks octets frames rest
    → IsNotOpen (phase_of x) ↔ (open_responses (received frames).openings ≡ [])
client_open x asks octets frames rest s = client_phase (client_limits x) (phase_of x) (received frames) (asked_in asks) s.phase_is

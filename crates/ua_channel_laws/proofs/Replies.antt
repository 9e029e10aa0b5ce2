-- Where replies go, by what was told.
use Rattle.std.proofs.Common.{◌≡◌, ℕ, ◌+◌, List, [], ◌∷◌, ◌++◌, Option, Some, None, option_map, map, refl, sym, ◌∙◌, ap, append_assoc, append-nil}
use Rattle.std.specs.List.{flat_map}
use Rattle.std.proofs.lemmas.Grind.{flat_map-append}
use Rattle.ua_frame.specs.After.{each_from, each_after}
use Rattle.ua_frame.specs.declared.frame.Frame.{Frame}
use Rattle.ua_frame.specs.declared.limits.Limits.{Limits}
use Rattle.ua_frame.specs.Run.{events}
use Rattle.ua_chunk.specs.Delivered.{given}
use Rattle.ua_chunk.specs.Item.{Item}
use Rattle.ua_chunk.specs.Item.Item.{Whole, Aborted}
use Rattle.ua_chunk.specs.declared.chunk.Chunk.{Chunk}
use Rattle.ua_chunk.specs.declared.lane.Lane.{Lane}
use Rattle.ua_opening.specs.declared.secure_channel.OpenRequest.{OpenRequest}
use Rattle.ua_channel.specs.declared.server.ServerChannel.{ServerChannel}
use Rattle.ua_channel.specs.Agreement.{Agreement, agreement_of, lane_of}
use Rattle.ua_channel.specs.Content.{Content, content}
use Rattle.ua_channel.specs.Content.Content.{Greets, Acks, Fails, Opens, Sends, Closes, Nothing}
use Rattle.ua_channel.specs.Received.{latest_behind, Received, received, after}
use Rattle.ua_channel.specs.ServerPlaces.{agreements_in, agreed_by}
use Rattle.ua_channel.specs.ServerRefusals.{last_used}
use Rattle.ua_channel.specs.ServerRules.{server_rules}
use Rattle.ua_channel.specs.ServerSends.{RepliesGo}
use Rattle.ua_channel.specs.ServerStands.{limits_of, channel_of, ChannelStands, GoesTelling}
use Rattle.ua_channel.specs.ServerTold.{Told, request_of, opened_by, told_under, issued, server_tells}
use Rattle.ua_channel.specs.ServerTold.Told.{Agreed, Opened, Asked, GaveUp, Closed}
use Rattle.ua_channel.proofs.OneFrameMore.{behind_append, received-push, received-nil}
use Rattle.ua_channel_laws.proofs.ServerReadsOnce.{stands_once}

-- ---- what was agreed to

opened_none : (token : ℕ) (numbers : Option (ℕ × ℕ)) (request : Option OpenRequest) → flat_map agreements_in (opened_by token numbers request) ≡ []
opened_none token (Some numbers) (Some request) = refl
opened_none token (Some numbers) None = refl
opened_none token None request = refl

items_none : (token : ℕ) (items : List Item) → flat_map agreements_in (map (told_under token) items) ≡ []
items_none token [] = refl
items_none token (Whole id octets ∷ is) = items_none token is
items_none token (Aborted id code reason ∷ is) = items_none token is

one_more : (limits : Limits) (before : Received) (c : Content)
    → latest_behind (option_map (agreement_of limits) before.hello) (flat_map agreements_in (server_tells limits before c)) ≡ option_map (agreement_of limits)
    (after before c).hello
one_more limits before (Greets None) = refl
one_more limits before (Greets (Some h)) = refl
one_more limits before (Acks ack) = refl
one_more limits before (Fails error) = refl
one_more limits before (Opens o) = ap (latest_behind (option_map (agreement_of limits) before.hello)) (opened_none (issued before + 1) o.numbers (request_of o))
one_more limits before (Sends c) = ap (latest_behind (option_map (agreement_of limits) before.hello)) (items_none c.token (given before.messages c))
one_more limits before (Closes c) = refl
one_more limits before Nothing = refl

module _ (limits : Limits) (channel : ℕ) where
  tells : List Frame → Frame → List Told
  tells before f = server_tells limits (received before) (content f)

  agreed_from : (start fs : List Frame)
      → latest_behind (option_map (agreement_of limits) (received start).hello)
      (flat_map agreements_in (each_from (λ before f. server_tells limits (received before) (content f)) start fs)) ≡ option_map (agreement_of limits)
      (received (start ++ fs)).hello
  agreed_from start [] = ap (λ (xs : List Frame). option_map (agreement_of limits) (received xs).hello) (sym (append-nil start))
  agreed_from start (f ∷ fs) =
      let told : List Told = server_tells limits (received start) (content f) in
      let more : List Told = each_from (λ before g. server_tells limits (received before) (content g)) (start ++ f ∷ []) fs in
      ap (latest_behind (option_map (agreement_of limits) (received start).hello)) (flat_map-append agreements_in told more)
      ∙ (behind_append (option_map (agreement_of limits) (received start).hello) (flat_map agreements_in told) (flat_map agreements_in more)
      ∙ (rw (one_more limits (received start) (content f)
      ∙ ap (λ (b : Received). option_map (agreement_of limits) b.hello) (sym (received-push start f))) (agreed_from (start ++ f ∷ []) fs
      ∙ ap (λ (xs : List Frame). option_map (agreement_of limits) (received xs).hello) (append_assoc start (f ∷ []) fs))))

  -- what frames told has in it what they agreed to
  pub agreed_told : (fs : List Frame) → agreed_by (events (server_rules limits channel) fs) ≡ option_map (agreement_of limits) (received fs).hello
  unfolding each_after
  agreed_told fs =
      ap (λ (b : Received). latest_behind (option_map (agreement_of limits) b.hello)
      (flat_map agreements_in (each_from (λ before f. server_tells limits (received before) (content f)) [] fs))) (sym received-nil) ∙ agreed_from [] fs

-- ---- the token

pub told_is : (s t : Told) (ss : List Told) → s ∷ ss ≡ t ∷ [] → s ≡ t
told_is s t ss e = cc

abbrev token_of : Told → ℕ
token_of (Agreed a) = 0
token_of (Opened id handle token lifetime) = 0
token_of (Asked id token octets) = token
token_of (GaveUp id) = 0
token_of Closed = 0

item_token : (token : ℕ) (items : List Item) (id used : ℕ) (octets : List ℕ) → map (told_under token) items ≡ Asked id used octets ∷ [] → token ≡ used
item_token token [] id used octets e = absurd cc
item_token token (Whole i o ∷ is) id used octets e = ap token_of (told_is (Asked i token o) (Asked id used octets) (map (told_under token) is) e)
item_token token (Aborted i code reason ∷ is) id used octets e = let x = told_is (GaveUp i) (Asked id used octets) (map (told_under token) is) e in absurd cc

opened_other : (token : ℕ) (numbers : Option (ℕ × ℕ)) (request : Option OpenRequest) (id used : ℕ) (octets : List ℕ)
    → opened_by token numbers request ≡ Asked id used octets ∷ [] → ⊥
opened_other token (Some numbers) (Some request) id used octets e = let x = told_is (Opened _ _ _ _) (Asked id used octets) [] e in cc
opened_other token (Some numbers) None id used octets e = absurd cc
opened_other token None request id used octets e = absurd cc

-- a message is told by a chunk of its own
pub asks_by : (limits : Limits) (before : Received) (c : Content) (id used : ℕ) (octets : List ℕ) → server_tells limits before c ≡ Asked id used octets ∷ []
    → (d : Chunk) × (c ≡ Sends d)
asks_by limits before (Greets None) id used octets e = absurd cc
asks_by limits before (Greets (Some h)) id used octets e = let x = told_is (Agreed _) (Asked id used octets) [] e in absurd cc
asks_by limits before (Acks ack) id used octets e = absurd cc
asks_by limits before (Fails error) id used octets e = absurd cc
asks_by limits before (Opens o) id used octets e = absurd (opened_other (issued before + 1) o.numbers (request_of o) id used octets e)
asks_by limits before (Sends c) id used octets e = (c, refl)
asks_by limits before (Closes c) id used octets e = let x = told_is Closed (Asked id used octets) [] e in absurd cc
asks_by limits before Nothing id used octets e = absurd cc

used_there : (limits : Limits) (before : Received) (c : Content) (id used : ℕ) (octets : List ℕ) → server_tells limits before c ≡ Asked id used octets ∷ []
    → (last_used (after before c) ≡ used) × ((after before c).hello ≡ before.hello)
used_there limits before c id used octets e =
    let chunk = asks_by limits before c id used octets e in
    rw chunk.1 (item_token chunk.0.token (given before.messages chunk.0) id used octets (ap (server_tells limits before) (sym chunk.1) ∙ e), refl)

-- where a reply goes right behind a whole message
pub reply_goes : (x : ServerChannel) (octets : List ℕ) (told : List Told) (id token : ℕ) (message : List ℕ) (frames : List Frame) (rest : List ℕ) (lane : Lane)
    → GoesTelling x octets told (Asked id token message) → ChannelStands x octets frames rest → RepliesGo (limits_of x) (channel_of x) (received frames) lane
    → (a : Agreement) × (agreed_by told ≡ Some a) × (lane ≡ lane_of (channel_of x) token a)
reply_goes x octets told id token message frames rest lane g s (h, hello_is, lane_is) =
    let same : frames ≡ g.frames ++ g.frame ∷ [] = (stands_once x octets frames (g.frames ++ g.frame ∷ []) rest [] s g.stands).0 in
    let now : received frames ≡ after (received g.frames) (content g.frame) = ap received same ∙ received-push g.frames g.frame in
    let used : last_used (received frames) ≡ token = ap last_used now
    ∙ (used_there (limits_of x) (received g.frames) (content g.frame) id token message g.tells).0 in
    let hello : (received g.frames).hello ≡ Some h = sym (used_there (limits_of x) (received g.frames) (content g.frame) id token message g.tells).1
    ∙ (rw (sym now) hello_is) in (
      agreement_of (limits_of x) h,
      ap agreed_by (sym g.told_is) ∙ (agreed_told (limits_of x) (channel_of x) g.frames ∙ ap (option_map (agreement_of (limits_of x))) hello),
      lane_is ∙ rw used,
    )

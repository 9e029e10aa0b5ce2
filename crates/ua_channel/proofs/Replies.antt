-- When a server's channel sends a reply, and where it goes.
use Rattle.std.proofs.Common.{◌≡◌, ℕ, [], Result, Ok, Err, length, sym, ◌∙◌, ap, arith}
use Rattle.ua_frame.specs.declared.limits.Limits.{Limits}
use Rattle.ua_chunk.specs.declared.lane.Lane.{Lane}
use Rattle.ua_channel.specs.declared.server.Phase.{Phase}
use Rattle.ua_channel.specs.declared.server.Phase.TheVariants.{Waiting, Greeted, Open, Done}
use Rattle.ua_channel.specs.declared.server_fault.ReplyFault.{ReplyFault}
use Rattle.ua_channel.specs.declared.server_fault.ReplyFault.TheVariants.{NotOpen, OutOfMemory}
use Rattle.ua_channel.specs.Agreement.{Agreement, lane_of}
use Rattle.ua_channel.specs.Received.{Received}
use Rattle.ua_channel.specs.ServerRefusals.{last_used}
use Rattle.ua_channel.specs.ServerSends.{RepliesGo}
use Rattle.ua_channel.specs.ServerStands.{InServerPhase, HasNoToken}
use Rattle.ua_channel.specs.inside.ServerFrames.{LaneIs}

-- a lane of a phase is that in which replies go
pub goes_there : (limits : Limits) (channel : ℕ) (p : Phase) (before : Received) (lane : Lane) → InServerPhase limits p before → LaneIs channel p lane
    → RepliesGo limits channel before lane
goes_there limits channel Waiting before lane s is = absurd is
goes_there limits channel (Greeted a) before lane s is = absurd is
goes_there limits channel (Open r) before lane s is = (
  s.hello,
  s.hello_is,
  is
      ∙ ap (λ (t : ℕ). lane_of channel t r.agreement) (sym s.used_is)
      ∙ ap (λ (a : Agreement). lane_of channel (last_used before) a) s.agreement_is,
)
goes_there limits channel Done before lane s is = absurd is

-- in a phase with a lane there is a token
pub token_there : {A : Type 0} (channel : ℕ) (p : Phase) (lane : Lane) → LaneIs channel p lane → HasNoToken p → A
token_there channel Waiting lane is none = absurd is
token_there channel (Greeted a) lane is none = absurd is
token_there channel (Open r) lane is none = absurd none
token_there channel Done lane is none = absurd is

-- and an OPN came
pub opening_there : {A : Type 0} (limits : Limits) (channel : ℕ) (p : Phase) (before : Received) (lane : Lane) → InServerPhase limits p before
    → LaneIs channel p lane → before.openings ≡ [] → A
opening_there limits channel Waiting before lane s is none = absurd is
opening_there limits channel (Greeted a) before lane s is none = absurd is
opening_there limits channel (Open r) before lane s is none = absurd (omega (arith, s.some, s.issued_is, ap length none))
opening_there limits channel Done before lane s is none = absurd is

-- without a token no OPN came
pub no_opening : (limits : Limits) (p : Phase) (before : Received) → InServerPhase limits p before → HasNoToken p → before.openings ≡ []
no_opening limits Waiting before s none = ap (λ (r : Received). r.openings) s
no_opening limits (Greeted a) before s none = ap (λ (r : Received). r.openings) s.before_is
no_opening limits (Open r) before s none = absurd none
no_opening limits Done before s none = absurd s

-- ---- outcomes that differ

abbrev fault_of : {E : Type 0} (U : Type 0) → E → Result U E
fault_of U e = Err e

pub sent_is_no_fault : {A T E : Type 0} (sent : T) (fault : E) → ◌≡◌ {A = Result T E} (Ok sent) (Err fault) → A
sent_is_no_fault sent fault e = absurd cc

pub starved_is_open : {A T : Type 0} → ◌≡◌ {A = Result T ReplyFault} (Err OutOfMemory) (Err NotOpen) → A
starved_is_open e = absurd cc

pub closed_is_fed : {A T : Type 0} → ◌≡◌ {A = Result T ReplyFault} (Err NotOpen) (Err OutOfMemory) → A
closed_is_fed e = absurd cc

-- a fault of one outcome is that of another
pub fault_is : {T U E : Type 0} (a b : E) → ◌≡◌ {A = Result T E} (Err a) (Err b) → ◌≡◌ {A = Result U E} (Err a) (Err b)
fault_is {T = T} {U = U} {E = E} a b e = let is : a ≡ b = cc in ap (λ (x : E). fault_of U x) is

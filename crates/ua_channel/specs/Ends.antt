-- Either end of a connection, by its rules, and its state after bytes.
use Rattle.std.specs.Prelude.{◌≡◌, ◌⊎◌, ℕ, ◌≤◌, length, Bool, List, [], ◌∷◌, ◌++◌, Option, Some, None}
use Rattle.ua_frame.specs.declared.frame.Frame.{Frame}
use Rattle.ua_frame.specs.After.{AllAfter}
use Rattle.ua_frame.specs.Frames.{frames_octets, header_fault, size_of}
use Rattle.ua_frame.specs.Reader.{open_reader}
use Rattle.ua_frame.specs.Run.{Rules, Run, Fits, events, Going, Stopped, Over}
use Rattle.ua_channel.specs.Content.{content}
use Rattle.ua_channel.specs.MessageParts.{EndsMessageIn}
use Rattle.ua_channel.specs.Received.{received}
use Rattle.ua_channel.specs.Stops.{StopsAt}
use Rattle.ua_channel.specs.declared.end_core.EndCore.{EndCore}

-- an end whose rules R are, where P is the progress of a connection, and E is the outcome for a
-- frame
pub record Side (R P E : Type 0) : Type 1 where
  -- by what else frames are judged: the operations of a client
  pub Key : Type 0
  -- what frames tell, and why they are rejected
  pub Told : Type 0
  pub Why : Type 0
  -- which frames come next, which are rejected, what they tell, and which is the last
  pub rules : R → Key → Rules Told Why
  -- all by which they are judged was done by the time that this many bytes had been received
  pub placed : Key → ℕ → Type 0
  -- after these frames a connection has this progress
  pub holds : R → Key → P → List Frame → Type 0
  -- and at most this many bytes are held
  pub bound : R → List Frame → ℕ
  -- a connection with this progress has ended
  pub done : P → Type 0
  -- what is told for a frame with this outcome, whether that frame is the last, and the parts of
  -- the message that is returned
  pub tells : E → Told
  pub closes : E → Bool
  pub parts : E → Option (List (List ℕ))
  -- the reason for an ERR frame by which the other end rejects with this code, if one may
  pub peer : ℕ → Option Why

-- the rules of an end
abbrev pub rules_by : {R P E : Type 0} (S : Side R P E) (x : EndCore R P) (k : S.Key) → Rules S.Told S.Why
rules_by S x k = S.rules x.rules k

-- the state of an end is that after these bytes: these are their frames, and this is the rest, of
-- an incomplete frame
pub record EndStands {R P E : Type 0} (S : Side R P E) (x : EndCore R P) (k : S.Key) (octets : List ℕ) (frames : List Frame) (rest : List ℕ) : Type 0 where
  pub run : Run (rules_by S x k) octets frames rest Going
  pub placed : S.placed k (length octets)
  pub reader_is : x.reader ≡ open_reader ((rules_by S x k).gate frames) rest
  pub phase_is : S.holds x.rules k x.phase frames
  pub bound_is : x.bound ≡ S.bound x.rules frames

-- an end that ended, and holds nothing
pub record EndDone {R P E : Type 0} (S : Side R P E) (x : EndCore R P) : Type 0 where
  pub phase : S.done x.phase
  pub empty : x.reader.held ≡ []

-- the end goes on after these bytes, whose frames told this
pub record EndGoes {R P E : Type 0} (S : Side R P E) (x : EndCore R P) (k : S.Key) (octets : List ℕ) (told : List S.Told) : Type 0 where
  pub frames : List Frame
  pub rest : List ℕ
  pub stands : EndStands S x k octets frames rest
  pub told_is : events (rules_by S x k) frames ≡ told

-- the end goes on after these bytes, of which the last byte is that of a frame that tells this,
-- after what the frames before it told
pub record EndTells {R P E : Type 0} (S : Side R P E) (x : EndCore R P) (k : S.Key) (octets : List ℕ) (told : List S.Told) (e : S.Told) : Type 0 where
  pub frames : List Frame
  pub frame : Frame
  pub stands : EndStands S x k octets (frames ++ frame ∷ []) []
  pub told_is : events (rules_by S x k) frames ≡ told
  pub tells : (rules_by S x k).tells frames frame ≡ e ∷ []

-- the end goes on after these bytes, of which the last frame ends a message in these parts
pub record EndMessage {R P E : Type 0} (S : Side R P E) (x : EndCore R P) (k : S.Key) (octets : List ℕ) (parts : List (List ℕ)) : Type 0 where
  pub frames : List Frame
  pub frame : Frame
  pub stands : EndStands S x k octets (frames ++ frame ∷ []) []
  pub ends : EndsMessageIn (received frames).messages (content frame) parts

-- the end ended at the last byte of these, that of the last frame, and their frames told this
pub record EndOver {R P E : Type 0} (S : Side R P E) (x : EndCore R P) (k : S.Key) (octets : List ℕ) (told : List S.Told) : Type 0 where
  pub done : EndDone S x
  pub frames : List Frame
  pub run : Run (rules_by S x k) octets frames [] Over
  pub told_is : events (rules_by S x k) frames ≡ told
  pub bound_is : x.bound ≡ S.bound x.rules frames

-- the end rejected for this reason what follows the good frames of these bytes: a header at its
-- eighth byte, or a frame at its last
pub record EndStops {R P E : Type 0} (S : Side R P E) (x : EndCore R P) (k : S.Key) (octets : List ℕ) (told : List S.Told) (why : S.Why) : Type 0 where
  pub done : EndDone S x
  pub frames : List Frame
  pub rest : List ℕ
  pub run : Run (rules_by S x k) octets frames rest (Stopped why)
  pub stops : StopsAt (rules_by S x k) frames rest why
  pub told_is : events (rules_by S x k) frames ≡ told
  pub bound_is : x.bound ≡ S.bound x.rules frames

-- an allocation failed at the end of these bytes, after the good frames that told this: of the next
-- frame they have a header with nothing wrong, up to its eighth byte, or more of the frame, at most
-- all of it
pub record EndStarves {R P E : Type 0} (S : Side R P E) (x : EndCore R P) (k : S.Key) (octets : List ℕ) (told : List S.Told) : Type 0 where
  pub done : EndDone S x
  pub frames : List Frame
  pub rest : List ℕ
  pub whole : octets ≡ frames_octets frames ++ rest
  pub good : AllAfter (Fits (rules_by S x k)) frames
  pub told_is : events (rules_by S x k) frames ≡ told
  pub header : 8 ≤ length rest
  pub sound : header_fault ((rules_by S x k).gate frames) rest ≡ None
  pub within : (length rest ≡ 8) ⊎ (length rest ≤ size_of rest)

-- a message, if one is returned after these bytes, comes in the parts in which its chunks brought
-- it
abbrev pub HandsOutParts : {R P E : Type 0} (S : Side R P E) → Option (List (List ℕ)) → EndCore R P → (k : S.Key) → List ℕ → Type 0
HandsOutParts S None x k octets = Unit {0}
HandsOutParts S (Some parts) x k octets = EndMessage S x k octets parts

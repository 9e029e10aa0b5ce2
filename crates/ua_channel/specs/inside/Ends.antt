-- What either end of a connection makes of a frame, of a call of its reader and of a fragment, by
-- its rules.
use Rattle.std.specs.Prelude.{◌≡◌, ℕ, ◌<◌, ◌≤◌, length, take, Bool, true, false, List, [], ◌∷◌, ◌++◌, Option, Some, None, MatchOption, Result, Ok, Err}
use Rattle.ua_frame.specs.declared.frame.Frame.{Frame}
use Rattle.ua_frame.specs.Frames.{LetsIn}
use Rattle.ua_frame.specs.Reader.{open_reader}
use Rattle.ua_frame.specs.Run.{refusal}
use Rattle.ua_channel.specs.Asks.{end_of}
use Rattle.ua_channel.specs.Content.{content}
use Rattle.ua_channel.specs.Ends.{Side, EndDone, EndGoes, EndOver, EndStarves, EndStops, EndTells, HandsOutParts, rules_by}
use Rattle.ua_channel.specs.Received.{received}
use Rattle.ua_channel.specs.inside.Parts.{IsFaultFor, MayEndIn, IsWithinPiece}
use Rattle.ua_channel.specs.declared.end_core.EndCore.{EndCore}
use Rattle.ua_channel.specs.declared.end_fault.EndFault.{EndFault}
use Rattle.ua_channel.specs.declared.end_fault.EndFault.TheVariants.{Refused, Peer, OutOfMemory, Closed}

-- the same end apart from its state
abbrev pub SameEnd : {R P : Type 0} → EndCore R P → EndCore R P → Type 0
SameEnd a b = b ≡ record a { reader = b.reader; bound = b.bound; phase = b.phase }

-- ---- a frame

module _ {R P E : Type 0} (S : Side R P E) where
  -- what is told, if there is an outcome for a frame; whether it is the last; the parts of its
  -- message, if it returns one
  abbrev pub told_if : Option E → List S.Told
  told_if None = []
  told_if (Some e) = S.tells e ∷ []

  abbrev pub closes_by : Option E → Bool
  closes_by None = false
  closes_by (Some e) = S.closes e

  abbrev pub parts_by : Option E → Option (List (List ℕ))
  parts_by None = None
  parts_by (Some e) = S.parts e

  -- the progress of a connection after these frames, by whether the last of them was the last at
  -- all
  abbrev pub IsBehind : Bool → R → S.Key → P → List Frame → Type 0
  IsBehind false r k p frames = S.holds r k p frames
  IsBehind true r k p frames = S.done p

-- a frame comes next after these, at an end with this progress that holds at most this many bytes
pub record ComesNext {R P E : Type 0} (S : Side R P E) (r : R) (k : S.Key) (p : P) (bound : ℕ) (frames : List Frame) (f : Frame) : Type 0 where
  pub came : ℕ
  pub placed : S.placed k came
  pub later : came < end_of frames f
  pub holds : S.holds r k p frames
  pub bound_is : bound ≡ S.bound r frames
  pub let_in : LetsIn ((S.rules r k).gate frames) f

-- a frame is taken after these, with this outcome; and the progress of the end then
pub record TakenBy {R P E : Type 0} (S : Side R P E) (r : R) (k : S.Key) (frames : List Frame) (f : Frame) (p : P) (bound : ℕ) (e : Option E) : Type 0 where
  pub accepted : refusal (S.rules r k) frames f ≡ None
  pub tells : (S.rules r k).tells frames f ≡ told_if S e
  pub last : (S.rules r k).over (frames ++ f ∷ []) ≡ closes_by S e
  pub parts : MayEndIn (received frames).messages (content f) (parts_by S e)
  pub behind : IsBehind S (closes_by S e) r k p (frames ++ f ∷ [])
  pub bound_is : bound ≡ S.bound r (frames ++ f ∷ [])

-- a frame after these is rejected with this fault
abbrev pub RefusedBy : {R P E : Type 0} (S : Side R P E) → R → (k : S.Key) → List Frame → Frame → EndFault → Type 0
RefusedBy S r k frames f fault =
    IsFaultFor (λ (code : ℕ). refusal (S.rules r k) frames f ≡ Some ((S.rules r k).of_header code))
    (λ (code : ℕ). MatchOption (S.peer code) ⊥ (λ (why : S.Why). refusal (S.rules r k) frames f ≡ Some why)) fault

-- the outcome for a frame after these
abbrev pub JudgesNext : {R P E : Type 0} (S : Side R P E) → R → (k : S.Key) → List Frame → Frame → P → ℕ → Result (Option E) EndFault → Type 0
JudgesNext S r k frames f p bound (Ok e) = TakenBy S r k frames f p bound e
JudgesNext S r k frames f p bound (Err fault) = RefusedBy S r k frames f fault

-- ---- where the end then stands

-- after the frame of an event, by whether that is the last
abbrev pub ComesBy : {R P E : Type 0} (S : Side R P E) → Bool → EndCore R P → (k : S.Key) → List ℕ → List S.Told → E → Type 0
ComesBy S false x k octets told e = EndTells S x k octets told (S.tells e) × HandsOutParts S (S.parts e) x k octets
ComesBy S true x k octets told e = EndOver S x k octets (told ++ S.tells e ∷ [])

-- with a fault
abbrev pub EndFailsBy : {R P E : Type 0} (S : Side R P E) → EndCore R P → (k : S.Key) → List ℕ → List S.Told → EndFault → Type 0
EndFailsBy S x k octets told (Refused code) = EndStops S x k octets told ((rules_by S x k).of_header code.code)
EndFailsBy S x k octets told (Peer code) = MatchOption (S.peer code.code) ⊥ (λ (why : S.Why). EndStops S x k octets told why)
EndFailsBy S x k octets told OutOfMemory = EndStarves S x k octets told
EndFailsBy S x k octets told Closed = ⊥

-- ---- a frame, a call of the reader, a fragment

-- a whole frame that comes after these is taken, with this outcome
pub record TakesWhole {R P E : Type 0} (S : Side R P E) (new : EndCore R P) (k : S.Key) (frames : List Frame) (f : Frame) (e : Option E) : Type 0 where
  pub taken : TakenBy S new.rules k frames f new.phase new.bound e
  pub empty : new.reader.held ≡ []
  pub reader_is : closes_by S e ≡ false → new.reader ≡ open_reader ((rules_by S new k).gate (frames ++ f ∷ [])) []

-- the outcome for a whole frame that comes after these
abbrev pub JudgesWhole : {R P E : Type 0} (S : Side R P E) → EndCore R P → (k : S.Key) → List Frame → Frame → Result (Option E) EndFault → Type 0
JudgesWhole S new k frames f (Ok e) = TakesWhole S new k frames f e
JudgesWhole S new k frames f (Err fault) = RefusedBy S new.rules k frames f fault × EndDone S new × (new.bound ≡ S.bound new.rules frames)

-- one call of the reader, and the outcome for its frame
abbrev pub EndSteps : {R P E : Type 0} (S : Side R P E) → List ℕ → ℕ → Result (Option E) EndFault → EndCore R P → (k : S.Key) → List ℕ → List S.Told → Type 0
EndSteps S piece n (Ok None) new k octets told = EndGoes S new k (octets ++ take n piece) told
EndSteps S piece n (Ok (Some e)) new k octets told = ComesBy S (S.closes e) new k (octets ++ take n piece) told e
EndSteps S piece n (Err fault) new k octets told = EndFailsBy S new k (octets ++ take n piece) told fault

-- the steps of a fragment, up to the first event or fault; with none the whole fragment is taken
abbrev pub EndNexts : {R P E : Type 0} (S : Side R P E) → List ℕ → ℕ → Result (Option E) EndFault → EndCore R P → (k : S.Key) → List ℕ → List S.Told → Type 0
EndNexts S piece n (Ok None) new k octets told = (n ≡ length piece) × EndGoes S new k (octets ++ piece) told
EndNexts S piece n (Ok (Some e)) new k octets told = (0 < n) × (n ≤ length piece) × ComesBy S (S.closes e) new k (octets ++ take n piece) told e
EndNexts S piece n (Err fault) new k octets told = (n ≤ length piece) × EndFailsBy S new k (octets ++ take n piece) told fault

-- this many bytes of a fragment were taken since that state, and nothing was told
pub record EndTook {R P E : Type 0} (S : Side R P E) (old now : EndCore R P) (piece : List ℕ) (taken : ℕ) : Type 0 where
  pub within : taken ≤ length piece
  pub goes : (k : S.Key) (octets : List ℕ) (told : List S.Told) → EndGoes S old k octets told → EndGoes S now k (octets ++ take taken piece) told
  pub same : SameEnd old now

-- what is taken is within the fragment, and is something unless the fragment is empty or an
-- allocation failed
abbrev pub MovesBy : {A : Type 0} → List ℕ → ℕ → Result A EndFault → Type 0
MovesBy piece n (Err OutOfMemory) = n ≤ length piece
MovesBy piece n other = IsWithinPiece piece n

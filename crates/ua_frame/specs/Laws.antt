-- Laws of streams.
use Rattle.std.specs.Prelude.{◌≡◌, ◌↔◌, ℕ, List}
use Rattle.ua_frame.specs.declared.frame.Frame.{Frame}
use Rattle.ua_frame.specs.FirstWrong.{FirstWrong}
use Rattle.ua_frame.specs.Frames.{Frames}
use Rattle.ua_frame.specs.Run.{Rules, Run, End, Stopped}

-- two readings of a stream are one
pub record IsSame {X : Type 0} (fs gs : List Frame) (x y : List ℕ) (e d : End X) : Type 0 where
  pub frames : fs ≡ gs
  pub rests : x ≡ y
  pub ends : e ≡ d

-- the bytes of a stream have one reading by given rules
abbrev pub HasOneReading : {E X : Type 0} → Rules E X → Type 0
HasOneReading {X = X} R = (octets : List ℕ) (fs gs : List Frame) (x y : List ℕ) (e d : End X) → Run R octets fs x e → Run R octets gs y d → IsSame fs gs x y e d

-- bytes are frames, by their sizes alone, in one way
abbrev pub FramesAreOne : Type 0
FramesAreOne = (octets : List ℕ) (fs gs : List (List ℕ)) (x y : List ℕ) → Frames octets fs x → Frames octets gs y → (fs ≡ gs) × (x ≡ y)

-- some reading of the bytes stops for this reason
pub record Stops {E X : Type 0} (R : Rules E X) (octets : List ℕ) (why : X) : Type 0 where
  pub frames : List Frame
  pub rest : List ℕ
  pub run : Run R octets frames rest (Stopped why)

-- a stream stops for what is wrong with its first wrong frame, the first such reason of the table
abbrev pub StopsAtFirstWrong : {E X : Type 0} → Rules E X → Type 0
StopsAtFirstWrong {X = X} R =
    (octets : List ℕ) (frames : List (List ℕ)) (rest : List ℕ) (why : X) → Frames octets frames rest
    → Stops R octets why ↔ FirstWrong R frames rest why

-- some reading of the bytes by these rules
pub record Reading {E X : Type 0} (R : Rules E X) (octets : List ℕ) : Type 0 where
  pub frames : List Frame
  pub rest : List ℕ
  pub end : End X
  pub run : Run R octets frames rest end

-- any bytes have a reading
abbrev pub HasReadings : {E X : Type 0} → Rules E X → Type 0
HasReadings R = (octets : List ℕ) → Reading R octets

-- the bytes as frames, by their sizes alone, and a rest
pub record Framing (octets : List ℕ) : Type 0 where
  pub frames : List (List ℕ)
  pub rest : List ℕ
  pub framed : Frames octets frames rest

-- any bytes are frames and a rest
abbrev pub HaveFrames : Type 0
HaveFrames = (octets : List ℕ) → Framing octets

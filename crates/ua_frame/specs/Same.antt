-- Rules that agree on the frames of a stream, and rules whose reasons go by other names.
use Rattle.std.specs.Prelude.{◌≡◌, List}
use Rattle.ua_frame.specs.declared.frame.Frame.{Frame}
use Rattle.ua_frame.specs.After.{AllAfter}
use Rattle.ua_frame.specs.Run.{Rules}

-- two ends judge a frame after these alike, whatever it tells each of them
pub record SameAt {E F X : Type 0} (R : Rules E X) (S : Rules F X) (before : List Frame) (f : Frame) : Type 0 where
  pub gate : R.gate before ≡ S.gate before
  pub over : R.over before ≡ S.over before
  pub reasons : R.reasons before f ≡ S.reasons before f

-- they judge each of these frames alike, and after the last one they accept the same frames
pub record SameOn {E F X : Type 0} (R : Rules E X) (S : Rules F X) (fs : List Frame) : Type 0 where
  pub each : AllAfter (SameAt R S) fs
  pub gate : R.gate fs ≡ S.gate fs
  pub over : R.over fs ≡ S.over fs

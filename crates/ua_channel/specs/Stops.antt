-- Where bytes stop at what is rejected.
use Rattle.std.specs.Prelude.{◌≡◌, ◌⊎◌, ℕ, List, [], length}
use Rattle.ua_frame.specs.Run.{Rules, WrongFrame, WrongHeader}
use Rattle.ua_frame.specs.declared.frame.Frame.{Frame}

-- bytes after these frames stop at what is rejected: at the eighth byte of a header, or at the end
-- of a frame whose header is good
abbrev pub StopsAt : {E X : Type 0} → Rules E X → List Frame → List ℕ → X → Type 0
StopsAt R frames rest why = (WrongHeader R frames rest why × (length rest ≡ 8)) ⊎ ((wrong : WrongFrame R frames rest why) × (wrong.more ≡ []))

-- What a session of `ua ask` prints.
use Rattle.std.proofs.Common.{◌≡◌, ◌⊎◌, inl, inr, ℕ, List, Option, Result, Ok, Err, IfErr, sym, subst}
use Rattle.ua_session.specs.Printed.{HasAdded, IsOutput}
use Rattle.ua_session.specs.declared.fault.QuestionFault.{QuestionFault}
use Rattle.ua_answers.specs.declared.style.AnswerStyle.{AnswerStyle}
use Rattle.ua_report.proofs.Stops.{left_asking}
use Rattle.ua_report.specs.Reasons.{StopsAsking, StopsWriting}
use Rattle.ua_program.specs.Talked.{Another, AreTalkLines, HasTalked, Nothing}
use Rattle.ua_report.specs.declared.output.Stop.{Stop}

-- before the first answer nothing is printed, whatever went wrong
pub none_stops : {A E : Type 0} (Is : E → Type 0) (style : AnswerStyle) (old : Option (List ℕ)) (result : Result A E)
    → IfErr result (λ why. Is why ⊎ HasTalked style old old)
none_stops Is style old (Ok found) = tt
none_stops Is style old (Err why) = inr Nothing

-- one answer more, or none
pub talked_on : {O : Type 0} (contents : O → Option (List ℕ)) (style : AnswerStyle) (old : Option (List ℕ)) (had have : O) → HasTalked style old (contents had)
    → (have ≡ had) ⊎ HasAdded (AreTalkLines style) (contents had) (contents have) → HasTalked style old (contents have)
talked_on contents style old had have before (inl same) = subst (λ w. HasTalked style old (contents w)) (sym same) before
talked_on contents style old had have before (inr added) = Another (contents had) (contents have) before added

-- the same, where the style of the answer is told apart
pub talked_next : {O : Type 0} (contents : O → Option (List ℕ)) (style same : AnswerStyle) (old : Option (List ℕ)) (had have : O) → same ≡ style
    → HasTalked style old (contents had) → (have ≡ had) ⊎ HasAdded (AreTalkLines same) (contents had) (contents have) → HasTalked style old (contents have)
talked_next contents style same old had have is before more =
    talked_on contents style old had have before (subst (λ s. (have ≡ had) ⊎ HasAdded (AreTalkLines s) (contents had) (contents have)) is more)

-- a writer that failed stops the command as that
pub asking_writes : (fault : QuestionFault) (why : Stop) → StopsAsking fault why → IsOutput fault → StopsWriting why
asking_writes fault why at output = elim (left_asking {R = ⊥} fault why at (inl output)) [
  | inl writes ↦ writes
  | inr none ↦ absurd none
]

-- Why a command stopped.
use Rattle.std.proofs.Common.{◌≡◌, ◌⊎◌, inl, inr, ℕ, List, sym, subst}
use Rattle.ua_report.specs.declared.fault.Fault.{Fault}
use Rattle.ua_report.specs.declared.fault.Fault.TheVariants.{NoMemory}
use Rattle.ua_report.specs.declared.output.Stop.{Stop}
use Rattle.ua_report.specs.declared.output.Stop.TheVariants as stop
use Rattle.ua_session.specs.Printed.{IsOutput}
use Rattle.ua_session.specs.declared.fault.QuestionFault.{QuestionFault}
use Rattle.ua_session.specs.declared.fault.QuestionFault.TheVariants as ask
use Rattle.ua_report.specs.Reasons.{StopsAsking, StopsForFault, StopsAtNodes, StopsWriting}
use Rattle.ua_report.specs.Refused.{RefusesNodes}

-- what is told of a refused node file refuses it, too
told_of : (text : List ℕ) (fault told : Fault) → RefusesNodes text fault → (told ≡ fault) ⊎ (told ≡ NoMemory) → RefusesNodes text told
told_of text fault told refused (inl same) = subst (λ f. RefusesNodes text f) (sym same) refused
told_of text fault told refused (inr memory) = inl memory

-- a command that stops at what refuses a node file is stopped by that file
pub stops_at_nodes : (text : List ℕ) (fault : Fault) (why : Stop) → RefusesNodes text fault → StopsForFault fault why → StopsAtNodes text why
stops_at_nodes text fault (stop.Fault told) refused at = told_of text fault told refused at
stops_at_nodes text fault (stop.Because told reason) refused at = told_of text fault told refused at
stops_at_nodes text fault (stop.Output error) refused at = at

-- what a fault of a conversation leaves is left by what stops the command
pub left_asking : {R : Type 0} (fault : QuestionFault) (why : Stop) → StopsAsking fault why → IsOutput fault ⊎ R → StopsWriting why ⊎ R
left_asking (ask.Output e) why at left = inl (subst (λ (w : Stop). StopsWriting w) (sym at) tt)
left_asking (ask.Service code) why at (inl output) = absurd output
left_asking (ask.Connection f) why at (inl output) = absurd output
left_asking ask.NoPolicy why at (inl output) = absurd output
left_asking ask.NoMemory why at (inl output) = absurd output
left_asking fault why at (inr left) = inr left

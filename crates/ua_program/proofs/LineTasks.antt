-- What a line of `ua ask` requests.
use Rattle.std.proofs.Common.{◌≡◌, ◌≢◌, ◌⊎◌, inl, inr, ◌++◌, ◌∷◌, [], ℕ, ℤ, pos, negsuc, List, Option, None, Some, Result, Ok, Err, ap, sym, subst, refl}
use Rattle.std.specs.Prelude.{MatchOption, unwrap_or}
use Rattle.std.specs.Str.Lines.{strip_carriage_return}
use denote.Ref.{Bor}
use Rattle.ua_report.specs.declared.loop_fault.LoopFault.{LoopFault}
use Rattle.ua_program.specs.LineTask.{GivesOwn, IsBare, IsPause, IsSleep}
use Rattle.ua_program.specs.declared.line_task.LineTask.{LineTask}
use Rattle.ua_program.specs.declared.line_task.LineTask.TheVariants as task

-- what `strip_suffix` leaves, or the line itself, is the body of the line
pub bare_of : (line body : Bor (List ℕ)) (r : Option (Bor (List ℕ))) (words : List ℕ)
    → MatchOption r ((front : List ℕ) → line.now ≢ front ++ 10 ∷ []) (λ x. line.now ≡ x.now ++ 10 ∷ [])
    → body ≡ unwrap_or r line → words ≡ strip_carriage_return body.now → IsBare line.now words
bare_of line body None words otherwise same stripped = record {
  body = body.now;
  end = inr (ap (λ (b : Bor (List ℕ)). b.now) (sym same), otherwise);
  is = stripped;
}
bare_of line body (Some x) words so same stripped =
    record { body = body.now; end = inl (subst (λ (b : Bor (List ℕ)). line.now ≡ b.now ++ 10 ∷ []) (sym same) so); is = stripped }

-- a pause after `sleep`
pub pause_given : (words time : List ℕ) (found : Result LineTask LoopFault) → IsSleep words time → IsPause time found → GivesOwn words found
pause_given words time (Ok (task.Sleep n)) sleeps pause = record { time = time; sleeps = sleeps; is = pause }
pause_given words time (Ok task.Endpoints) sleeps pause = absurd pause
pause_given words time (Ok task.Nothing) sleeps pause = absurd pause
pause_given words time (Ok task.Renew) sleeps pause = absurd pause
pause_given words time (Ok (task.Ask question)) sleeps pause = absurd pause
pause_given words time (Err fault) sleeps pause = (pause.0, record { time = time; sleeps = sleeps; bad = pause.1 })

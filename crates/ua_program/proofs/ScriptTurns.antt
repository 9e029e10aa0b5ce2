-- The turns of a script, line by line.
use Rattle.std.proofs.Common.{◌≡◌, ℕ, ◌+◌, ◌<◌, min, List, [], ◌∷◌, ◌++◌, length, get_or, take, refl, sym, ◌∙◌, ap, arith, append_assoc}
use Rattle.std.proofs.lemmas.List.{length-take-le, take_more}
use Rattle.ua_channel.specs.ClientAsks.{no_id}
use Rattle.ua_exchange.specs.declared.turn.Turn.{Turn}
use Rattle.ua_frame.specs.After.{each_after}
use Rattle.ua_frame.proofs.Afters.{each_after-push}
use Rattle.ua_program.specs.Script.{line_turn, session_opening_turns, step_turn, turns_to}
use Rattle.ua_answers.specs.declared.script.ScriptLine.{ScriptLine}

-- the turns of a line behind those before
abbrev pub own_turns : List ScriptLine → ScriptLine → List Turn
own_turns before line = line_turn before line ∷ []

pub turns_to-nil : turns_to [] ≡ session_opening_turns
unfolding each_after
turns_to-nil = refl

pub turns_to-push : (lines : List ScriptLine) (line : ScriptLine) → turns_to (lines ++ line ∷ []) ≡ turns_to lines ++ line_turn lines line ∷ []
turns_to-push lines line = ap (λ (ts : List Turn). session_opening_turns ++ ts) (each_after-push own_turns lines line)
    ∙ sym (append_assoc session_opening_turns (each_after own_turns lines) (line_turn lines line ∷ []))

-- the turns up to the next line
turns-more : (lines : List ScriptLine) (index : ℕ) (line : ScriptLine) → index < length lines → line ≡ get_or lines index line
    → turns_to (take (index + 1) lines) ≡ turns_to (take index lines) ++ step_turn (min (index + 4) no_id) line.step ∷ []
turns-more lines index line less is =
    ap turns_to (take_more lines index line less ∙ ap (λ (l : ScriptLine). take index lines ++ l ∷ []) (sym is))
    ∙ turns_to-push (take index lines) line
    ∙ ap (λ (n : ℕ). turns_to (take index lines) ++ step_turn (min (n + 4) no_id) line.step ∷ []) (length-take-le index lines (omega arith))

-- the turns up to the next line, where its turn was added to those before
pub turns-added : (lines : List ScriptLine) (index handle : ℕ) (line : ScriptLine) (old new : List Turn) (t : Turn) → index < length lines
    → line ≡ get_or lines index line → handle ≡ min (index + 4) no_id
    → t ≡ step_turn handle line.step → old ≡ turns_to (take index lines) → new ≡ old ++ t ∷ [] → new ≡ turns_to (take (index + 1) lines)
turns-added lines index handle line old new t less is h e o n =
    n
    ∙ ap (λ (u : Turn). old ++ u ∷ []) (e ∙ ap (λ (k : ℕ). step_turn k line.step) h)
    ∙ ap (λ (ts : List Turn). ts ++ step_turn (min (index + 4) no_id) line.step ∷ []) o
    ∙ sym (turns-more lines index line less is)

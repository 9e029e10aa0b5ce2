-- The lines of a script, one at a time.
use Rattle.std.proofs.Common.{◌≡◌, ℕ, suc, ◌+◌, true, false, List, [], ◌∷◌, ◌++◌, length, take, drop, Err, sym, ◌∙◌, ap, subst, arith, append-nil}
use Rattle.std.specs.List.{AllZip}
use Rattle.std.specs.Str.Lines.{strip_carriage_return}
use Rattle.std.proofs.Math.Seq.{take-length}
use Rattle.std.proofs.lemmas.List.{length-map}
use Rattle.std.proofs.lemmas.Slice.Zip.{all_zipped_more}
use Rattle.ua_nodes.proofs.Files.{IsPiece, length_first, lines_at, lines_more, one_line, read_append, read_cons, read_from, skip_cons}
use Rattle.ua_nodes.proofs.Pieces.{pieces}
use Rattle.ua_nodes.specs.NodeFile.{FileLine, fields, is_read, lines_of, node_lines}
use Rattle.ua_answers.specs.Script.{AsksForStep, AsksFor, AsksNothing, GivesStep, IsFirstBadScriptLine, IsLineOf, RefusesScriptLines}
use Rattle.ua_answers.specs.ScriptLineFault.{script_fault}
use Rattle.ua_answers.specs.declared.fault.ScriptLineFault.{ScriptLineFault}
use Rattle.ua_answers.specs.declared.fault.ScriptLineFault.TheVariants.{Bad, NoMemory}
use Rattle.ua_answers.specs.declared.script.ScriptLine.{ScriptLine}
use Rattle.ua_answers.specs.declared.script.Step.{Step}

abbrev numbered_step : ℕ → Step → ScriptLine
numbered_step n step = record { number = n; step = step }

-- a line that is read, behind those before
step_more : (xs : List (List ℕ)) (x : List ℕ) (steps : List ScriptLine) (n : ℕ) (step : Step) → n ≡ 1 + length xs → is_read x ≡ true
    → AllZip IsLineOf (read_from 1 xs) steps → AsksForStep (fields x) step
    → AllZip IsLineOf (read_from 1 (xs ++ x ∷ [])) (steps ++ numbered_step n step ∷ [])
step_more xs x steps n step e read all asks =
    let lines : read_from 1 (xs ++ x ∷ []) ≡ read_from 1 xs ++ one_line (1 + length xs) x ∷ [] =
    read_append 1 xs (x ∷ []) ∙ ap (λ (t : List FileLine). read_from 1 xs ++ t) (read_cons (1 + length xs) x [] read) in
    let each : AllZip IsLineOf (read_from 1 xs ++ one_line (1 + length xs) x ∷ []) (steps ++ numbered_step n step ∷ []) =
    all_zipped_more IsLineOf (read_from 1 xs) steps (one_line (1 + length xs) x) (numbered_step n step) all (sym e, asks) in
    subst (λ (t : List FileLine). AllZip IsLineOf t (steps ++ numbered_step n step ∷ [])) (sym lines) each

-- a line that is skipped, behind those before
skip_more : (xs : List (List ℕ)) (x : List ℕ) (steps : List ScriptLine) → is_read x ≡ false → AllZip IsLineOf (read_from 1 xs) steps
    → AllZip IsLineOf (read_from 1 (xs ++ x ∷ [])) steps
skip_more xs x steps skipped all =
    let lines : read_from 1 (xs ++ x ∷ []) ≡ read_from 1 xs =
    read_append 1 xs (x ∷ []) ∙ ap (λ (t : List FileLine). read_from 1 xs ++ t) (skip_cons (1 + length xs) x [] skipped) ∙ append-nil (read_from 1 xs) in
    subst (λ (t : List FileLine). AllZip IsLineOf t steps) (sym lines) all

-- ---- a turn over the lines of a text

at_place : (text : List ℕ) (n k : ℕ) (x : List ℕ) → n ≡ k → IsPiece text k x → IsPiece text n x
at_place text n k x e h = subst (λ (m : ℕ). IsPiece text m x) (sym e) h

-- the steps of the first lines
abbrev pub StepsOf : List ℕ → ℕ → List ScriptLine → Type 0
StepsOf text n steps = AllZip IsLineOf (read_from 1 (take n (lines_of text))) steps

number_is : (text : List ℕ) (n : ℕ) (x : List ℕ) → IsPiece text n x → n + 1 ≡ 1 + length (take n (lines_of text))
number_is text n x h = let within = h.0 in omega (arith, length_first (pieces 10 text) n (omega arith))

pub turn_step : (text : List ℕ) (n k : ℕ) (x : List ℕ) (steps : List ScriptLine) (step : Step) → n ≡ k → IsPiece text k x
    → is_read (strip_carriage_return x) ≡ true → StepsOf text n steps → AsksForStep (fields (strip_carriage_return x)) step
    → StepsOf text (n + 1) (steps ++ numbered_step (n + 1) step ∷ [])
turn_step text n k x steps step e h read all asks =
    let here = at_place text n k x e h in
    subst (λ (t : List (List ℕ)). AllZip IsLineOf (read_from 1 t) (steps ++ numbered_step (n + 1) step ∷ []))
    (sym (lines_more (pieces 10 text) n x here.0 here.1))
    (step_more (take n (lines_of text)) (strip_carriage_return x) steps (n + 1) step (number_is text n x here) read all asks)

pub turn_skip : (text : List ℕ) (n k : ℕ) (x : List ℕ) (steps : List ScriptLine) → n ≡ k → IsPiece text k x → is_read (strip_carriage_return x) ≡ false
    → StepsOf text n steps → StepsOf text (n + 1) steps
turn_skip text n k x steps e h skipped all =
    let here = at_place text n k x e h in
    subst (λ (t : List (List ℕ)). AllZip IsLineOf (read_from 1 t) steps) (sym (lines_more (pieces 10 text) n x here.0 here.1))
    (skip_more (take n (lines_of text)) (strip_carriage_return x) steps skipped all)

pub turn_bad : (text : List ℕ) (n k : ℕ) (x : List ℕ) (steps : List ScriptLine) → n ≡ k → IsPiece text k x → is_read (strip_carriage_return x) ≡ true
    → StepsOf text n steps → AsksNothing (fields (strip_carriage_return x))
    → IsFirstBadScriptLine (node_lines text) (n + 1)
turn_bad text n k x steps e h read all nothing =
    let here = at_place text n k x e h in
    let front = take n (lines_of text) in
    let back = drop (suc n) (lines_of text) in
    let number : 1 + length front ≡ n + 1 = sym (number_is text n x here) in
    let line : List ℕ = strip_carriage_return x in
    let parts : read_from 1 (front ++ line ∷ back) ≡ read_from 1 front ++ one_line (n + 1) line ∷ read_from (suc (1 + length front)) back =
    read_append 1 front (line ∷ back) ∙ ap (λ (t : List FileLine). read_from 1 front ++ t) (read_cons (1 + length front) line back read)
    ∙ ap (λ (m : ℕ). read_from 1 front ++ one_line m line ∷ read_from (suc (1 + length front)) back) number in
    record {
      front = read_from 1 front;
      line = line;
      back = read_from (suc (1 + length front)) back;
      steps = steps;
      parts = ap (read_from 1) (lines_at (pieces 10 text) n x here.0 here.1) ∙ parts;
      good = all;
      bad = nothing;
    }

pub turn_fault : (text : List ℕ) (n k : ℕ) (x : List ℕ) (steps : List ScriptLine) (fault : ScriptLineFault) → n ≡ k → IsPiece text k x
    → is_read (strip_carriage_return x) ≡ true → StepsOf text n steps → GivesStep (fields (strip_carriage_return x)) (Err fault)
    → RefusesScriptLines text (script_fault (n + 1) fault)
turn_fault text n k x steps Bad e h read all nothing = turn_bad text n k x steps e h read all nothing
turn_fault text n k x steps NoMemory e h read all nothing = tt

pub turns_done : (text : List ℕ) (n k : ℕ) (steps : List ScriptLine) → n ≡ k → k ≡ length (pieces 10 text) → StepsOf text n steps → AsksFor text steps
turns_done text n k steps e f all =
    let whole : n ≡ length (lines_of text) = e ∙ f ∙ sym (length-map (pieces 10 text) strip_carriage_return) in
    subst (λ (t : List (List ℕ)). AllZip IsLineOf (read_from 1 t) steps) (ap (λ (m : ℕ). take m (lines_of text)) whole ∙ take-length (lines_of text)) all

-- Which line is blamed for a turn that is not accepted.
use Rattle.std.proofs.Common.{◌≡◌, ℕ, suc, ◌+◌, ◌-◌, ◌<◌, ◌≤◌, Bool, true, false, List, [], ◌∷◌, ◌++◌, Some, None, length, get_or, take}
use Rattle.std.proofs.Common.{drop, refl, sym, ◌∙◌, ap, subst, arith, append_assoc, append-nil, length-append, drop-cons, take-append-drop}
use Rattle.std.proofs.lemmas.List.{length-take-le}
use Rattle.std.specs.List.{AllByRecursion}
use Rattle.ua_builtin.specs.Reasons.{first_reason}
use Rattle.ua_exchange.specs.Accepted.{AreAccepted, FirstRefused, turn_reasons, turn_refusal}
use Rattle.ua_exchange.specs.Exchanged.{IsRefusedFor}
use Rattle.ua_exchange.specs.declared.fault.PairFault.{PairFault}
use Rattle.ua_exchange.specs.declared.fault.PairFault.TheVariants.{NotWritable, OutOfMemory, Request}
use Rattle.ua_exchange.specs.declared.turn.Turn.{Turn}
use Rattle.ua_exchange.specs.declared.turn.Turn.TheVariants.{Ask, Renew}
use Rattle.ua_frame.specs.After.{each_after, each_from}
use Rattle.ua_program.specs.ScriptFaults.{StopsAtLine, StopsBehind, place_in}
use Rattle.ua_program.specs.Script.{closing, line_turn, session_opening_turns, script_turns, turns_to}
use Rattle.ua_program.proofs.Opening.{activating-accepted, creating-accepted}
use Rattle.ua_program.proofs.ScriptTurns.{own_turns}
use Rattle.ua_answers.specs.declared.script.ScriptLine.{ScriptLine}

-- ---- the place that a fault names

first_at : (n : ℕ) (rs : List (PairFault × Bool)) → AllByRecursion (λ r. place_in r.0 ≡ Some n) rs → (fault : PairFault) → first_reason rs ≡ Some fault
    → place_in fault ≡ Some n
first_at n [] all fault e = absurd cc
first_at n ((f, true) ∷ rs) all fault e = let same : f ≡ fault = cc in ap place_in (sym same) ∙ all.0
first_at n ((f, false) ∷ rs) all fault e = first_at n rs all.1 fault e

refused_at : (before : List Turn) (t : Turn) (fault : PairFault) → turn_refusal before t ≡ Some fault → place_in fault ≡ Some (length before)
refused_at before (Ask m) fault e = first_at (length before) (turn_reasons before (Ask m)) (refl, (refl, (refl, tt))) fault e
refused_at before Renew fault e = first_at (length before) (turn_reasons before Renew) (refl, (refl, tt)) fault e

-- ---- lists that are parted at one place

same_parts : {A : Type 0} (xs zs : List A) (x z : A) (ys ws : List A) → xs ++ x ∷ ys ≡ zs ++ z ∷ ws → length xs ≡ length zs → (xs ≡ zs) × (x ≡ z)
same_parts [] [] x z ys ws e n = (refl, cc)
same_parts [] (c ∷ zs) x z ys ws e n = absurd (omega arith)
same_parts (b ∷ xs) [] x z ys ws e n = absurd (omega arith)
same_parts (b ∷ xs) (c ∷ zs) x z ys ws e n =
    let head : b ≡ c = cc in
    let tail : xs ++ x ∷ ys ≡ zs ++ z ∷ ws = cc in
    let p = same_parts xs zs x z ys ws tail (omega arith) in (cc, p.1)

parted_at : (xs : List ScriptLine) (k : ℕ) (x : ScriptLine) → k < length xs → x ≡ get_or xs k x → xs ≡ take k xs ++ x ∷ drop (suc k) xs
parted_at xs k x less is = sym (take-append-drop k xs)
    ∙ ap (λ (ts : List ScriptLine). take k xs ++ ts) (drop-cons xs k x less ∙ ap (λ (y : ScriptLine). y ∷ drop (suc k) xs) (sym is))

-- ---- the turns of lines that are parted

each_from-append : (start xs ys : List ScriptLine) → each_from own_turns start (xs ++ ys) ≡ each_from own_turns start xs ++ each_from own_turns (start ++ xs) ys
each_from-append start [] ys = ap (λ (t : List ScriptLine). each_from own_turns t ys) (sym (append-nil start))
each_from-append start (x ∷ xs) ys =
    ap (λ (t : List Turn). line_turn start x ∷ t)
    (each_from-append (start ++ x ∷ []) xs ys ∙ ap (λ (t : List ScriptLine). each_from own_turns (start ++ x ∷ []) xs ++ each_from own_turns t ys)
    (append_assoc start (x ∷ []) xs))

each_from-length : (start xs : List ScriptLine) → length (each_from own_turns start xs) ≡ length xs
each_from-length start [] = refl
each_from-length start (x ∷ xs) = ap suc (each_from-length (start ++ x ∷ []) xs)

turns_to-length : (lines : List ScriptLine) → length (turns_to lines) ≡ length lines + 2
unfolding each_after
turns_to-length lines = omega (arith, each_from-length [] lines)

-- the turns behind that of a line
abbrev later : List ScriptLine → ScriptLine → List ScriptLine → List Turn
later front line back = each_from own_turns (front ++ line ∷ []) back ++ closing (front ++ line ∷ back) ∷ []

script_turns-parts : (front : List ScriptLine) (line : ScriptLine) (back : List ScriptLine) → script_turns (front ++ line ∷ back) ≡ turns_to front
    ++ line_turn front line ∷ later front line back
unfolding each_after
script_turns-parts front line back =
    let end : List Turn = closing (front ++ line ∷ back) ∷ [] in
    let rest : List Turn = each_from own_turns (front ++ line ∷ []) back in
    ap (λ (ts : List Turn). (session_opening_turns ++ ts) ++ end) (each_from-append [] front (line ∷ back))
    ∙ ap (λ (ts : List Turn). ts ++ end) (sym (append_assoc session_opening_turns (each_from own_turns [] front) (line_turn front line ∷ rest)))
    ∙ append_assoc (session_opening_turns ++ each_from own_turns [] front) (line_turn front line ∷ rest) end

-- ---- the first turn that is not accepted

-- it is none of the two that stand first, where these are accepted
two_before : (a b t : Turn) (before behind rest : List Turn) (fault : PairFault) → a ∷ (b ∷ rest) ≡ before ++ t ∷ behind → turn_refusal [] a ≡ None
    → turn_refusal (a ∷ []) b ≡ None → turn_refusal before t ≡ Some fault
    → 2 ≤ length before
two_before a b t [] behind rest fault e one two refused =
    let same : a ≡ t = cc in
    let no : Some fault ≡ None = sym refused ∙ ap (turn_refusal []) (sym same) ∙ one in absurd cc
two_before a b t (c ∷ []) behind rest fault e one two refused =
    let first : a ≡ c = cc in
    let same : b ≡ t = cc in
    let no : Some fault ≡ None = sym refused ∙ ap (λ (u : Turn). turn_refusal (c ∷ []) u) (sym same) ∙ ap (λ (u : Turn). turn_refusal (u ∷ []) b) (sym first)
    ∙ two in absurd cc
two_before a b t (c ∷ (d ∷ before)) behind rest fault e one two refused = omega arith

-- a fault that blames a turn is that of the first one
first_of : (turns : List Turn) (fault : PairFault) (index : ℕ) → place_in fault ≡ Some index → IsRefusedFor turns fault → FirstRefused turns fault
first_of turns (Request i f) index e refused = refused
first_of turns (NotWritable i) index e refused = refused
first_of turns OutOfMemory index e refused = absurd cc

module _ (lines : List ScriptLine) (fault : PairFault) (refused : IsRefusedFor (script_turns lines) fault) (index : ℕ)
    (place : place_in fault ≡ Some index) where
  first : FirstRefused (script_turns lines) fault
  first = first_of (script_turns lines) fault index place refused

  index_is : index ≡ length first.before
  index_is = let e : Some index ≡ Some (length first.before) = sym place ∙ refused_at first.before first.turn fault first.refused in cc

  enough : 2 ≤ length first.before
  enough = two_before _ _ first.turn first.before first.behind _ fault first.parts creating-accepted activating-accepted first.refused

  module _ (k : ℕ) (k_is : k ≡ index - 2) where
    pub stops-at : (line : ScriptLine) → k < length lines → line ≡ get_or lines k line → StopsAtLine lines line.number
    stops-at line less is =
        let at = parted_at lines k line less is in
        let front : List ScriptLine = take k lines in
        let back : List ScriptLine = drop (suc k) lines in
        let parts : first.before ++ first.turn ∷ first.behind ≡ turns_to front ++ line_turn front line ∷ later front line back = sym first.parts
        ∙ ap script_turns at ∙ script_turns-parts front line back in
        let long : length first.before ≡ length (turns_to front) =
        omega (arith, k_is, index_is, enough, turns_to-length front, length-take-le k lines (omega arith)) in
        let same = same_parts first.before (turns_to front) first.turn (line_turn front line) first.behind (later front line back) parts long in
        record {
          before = front;
          line = line;
          behind = back;
          parts = at;
          number_is = refl;
          accepted = subst AreAccepted same.0 first.accepted;
          reason = fault;
          refused = sym (ap (λ (ts : List Turn). turn_refusal ts (line_turn front line)) same.0) ∙ sym (ap (turn_refusal first.before) same.1) ∙ first.refused;
        }

    pub stops-behind : length lines ≤ k → StopsBehind lines
    stops-behind past =
        let all : length (turns_to lines ++ closing lines ∷ []) ≡ length (first.before ++ first.turn ∷ first.behind) = ap length first.parts in
        let long : length first.before ≡ length (turns_to lines) =
        omega (
          arith,
          k_is,
          index_is,
          enough,
          past,
          all,
          turns_to-length lines,
          length-append (turns_to lines) (closing lines ∷ []),
          length-append first.before (first.turn ∷ first.behind),
        ) in
        let same = same_parts first.before (turns_to lines) first.turn (closing lines) first.behind [] (sym first.parts) long in
        record {
          accepted = subst AreAccepted same.0 first.accepted;
          reason = fault;
          refused = sym (ap (λ (ts : List Turn). turn_refusal ts (closing lines)) same.0) ∙ sym (ap (turn_refusal first.before) same.1) ∙ first.refused;
        }

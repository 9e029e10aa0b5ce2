-- What reads and writes leave.
use Rattle.std.proofs.Common.{◌≡◌, ◌<◌, ◌≤◌, ◌⊎◌, inl, inr, ℕ, Bool, true, false, List, [], ◌∷◌, ◌++◌, length, length-drop, take, drop}
use Rattle.std.proofs.Common.{Option, None, Some, Result, Ok, Err, refl, sym, ap, subst, ◌∙◌, append_assoc, append-nil, arith, ◌==◌}
use Rattle.std.proofs.lemmas.Bool.{eqb-true}
use Rattle.std.proofs.lemmas.List.{take-append-drop}
use Rattle.std.specs.Option.{option_map}
use Rattle.std.specs.Prelude.{cond, is_some}
use Rattle.ua_server.specs.Sharing.{SharedEvent}
use Rattle.ua_server.specs.State.{State}
use Rattle.ua_server.specs.declared.step.End.{End}
use Rattle.ua_server.specs.declared.step.End.TheVariants as ending
use Rattle.ua_concurrent.specs.Carried.{Carried, with_more, with_more_written, with_read}
use Rattle.ua_concurrent.specs.Seen.{Seen}
use Rattle.ua_concurrent.specs.Standing.{HasCome, TalkStands}
use Rattle.ua_concurrent.specs.Talk.{Talk, are_there, is_going, is_ready, ready_of}
use Rattle.ua_concurrent.specs.Turning.{SteppedAndWrote, Failed, CameTo, FailedBy, Finished, FinishesTalk, HadTurn, IsTalkIdle, IsTalkOver, Moved, Moves}
use Rattle.ua_concurrent.specs.Turning.{Read, ReadsSocket, Stepped, Stopped, Turned, WritesSocket, WroteToSocket, failures_by}
use Rattle.ua_concurrent.proofs.Behind.{StandsAfter}
use Rattle.ua_concurrent.specs.declared.outcome.Failure.{Failure}
use Rattle.ua_concurrent.specs.declared.outcome.Failure.TheVariants as failure
use Rattle.ua_concurrent.specs.declared.outcome.Phase.{Phase}
use Rattle.ua_concurrent.specs.declared.outcome.Phase.TheVariants as phase

-- what was heard is what was heard before, with more
heard_before : (f : Carried → Carried) (x y : Option Carried) (c : Carried) → y ≡ option_map f x → y ≡ Some c → (d : Carried) × (x ≡ Some d) × (c ≡ f d)
heard_before f (Some d) y c e s = (d, refl, cc)
heard_before f None y c e s = cc

pub not_empty : (xs ys : List ℕ) → false ≡ (length xs == 0) → xs ≡ ys → 0 < length ys
not_empty [] ys e same = let no : false ≡ true = e in cc
not_empty (x ∷ xs) ys e same = subst (λ (l : List ℕ). 0 < length l) same (omega arith)

pub all_written : (xs ys : List ℕ) → true ≡ (length xs == 0) → xs ≡ ys → ys ≡ []
all_written [] ys e same = sym same
all_written (x ∷ xs) ys e same = let none : length (x ∷ xs) ≡ 0 = eqb-true (length (x ∷ xs)) 0 (sym e) in absurd (omega (arith, none))

drop_fewer : (xs : List ℕ) (n : ℕ) → 0 < n → n ≤ length xs → length (drop n xs) < length xs
drop_fewer xs n p q = simp length-drop (omega arith)

some_there : (xs : List ℕ) → 0 < length xs → are_there xs ≡ true
some_there [] h = let no : 0 < 0 = h in absurd (omega (arith, no))
some_there (x ∷ xs) h = refl

-- ---- bytes that moved

same_carried : (a b c d : List ℕ) → a ≡ c → b ≡ d → ◌≡◌ {A = Carried} (record { read = a; written = b }) (record { read = c; written = d })
same_carried a b c d e f = cc

none_more : (x : Option Carried) → x ≡ option_map (with_more [] []) x
none_more None = refl
none_more (Some c) = ap Some (same_carried _ _ _ _ (sym (append-nil c.read)) (sym (append-nil c.written)))

only_read : (piece : List ℕ) (x : Option Carried) → option_map (with_read piece) x ≡ option_map (with_more piece []) x
only_read piece None = refl
only_read piece (Some c) = ap Some (same_carried _ _ _ _ refl (sym (append-nil c.written)))

only_written : (piece : List ℕ) (x : Option Carried) → option_map (with_more_written piece) x ≡ option_map (with_more [] piece) x
only_written piece None = refl
only_written piece (Some c) = ap Some (same_carried _ _ _ _ (sym (append-nil c.read)) refl)

then_more : (read written again : List ℕ) (x : Option Carried) → option_map (with_more [] again) (option_map (with_more read written) x)
    ≡ option_map (with_more read (written ++ again)) x
then_more read written again None = refl
then_more read written again (Some c) = ap Some (same_carried _ _ _ _ (append-nil (c.read ++ read)) (append_assoc c.written written again))

pub moved_none : (a b : Seen) → b.heard ≡ a.heard → Moved [] [] a b
moved_none a b same = same ∙ none_more a.heard

-- these were read, and then those written
pub moved_then : (read again : List ℕ) (a b c : Seen) → Moved read [] a b → Moved [] again b c → Moved read again a c
moved_then read again a b c first then = then ∙ ap (option_map (with_more [] again)) first ∙ then_more read [] again a.heard

module _ {S : Type 0} (seen : S → Seen) where
  -- ---- it stands where it stood

  pub stands_wrote : (es : List SharedEvent) (first now : State) (a b : Talk S) → WroteToSocket seen a b → (s : TalkStands seen es first now a)
      → StandsAfter seen es first now s.octets b
  stands_wrote es first now a b w s =
      let n = w.count in
      let sent : (s.written ++ take n a.waiting) ++ drop n a.waiting ≡ s.written ++ a.waiting =
      append_assoc s.written (take n a.waiting) (drop n a.waiting) ∙ ap (λ (x : List ℕ). s.written ++ x) (take-append-drop n a.waiting) in
      subst (λ (t : Talk S). StandsAfter seen es first now s.octets t) (sym w.is) (
        record {
          octets = s.octets;
          written = s.written ++ take n a.waiting;
          come = subst (λ (x : List ℕ). HasCome a.phase a.number a.connection s.octets es first now x) (sym sent) s.come;
          carried = λ c e. let before = heard_before (with_more_written (take n a.waiting)) (seen a.socket).heard (seen b.socket).heard c
              (ap (λ (x : Seen). x.heard) w.did) e in
              let was = s.carried before.0 before.1 in
              (ap (λ (x : Carried). x.read) before.2 ∙ was.0, ap (λ (x : Carried). x.written) before.2 ∙ ap (λ (x : List ℕ). x ++ take n a.waiting) was.1);
        },
        refl,
      )

  pub stands_read : (es : List SharedEvent) (first now : State) (a b : Talk S) → a.unread ≡ [] → Read seen a b → (s : TalkStands seen es first now a)
      → StandsAfter seen es first now s.octets b
  stands_read es first now a b none w s =
      subst (λ (t : Talk S). StandsAfter seen es first now s.octets t) (sym w.is) (
        record {
          octets = s.octets;
          written = s.written;
          come = s.come;
          carried = λ c e. let before = heard_before (with_read w.piece) (seen a.socket).heard (seen b.socket).heard c w.heard_is e in
              let was = s.carried before.0 before.1 in (
                ap (λ (x : Carried). x.read) before.2
                    ∙ ap (λ (x : List ℕ). x ++ w.piece) (was.0 ∙ ap (λ (x : List ℕ). s.octets ++ x) none ∙ append-nil s.octets),
                ap (λ (x : Carried). x.written) before.2 ∙ was.1,
              );
        },
        refl,
      )

  pub stands_finished : (es : List SharedEvent) (first now : State) (a b : Talk S) → a.unread ≡ [] → Finished seen a b → (s : TalkStands seen es first now a)
      → StandsAfter seen es first now s.octets b
  stands_finished es first now a b none w s =
      subst (λ (t : Talk S). StandsAfter seen es first now s.octets t) (sym w.is) (
        record {
          octets = s.octets;
          written = s.written;
          come = s.come;
          carried = λ c e. let before = heard_before (with_read []) (seen a.socket).heard (seen b.socket).heard c w.heard_is e in
              let was = s.carried before.0 before.1 in (
                ap (λ (x : Carried). x.read) before.2 ∙ append-nil before.0.read ∙ was.0 ∙ ap (λ (x : List ℕ). s.octets ++ x) none,
                ap (λ (x : Carried). x.written) before.2 ∙ was.1,
              );
        },
        refl,
      )

  pub stands_stopped : (able : Seen → Bool) (es : List SharedEvent) (first now : State) (a b : Talk S) → Stopped seen able a b
      → (s : TalkStands seen es first now a) → StandsAfter seen es first now s.octets b
  stands_stopped able es first now a b w s =
      subst (λ (t : Talk S). StandsAfter seen es first now s.octets t) (sym w.is)
      (record { octets = s.octets; written = s.written; come = s.come; carried = λ c e. s.carried c (sym w.heard_is ∙ e) }, refl)

  pub stands_failed : (failure : Failure) (es : List SharedEvent) (first now : State) (a b : Talk S) → Failed seen failure a b
      → (s : TalkStands seen es first now a) → StandsAfter seen es first now s.octets b
  stands_failed failure es first now a b w s =
      subst (λ (t : Talk S). StandsAfter seen es first now s.octets t) (sym w.is)
      (record { octets = s.octets; written = s.written; come = s.come; carried = λ c e. s.carried c (sym w.heard_is ∙ e) }, refl)

  pub stands_writes : (es : List SharedEvent) (first now : State) (a b : Talk S) → WritesSocket seen a b → (s : TalkStands seen es first now a)
      → StandsAfter seen es first now s.octets b
  stands_writes es first now a b (inl w) s = stands_wrote es first now a b w s
  stands_writes es first now a b (inr (inl w)) s = stands_stopped (λ s. s.writable) es first now a b w s
  stands_writes es first now a b (inr (inr w)) s = stands_failed failure.Write es first now a b w s

  pub stands_reads : (es : List SharedEvent) (first now : State) (a b : Talk S) → a.unread ≡ [] → ReadsSocket seen a b → (s : TalkStands seen es first now a)
      → StandsAfter seen es first now s.octets b
  stands_reads es first now a b none (inl w) s = stands_read es first now a b none w s
  stands_reads es first now a b none (inr (inl w)) s = stands_finished es first now a b none w s
  stands_reads es first now a b none (inr (inr (inl w))) s = stands_stopped (λ s. s.readable) es first now a b w s
  stands_reads es first now a b none (inr (inr (inr w))) s = stands_failed failure.Read es first now a b w s

  -- ---- the number stays

  pub number_writes : (a b : Talk S) → WritesSocket seen a b → b.number ≡ a.number
  number_writes a b (inl w) = ap (λ (t : Talk S). t.number) w.is
  number_writes a b (inr (inl w)) = ap (λ (t : Talk S). t.number) w.is
  number_writes a b (inr (inr w)) = ap (λ (t : Talk S). t.number) w.is

  pub phase_writes : (a b : Talk S) → WritesSocket seen a b → b.phase ≡ a.phase
  phase_writes a b (inl w) = ap (λ (t : Talk S). t.phase) w.is
  phase_writes a b (inr (inl w)) = ap (λ (t : Talk S). t.phase) w.is
  phase_writes a b (inr (inr w)) = ap (λ (t : Talk S). t.phase) w.is

  -- ---- a write reads nothing, and leaves it over only where it failed

  abbrev written_by : (a b : Talk S) → WritesSocket seen a b → List ℕ
  written_by a b (inl w) = take w.count a.waiting
  written_by a b (inr w) = []

  moved_writes : (a b : Talk S) (w : WritesSocket seen a b) → Moved [] (written_by a b w) (seen a.socket) (seen b.socket)
  moved_writes a b (inl w) = ap (λ (x : Seen). x.heard) w.did ∙ only_written (take w.count a.waiting) (seen a.socket).heard
  moved_writes a b (inr (inl w)) = moved_none (seen a.socket) (seen b.socket) w.heard_is
  moved_writes a b (inr (inr w)) = moved_none (seen a.socket) (seen b.socket) w.heard_is

  over_none : (x : Option (Result End Failure)) (t : Talk S) → x ≡ None → IsTalkOver seen x t
  over_none x t e = subst (λ (o : Option (Result End Failure)). IsTalkOver seen o t) (sym e) tt

  over_as : (x y : Option (Result End Failure)) (t : Talk S) → x ≡ y → IsTalkOver seen y t → IsTalkOver seen x t
  over_as x y t e o = subst (λ (o : Option (Result End Failure)). IsTalkOver seen o t) (sym e) o

  over_writes : (a b : Talk S) → a.outcome ≡ None → 0 < length a.waiting → WritesSocket seen a b → IsTalkOver seen b.outcome b
  over_writes a b still some (inl w) = over_none b.outcome b (ap (λ (t : Talk S). t.outcome) w.is ∙ still)
  over_writes a b still some (inr (inl w)) = over_none b.outcome b (ap (λ (t : Talk S). t.outcome) w.is ∙ still)
  over_writes a b still some (inr (inr w)) = over_as b.outcome (Some (Err failure.Write)) b (ap (λ (t : Talk S). t.outcome) w.is)
      (subst (λ (x : List ℕ). 0 < length x) (sym (ap (λ (t : Talk S). t.waiting) w.is)) some)

  -- the count of failures, by the outcome
  failed_as : (x y : Option (Result End Failure)) (a b : Seen) → x ≡ y → FailedBy y a b → FailedBy x a b
  failed_as x y a b e f = subst (λ (o : Option (Result End Failure)). FailedBy o a b) (sym e) f

  failed_writes : (a b : Talk S) → a.outcome ≡ None → WritesSocket seen a b → FailedBy b.outcome (seen a.socket) (seen b.socket)
  failed_writes a b still (inl w) = failed_as b.outcome None (seen a.socket) (seen b.socket) (ap (λ (t : Talk S). t.outcome) w.is ∙ still)
      (ap (λ (x : Seen). x.failures) w.did)
  failed_writes a b still (inr (inl w)) = failed_as b.outcome None (seen a.socket) (seen b.socket) (ap (λ (t : Talk S). t.outcome) w.is ∙ still) w.failures_is
  failed_writes a b still (inr (inr w)) = failed_as b.outcome (Some (Err failure.Write)) (seen a.socket) (seen b.socket) (ap (λ (t : Talk S). t.outcome) w.is)
      w.failures_is

  -- ---- steps, and writes behind them

  pub stepped_trans : (a b c : Talk S) → b.phase ≡ phase.Going → Stepped a b → Stepped b c → Stepped a c
  stepped_trans a b c going s t = record {
    number_is = t.number_is ∙ s.number_is;
    socket_is = t.socket_is ∙ s.socket_is;
    outcome_is = t.outcome_is ∙ s.outcome_is;
    fewer = by s.fewer t.fewer;
  }
    where
      by : (is_going b.phase ≡ false) ⊎ (length b.unread < length a.unread) → (is_going c.phase ≡ false) ⊎ (length c.unread < length b.unread)
          → (is_going c.phase ≡ false) ⊎ (length c.unread < length a.unread)
      by x (inl e) = inl e
      by (inr x) (inr y) = inr (omega arith)
      by (inl e) (inr y) = let no : true ≡ false = sym (ap is_going going) ∙ e in cc

  pub answered_stepped : (a b : Talk S) → a.outcome ≡ None → Stepped a b → SteppedAndWrote seen a b
  answered_stepped a b still s = record {
    written = [];
    moved = moved_none (seen a.socket) (seen b.socket) (ap (λ (x : S). (seen x).heard) s.socket_is);
    number_is = s.number_is;
    fewer = s.fewer;
    over = over_none b.outcome b (s.outcome_is ∙ still);
    failed = failed_as b.outcome None (seen a.socket) (seen b.socket) (s.outcome_is ∙ still) (ap (λ (x : S). (seen x).failures) s.socket_is);
  }

  -- a write behind steps
  pub answered_wrote : (a b c : Talk S) → a.outcome ≡ None → 0 < length b.waiting → Stepped a b → WritesSocket seen b c → SteppedAndWrote seen a c
  answered_wrote a b c still some s w = record {
    written = written_by b c w;
    moved = subst (λ (x : S). Moved [] (written_by b c w) (seen x) (seen c.socket)) s.socket_is (moved_writes b c w);
    number_is = number_writes b c w ∙ s.number_is;
    fewer = fewer w s.fewer;
    over = over_writes b c (s.outcome_is ∙ still) some w;
    failed = subst (λ (x : S). FailedBy c.outcome (seen x) (seen c.socket)) s.socket_is (failed_writes b c (s.outcome_is ∙ still) w);
  }
    where
      fewer_as : (v : Talk S) → v.phase ≡ b.phase → v.unread ≡ b.unread → (is_going b.phase ≡ false) ⊎ (length b.unread < length a.unread)
          → (is_going v.phase ≡ false) ⊎ (length v.unread < length a.unread)
      fewer_as v phase unread (inl e) = inl (ap is_going phase ∙ e)
      fewer_as v phase unread (inr l) = inr (subst (λ (x : List ℕ). length x < length a.unread) (sym unread) l)

      fewer : WritesSocket seen b c → (is_going b.phase ≡ false) ⊎ (length b.unread < length a.unread)
          → (is_going c.phase ≡ false) ⊎ (length c.unread < length a.unread)
      fewer (inl w) f = fewer_as c (ap (λ (t : Talk S). t.phase) w.is) (ap (λ (t : Talk S). t.unread) w.is) f
      fewer (inr (inl w)) f = fewer_as c (ap (λ (t : Talk S). t.phase) w.is) (ap (λ (t : Talk S). t.unread) w.is) f
      fewer (inr (inr w)) f = fewer_as c (ap (λ (t : Talk S). t.phase) w.is) (ap (λ (t : Talk S). t.unread) w.is) f

  -- ---- turns

  -- steps alone, and the writes behind them, are a turn
  pub turned_answered : (a b : Talk S) → SteppedAndWrote seen a b → Turned seen a b
  turned_answered a b s = record {
    read = [];
    written = s.written;
    within = omega arith;
    moved = s.moved;
    number_is = s.number_is;
    moves = by s.fewer;
    over = s.over;
    failed = s.failed;
  }
    where
      by : (is_going b.phase ≡ false) ⊎ (length b.unread < length a.unread) → Moves seen [] a b
      by (inl e) = inr (inr (inr (inl e)))
      by (inr l) = inr (inr (inl l))

  -- a read of some bytes, with steps and writes behind it
  pub turned_read : (a b c : Talk S) → a.outcome ≡ None → ReadsSocket seen a b → 0 < length b.unread → a.unread ≡ [] → SteppedAndWrote seen b c
      → Turned seen a c
  turned_read a b c still (inl w) some none s = record {
    read = w.piece;
    written = s.written;
    within = w.within;
    moved = moved_then w.piece s.written (seen a.socket) (seen b.socket) (seen c.socket)
        (w.heard_is ∙ only_read w.piece (seen a.socket).heard) s.moved;
    number_is = s.number_is ∙ ap (λ (t : Talk S). t.number) w.is;
    moves = inr (inr (inr (inr (inl w.some))));
    over = s.over;
    failed = s.failed ∙ ap (failures_by c.outcome) w.failures_is;
  }
  turned_read a b c still (inr (inl w)) some none s =
      absurd (omega (arith, some, ap (λ (t : Talk S). length t.unread) w.is))
  turned_read a b c still (inr (inr (inl w))) some none s =
      absurd (omega (arith, some, ap (λ (t : Talk S). length t.unread) w.is, ap length none))
  turned_read a b c still (inr (inr (inr w))) some none s =
      absurd (omega (arith, some, ap (λ (t : Talk S). length t.unread) w.is, ap length none))

  ready_open : (t : Talk S) → is_ready seen t ≡ true → t.outcome ≡ None
  ready_open t e = by t.outcome refl
    where
      by : (x : Option (Result End Failure)) → t.outcome ≡ x → t.outcome ≡ None
      by None f = f
      by (Some o) f = let no : true ≡ false = sym e
          ∙ ap (λ (y : Option (Result End Failure)). ready_of y t.waiting t.phase t.unread (seen t.socket).readable (seen t.socket).writable) f in cc

  ready_waiting : (t : Talk S) → t.outcome ≡ None → 0 < length t.waiting → is_ready seen t ≡ (seen t.socket).writable
  ready_waiting t still some =
      let r = (seen t.socket).readable in
      let w = (seen t.socket).writable in
      ap (λ (o : Option (Result End Failure)). ready_of o t.waiting t.phase t.unread r w) still
      ∙ ap (λ (b : Bool). cond b w (cond (is_going t.phase) (cond (are_there t.unread) true r) true)) (some_there t.waiting some)

  ready_reading : (t : Talk S) → t.outcome ≡ None → t.waiting ≡ [] → t.phase ≡ phase.Going → t.unread ≡ [] → is_ready seen t ≡ (seen t.socket).readable
  ready_reading t still none going all =
      let r = (seen t.socket).readable in
      let w = (seen t.socket).writable in
      ap (λ (o : Option (Result End Failure)). ready_of o t.waiting t.phase t.unread r w) still
      ∙ ap (λ (x : List ℕ). cond (are_there x) w (cond (is_going t.phase) (cond (are_there t.unread) true r) true)) none
      ∙ ap (λ (p : Phase). cond (is_going p) (cond (are_there t.unread) true r) true) going ∙ ap (λ (x : List ℕ). cond (are_there x) true r) all

  -- a read that brought nothing
  pub turned_nothing : (a b : Talk S) → a.outcome ≡ None → a.phase ≡ phase.Going → a.waiting ≡ [] → a.unread ≡ [] → ReadsSocket seen a b → b.unread ≡ []
      → Turned seen a b
  turned_nothing a b still going none all (inl w) empty =
      absurd (let some = w.some in let is = ap (λ (t : Talk S). length t.unread) w.is in let no = ap length empty in omega (arith, some, is, no))
  turned_nothing a b still going none all (inr (inl w)) empty = record {
    read = [];
    written = [];
    within = omega arith;
    moved = w.heard_is ∙ only_read [] (seen a.socket).heard;
    number_is = ap (λ (t : Talk S). t.number) w.is;
    moves = inl (ap (λ (t : Talk S). is_some t.outcome) w.is);
    over = over_as b.outcome (Some (Ok w.end)) b (ap (λ (t : Talk S). t.outcome) w.is) (finished w.end w.fits);
    failed = failed_as b.outcome (Some (Ok w.end)) (seen a.socket) (seen b.socket) (ap (λ (t : Talk S). t.outcome) w.is) w.failures_is;
  }
    where
      idle : IsTalkIdle b
      idle = (ap (λ (t : Talk S). t.phase) w.is ∙ going, empty, ap (λ (t : Talk S). t.waiting) w.is ∙ none)

      finished : (end : End) → FinishesTalk end b → CameTo seen (Ok end) b
      finished ending.NoClose fits = (idle, fits, w.ended)
      finished ending.Cut fits = (idle, fits, w.ended)
      finished ending.Closed fits = absurd fits
      finished (ending.Refused code) fits = absurd fits
  turned_nothing a b still going none all (inr (inr (inl w))) empty = record {
    read = [];
    written = [];
    within = omega arith;
    moved = moved_none (seen a.socket) (seen b.socket) w.heard_is;
    number_is = ap (λ (t : Talk S). t.number) w.is;
    moves = inr (inr (inr (inr (inr (ready_reading b (ap (λ (t : Talk S). t.outcome) w.is ∙ still) (ap (λ (t : Talk S). t.waiting) w.is ∙ none)
        (ap (λ (t : Talk S). t.phase) w.is ∙ going) empty ∙ w.unable)))));
    over = over_none b.outcome b (ap (λ (t : Talk S). t.outcome) w.is ∙ still);
    failed = failed_as b.outcome None (seen a.socket) (seen b.socket) (ap (λ (t : Talk S). t.outcome) w.is ∙ still) w.failures_is;
  }
  turned_nothing a b still going none all (inr (inr (inr w))) empty = record {
    read = [];
    written = [];
    within = omega arith;
    moved = moved_none (seen a.socket) (seen b.socket) w.heard_is;
    number_is = ap (λ (t : Talk S). t.number) w.is;
    moves = inl (ap (λ (t : Talk S). is_some t.outcome) w.is);
    over = over_as b.outcome (Some (Err failure.Read)) b (ap (λ (t : Talk S). t.outcome) w.is)
        (ap (λ (t : Talk S). t.phase) w.is ∙ going, empty, ap (λ (t : Talk S). t.waiting) w.is ∙ none);
    failed = failed_as b.outcome (Some (Err failure.Read)) (seen a.socket) (seen b.socket) (ap (λ (t : Talk S). t.outcome) w.is) w.failures_is;
  }

  no_turn : (t : Talk S) → is_ready seen t ≡ true → is_ready seen t ≡ false → ⊥
  no_turn t ready f = let no : true ≡ false = sym ready ∙ f in cc

  -- it could go on, and did
  pub had_turned : (a b : Talk S) → is_ready seen a ≡ true → a.waiting ≡ [] → Turned seen a b → HadTurn seen a b
  had_turned a b ready none t = record {
    read = t.read;
    written = t.written;
    within = t.within;
    moved = t.moved;
    waits = λ some. absurd (let no = ap length none in omega (arith, some, no));
    number_is = t.number_is;
    idle = λ f. absurd (no_turn a ready f);
    moves = λ f. t.moves;
    over = λ f. t.over;
    failed = λ f. t.failed;
  }

  -- it could not
  pub had_none : (a : Talk S) → is_ready seen a ≡ false → HadTurn seen a a
  had_none a idle = record {
    read = [];
    written = [];
    within = omega arith;
    moved = moved_none (seen a.socket) (seen a.socket) refl;
    waits = λ some. refl;
    number_is = refl;
    idle = λ f. refl;
    moves = λ f. absurd (no_turn a f idle);
    over = λ still. over_none a.outcome a still;
    failed = λ still. failed_as a.outcome None (seen a.socket) (seen a.socket) still refl;
  }

  -- all was stepped and written: it is over
  pub had_end : (a b : Talk S) (outcome : Result End Failure) → is_ready seen a ≡ true → a.waiting ≡ [] → b ≡ record a { outcome = Some outcome }
      → CameTo seen outcome b → FailedBy (Some outcome) (seen a.socket) (seen b.socket) → HadTurn seen a b
  had_end a b outcome ready none is came failed = had_turned a b ready none (record {
    read = [];
    written = [];
    within = omega arith;
    moved = moved_none (seen a.socket) (seen b.socket) (ap (λ (t : Talk S). (seen t.socket).heard) is);
    number_is = ap (λ (t : Talk S). t.number) is;
    moves = inl (ap (λ (t : Talk S). is_some t.outcome) is);
    over = over_as b.outcome (Some outcome) b (ap (λ (t : Talk S). t.outcome) is) came;
    failed = failed_as b.outcome (Some outcome) (seen a.socket) (seen b.socket) (ap (λ (t : Talk S). t.outcome) is) failed;
  })

  pub had_writes : (a b : Talk S) → is_ready seen a ≡ true → 0 < length a.waiting → WritesSocket seen a b → HadTurn seen a b
  had_writes a b ready some w = record {
    read = [];
    written = written_by a b w;
    within = omega arith;
    moved = moved_writes a b w;
    waits = λ f. refl;
    number_is = number_writes a b w;
    idle = λ f. absurd (no_turn a ready f);
    moves = λ f. moves w;
    over = λ f. over_writes a b f some w;
    failed = λ f. failed_writes a b f w;
  }
    where
      moves : WritesSocket seen a b → Moves seen [] a b
      moves (inl w) =
          let is : b.waiting ≡ drop w.count a.waiting = ap (λ (t : Talk S). t.waiting) w.is in
          inr (inl (subst (λ (x : List ℕ). length x < length a.waiting) (sym is) (drop_fewer a.waiting w.count w.some w.within)))
      moves (inr (inl w)) = inr (inr (inr (inr (inr (ready_waiting b (ap (λ (t : Talk S). t.outcome) w.is ∙ ready_open a ready)
          (subst (λ (x : List ℕ). 0 < length x) (sym (ap (λ (t : Talk S). t.waiting) w.is)) some) ∙ w.unable)))))
      moves (inr (inr w)) = inl (ap (λ (t : Talk S). is_some t.outcome) w.is)

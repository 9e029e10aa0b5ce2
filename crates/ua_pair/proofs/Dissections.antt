-- How a dissector moves on with octets.
use Rattle.std.proofs.Common.{◌≡◌, ℕ, ◌+◌, ◌<◌, ◌≤◌, ◌⊎◌, inl, inr, List, [], ◌∷◌, ◌++◌, Result, Ok, Err, OnOk, OnErr, Option}
use Rattle.std.proofs.Common.{is_ok, if◌then◌else◌, Some, None, true, false, length, take, drop, refl, sym, ap, ap₂}
use Rattle.std.proofs.Common.{subst, ◌∙◌, arith, append-nil, append_assoc, length-append, length-drop, take-append-drop}
use Rattle.std.proofs.Math.Seq.{take-add, take-length}
use Rattle.std.proofs.lemmas.List.{take_all}
use Rattle.ua_builtin.specs.declared.status_code.StatusCode.{StatusCode}
use Rattle.ua_builtin.specs.Status.{of_code}
use Rattle.ua_wire.specs.Format.{Extends}
use Rattle.ua_frame.specs.declared.fault.FrameFault.{FrameFault}
use Rattle.ua_frame.specs.declared.fault.FrameFault.TheVariants.{UnknownType, OutOfPlace, TooLarge, TooSmall, OutOfMemory, Closed}
use Rattle.ua_frame.specs.declared.frame.Frame.{Frame}
use Rattle.ua_frame.specs.Frames.{frame_octets, frames_octets, frame_size, header_code, header_fault, IsSized, LetsIn, IsPartial}
use Rattle.ua_frame.specs.Reader.{Reader, open_reader, TakesAll, TakesFrame, Refuses as RefusesHeader, Takes as ReaderTakes}
use Rattle.ua_frame.specs.Run.{Run, End, Going, Stopped, Over}
use Rattle.ua_builtin.specs.Reasons.{first_reason}
use Rattle.ua_frame.proofs.Ends.{ends_stay}
use Rattle.ua_frame.proofs.Fronts.{length-frame_octets}
use Rattle.ua_frame.proofs.Streams.{run_nil, run_part, run_frame, run_header, run_refused, frames_octets-push}
use Rattle.ua_frame.proofs.Unique.{front_none}
use Rattle.ua_pair.specs.declared.dissector.Dissector.{Dissector}
use Rattle.ua_pair.specs.declared.dissector.State.{State}
use Rattle.ua_pair.specs.declared.dissector.State.TheVariants as state
use Rattle.ua_pair.specs.declared.options.DissectOptions.{DissectOptions}
use Rattle.ua_pair.specs.declared.pending.Pending.{Pending}
use Rattle.ua_pair.specs.declared.teller.Teller.{Teller}
use Rattle.ua_chunk.specs.declared.chunk.Chunk.{Chunk}
use Rattle.ua_chunk.specs.Open.{open_octets}
use Rattle.ua_pair.specs.Before.{message_chunks}
use Rattle.ua_pair.specs.Dissected.{rules, every_frame, AddsLines, AreTexts}
use Rattle.ua_pair.specs.Dissecting.{Holds, DissectorGoesOn, HasRefused, IsDissectorClosed, AreHeld, DissectorStandsAt, StandsBehind, TellsMore}
use Rattle.ua_pair.specs.Dissecting.{EndsLines, is_dissecting, MovesOn, TakesPiece, Accepts, RefusesFrame, FrameTold, TakesNone, DissectsSome}
use Rattle.ua_pair.specs.Lines.{refused_line}
use Rattle.ua_pair.specs.Refused.{frame_reasons}
use Rattle.ua_pair.specs.Telling.{ArePendingLines, TellerStands}
use Rattle.ua_pair.specs.Told.{IsFrameText, place_behind}
use Rattle.ua_pair.proofs.Befores.{message_chunks-nil}
use Rattle.ua_pair.proofs.Texts.{texts_push}

-- ---- states

going_not_refused : (s : State) (code : StatusCode) → is_dissecting s ≡ true → s ≡ state.Refused code → ⊥
going_not_refused s code goes refused = let bad : false ≡ true = ap is_dissecting (sym refused) ∙ goes in cc

going_not_still : (s : State) → is_dissecting s ≡ false → s ≡ state.Going → ⊥
going_not_still s still goes = let bad : false ≡ true = sym still ∙ ap is_dissecting goes in cc

-- the code of a refusal
code_in : State → ℕ
code_in state.Going = 0
code_in (state.Refused code) = code.code
code_in state.Closed = 0

same_code : (c d : StatusCode) → state.Refused c ≡ state.Refused d → c.code ≡ d.code
unfolding code_in
same_code c d e = ap code_in e

-- ---- a dissector that goes on

-- it goes on behind these octets
pub record GoesBehind (d : Dissector) (options : DissectOptions) (octets told : List ℕ) : Type 0 where
  pub frames : List Frame
  pub rest : List ℕ
  pub run : Run (rules options) octets frames rest Going
  pub told_are : AreTexts options frames told
  pub goes_on : DissectorGoesOn d options frames rest
  pub place : d.place ≡ place_behind frames

goes_at : (d : Dissector) (options : DissectOptions) (octets told : List ℕ) (fs : List Frame) (rest : List ℕ) (end : End ℕ)
    → Run (rules options) octets fs rest end → AreTexts options fs told → DissectorStandsAt d options fs rest end → d.place ≡ place_behind fs
    → is_dissecting d.state ≡ true
    → GoesBehind d options octets told
goes_at d options octets told fs rest Going run told_are at place goes =
    record { frames = fs; rest = rest; run = run; told_are = told_are; goes_on = at; place = place }
goes_at d options octets told fs rest (Stopped code) run told_are at place goes = absurd (going_not_refused d.state (of_code code) goes at.state)
goes_at d options octets told fs rest Over run told_are at place goes = absurd at

pub goes_behind : (d : Dissector) (options : DissectOptions) (octets told : List ℕ) → StandsBehind d options octets told → is_dissecting d.state ≡ true
    → GoesBehind d options octets told
goes_behind d options octets told s goes = goes_at d options octets told s.are.frames s.are.rest s.are.end s.are.run s.are.told_are s.at s.place goes

stands_on : (d : Dissector) (options : DissectOptions) (octets told : List ℕ) → GoesBehind d options octets told → StandsBehind d options octets told
stands_on d options octets told g = record {
  are = record { frames = g.frames; rest = g.rest; end = Going; run = g.run; told_are = g.told_are };
  at = g.goes_on;
  place = g.place;
}

-- ---- at the beginning

frames_octets-nil : frames_octets [] ≡ []
frames_octets-nil = sym (append-nil (frames_octets [])) ∙ front_none []

pub stands_first : (d : Dissector) (options : DissectOptions) → d.state ≡ state.Going → d.reader ≡ open_reader every_frame [] → TellerStands d.teller []
    → d.teller.options ≡ options → d.place ≡ 0 → StandsBehind d options [] []
stands_first d options goes reader teller is place = stands_on d options [] [] (record {
  frames = [];
  rest = [];
  run = run_nil (rules options) refl;
  told_are = refl;
  goes_on = record { state = goes; options_are = is; holds = record { reader = reader; teller = teller } };
  place = place ∙ ap length (sym frames_octets-nil);
})

-- ---- with octets more

-- the octets and the lines by other names
stands_as : (d : Dissector) (options : DissectOptions) (o p t u : List ℕ) → o ≡ p → t ≡ u → StandsBehind d options o t → StandsBehind d options p u
stands_as d options o p t u e f s = subst (λ (x : List ℕ). StandsBehind d options x u) e (subst (λ (x : List ℕ). StandsBehind d options o x) f s)

-- no lines more
told-none : (told lines : List ℕ) → lines ≡ [] → told ≡ told ++ lines
told-none told lines none = sym (ap (λ (l : List ℕ). told ++ l) none ∙ append-nil told)

-- where it goes no further, octets more change nothing
stays_at : (d : Dissector) (options : DissectOptions) (o told more : List ℕ) (fs : List Frame) (rest : List ℕ) (end : End ℕ) → Run (rules options) o fs rest end
    → AreTexts options fs told → DissectorStandsAt d options fs rest end → d.place ≡ place_behind fs → is_dissecting d.state ≡ false
    → StandsBehind d options (o ++ more) told
stays_at d options o told more fs rest Going run told_are at place still = absurd (going_not_still d.state still at.state)
stays_at d options o told more fs rest (Stopped code) run told_are at place still = record {
  are = record {
    frames = fs;
    rest = rest ++ more;
    end = Stopped code;
    run = ends_stay (rules options) o more fs rest (Stopped code) (λ e. cc) run;
    told_are = told_are;
  };
  at = at;
  place = place;
}
stays_at d options o told more fs rest Over run told_are at place still = absurd at

pub stays : (d : Dissector) (options : DissectOptions) (o told more : List ℕ) → is_dissecting d.state ≡ false → StandsBehind d options o told
    → StandsBehind d options (o ++ more) told
stays d options o told more still s = stays_at d options o told more s.are.frames s.are.rest s.are.end s.are.run s.are.told_are s.at s.place still

module _ (d e : Dissector) (octets : List ℕ) (goes : is_dissecting d.state ≡ true) (some : 0 < length octets) where
  part_moves : (y : Reader) (n : ℕ) (lines : List ℕ) → TakesAll d.reader octets n y → e ≡ record d { reader = y } → lines ≡ []
      → MovesOn d e (take n octets) lines
  part_moves y n lines t e_is none options o told s =
      let g = goes_behind d options o told s goes in
      let partial : IsPartial every_frame (g.rest ++ octets) = subst (λ (r : Reader). IsPartial r.gate (r.held ++ octets)) g.goes_on.holds.reader t.partial in
      let reader : y ≡ open_reader every_frame (g.rest ++ octets) = t.new_is
      ∙ ap (λ (r : Reader). open_reader r.gate (r.held ++ octets)) g.goes_on.holds.reader in
      let moved : StandsBehind (record d { reader = y }) options (o ++ octets) told = stands_on (record d { reader = y }) options (o ++ octets) told (record {
        frames = g.frames;
        rest = g.rest ++ octets;
        run = run_part (rules options) o g.rest octets g.frames g.run partial;
        told_are = g.told_are;
        goes_on = record { state = g.goes_on.state; options_are = g.goes_on.options_are; holds = record { reader = reader; teller = g.goes_on.holds.teller } };
        place = g.place;
      }) in
      let whole : take n octets ≡ octets = ap (λ (k : ℕ). take k octets) t.all ∙ take-length octets in
      subst (λ (x : Dissector). StandsBehind x options (o ++ take n octets) (told ++ lines)) (sym e_is)
      (stands_as (record d { reader = y }) options (o ++ octets) (o ++ take n octets) told (told ++ lines) (ap (λ (x : List ℕ). o ++ x) (sym whole))
      (told-none told lines none) moved)

  -- no whole frame
  pub takes_part : (y : Reader) (n : ℕ) (lines : List ℕ) → TakesAll d.reader octets n y → e ≡ record d { reader = y } → lines ≡ []
      → DissectsSome d octets n e lines
  takes_part y n lines t e_is none = record {
    some = omega (arith, t.all, some);
    within = omega (arith, t.all);
    moves = part_moves y n lines t e_is none;
  }

  header_moves : (fault : FrameFault) (y : Reader) (code : StatusCode) (lines : List ℕ) → RefusesHeader d.reader octets fault y
      → header_code fault ≡ Some code.code → HasRefused e d.teller.options code.code → e.place ≡ d.place → lines ≡ [] → MovesOn d e octets lines
  header_moves fault y code lines t code_is refused place none options o told s =
      let g = goes_behind d options o told s goes in
      let whole : 8 ≤ length (g.rest ++ octets) = subst (λ (r : Reader). 8 ≤ length (r.held ++ octets)) g.goes_on.holds.reader t.header in
      let fault_is = ap (λ (r : Reader). header_fault r.gate (r.held ++ octets)) (sym g.goes_on.holds.reader) ∙ t.fault_is in
      record {
        are = record {
          frames = g.frames;
          rest = g.rest ++ octets;
          end = Stopped code.code;
          run = run_header (rules options) o g.rest octets g.frames fault code.code code.code g.run whole fault_is code_is refl;
          told_are = subst (λ (t : List ℕ). AreTexts options g.frames t) (told-none told lines none) g.told_are;
        };
        at = subst (λ (x : DissectOptions). HasRefused e x code.code) g.goes_on.options_are refused;
        place = place ∙ g.place;
      }

  takes_header_by : (fault : FrameFault) (y : Reader) (code : StatusCode) (lines : List ℕ) → RefusesHeader d.reader octets fault y
      → header_code fault ≡ Some code.code → HasRefused e d.teller.options code.code → e.place ≡ d.place → lines ≡ []
      → DissectsSome d octets (length octets) e lines
  takes_header_by fault y code lines t code_is refused place none = record {
    some = some;
    within = omega arith;
    moves = subst (λ (x : List ℕ). MovesOn d e x lines) (sym (take-length octets)) (header_moves fault y code lines t code_is refused place none);
  }

  -- a header that is refused
  pub takes_header : (fault : FrameFault) (y : Reader) (code : StatusCode) (lines : List ℕ) → ReaderTakes d.reader octets (Err fault) y
      → header_code fault ≡ Some code.code → HasRefused e d.teller.options code.code → e.place ≡ d.place → lines ≡ []
      → DissectsSome d octets (length octets) e lines
  takes_header UnknownType y code lines t code_is refused place none = takes_header_by UnknownType y code lines t code_is refused place none
  takes_header OutOfPlace y code lines t code_is refused place none = takes_header_by OutOfPlace y code lines t code_is refused place none
  takes_header TooLarge y code lines t code_is refused place none = takes_header_by TooLarge y code lines t code_is refused place none
  takes_header TooSmall y code lines t code_is refused place none = takes_header_by TooSmall y code lines t code_is refused place none
  takes_header OutOfMemory y code lines t code_is refused place none = absurd cc
  takes_header Closed y code lines t code_is refused place none = absurd cc

-- ---- a whole frame

module _ (d e : Dissector) (octets : List ℕ) (n : ℕ) (f : Frame) (lines : List ℕ) (options : DissectOptions) (o told : List ℕ) (g : GoesBehind d options o told)
    (joined : g.rest ++ take n octets ≡ frame_octets f) (sized : IsSized f) (let_in : LetsIn every_frame f) where
  frame_accepted : Accepts e options g.frames f lines → StandsBehind e options (o ++ take n octets) (told ++ lines)
  frame_accepted a = stands_on e options (o ++ take n octets) (told ++ lines) (record {
    frames = g.frames ++ f ∷ [];
    rest = [];
    run = run_frame (rules options) o g.rest (take n octets) g.frames f Going g.run joined sized let_in a.accepted (refl, inl (omega arith));
    told_are = texts_push options g.frames f told lines g.told_are a.lines_are;
    goes_on = a.goes_on;
    place = a.place;
  })

  frame_refused : RefusesFrame e options g.frames f lines → StandsBehind e options (o ++ take n octets) (told ++ lines)
  frame_refused r =
      let front : g.rest ++ take (length (take n octets)) (take n octets) ≡ frame_octets f = ap (λ (x : List ℕ). g.rest ++ x) (take-length (take n octets))
      ∙ joined in
      record {
        are = record {
          frames = g.frames;
          rest = g.rest ++ take n octets;
          end = Stopped r.code;
          run = run_refused (rules options) o g.rest (take n octets) (length (take n octets)) g.frames f r.code g.run front sized let_in r.refused;
          told_are = subst (λ (t : List ℕ). AreTexts options g.frames t) (told-none told lines r.lines_are) g.told_are;
        };
        at = r.stopped;
        place = r.place;
      }

  frame_told : FrameTold e options g.frames f lines → StandsBehind e options (o ++ take n octets) (told ++ lines)
  frame_told (inl a) = frame_accepted a
  frame_told (inr r) = frame_refused r

module _ (d e : Dissector) (octets : List ℕ) (n : ℕ) (f : Frame) (y : Reader) (lines : List ℕ) (goes : is_dissecting d.state ≡ true)
    (t : TakesFrame d.reader octets n f y) (told_by : (options : DissectOptions) (before : List Frame)
    → DissectorGoesOn (record d { reader = y }) options before [] → d.place ≡ place_behind before → FrameTold e options before f lines) where
  frame_moves : MovesOn d e (take n octets) lines
  frame_moves options o told s =
      let g = goes_behind d options o told s goes in
      let reader : y ≡ open_reader every_frame [] = t.new_is ∙ ap (λ (r : Reader). open_reader r.gate []) g.goes_on.holds.reader in
      let now : DissectorGoesOn (record d { reader = y }) options g.frames [] =
      record { state = g.goes_on.state; options_are = g.goes_on.options_are; holds = record { reader = reader; teller = g.goes_on.holds.teller } } in
      let joined : g.rest ++ take n octets ≡ frame_octets f = ap (λ (r : Reader). r.held ++ take n octets) (sym g.goes_on.holds.reader) ∙ t.octets in
      let let_in : LetsIn every_frame f = subst (λ (r : Reader). LetsIn r.gate f) g.goes_on.holds.reader t.let_in in
      frame_told d e octets n f lines options o told g joined t.sized let_in (told_by options g.frames now g.place)

  pub takes_frame : DissectsSome d octets n e lines
  takes_frame = record { some = t.some; within = t.within; moves = frame_moves }

-- ---- what becomes of a frame

-- it was told
pub told_accepts : (d : Dissector) (t : Teller) (place n : ℕ) (options : DissectOptions) (before : List Frame) (f : Frame) (empty lines : List ℕ)
    → DissectorGoesOn d options before [] → d.place ≡ place_behind before → first_reason (frame_reasons d.teller.options.side before f) ≡ None
    → ((text : List ℕ) × (lines ≡ empty ++ text) × IsFrameText d.teller.options before f text) → empty ≡ [] → TellerStands t (before ++ f ∷ [])
    → t.options ≡ d.teller.options → n ≡ frame_size f → place ≡ d.place + n → FrameTold (record d { teller = t; place = place }) options before f lines
told_accepts d t place n options before f empty lines g place_is accepted added none stands same size grown =
    let are : lines ≡ added.0 = added.1 ∙ ap (λ (x : List ℕ). x ++ added.0) none in
    let told : IsFrameText d.teller.options before f lines = subst (λ (x : List ℕ). IsFrameText d.teller.options before f x) (sym are) added.2 in
    let behind : place_behind (before ++ f ∷ []) ≡ place_behind before + frame_size f = ap length (frames_octets-push before f)
    ∙ length-append (frames_octets before) (frame_octets f) ∙ ap (λ (k : ℕ). place_behind before + k) (length-frame_octets f) in
    inl (record {
      accepted = subst (λ (x : DissectOptions). first_reason (frame_reasons x.side before f) ≡ None) g.options_are accepted;
      lines_are = subst (λ (x : DissectOptions). IsFrameText x before f lines) g.options_are told;
      goes_on = record { state = g.state; options_are = same ∙ g.options_are; holds = record { reader = g.holds.reader; teller = stands } };
      place = grown ∙ ap₂ (λ (x y : ℕ). x + y) place_is size ∙ sym behind;
    })

-- ---- a whole piece

-- nothing yet
pub takes_first : (d : Dissector) (piece text : List ℕ) → TakesPiece d d (take 0 piece) text text
takes_first d piece text = record {
  lines = [];
  added = sym (append-nil text);
  moves = λ options o told s. stands_as d options o (o ++ []) told (told ++ []) (sym (append-nil o)) (sym (append-nil told)) s;
}

-- some octets more
pub takes_more : (d m e : Dissector) (piece : List ℕ) (at n : ℕ) (rest a b c lines text : List ℕ) → TakesPiece d m (take at piece) a b → rest ≡ drop at piece
    → DissectsSome m rest n e lines → text ≡ lines → c ≡ b ++ text → TakesPiece d e (take (at + n) piece) a c
takes_more d m e piece at n rest a b c lines text x rest_is y text_is grown = record {
  lines = x.lines ++ lines;
  added = grown ∙ ap₂ (λ (u v : List ℕ). u ++ v) x.added text_is ∙ append_assoc a x.lines lines;
  moves = λ options o told s.
      stands_as e options ((o ++ take at piece) ++ take n rest) (o ++ take (at + n) piece) ((told ++ x.lines) ++ lines) (told ++ (x.lines ++ lines))
      (append_assoc o (take at piece) (take n rest)
      ∙ ap (λ (u : List ℕ). o ++ u) (ap (λ (u : List ℕ). take at piece ++ take n u) rest_is ∙ sym (take-add at n piece)))
      (append_assoc told x.lines lines)
      (y.moves options (o ++ take at piece) (told ++ x.lines) (x.moves options o told s));
}

-- nothing is left that counts
takes_rest : (d m : Dissector) (piece : List ℕ) (at : ℕ) (a b : List ℕ) → TakesPiece d m (take at piece) a b → at ≤ length piece
    → (drop at piece ≡ []) ⊎ (is_dissecting m.state ≡ false) → TakesPiece d m piece a b
takes_rest d m piece at a b x within (inl none) =
    let all : take at piece ≡ piece = take_all at piece (omega (arith, ap length none, length-drop at piece)) in
    subst (λ (u : List ℕ). TakesPiece d m u a b) all x
takes_rest d m piece at a b x within (inr still) = record {
  lines = x.lines;
  added = x.added;
  moves = λ options o told s.
      stands_as m options ((o ++ take at piece) ++ drop at piece) (o ++ piece) (told ++ x.lines) (told ++ x.lines)
      (append_assoc o (take at piece) (drop at piece) ∙ ap (λ (u : List ℕ). o ++ u) (take-append-drop at piece)) refl
      (stays m options (o ++ take at piece) (told ++ x.lines) (drop at piece) still (x.moves options o told s));
}

pub takes_end : (d m e : Dissector) (piece : List ℕ) (at : ℕ) (rest a b lines : List ℕ) → TakesPiece d m (take at piece) a b → at ≤ length piece
    → rest ≡ drop at piece → TakesNone m rest e lines → TakesPiece d e piece a b
takes_end d m e piece at rest a b lines x within rest_is none =
    subst (λ (u : Dissector). TakesPiece d u piece a b) (sym none.same)
    (takes_rest d m piece at a b x within (subst (λ (u : List ℕ). (u ≡ []) ⊎ (is_dissecting m.state ≡ false)) rest_is none.why))

-- the octets in front of a place of a piece were taken
pub record SoFar (d e : Dissector) (piece : List ℕ) (at : ℕ) (a b : List ℕ) : Type 0 where
  pub takes : TakesPiece d e (take at piece) a b
  pub within : at ≤ length piece

pub so_far_first : (d : Dissector) (piece text : List ℕ) → SoFar d d piece 0 text text
so_far_first d piece text = record { takes = takes_first d piece text; within = omega arith }

pub so_far_more : (d m e : Dissector) (piece : List ℕ) (at n : ℕ) (rest a b c lines text : List ℕ) → SoFar d m piece at a b → rest ≡ drop at piece
    → DissectsSome m rest n e lines → text ≡ lines → c ≡ b ++ text → SoFar d e piece (at + n) a c
so_far_more d m e piece at n rest a b c lines text x rest_is y text_is grown = record {
  takes = takes_more d m e piece at n rest a b c lines text x.takes rest_is y text_is grown;
  within = omega (arith, x.within, y.within, ap length rest_is, length-drop at piece);
}

pub so_far_end : (d m e : Dissector) (piece : List ℕ) (at : ℕ) (rest a b lines : List ℕ) → SoFar d m piece at a b → rest ≡ drop at piece
    → TakesNone m rest e lines → TakesPiece d e piece a b
so_far_end d m e piece at rest a b lines x rest_is none = takes_end d m e piece at rest a b lines x.takes x.within rest_is none

-- what was told with a piece
pub takes_tells : {E : Type 0} (r : Result (Unit {0}) E) (d e : Dissector) (piece a b : List ℕ) → OnOk r (TakesPiece d e piece a b)
    → (options : DissectOptions) (o told : List ℕ) → StandsBehind d options o told → OnOk r (TellsMore e options (o ++ piece) told a b)
takes_tells (Ok u) d e piece a b x options o told s = record { lines = x.lines; added = x.added; stands = x.moves options o told s }
takes_tells (Err u) d e piece a b x options o told s = tt

-- what is complete was told, and what was pending behind it
pub so_far_pending : (d m e : Dissector) (piece : List ℕ) (at n : ℕ) (rest a b lines shown mid c : List ℕ) (pending : Option Pending) → SoFar d m piece at a b
    → rest ≡ drop at piece → ((more : List ℕ) → ArePendingLines e.teller.options pending more → DissectsSome m rest n e (lines ++ more))
    → shown ≡ lines → mid ≡ b ++ shown → ((more : List ℕ) × (c ≡ mid ++ more) × ArePendingLines e.teller.options pending more)
    → SoFar d e piece (at + n) a c
so_far_pending d m e piece at n rest a b lines shown mid c pending x rest_is y shown_is grown p =
    so_far_more d m e piece at n rest a b c (lines ++ p.0) (shown ++ p.0) x rest_is (y p.0 p.2) (ap (λ (t : List ℕ). t ++ p.0) shown_is)
    (p.1 ∙ ap (λ (t : List ℕ). t ++ p.0) grown ∙ append_assoc b shown p.0)

-- a piece was told in a text of its own, which was added
pub piece_added : {E : Type 0} (r : Result (Unit {0}) E) (d e : Dissector) (piece none told text old new : List ℕ) → TakesPiece d e piece none told → none ≡ []
    → text ≡ told → new ≡ (if is_ok r then old ++ text else old) → OnOk r (TakesPiece d e piece old new)
piece_added (Ok u) d e piece none told text old new x empty text_is grown = record {
  lines = x.lines;
  added = grown ∙ ap (λ (l : List ℕ). old ++ l) (text_is ∙ x.added ∙ ap (λ (l : List ℕ). l ++ x.lines) empty);
  moves = x.moves;
}
piece_added (Err f) d e piece none told text old new x empty text_is grown = tt

-- ---- the last line

ends_at : (d : Dissector) (options : DissectOptions) (o told old new : List ℕ) (code : StatusCode) (fs : List Frame) (rest : List ℕ) (end : End ℕ)
    → Run (rules options) o fs rest end → AreTexts options fs told → DissectorStandsAt d options fs rest end → d.place ≡ place_behind fs
    → d.state ≡ state.Refused code
    → new ≡ old ++ refused_line d.teller.options.names d.place code.code → EndsLines options o told old new
ends_at d options o told old new code fs rest Going run told_are at place refused grown =
    absurd (going_not_refused d.state code (ap is_dissecting at.state) refused)
ends_at d options o told old new code fs rest (Stopped why) run told_are at place refused grown = record {
  line = refused_line d.teller.options.names d.place code.code;
  added = grown;
  are = record {
    frames = fs;
    rest = rest;
    end = Stopped why;
    run = run;
    told = told;
    told_are = told_are;
    lines_are = ap (λ (x : List ℕ). told ++ x) (ap (λ (x : DissectOptions). refused_line x.names d.place code.code) at.options_are
        ∙ ap₂ (refused_line options.names) place (same_code code (of_code why) (sym refused ∙ at.state)));
  };
}
ends_at d options o told old new code fs rest Over run told_are at place refused grown = absurd at

-- the frames end in a refusal
pub ends_refused : (d : Dissector) (options : DissectOptions) (o told old new : List ℕ) (code : StatusCode) → StandsBehind d options o told
    → d.state ≡ state.Refused code → new ≡ old ++ refused_line d.teller.options.names d.place code.code → EndsLines options o told old new
ends_refused d options o told old new code s refused grown = ends_at d options o told old new code s.are.frames s.are.rest s.are.end s.are.run s.are.told_are
    s.at s.place refused grown

-- the last line, made in a text of its own, was added
pub ends_added : {E : Type 0} (r : Result (Unit {0}) E) (options : DissectOptions) (o told empty line text old new : List ℕ)
    → EndsLines options o told empty line → empty ≡ [] → text ≡ line → new ≡ (if is_ok r then old ++ text else old) → OnOk r (EndsLines options o told old new)
ends_added (Ok x) options o told empty line text old new l none text_is grown = record {
  line = l.line;
  are = l.are;
  added = grown ∙ ap (λ (t : List ℕ). old ++ t) (text_is ∙ l.added ∙ ap (λ (t : List ℕ). t ++ l.line) none);
}
ends_added (Err e) options o told empty line text old new l none text_is grown = tt

-- ---- what is held

holds_sum : (d : Dissector) (fs : List Frame) (rest : List ℕ) (a b : ℕ) → Holds d fs rest → a ≡ length d.reader.held
    → ((before : List Frame) → TellerStands d.teller before → b ≡ open_octets (message_chunks before)) → a + b ≡ length rest + open_octets (message_chunks fs)
holds_sum d fs rest a b h a_is b_is = ap₂ (λ (x y : ℕ). x + y) (a_is ∙ ap (λ (r : Reader). length r.held) h.reader) (b_is fs h.teller)

holds_none : (d : Dissector) (a b : ℕ) → Holds d [] [] → a ≡ length d.reader.held
    → ((before : List Frame) → TellerStands d.teller before → b ≡ open_octets (message_chunks before)) → a + b ≡ 0
holds_none d a b h a_is b_is = holds_sum d [] [] a b h a_is b_is ∙ ap (λ (cs : List Chunk). 0 + open_octets cs) message_chunks-nil

held_at : (d : Dissector) (options : DissectOptions) (o told : List ℕ) (a b : ℕ) (fs : List Frame) (rest : List ℕ) (end : End ℕ)
    → Run (rules options) o fs rest end → DissectorStandsAt d options fs rest end → a ≡ length d.reader.held
    → ((before : List Frame) → TellerStands d.teller before → b ≡ open_octets (message_chunks before)) → AreHeld options o (a + b)
held_at d options o told a b fs rest Going run at a_is b_is =
    record { frames = fs; rest = rest; end = Going; run = run; held_are = holds_sum d fs rest a b at.holds a_is b_is }
held_at d options o told a b fs rest (Stopped code) run at a_is b_is =
    record { frames = fs; rest = rest; end = Stopped code; run = run; held_are = holds_none d a b at.nothing a_is b_is }
held_at d options o told a b fs rest Over run at a_is b_is = absurd at

-- its teller stands somewhere
pub record Tells (d : Dissector) : Type 0 where
  pub frames : List Frame
  pub stands : TellerStands d.teller frames

tells_at : (d : Dissector) (options : DissectOptions) (fs : List Frame) (rest : List ℕ) (end : End ℕ) → DissectorStandsAt d options fs rest end → Tells d
tells_at d options fs rest Going at = record { frames = fs; stands = at.holds.teller }
tells_at d options fs rest (Stopped code) at = record { frames = []; stands = at.nothing.teller }
tells_at d options fs rest Over at = absurd at

pub tells : (d : Dissector) (options : DissectOptions) (o told : List ℕ) → StandsBehind d options o told → Tells d
tells d options o told s = tells_at d options s.are.frames s.are.rest s.are.end s.at

-- what a dissector holds, as the sum of what its reader and its teller hold
pub held_is : (d : Dissector) (options : DissectOptions) (o told : List ℕ) (a b n : ℕ) → StandsBehind d options o told → a ≡ length d.reader.held
    → ((before : List Frame) → TellerStands d.teller before → b ≡ open_octets (message_chunks before)) → n ≡ a + b → AreHeld options o n
held_is d options o told a b n s a_is b_is sum =
    subst (λ (k : ℕ). AreHeld options o k) (sym sum) (held_at d options o told a b s.are.frames s.are.rest s.are.end s.are.run s.at a_is b_is)

-- a closed one holds nothing
pub held_closed : (d : Dissector) (a b n : ℕ) → IsDissectorClosed d → a ≡ length d.reader.held
    → ((before : List Frame) → TellerStands d.teller before → b ≡ open_octets (message_chunks before)) → n ≡ a + b → n ≡ 0
held_closed d a b n c a_is b_is sum = sum ∙ holds_none d a b c.nothing a_is b_is

-- ---- a whole list of octets in one piece

pub lines_at_once : {E : Type 0} (r : Result (Unit {0}) E) (options : DissectOptions) (octets old mid new : List ℕ) (e : Dissector)
    → TellsMore e options octets [] old mid → ((x : DissectOptions) (o told : List ℕ) → StandsBehind e x o told → OnOk r (EndsLines x o told mid new))
    → OnOk r (AddsLines options octets old new)
lines_at_once (Ok u) options octets old mid new e t last =
    let l = last options octets t.lines t.stands in
    record { lines = t.lines ++ l.line; are = l.are; added = l.added ∙ ap (λ (x : List ℕ). x ++ l.line) t.added ∙ append_assoc old t.lines l.line }
lines_at_once (Err x) options octets old mid new e t last = tt

-- where the last line was not added, what was told stands behind what was there
pub told_extends : {E : Type 0} (r : Result (Unit {0}) E) (options : DissectOptions) (octets old mid new : List ℕ) (e : Dissector)
    → TellsMore e options octets [] old mid → OnErr r (new ≡ mid) → OnErr r (Extends old new)
told_extends (Ok u) options octets old mid new e t same = tt
told_extends (Err x) options octets old mid new e t same = record { more = t.lines; parts = same ∙ t.added }

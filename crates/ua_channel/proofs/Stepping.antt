-- What one call of a frame reader comes to, by any rules.
use Rattle.std.proofs.Common.{◌≡◌, ◌⊎◌, inl, inr, true, false, ℕ, ◌+◌, ◌-◌, ◌<◌, ◌≤◌, min, List, [], ◌∷◌, ◌++◌, Option, Some, None, Err}
use Rattle.std.proofs.Common.{length, take, drop, sym, refl, ◌∙◌, ap, subst, arith, append-nil, append_assoc, length-append, take-append-drop}
use Rattle.std.proofs.Math.Seq.{take-length}
use Rattle.std.proofs.lemmas.Bool.{cases_lt}
use Rattle.std.proofs.lemmas.List.{length-take-le}
use Rattle.ua_frame.specs.declared.fault.FrameFault.{FrameFault}
use Rattle.ua_frame.specs.declared.fault.FrameFault.TheVariants as frame_fault
use Rattle.ua_frame.specs.declared.frame.Frame.{Frame}
use Rattle.ua_frame.specs.After.{AllAfter, AllFrom}
use Rattle.ua_frame.specs.Frames.{frame_octets, frames_octets, header_fault, header_code, size_of}
use Rattle.ua_frame.specs.Reader.{Reader, open_reader, TakesAll, TakesFrame, Refuses, Starves, Takes}
use Rattle.ua_frame.specs.Run.{Rules, Run, Fits, End, EndsIn, Going, Stopped, WrongFrame, refusal}
use Rattle.ua_frame.proofs.Fronts.{fault_front, fault-from_let_in, length-frame_octets, size_front, size_of-frame}
use Rattle.ua_frame.proofs.Streams.{frames_octets-push, run_frame, run_part, run_header}
use Rattle.ua_builtin.specs.Status.{of_code}
use Rattle.ua_channel.specs.Stops.{StopsAt}
use Rattle.ua_channel.specs.inside.EndFaults.{of_frame_fault}
use Rattle.ua_channel.specs.declared.end_fault.EndFault.{EndFault}
use Rattle.ua_channel.specs.declared.end_fault.EndFault.TheVariants.{Refused, OutOfMemory}

-- octets stop behind these frames at what is refused for this
pub record Halts {E X : Type 0} (R : Rules E X) (octets : List ℕ) (frames : List Frame) (rest : List ℕ) (why : X) : Type 0 where
  pub run : Run R octets frames rest (Stopped why)
  pub stops : StopsAt R frames rest why

-- octets end behind these frames within one whose header is good
pub record Breaks {E X : Type 0} (R : Rules E X) (octets : List ℕ) (frames : List Frame) (rest : List ℕ) : Type 0 where
  pub whole : octets ≡ frames_octets frames ++ rest
  pub good : AllAfter (Fits R) frames
  pub header : 8 ≤ length rest
  pub sound : header_fault (R.gate frames) rest ≡ None
  pub within : (length rest ≡ 8) ⊎ (length rest ≤ size_of rest)

module _ (E X : Type 0) (R : Rules E X) (octets rest piece : List ℕ) (frames : List Frame) (reader new : Reader) (run : Run R octets frames rest Going)
    (reader_is : reader ≡ open_reader (R.gate frames) rest) where
  longer : (more : List ℕ) → octets ++ more ≡ frames_octets frames ++ (rest ++ more)
  longer more = ap (λ (z : List ℕ). z ++ more) run.whole ∙ append_assoc (frames_octets frames) rest more

  -- ---- a piece without the end of a frame

  pub part : (n : ℕ) → TakesAll reader piece n new → Run R (octets ++ take n piece) frames (rest ++ take n piece) Going
      × (new ≡ open_reader (R.gate frames) (rest ++ take n piece))
  part n t =
      let at : TakesAll (open_reader (R.gate frames) rest) piece n new = subst (λ (o : Reader). TakesAll o piece n new) reader_is t in
      subst (λ (p : List ℕ). Run R (octets ++ p) frames (rest ++ p) Going × (new ≡ open_reader (R.gate frames) (rest ++ p)))
      (sym (ap (λ (k : ℕ). take k piece) at.all ∙ take-length piece))
      (run_part R octets rest piece frames run at.partial, at.new_is)

  -- ---- a frame

  module _ (n : ℕ) (f : Frame) (t : TakesFrame reader piece n f new) where
    pub frame_at : TakesFrame (open_reader (R.gate frames) rest) piece n f new
    frame_at = subst (λ (o : Reader). TakesFrame o piece n f new) reader_is t

    pub frame_run : (end : End X) → refusal R frames f ≡ None → EndsIn R (frames ++ f ∷ []) [] end → Run R (octets ++ take n piece) (frames ++ f ∷ []) [] end
    frame_run end accepted ends = run_frame R octets rest (take n piece) frames f end run frame_at.octets frame_at.sized frame_at.let_in accepted ends

    pub frame_halts : (why : X) → refusal R frames f ≡ Some why → Halts R (octets ++ take n piece) frames (rest ++ take n piece) why
    frame_halts why refused =
        let wrong : WrongFrame R frames (rest ++ take n piece) why = record {
          frame = f;
          more = [];
          parts = frame_at.octets ∙ sym (append-nil (frame_octets f));
          sized = frame_at.sized;
          let_in = frame_at.let_in;
          refused = refused;
        } in
        record { run = record { whole = longer (take n piece); good = run.good; ends = (run.ends.0, inr wrong) }; stops = inr (wrong, refl) }

    pub frame_breaks : Breaks R (octets ++ take n piece) frames (rest ++ take n piece)
    frame_breaks = record {
      whole = longer (take n piece);
      good = run.good;
      header = omega (arith, ap length frame_at.octets, length-frame_octets f);
      sound = ap (header_fault (R.gate frames)) frame_at.octets ∙ fault-from_let_in (R.gate frames) f frame_at.sized frame_at.let_in;
      within = inr (omega (arith, ap length frame_at.octets, length-frame_octets f, ap size_of frame_at.octets, size_of-frame f frame_at.sized));
    }

  -- ---- a header that is refused, or behind which no memory is found

  module _ (n : ℕ) (fits : n ≤ length piece) (few_is : length reader.held < 8 → n ≡ min (8 - length reader.held) (length piece))
      (past_is : 8 ≤ length reader.held → n ≤ 1) where
    held : length reader.held ≡ length rest
    held = ap (λ (o : Reader). length o.held) reader_is

    taken : length (take n piece) ≡ n
    taken = length-take-le n piece fits

    parts : (rest ++ take n piece) ++ drop n piece ≡ rest ++ piece
    parts = append_assoc rest (take n piece) (drop n piece) ∙ ap (λ (z : List ℕ). rest ++ z) (take-append-drop n piece)

    same_fault : 8 ≤ length (rest ++ take n piece) → header_fault (R.gate frames) (rest ++ take n piece) ≡ header_fault (R.gate frames) (rest ++ piece)
    same_fault eight = sym (fault_front (R.gate frames) (rest ++ take n piece) (drop n piece) eight) ∙ ap (header_fault (R.gate frames)) parts

    few_by : (fault : FrameFault) → header_fault (R.gate frames) (rest ++ piece) ≡ Some fault → header_fault (R.gate frames) rest ≡ None
        → (length rest < 8) ⊎ (8 ≤ length rest) → length rest < 8
    few_by fault wrong good (inl few) = few
    few_by fault wrong good (inr whole) = let none : ◌≡◌ {A = Option FrameFault} None (Some fault) = sym good
        ∙ (sym (fault_front (R.gate frames) rest piece whole) ∙ wrong) in absurd cc

    few_held : (fault : FrameFault) → header_fault (R.gate frames) (rest ++ piece) ≡ Some fault → length rest < 8
    few_held fault wrong = elim run.ends.1 [ inl few ↦ few | inr part ↦ few_by fault wrong part.0 (cases_lt (length rest) 8) ]

    header_halts : (fault : FrameFault) (code : ℕ) → Refuses reader piece fault new → header_code fault ≡ Some code
        → Halts R (octets ++ take n piece) frames (rest ++ take n piece) (R.of_header code)
    header_halts fault code refuses code_is =
        let at : Refuses (open_reader (R.gate frames) rest) piece fault new = subst (λ (o : Reader). Refuses o piece fault new) reader_is refuses in
        let whole : 8 ≤ length rest + length piece = omega (arith, at.header, length-append rest piece) in
        let few : length rest < 8 = few_held fault at.fault_is in
        let eight : length (rest ++ take n piece) ≡ 8 = omega (
          arith,
          length-append rest (take n piece),
          taken,
          few_is (omega (arith, held, few)),
          held,
          whole,
          few,
        ) in
        let wrong : header_fault (R.gate frames) (rest ++ take n piece) ≡ Some fault = same_fault (omega (arith, eight)) ∙ at.fault_is in
        record {
          run = run_header R octets rest (take n piece) frames fault code (R.of_header code) run (omega (arith, eight)) wrong code_is refl;
          stops = inl (record { fault = fault; code = code; whole = omega (arith, eight); fault_is = wrong; code_is = code_is; why_is = refl }, eight);
        }

    behind : (length rest < 8) ⊎ (8 ≤ length rest) → 8 ≤ length rest + length piece → (8 ≤ length (rest ++ take n piece))
        × ((length (rest ++ take n piece) ≡ 8) ⊎ (length (rest ++ take n piece) ≤ size_of (rest ++ take n piece)))
    behind (inl few) whole =
        let eight : length (rest ++ take n piece) ≡ 8 = omega (
          arith,
          length-append rest (take n piece),
          taken,
          few_is (omega (arith, held, few)),
          held,
          whole,
          few,
        ) in
        (omega (arith, eight), inl eight)
    behind (inr past) whole = (
      omega (arith, length-append rest (take n piece), past),
      inr (elim run.ends.1 [
        | inl few ↦ omega (arith, few, past)
        | inr part ↦ omega (arith, length-append rest (take n piece), taken, past_is (omega (arith, held, past)), size_front rest (take n piece) past, part.1)
      ]),
    )

    header_breaks : Starves reader piece new → Breaks R (octets ++ take n piece) frames (rest ++ take n piece)
    header_breaks s =
        let at : Starves (open_reader (R.gate frames) rest) piece new = subst (λ (o : Reader). Starves o piece new) reader_is s in
        let b = behind (cases_lt (length rest) 8) (omega (arith, at.header, length-append rest piece)) in
        record { whole = longer (take n piece); good = run.good; header = b.0; sound = same_fault b.0 ∙ at.good; within = b.1 }

    goes_on : (reader.failed ≡ true) × (new ≡ reader) → ⊥
    goes_on h = let goes : true ≡ false = sym h.0 ∙ ap (λ (o : Reader). o.failed) reader_is in cc

    -- what a fault of the reader comes to
    pub fault_comes : (Ends : EndFault → Type 0) → ((code : ℕ) → Halts R (octets ++ take n piece) frames (rest ++ take n piece) (R.of_header code)
        → Ends (Refused (of_code code)))
        → (Breaks R (octets ++ take n piece) frames (rest ++ take n piece) → Ends OutOfMemory) → (fault : FrameFault) → Takes reader piece (Err fault) new
        → Ends (of_frame_fault fault)
    fault_comes Ends halts breaks frame_fault.UnknownType t = halts 0x807E_0000 (header_halts frame_fault.UnknownType 0x807E_0000 t refl)
    fault_comes Ends halts breaks frame_fault.OutOfPlace t = halts 0x807E_0000 (header_halts frame_fault.OutOfPlace 0x807E_0000 t refl)
    fault_comes Ends halts breaks frame_fault.TooLarge t = halts 0x8080_0000 (header_halts frame_fault.TooLarge 0x8080_0000 t refl)
    fault_comes Ends halts breaks frame_fault.TooSmall t = halts 0x8007_0000 (header_halts frame_fault.TooSmall 0x8007_0000 t refl)
    fault_comes Ends halts breaks frame_fault.OutOfMemory t = breaks (header_breaks t)
    fault_comes Ends halts breaks frame_fault.Closed t = absurd (goes_on t)

-- ---- where it went on behind a frame

last_from : {A : Type 0} (P : List A → A → Type 0) (start xs : List A) (y : A) → AllFrom P start (xs ++ y ∷ []) → P (start ++ xs) y
last_from {A = A} P start [] y h = subst (λ (s : List A). P s y) (sym (append-nil start)) h.0
last_from {A = A} P start (x ∷ xs) y h = subst (λ (s : List A). P s y) (append_assoc start (x ∷ []) xs) (last_from P (start ++ x ∷ []) xs y h.1)

pub last_of : {A : Type 0} (P : List A → A → Type 0) (xs : List A) (y : A) → AllAfter P (xs ++ y ∷ []) → P xs y
unfolding AllAfter
last_of P xs y h = last_from P [] xs y h

front_from : {A : Type 0} (P : List A → A → Type 0) (start xs : List A) (y : A) → AllFrom P start (xs ++ y ∷ []) → AllFrom P start xs
front_from P start [] y h = tt
front_from P start (x ∷ xs) y h = (h.0, front_from P (start ++ x ∷ []) xs y h.1)

front_of : {A : Type 0} (P : List A → A → Type 0) (xs : List A) (y : A) → AllAfter P (xs ++ y ∷ []) → AllAfter P xs
unfolding AllAfter
front_of P xs y h = front_from P [] xs y h

-- octets that end with a frame end within it
pub frame_broken : {E X : Type 0} (R : Rules E X) (octets : List ℕ) (frames : List Frame) (f : Frame) → Run R octets (frames ++ f ∷ []) [] Going
    → Breaks R octets frames (frame_octets f)
frame_broken R octets frames f run =
    let last : Fits R frames f = last_of (Fits R) frames f run.good in
    record {
      whole = run.whole ∙ (append-nil (frames_octets (frames ++ f ∷ [])) ∙ frames_octets-push frames f);
      good = front_of (Fits R) frames f run.good;
      header = omega (arith, length-frame_octets f);
      sound = fault-from_let_in (R.gate frames) f last.sized last.let_in;
      within = inr (omega (arith, length-frame_octets f, size_of-frame f last.sized));
    }

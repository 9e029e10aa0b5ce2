-- What a reader answers, from what is made of the frame that isn't whole yet, and over whole streams.
use Rattle.std.proofs.Common.{◌≡◌, ℕ, inl, inr, List, [], ◌∷◌, ◌++◌, Bool, false, true, Option}
use Rattle.std.proofs.Common.{Some, None, Result, Ok, Err, take, refl, sym, ◌∙◌, ap, subst, arith}
use Rattle.std.specs.Prelude.{is_err}
use Rattle.ua_frame.specs.declared.fault.FrameFault.{FrameFault}
use Rattle.ua_frame.specs.declared.fault.FrameFault.TheVariants.{UnknownType, OutOfPlace, TooLarge, TooSmall, OutOfMemory, Closed}
use Rattle.ua_frame.specs.declared.frame.Frame.{Frame}
use Rattle.ua_frame.specs.declared.gate.Gate.{Gate}
use Rattle.ua_frame.specs.declared.unfinished.Unfinished.{Unfinished}
use Rattle.ua_builtin.specs.Reasons.{first_reason}
use Rattle.ua_frame.specs.Frames.{kind_of, flag_of, size_of, header_fault, header_code, is_unknown, is_out_of_place, is_too_small}
use Rattle.std.specs.Prelude.{nat_lt}
use Rattle.ua_frame.specs.Run.{Run, Going}
use Rattle.ua_frame.specs.Reader.{Reader, open_reader, Refuses, Starves, Takes, gate_rules, StandsAfter, RefusedAfter, AnswersFragment}
use Rattle.ua_frame.specs.Unfinished.{octets_of, Fails, Makes}
use Rattle.ua_frame.proofs.Streams.{run_frame, run_part, run_header}

-- ---- what is wrong with a header is one of four things

by_four : (a b c d : Bool) (fault : FrameFault) → first_reason ((UnknownType, a) ∷ ((OutOfPlace, b) ∷ ((TooLarge, c) ∷ ((TooSmall, d) ∷ [])))) ≡ Some fault
    → (fault ≡ OutOfMemory → ⊥) × (fault ≡ Closed → ⊥)
by_four true b c d fault e = (λ h. absurd cc, λ h. absurd cc)
by_four false true c d fault e = (λ h. absurd cc, λ h. absurd cc)
by_four false false true d fault e = (λ h. absurd cc, λ h. absurd cc)
by_four false false false true fault e = (λ h. absurd cc, λ h. absurd cc)
by_four false false false false fault e = (λ h. absurd cc, λ h. absurd cc)

pub of_header : (gate : Gate) (octets : List ℕ) (fault : FrameFault) → header_fault gate octets ≡ Some fault → (fault ≡ OutOfMemory → ⊥) × (fault ≡ Closed → ⊥)
unfolding header_fault
of_header gate octets fault e = by_four (is_unknown (kind_of octets) (flag_of octets)) (is_out_of_place gate (kind_of octets))
    (nat_lt gate.largest (size_of octets)) (is_too_small (kind_of octets) (size_of octets)) fault e

-- ---- the reader's answer

-- a reader as it stands, by what it keeps
abbrev pub reader_of : Unfinished → Bool → Reader
reader_of u failed = record { gate = u.gate; held = octets_of u; failed = failed }

refuses : (old new : Unfinished) (piece : List ℕ) (fault : FrameFault) → Fails old.gate (octets_of old ++ piece) fault → octets_of new ≡ []
    → new.gate ≡ old.gate → (fault ≡ OutOfMemory → ⊥) → Refuses (reader_of old false) piece fault (reader_of new true)
refuses old new piece fault f none gate not_memory = record {
  «open» = refl;
  header = f.header;
  fault_is = elim f.why [ inl e ↦ e | inr e ↦ absurd (not_memory e.0) ];
  new_is = ap (λ (g : Gate). record { gate = g; held = octets_of new; failed = true }) gate
      ∙ ap (λ (h : List ℕ). record { gate = old.gate; held = h; failed = true }) none;
}

starves : (old new : Unfinished) (piece : List ℕ) → Fails old.gate (octets_of old ++ piece) OutOfMemory → octets_of new ≡ [] → new.gate ≡ old.gate
    → Starves (reader_of old false) piece (reader_of new true)
starves old new piece f none gate = record {
  «open» = refl;
  header = f.header;
  good = elim f.why [ inl e ↦ absurd ((of_header old.gate (octets_of old ++ piece) OutOfMemory e).0 refl) | inr e ↦ e.1 ];
  new_is = ap (λ (g : Gate). record { gate = g; held = octets_of new; failed = true }) gate
      ∙ ap (λ (h : List ℕ). record { gate = old.gate; held = h; failed = true }) none;
}

apart : Closed ≡ OutOfMemory → ⊥
apart e = cc

never_closed : (gate : Gate) (octets : List ℕ) → Fails gate octets Closed → ⊥
never_closed gate octets f = elim f.why [ inl e ↦ (of_header gate octets Closed e).1 refl | inr e ↦ absurd (apart e.0) ]

-- what a reader that didn't fail answers
pub takes_by : (old new : Unfinished) (piece : List ℕ) (answer : Result (ℕ × Option Frame) FrameFault)
    → Makes old.gate (octets_of old) piece answer (octets_of new) → new.gate ≡ old.gate
    → Takes (reader_of old false) piece answer (reader_of new (is_err answer))
takes_by old new piece (Ok (n, None)) h gate = record {
  «open» = refl;
  all = h.0;
  partial = h.2;
  new_is = ap (λ (g : Gate). record { gate = g; held = octets_of new; failed = false }) gate
      ∙ ap (λ (t : List ℕ). record { gate = old.gate; held = t; failed = false }) h.1;
}
takes_by old new piece (Ok (n, Some f)) h gate = record {
  «open» = refl;
  some = h.0.some;
  within = h.0.within;
  octets = h.0.octets;
  sized = h.0.sized;
  let_in = h.0.let_in;
  new_is = ap (λ (g : Gate). record { gate = g; held = octets_of new; failed = false }) gate
      ∙ ap (λ (t : List ℕ). record { gate = old.gate; held = t; failed = false }) h.1;
}
takes_by old new piece (Err UnknownType) h gate = refuses old new piece UnknownType h.0 h.1 gate (λ e. absurd cc)
takes_by old new piece (Err OutOfPlace) h gate = refuses old new piece OutOfPlace h.0 h.1 gate (λ e. absurd cc)
takes_by old new piece (Err TooLarge) h gate = refuses old new piece TooLarge h.0 h.1 gate (λ e. absurd cc)
takes_by old new piece (Err TooSmall) h gate = refuses old new piece TooSmall h.0 h.1 gate (λ e. absurd cc)
takes_by old new piece (Err OutOfMemory) h gate = starves old new piece h.0 h.1 gate
takes_by old new piece (Err Closed) h gate = absurd (never_closed old.gate (octets_of old ++ piece) h.0)

pub takes_as : (x : Reader) (old new : Unfinished) (failed err : Bool) (piece : List ℕ) (answer : Result (ℕ × Option Frame) FrameFault)
    → reader_of old failed ≡ x → failed ≡ false → err ≡ is_err answer
    → Makes old.gate (octets_of old) piece answer (octets_of new) → new.gate ≡ old.gate → Takes x piece answer (reader_of new err)
takes_as x old new failed err piece answer view goes_on err_is h gate =
    subst (λ (r : Reader). Takes r piece answer (reader_of new err)) (ap (reader_of old) (sym goes_on) ∙ view)
    (subst (λ (b : Bool). Takes (reader_of old false) piece answer (reader_of new b)) (sym err_is) (takes_by old new piece answer h gate))

-- ---- the same over whole streams

stands_at : (new : Reader) (gate : Gate) (held octets : List ℕ) (frames : List Frame) → new ≡ open_reader gate held
    → Run (gate_rules gate) octets frames held Going → StandsAfter new octets frames
stands_at new gate held octets frames e r = subst (λ (x : Reader). StandsAfter x octets frames) (sym e) (record { «open» = refl; run = r })

refused_at : (old new : Reader) (piece octets : List ℕ) (frames : List Frame) (fault : FrameFault) (code : ℕ) → StandsAfter old octets frames
    → Refuses old piece fault new → header_code fault ≡ Some code → RefusedAfter old.gate fault (octets ++ piece) frames
refused_at old new piece octets frames fault code s r code_is = record {
  rest = old.held ++ piece;
  code = code;
  code_is = code_is;
  fault_is = r.fault_is;
  run = run_header (gate_rules old.gate) octets old.held piece frames fault code code s.run r.header r.fault_is code_is refl;
}

pub answers_by : (old new : Reader) (piece : List ℕ) (answer : Result (ℕ × Option Frame) FrameFault) (octets : List ℕ) (frames : List Frame)
    → Takes old piece answer new → StandsAfter old octets frames → AnswersFragment old piece answer new octets frames
answers_by old new piece (Ok (n, None)) octets frames t s = (
  t.all,
  stands_at new old.gate (old.held ++ piece) (octets ++ piece) frames t.new_is
      (run_part (gate_rules old.gate) octets old.held piece frames s.run t.partial),
)
answers_by old new piece (Ok (n, Some f)) octets frames t s = (
  t.within,
  stands_at new old.gate [] (octets ++ take n piece) (frames ++ f ∷ []) t.new_is
      (run_frame (gate_rules old.gate) octets old.held (take n piece) frames f Going s.run t.octets t.sized t.let_in refl (refl, inl (omega arith))),
)
answers_by old new piece (Err UnknownType) octets frames t s = refused_at old new piece octets frames UnknownType 0x807E_0000 s t refl
answers_by old new piece (Err OutOfPlace) octets frames t s = refused_at old new piece octets frames OutOfPlace 0x807E_0000 s t refl
answers_by old new piece (Err TooLarge) octets frames t s = refused_at old new piece octets frames TooLarge 0x8080_0000 s t refl
answers_by old new piece (Err TooSmall) octets frames t s = refused_at old new piece octets frames TooSmall 0x8007_0000 s t refl
answers_by old new piece (Err OutOfMemory) octets frames t s = tt
answers_by old new piece (Err Closed) octets frames t s = let a : true ≡ false = sym t.0 ∙ s.«open» in absurd cc

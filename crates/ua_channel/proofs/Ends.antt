-- What either end of a connection makes of one call of its reader, and of a piece.
use Rattle.std.proofs.Common.{◌≡◌, ℕ, ◌+◌, ◌-◌, ◌<◌, ◌≤◌, max, min, inl, Bool, true, false, List, [], ◌∷◌, ◌++◌, Option, Some, None, Result}
use Rattle.std.proofs.Common.{Ok, Err, length, take, drop, refl, sym, ◌∙◌, ap, subst, arith, append-nil, append_assoc, length-append}
use Rattle.std.specs.Prelude.{MatchOption, OnErr}
use Rattle.std.proofs.Math.Seq.{take-add, take-length}
use Rattle.std.proofs.lemmas.List.{length-drop, length-take-le}
use Rattle.ua_frame.specs.declared.fault.FrameFault.{FrameFault}
use Rattle.ua_frame.specs.declared.frame.Frame.{Frame}
use Rattle.ua_frame.specs.declared.gate.Gate.{Gate}
use Rattle.ua_frame.specs.Frames.{frame_octets, frames_octets}
use Rattle.ua_frame.specs.Reader.{Reader, open_reader, TakesFrame, Takes}
use Rattle.ua_frame.specs.Run.{Rules, Run, End, EndsIn, refusal, events, Going, Over}
use Rattle.ua_frame.proofs.Streams.{frames_octets-push, events-push}
use Rattle.ua_chunk.specs.Open.{open_octets}
use Rattle.ua_channel.specs.Asks.{end_of}
use Rattle.ua_channel.specs.Content.{content}
use Rattle.ua_channel.specs.Received.{received}
use Rattle.ua_channel.specs.declared.end_core.EndCore.{EndCore}
use Rattle.ua_channel.specs.declared.end_fault.EndFault.{EndFault}
use Rattle.ua_channel.specs.declared.end_fault.EndFault.TheVariants.{Refused, Peer, Closed, OutOfMemory}
use Rattle.ua_channel.specs.Ends.{Side, EndDone, EndGoes, EndStands, EndStarves, EndStops, EndTells, HandsOutParts, rules_by}
use Rattle.ua_channel.specs.inside.Ends.{ComesBy, ComesNext, EndNexts, EndSteps, EndTook, EndFailsBy, IsBehind}
use Rattle.ua_channel.specs.inside.Ends.{JudgesWhole, MovesBy, RefusedBy, SameEnd, TakenBy, TakesWhole, closes_by}
use Rattle.ua_channel.specs.inside.Parts.{MayEndIn, IsWithinPiece}
use Rattle.ua_channel.specs.inside.EndFaults.{least_at, of_frame_fault}
use Rattle.ua_channel.proofs.Stepping.{Breaks, Halts, fault_comes, frame_at, frame_breaks, frame_broken, frame_halts, frame_run, part}

-- an end with another reader, phase and bound
abbrev pub end_with : {R P : Type 0} → EndCore R P → Reader → P → ℕ → EndCore R P
end_with x r p b = record x { reader = r; phase = p; bound = b }

pub same_end : {R P : Type 0} (a b c : EndCore R P) → SameEnd a b → SameEnd b c → SameEnd a c
same_end {R = R} {P = P} a b c ab bc = bc ∙ ap (λ (x : EndCore R P). end_with x c.reader c.phase c.bound) ab

module _ {R P E : Type 0} (S : Side R P E) where
  -- where it ended at what is refused
  stopped_by : (x : EndCore R P) (k : S.Key) (octets rest : List ℕ) (frames : List Frame) (told : List S.Told) (why : S.Why) → EndDone S x
      → Halts (rules_by S x k) octets frames rest why → events (rules_by S x k) frames ≡ told → x.bound ≡ S.bound x.rules frames
      → EndStops S x k octets told why
  stopped_by x k octets rest frames told why done h told_is bound =
      record { done = done; frames = frames; rest = rest; run = h.run; stops = h.stops; told_is = told_is; bound_is = bound }

  -- where it ended for want of memory
  pub starved_by : (x : EndCore R P) (k : S.Key) (octets rest : List ℕ) (frames : List Frame) (told : List S.Told) → EndDone S x
      → Breaks (rules_by S x k) octets frames rest → events (rules_by S x k) frames ≡ told → EndStarves S x k octets told
  starved_by x k octets rest frames told done b told_is = record {
    done = done;
    frames = frames;
    rest = rest;
    whole = b.whole;
    good = b.good;
    told_is = told_is;
    header = b.header;
    sound = b.sound;
    within = b.within;
  }

  -- ---- a fault of the reader

  pub step_fault : (x y : EndCore R P) (r : Reader) (piece : List ℕ) (n some : ℕ) (fault : FrameFault) (e : EndFault) → some ≤ 1
      → n ≡ min (max (8 - length x.reader.held) some) (length piece) → Takes x.reader piece (Err fault) r → e ≡ of_frame_fault fault
      → EndDone S y → y ≡ end_with x y.reader y.phase x.bound → (k : S.Key) (octets : List ℕ) (told : List S.Told) → EndGoes S x k octets told
      → EndSteps S piece n (Err e) y k octets told
  step_fault x y r piece n some fault e least n_is t is done kept k octets told g =
      let now : EndDone S (end_with x y.reader y.phase x.bound) = record { phase = done.phase; empty = done.empty } in
      subst (λ (s : EndFault). EndSteps S piece n (Err s) y k octets told) (sym is)
      (subst (λ (z : EndCore R P). EndSteps S piece n (Err (of_frame_fault fault)) z k octets told) (sym kept)
      (fault_comes S.Told S.Why (rules_by S x k) octets g.rest piece g.frames x.reader r g.stands.run g.stands.reader_is n (omega (arith, n_is))
      (λ few. omega (arith, n_is, few, least)) (λ past. omega (arith, n_is, past, least))
      (λ (s : EndFault). EndSteps S piece n (Err s) (end_with x y.reader y.phase x.bound) k octets told)
      (λ code h. stopped_by (end_with x y.reader y.phase x.bound) k (octets ++ take n piece) (g.rest ++ take n piece) g.frames told
      ((rules_by S x k).of_header code) now h g.told_is g.stands.bound_is)
      (λ b. starved_by (end_with x y.reader y.phase x.bound) k (octets ++ take n piece) (g.rest ++ take n piece) g.frames told now b g.told_is) fault t))

  -- ---- a frame

  module _ (grows : (k : S.Key) (n m : ℕ) → n ≤ m → S.placed k n → S.placed k m) where
    placed_more : (k : S.Key) (octets more : List ℕ) → S.placed k (length octets) → S.placed k (length (octets ++ more))
    placed_more k octets more placed = grows k (length octets) (length (octets ++ more)) (omega (arith, length-append octets more)) placed

    module _ (x : EndCore R P) (k : S.Key) (octets piece : List ℕ) (n : ℕ) (told : List S.Told) (f : Frame) (r : Reader) (g : EndGoes S x k octets told)
        (t : TakesFrame x.reader piece n f r) where
      at : TakesFrame (open_reader ((rules_by S x k).gate g.frames) g.rest) piece n f r
      at = frame_at S.Told S.Why (rules_by S x k) octets g.rest piece g.frames x.reader r g.stands.run g.stands.reader_is n f t

      later : length octets < end_of g.frames f
      later =
          omega (
            arith,
            at.some,
            length-take-le n piece at.within,
            ap length g.stands.run.whole,
            ap length (frames_octets-push g.frames f),
            length-append (frames_octets g.frames) (frame_octets f),
            length-append (frames_octets g.frames) g.rest,
            length-append g.rest (take n piece),
            ap length at.octets,
          )

      comes_next : ComesNext S x.rules k x.phase x.bound g.frames f
      comes_next = record {
        came = length octets;
        placed = g.stands.placed;
        later = later;
        holds = g.stands.phase_is;
        bound_is = g.stands.bound_is;
        let_in = at.let_in;
      }

      module _ (z : Reader) (p : P) (b : ℕ) where
        run_to : (end : End S.Why) → refusal (rules_by S x k) g.frames f ≡ None → EndsIn (rules_by S x k) (g.frames ++ f ∷ []) [] end
            → Run (rules_by S x k) (octets ++ take n piece) (g.frames ++ f ∷ []) [] end
        run_to = frame_run S.Told S.Why (rules_by S x k) octets g.rest piece g.frames x.reader r g.stands.run g.stands.reader_is n f t

        stands_more : (e : Option E) → TakesWhole S (end_with x z p b) k g.frames f e → closes_by S e ≡ false
            → EndStands S (end_with x z p b) k (octets ++ take n piece) (g.frames ++ f ∷ []) []
        stands_more e h goes = record {
          run = run_to Going h.taken.accepted (h.taken.last ∙ goes, inl (omega arith));
          placed = placed_more k octets (take n piece) g.stands.placed;
          reader_is = h.reader_is goes;
          phase_is = subst (λ (c : Bool). IsBehind S c x.rules k p (g.frames ++ f ∷ [])) goes h.taken.behind;
          bound_is = h.taken.bound_is;
        }

        silent : TakesWhole S (end_with x z p b) k g.frames f None → EndGoes S (end_with x z p b) k (octets ++ take n piece) told
        silent h = record {
          frames = g.frames ++ f ∷ [];
          rest = [];
          stands = stands_more None h refl;
          told_is = events-push (rules_by S x k) g.frames f
              ∙ (ap (λ (u : List S.Told). events (rules_by S x k) g.frames ++ u) h.taken.tells ∙ (append-nil (events (rules_by S x k) g.frames) ∙ g.told_is));
        }

        hands_out : (e : E) → TakesWhole S (end_with x z p b) k g.frames f (Some e) → S.closes e ≡ false → (o : Option (List (List ℕ)))
            → MayEndIn (received g.frames).messages (content f) o → HandsOutParts S o (end_with x z p b) k (octets ++ take n piece)
        hands_out e h goes None ends = tt
        hands_out e h goes (Some parts) ends = record { frames = g.frames; frame = f; stands = stands_more (Some e) h goes; ends = ends }

        telling : (e : E) → TakesWhole S (end_with x z p b) k g.frames f (Some e) → (c : Bool) → S.closes e ≡ c
            → ComesBy S c (end_with x z p b) k (octets ++ take n piece) told e
        telling e h false goes = (
          record { frames = g.frames; frame = f; stands = stands_more (Some e) h goes; told_is = g.told_is; tells = h.taken.tells },
          hands_out e h goes (S.parts e) h.taken.parts,
        )
        telling e h true last = record {
          done = record { phase = subst (λ (c : Bool). IsBehind S c x.rules k p (g.frames ++ f ∷ [])) last h.taken.behind; empty = h.empty };
          frames = g.frames ++ f ∷ [];
          run = run_to Over h.taken.accepted (h.taken.last ∙ last);
          told_is = events-push (rules_by S x k) g.frames f
              ∙ (ap (λ (u : List S.Told). events (rules_by S x k) g.frames ++ u) h.taken.tells ∙ ap (λ (u : List S.Told). u ++ S.tells e ∷ []) g.told_is);
          bound_is = h.taken.bound_is;
        }

        refused : (why : S.Why) → refusal (rules_by S x k) g.frames f ≡ Some why → EndDone S (end_with x z p b) → b ≡ S.bound x.rules g.frames
            → EndStops S (end_with x z p b) k (octets ++ take n piece) told why
        refused why is done bound =
            stopped_by (end_with x z p b) k (octets ++ take n piece) (g.rest ++ take n piece) g.frames told why done
            (frame_halts S.Told S.Why (rules_by S x k) octets g.rest piece g.frames x.reader r g.stands.run g.stands.reader_is n f t why is) g.told_is bound

        by_peer : (o : Option S.Why) → MatchOption o ⊥ (λ (why : S.Why). refusal (rules_by S x k) g.frames f ≡ Some why) → EndDone S (end_with x z p b)
            → b ≡ S.bound x.rules g.frames
            → MatchOption o ⊥ (λ (why : S.Why). EndStops S (end_with x z p b) k (octets ++ take n piece) told why)
        by_peer None is done bound = is
        by_peer (Some why) is done bound = refused why is done bound

        fails : (fault : EndFault) → RefusedBy S x.rules k g.frames f fault → EndDone S (end_with x z p b) → b ≡ S.bound x.rules g.frames
            → EndFailsBy S (end_with x z p b) k (octets ++ take n piece) told fault
        fails (Refused code) is done bound = refused ((rules_by S x k).of_header code.code) is done bound
        fails (Peer code) is done bound = by_peer (S.peer code.code) is done bound
        fails OutOfMemory is done bound =
            starved_by (end_with x z p b) k (octets ++ take n piece) (g.rest ++ take n piece) g.frames told done
            (frame_breaks S.Told S.Why (rules_by S x k) octets g.rest piece g.frames x.reader r g.stands.run g.stands.reader_is n f t) g.told_is
        fails Closed is done bound = is

        frame_steps : (answer : Result (Option E) EndFault) → JudgesWhole S (end_with x z p b) k g.frames f answer
            → EndSteps S piece n answer (end_with x z p b) k octets told
        frame_steps (Ok None) j = silent j
        frame_steps (Ok (Some e)) j = telling e j (S.closes e) refl
        frame_steps (Err fault) j = fails fault j.0 j.1 j.2

    -- one call of the reader that has one
    pub step_frame : (x y : EndCore R P) (r : Reader) (piece : List ℕ) (n : ℕ) (f : Frame) (answer : Result (Option E) EndFault)
        → TakesFrame x.reader piece n f r → y ≡ end_with x y.reader y.phase y.bound
        → ((k : S.Key) (frames : List Frame) → ComesNext S x.rules k x.phase x.bound frames f → r ≡ open_reader ((rules_by S x k).gate frames) []
        → JudgesWhole S y k frames f answer)
        → (k : S.Key) (octets : List ℕ) (told : List S.Told) → EndGoes S x k octets told → EndSteps S piece n answer y k octets told
    step_frame x y r piece n f answer t kept judges k octets told g =
        subst (λ (c : EndCore R P). EndSteps S piece n answer c k octets told) (sym kept)
        (frame_steps x k octets piece n told f r g t y.reader y.phase y.bound answer
        (subst (λ (c : EndCore R P). JudgesWhole S c k g.frames f answer) kept
        (judges k g.frames (comes_next x k octets piece n told f r g t) (at x k octets piece n told f r g t).new_is)))

  -- a whole frame that is taken
  pub whole_so : (x new : EndCore R P) (k : S.Key) (frames : List Frame) (f : Frame) (e : Option E) (gate : Gate)
      → TakenBy S x.rules k frames f x.phase x.bound e → new ≡ record x { reader = new.reader } → x.reader ≡ open_reader ((rules_by S x k).gate frames) []
      → new.reader ≡ record x.reader { gate = gate }
      → ((j : S.Key) (fs : List Frame) → S.holds x.rules j x.phase fs → gate ≡ (S.rules x.rules j).gate fs) → TakesWhole S new k frames f e
  whole_so x new k frames f e gate taken new_is reader reader_is gate_is =
      let now = reader_is ∙ ap (λ (r : Reader). record r { gate = gate }) reader in
      subst (λ (y : EndCore R P). TakesWhole S y k frames f e) (sym new_is) (record {
        taken = taken;
        empty = ap (λ (r : Reader). r.held) now;
        reader_is = λ goes. now
            ∙ ap (λ (o : Gate). open_reader o [])
            (gate_is k (frames ++ f ∷ []) (subst (λ (c : Bool). IsBehind S c x.rules k x.phase (frames ++ f ∷ [])) goes taken.behind));
      })

  -- a whole frame that is refused
  pub refused_so : (x new : EndCore R P) (k : S.Key) (frames : List Frame) (f : Frame) (fault : EndFault) → new ≡ end_with x new.reader new.phase x.bound
      → RefusedBy S x.rules k frames f fault → EndDone S new → x.bound ≡ S.bound x.rules frames → JudgesWhole S new k frames f (Err fault)
  refused_so x new k frames f fault new_is why done bound = (
    subst (λ (y : EndCore R P). RefusedBy S y.rules k frames f fault) (sym new_is) why,
    done,
    subst (λ (y : EndCore R P). y.bound ≡ S.bound y.rules frames) (sym new_is) bound,
  )

-- ---- a frame that leaves the bound as it was

pub bound_kept : {A F : Type 0} (r : Result A F) (bound : ℕ) → OnErr r (bound ≡ bound)
bound_kept (Ok a) bound = tt
bound_kept (Err f) bound = refl

-- ---- a fault of the reader

pub least_small : (fault : EndFault) (some : ℕ) → some ≡ least_at fault → some ≤ 1
least_small (Refused code) some is = omega (arith, is)
least_small (Peer code) some is = omega (arith, is)
least_small OutOfMemory some is = omega (arith, is)
least_small Closed some is = omega (arith, is)

pub moves_failed : (A : Type 0) (piece : List ℕ) (n past some : ℕ) (fault : EndFault) → some ≡ least_at fault → n ≡ min (max past some) (length piece)
    → MovesBy {A = A} piece n (Err fault)
moves_failed A piece n past some (Refused code) is n_is = (omega (arith, n_is), λ more. omega (arith, n_is, is, more))
moves_failed A piece n past some (Peer code) is n_is = (omega (arith, n_is), λ more. omega (arith, n_is, is, more))
moves_failed A piece n past some OutOfMemory is n_is = omega (arith, n_is)
moves_failed A piece n past some Closed is n_is = (omega (arith, n_is), λ more. omega (arith, n_is, is, more))

-- ---- a piece

module _ (piece : List ℕ) (taken n : ℕ) (room : taken < length piece) where
  rest_is : take (length piece - taken) (drop taken piece) ≡ drop taken piece
  rest_is = ap (λ (k : ℕ). take k (drop taken piece)) (sym (length-drop taken piece)) ∙ take-length (drop taken piece)

  rest_length : length (take (length piece - taken) (drop taken piece)) ≡ length piece - taken
  rest_length = ap length rest_is ∙ length-drop taken piece

  -- a step is one of the piece
  moves_there : IsWithinPiece (take (length piece - taken) (drop taken piece)) n → IsWithinPiece piece (taken + n)
  moves_there m = let within = m.0 in let some = m.1 (omega (arith, rest_length, room)) in (omega (arith, within, rest_length, room), λ h. omega (arith, some))

  within_there : n ≤ length (take (length piece - taken) (drop taken piece)) → taken + n ≤ length piece
  within_there within = omega (arith, within, rest_length, room)

  moved_there : {A : Type 0} (a : Result A EndFault) → MovesBy (take (length piece - taken) (drop taken piece)) n a → MovesBy piece (taken + n) a
  moved_there (Ok e) m = moves_there m
  moved_there (Err (Refused code)) m = moves_there m
  moved_there (Err (Peer code)) m = moves_there m
  moved_there (Err OutOfMemory) m = within_there m
  moved_there (Err Closed) m = moves_there m

  pub moved_by : {A : Type 0} (a b : Result A EndFault) → a ≡ b → MovesBy (take (length piece - taken) (drop taken piece)) n a → MovesBy piece (taken + n) b
  moved_by {A = A} a b is m = subst (λ (c : Result A EndFault). MovesBy piece (taken + n) c) is (moved_there a m)

  fewer_there : (A : Type 0) (fault : EndFault) → MovesBy {A = A} (take (length piece - taken) (drop taken piece)) n (Err fault) → taken + n ≤ length piece
  fewer_there A (Refused code) m = within_there m.0
  fewer_there A (Peer code) m = within_there m.0
  fewer_there A OutOfMemory m = within_there m
  fewer_there A Closed m = within_there m.0

  -- what holds behind the octets of a step holds behind those of the piece
  shifted : (Q : List ℕ → Type 0) (octets : List ℕ) → Q ((octets ++ take taken piece) ++ take n (take (length piece - taken) (drop taken piece)))
      → Q (octets ++ take (taken + n) piece)
  shifted Q octets h =
      subst Q
      (ap (λ (z : List ℕ). (octets ++ take taken piece) ++ take n z) rest_is
      ∙ (append_assoc octets (take taken piece) (take n (drop taken piece))
      ∙ ap (λ (z : List ℕ). octets ++ z) (sym (take-add taken n piece))))
      h

  module _ {R P E : Type 0} (S : Side R P E) (old now next : EndCore R P) (t : EndTook S old now piece taken) (a : Result (Option E) EndFault)
      (steps : (k : S.Key) (octets : List ℕ) (told : List S.Told) → EndGoes S now k octets told
      → EndSteps S (take (length piece - taken) (drop taken piece)) n a next k octets told)
      (moves : MovesBy (take (length piece - taken) (drop taken piece)) n a) where
    there : (b : Result (Option E) EndFault) → a ≡ b → (k : S.Key) (octets : List ℕ) (told : List S.Told) → EndGoes S old k octets told
        → EndSteps S (take (length piece - taken) (drop taken piece)) n b next k (octets ++ take taken piece) told
    there b is k octets told g =
        subst (λ (c : Result (Option E) EndFault). EndSteps S (take (length piece - taken) (drop taken piece)) n c next k (octets ++ take taken piece) told) is
        (steps k (octets ++ take taken piece) told (t.goes k octets told g))

    moved : (b : Result (Option E) EndFault) → a ≡ b → MovesBy (take (length piece - taken) (drop taken piece)) n b
    moved b is = subst (λ (c : Result (Option E) EndFault). MovesBy (take (length piece - taken) (drop taken piece)) n c) is moves

    -- a step that tells nothing
    pub took_by : a ≡ Ok None → SameEnd now next → EndTook S old next piece (taken + n)
    took_by is same = record {
      within = within_there (moved (Ok None) is).0;
      goes = λ k octets told g. shifted (λ (z : List ℕ). EndGoes S next k z told) octets (there (Ok None) is k octets told g);
      same = same_end old now next t.same same;
    }

    -- a step that tells something
    pub tells_by : (e : E) → a ≡ Ok (Some e) → (k : S.Key) (octets : List ℕ) (told : List S.Told) → EndGoes S old k octets told
        → EndNexts S piece (taken + n) (Ok (Some e)) next k octets told
    tells_by e is k octets told g =
        let m = moved (Ok (Some e)) is in
        let more : 0 < n = m.1 (omega (arith, rest_length, room)) in (
          omega (arith, more),
          within_there m.0,
          shifted (λ (z : List ℕ). ComesBy S (S.closes e) next k z told e) octets
              (there (Ok (Some e)) is k octets told g),
        )

    -- a step that fails
    pub fails_by : (fault : EndFault) → a ≡ Err fault → (k : S.Key) (octets : List ℕ) (told : List S.Told) → EndGoes S old k octets told
        → EndNexts S piece (taken + n) (Err fault) next k octets told
    fails_by fault is k octets told g = (
      fewer_there (Option E) fault (moved (Err fault) is),
      shifted (λ (z : List ℕ). EndFailsBy S next k z told fault) octets
          (there (Err fault) is k octets told g),
    )

module _ {R P E : Type 0} (S : Side R P E) where
  pub took_nothing : (x : EndCore R P) (piece : List ℕ) → EndTook S x x piece 0
  took_nothing x piece = record {
    within = omega arith;
    goes = λ k octets told g. subst (λ (z : List ℕ). EndGoes S x k z told) (sym (append-nil octets)) g;
    same = refl;
  }

  -- the whole piece
  pub took_all : (old now : EndCore R P) (piece : List ℕ) (taken : ℕ) → EndTook S old now piece taken → length piece ≤ taken
      → (k : S.Key) (octets : List ℕ) (told : List S.Told) → EndGoes S old k octets told → EndNexts {E = E} S piece taken (Ok None) now k octets told
  took_all old now piece taken t all k octets told g =
      let whole : taken ≡ length piece = omega (arith, t.within, all) in
      (whole, subst (λ (z : List ℕ). EndGoes S now k (octets ++ z) told) (ap (λ (j : ℕ). take j piece) whole ∙ take-length piece) (t.goes k octets told g))

  -- what comes of a piece, where that is known
  pub nexts_as : (old new : EndCore R P) (piece : List ℕ) (n : ℕ) (a b : Result (Option E) EndFault)
      → ((k : S.Key) (octets : List ℕ) (told : List S.Told) → EndGoes S old k octets told → EndNexts S piece n a new k octets told) → a ≡ b
      → (k : S.Key) (octets : List ℕ) (told : List S.Told) → EndGoes S old k octets told → EndNexts S piece n b new k octets told
  nexts_as old new piece n a b nexts is k octets told g = subst (λ (c : Result (Option E) EndFault). EndNexts S piece n c new k octets told) is
      (nexts k octets told g)

  -- behind the frame of an event, where memory is refused for what is answered
  pub starved_behind : (mid d : EndCore R P) (k : S.Key) (octets : List ℕ) (told : List S.Told) (e : S.Told) → d.rules ≡ mid.rules → EndDone S d
      → EndTells S mid k octets told e → EndStarves S d k octets told
  starved_behind mid d k octets told e rules done g =
      let same : rules_by S mid k ≡ rules_by S d k = ap (λ (r : R). S.rules r k) (sym rules) in
      starved_by S d k octets (frame_octets g.frame) g.frames told done
      (subst (λ (Q : Rules S.Told S.Why). Breaks Q octets g.frames (frame_octets g.frame)) same
      (frame_broken (rules_by S mid k) octets g.frames g.frame g.stands.run))
      (ap (λ (Q : Rules S.Told S.Why). events Q g.frames) (sym same) ∙ g.told_is)

pub moves_nothing : (piece : List ℕ) (taken : ℕ) → taken ≤ length piece → length piece ≤ taken → IsWithinPiece piece taken
moves_nothing piece taken within all = (within, λ some. omega (arith, some, all))

-- ---- what is held

-- what is held of a frame and of messages is within the bound, and is no more than can be counted
pub held_so : {R P E : Type 0} (S : Side R P E) (x : EndCore R P) (k : S.Key) (octets : List ℕ) (frames : List Frame) (rest : List ℕ) (part messages sum : ℕ)
    → EndStands S x k octets frames rest → part ≡ length x.reader.held → part < max 8 x.reader.gate.largest → messages ≡ open_octets (received frames).messages
    → (8 ≤ ((rules_by S x k).gate frames).largest) × (messages + ((rules_by S x k).gate frames).largest ≤ S.bound x.rules frames)
    → x.bound < 18446744073709551616 → sum ≡ min (part + messages) 18446744073709551615
    → (sum ≡ length rest + open_octets (received frames).messages) × (sum ≤ x.bound)
held_so S x k octets frames rest part messages sum s part_is few messages_is within fits sum_is =
    let gate = ap (λ (r : Reader). r.gate.largest) s.reader_is in
    let held = ap (λ (r : Reader). length r.held) s.reader_is in
    let bound = s.bound_is in
    let least = within.0 in
    let most = within.1 in
    (omega (arith, part_is, few, gate, held, messages_is, least, most, bound, fits, sum_is), omega (arith, few, gate, least, most, bound, sum_is))

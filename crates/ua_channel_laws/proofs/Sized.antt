-- Frames of sizes that a header can name: they are told by their octets.
use Rattle.std.proofs.Common.{◌≡◌, ℕ, ◌+◌, ◌<◌, ◌≤◌, ◌^◌, List, [], ◌∷◌, ◌++◌, length, map}
use Rattle.std.proofs.Common.{refl, sym, ◌∙◌, ap, subst, arith, append-nil, append_assoc, length-append}
use Rattle.std.specs.List.{AllByRecursion}
use Rattle.std.proofs.lemmas.List.{append_cancel_left}
use Rattle.ua_frame.specs.After.{AllAfter, AllFrom}
use Rattle.ua_frame.specs.Frames.{IsSized, frame_octets, frames_octets}
use Rattle.ua_frame.specs.Run.{Fits, Going, Rules, Run}
use Rattle.ua_frame.specs.declared.frame.Frame.{Frame}
use Rattle.ua_frame.proofs.Fronts.{length-frame_octets}
use Rattle.ua_frame.proofs.Unique.{one_frame}
use Rattle.ua_chunk.specs.Layout.{frame_of}
use Rattle.ua_chunk.specs.declared.chunk.Chunk.{Chunk}
use Rattle.ua_chunk.specs.declared.lane.Lane.{Lane}
use Rattle.ua_channel.proofs.AskedLater.{frames_octets-append}
use Rattle.ua_channel.proofs.ChunkFrames.{chunk_size}
use Rattle.ua_channel_laws.proofs.ReadOn.{begins_run}
use Rattle.ua_channel_laws.proofs.Written.{IsOf}

frames_cons : (f : Frame) (fs : List Frame) → frames_octets (f ∷ fs) ≡ frame_octets f ++ frames_octets fs
unfolding frames_octets
frames_cons f fs = refl

frames_none : frames_octets [] ≡ []
unfolding frames_octets
frames_none = refl

some_octets : (f : Frame) (fs : List Frame) → frames_octets [] ≡ frames_octets (f ∷ fs) → ⊥
some_octets f fs e = omega (
  arith,
  ap length (sym frames_none ∙ (e ∙ frames_cons f fs)),
  length-append (frame_octets f) (frames_octets fs),
  length-frame_octets f,
)

same_list : (f g : Frame) (fs gs : List Frame) → f ≡ g → fs ≡ gs → f ∷ fs ≡ g ∷ gs
same_list f g fs gs p q = cc

-- frames of sizes that a header can name are told by their octets
same_frames : (fs gs : List Frame) → AllByRecursion IsSized fs → AllByRecursion IsSized gs → frames_octets fs ≡ frames_octets gs → fs ≡ gs
same_frames [] [] p q e = refl
same_frames [] (g ∷ gs) p q e = absurd (some_octets g gs e)
same_frames (f ∷ fs) [] p q e = absurd (some_octets f fs (sym e))
same_frames (f ∷ fs) (g ∷ gs) p q e =
    let one = one_frame f g (frames_octets fs) (frames_octets gs) p.0 q.0 (sym (frames_cons f fs) ∙ (e ∙ frames_cons g gs)) in
    same_list f g fs gs one.0 (same_frames fs gs p.1 q.1 one.1)

pub all_sized : {E X : Type 0} (R : Rules E X) (start fs : List Frame) → AllFrom (Fits R) start fs → AllByRecursion IsSized fs
all_sized R start [] h = tt
all_sized R start (f ∷ fs) h = (h.0.sized, all_sized R (start ++ f ∷ []) fs h.1)

sized_behind : {E X : Type 0} (R : Rules E X) (start fs gs : List Frame) → AllFrom (Fits R) start (fs ++ gs) → AllByRecursion IsSized gs
sized_behind R start [] gs h = all_sized R start gs h
sized_behind R start (f ∷ fs) gs h = sized_behind R (start ++ f ∷ []) fs gs h.1

-- where octets begin others, their frames are the first of those
pub front_sized : (fs gs : List Frame) (rest : List ℕ) → AllByRecursion IsSized fs → AllByRecursion IsSized gs → frames_octets fs ++ rest ≡ frames_octets gs
    → (later : List Frame) × (gs ≡ fs ++ later)
front_sized [] gs rest p q e = (gs, refl)
front_sized (f ∷ fs) [] rest p q e =
    absurd (omega (
      arith,
      ap length (ap (λ (o : List ℕ). o ++ rest) (sym (frames_cons f fs)) ∙ (e ∙ frames_none)),
      length-append (frame_octets f ++ frames_octets fs) rest,
      length-append (frame_octets f) (frames_octets fs),
      length-frame_octets f,
    ))
front_sized (f ∷ fs) (g ∷ gs) rest p q e =
    let parts : frame_octets f ++ (frames_octets fs ++ rest) ≡ frame_octets g ++ frames_octets gs =
    sym (append_assoc (frame_octets f) (frames_octets fs) rest) ∙ (ap (λ (o : List ℕ). o ++ rest) (sym (frames_cons f fs)) ∙ (e ∙ frames_cons g gs)) in
    let one = one_frame f g (frames_octets fs ++ rest) (frames_octets gs) p.0 q.0 parts in
    let more = front_sized fs gs rest p.1 q.1 one.1 in
    (more.0, same_list g f gs (fs ++ more.0) (sym one.0) more.1)

-- the frames of octets behind others
pub frames_behind : {E X : Type 0} (R : Rules E X) (octets : List ℕ) (fs all gs : List Frame) → Run R octets fs [] Going
    → Run R (octets ++ frames_octets gs) all [] Going → AllByRecursion IsSized gs → all ≡ fs ++ gs
unfolding AllAfter
frames_behind R octets fs all gs r s sized =
    let later = begins_run R octets (frames_octets gs) fs all [] Going r s in
    let same : frames_octets gs ≡ frames_octets later.0 =
    append_cancel_left octets (frames_octets gs) (frames_octets later.0)
    (s.whole
    ∙ (append-nil (frames_octets all)
    ∙ (ap frames_octets later.1
    ∙ (frames_octets-append fs later.0 ∙ ap (λ (o : List ℕ). o ++ frames_octets later.0) (sym (append-nil (frames_octets fs)) ∙ sym r.whole))))) in
    later.1
    ∙ ap (λ (hs : List Frame). fs ++ hs)
    (sym (same_frames gs later.0 sized (sized_behind R [] fs later.0 (subst (λ (hs : List Frame). AllFrom (Fits R) [] hs) later.1 s.good)) same))

-- the last of a list, where something holds of each
pub all_last : {A : Type 0} (P : A → Type 0) (xs : List A) (y : A) → AllByRecursion P (xs ++ y ∷ []) → P y
all_last P [] y h = h.0
all_last P (x ∷ xs) y h = all_last P xs y h.1

-- the frames of chunks that fit are of such sizes
pub sized_chunks : (lane : Lane) (id size : ℕ) (cs : List Chunk) → 24 + lane.room ≤ size → size < 2 ^ 32 → AllByRecursion (IsOf lane id) cs
    → AllByRecursion IsSized (map frame_of cs)
sized_chunks lane id size [] fits small h = tt
sized_chunks lane id size (c ∷ cs) fits small h = (omega (arith, chunk_size c, h.0.fits, fits, small), sized_chunks lane id size cs fits small h.1)

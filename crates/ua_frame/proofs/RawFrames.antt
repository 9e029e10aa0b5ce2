-- Streams by their sizes alone.
use Rattle.std.proofs.Common.{◌≡◌, ℕ, ◌+◌, inl, inr, List, [], ◌∷◌, ◌++◌, IsSome, Option, Some, None, length, take}
use Rattle.std.proofs.Common.{drop, refl, sym, ◌∙◌, ap, subst, arith, append_assoc, length-append, take-append-drop}
use Rattle.std.specs.List.{flat_map, AllByRecursion}
use Rattle.std.proofs.lemmas.List.{take_at, append_cancel_left, flat_map_more, length-take-le, length-drop}
use Rattle.ua_frame.specs.declared.frame.Frame.{Frame}
use Rattle.ua_frame.specs.declared.gate.Gate.{Gate}
use Rattle.ua_frame.specs.declared.kind.Kind.{Kind}
use Rattle.ua_frame.specs.FirstWrong.{frame_named, frame_in, listed_frame, frames_in}
use Rattle.ua_frame.specs.Frames.{frame_octets, IsSized, LetsIn, kind_of, flag_of, size_of, header_fault, IsRawFrame, IsRest, Frames, joined_parts}
use Rattle.ua_frame.proofs.Fronts.{size_front, fault_front, length-frame_octets, size_of-frame}
use Rattle.ua_frame.proofs.Fronts.{kind_of-frame, flag_of-frame, let_in-from_fault, frame_by, header_frame}
use Rattle.ua_frame.proofs.Parts.{good_header}
use Rattle.ua_frame.proofs.Unique.{body_of-frame}

-- ---- octets begin with one frame

size_raw : (a x : List ℕ) → IsRawFrame a → size_of (a ++ x) ≡ length a
size_raw a x h = size_front a x h.header ∙ h.size

pub one_raw : (a b x y : List ℕ) → IsRawFrame a → IsRawFrame b → a ++ x ≡ b ++ y → (a ≡ b) × (x ≡ y)
one_raw a b x y p q e =
    let len : length a ≡ length b = sym (size_raw a x p) ∙ (ap size_of e ∙ size_raw b y q) in
    let same : a ≡ b = sym (take_at a x (length b) len) ∙ (ap (take (length b)) e ∙ take_at b y (length b) refl) in
    (same, append_cancel_left b x y (ap (λ (t : List ℕ). t ++ x) (sym same) ∙ e))

pub no_raw_rest : (a x : List ℕ) → IsRawFrame a → IsRest (a ++ x) → ⊥
no_raw_rest a x h (inl short) = omega (arith, h.header, length-append a x)
no_raw_rest a x h (inr (inl small)) = omega (arith, h.header, size_raw a x h)
no_raw_rest a x h (inr (inr less)) = omega (arith, size_raw a x h, length-append a x)

pub joined-cons : (a : List ℕ) (fs : List (List ℕ)) (x : List ℕ) → joined_parts (a ∷ fs) ++ x ≡ a ++ (joined_parts fs ++ x)
unfolding joined_parts
joined-cons a fs x = append_assoc a (joined_parts fs) x

pub joined-nil : (x : List ℕ) → joined_parts [] ++ x ≡ x
unfolding joined_parts
joined-nil x = refl

frames_same : (fs gs : List (List ℕ)) (x y : List ℕ) → joined_parts fs ++ x ≡ joined_parts gs ++ y → AllByRecursion IsRawFrame fs → AllByRecursion IsRawFrame gs
    → IsRest x
    → IsRest y → (fs ≡ gs) × (x ≡ y)
frames_same [] [] x y e p q r s = (refl, sym (joined-nil x) ∙ (e ∙ joined-nil y))
frames_same [] (b ∷ gs) x y e p q r s = absurd (no_raw_rest b (joined_parts gs ++ y) q.0 (subst IsRest (sym (joined-nil x) ∙ (e ∙ joined-cons b gs y)) r))
frames_same (a ∷ fs) [] x y e p q r s = absurd (no_raw_rest a (joined_parts fs ++ x) p.0 (subst IsRest (sym (joined-nil y) ∙ (sym e ∙ joined-cons a fs x)) s))
frames_same (a ∷ fs) (b ∷ gs) x y e p q r s =
    let one = one_raw a b (joined_parts fs ++ x) (joined_parts gs ++ y) p.0 q.0 (sym (joined-cons a fs x) ∙ (e ∙ joined-cons b gs y)) in
    let same = frames_same fs gs x y one.1 p.1 q.1 r s in
    (ap (λ (t : List ℕ). t ∷ fs) one.0 ∙ ap (λ (t : List (List ℕ)). b ∷ t) same.0, same.1)

-- octets are frames in one way
pub one_framing : (o : List ℕ) (fs gs : List (List ℕ)) (x y : List ℕ) → Frames o fs x → Frames o gs y → (fs ≡ gs) × (x ≡ y)
one_framing o fs gs x y r s = frames_same fs gs x y (sym r.whole ∙ s.whole) r.each s.each r.partial s.partial

-- ---- frames as octets, and back

pub raw_of-frame : (f : Frame) → IsSized f → IsRawFrame (frame_octets f)
raw_of-frame f h = record { header = omega (arith, length-frame_octets f); size = size_of-frame f h ∙ sym (length-frame_octets f) }

named_at : (k : Option Kind) (k' : Kind) (octets : List ℕ) → k ≡ Some k'
    → frame_named k octets ≡ Some (record { kind = k'; flag = flag_of octets; body = drop 8 octets })
named_at k k' octets e = ap (λ (o : Option Kind). frame_named o octets) e

same_frame : (f : Frame) (flag : ℕ) (body : List ℕ) → flag ≡ f.flag → body ≡ f.body
    → ◌≡◌ {A = Option Frame} (Some (record { kind = f.kind; flag = flag; body = body })) (Some f)
same_frame f flag body p q = ap (λ (x : ℕ). Some (record { kind = f.kind; flag = x; body = body })) p
    ∙ ap (λ (x : List ℕ). Some (record { kind = f.kind; flag = f.flag; body = x })) q

pub frame_in-frame : (f : Frame) → frame_in (frame_octets f) ≡ Some f
frame_in-frame f = named_at (kind_of (frame_octets f)) f.kind (frame_octets f) (kind_of-frame f)
    ∙ same_frame f (flag_of (frame_octets f)) (drop 8 (frame_octets f)) (flag_of-frame f) (body_of-frame f)

pub frames_in-push : (start : List (List ℕ)) (raw : List ℕ) (f : Frame) → frame_in raw ≡ Some f → frames_in (start ++ raw ∷ []) ≡ frames_in start ++ f ∷ []
unfolding frames_in
frames_in-push start raw f e =
    sym (flat_map_more (λ (t : List ℕ). listed_frame (frame_in t)) [] start raw)
    ∙ ap (λ (o : Option Frame). flat_map (λ (t : List ℕ). listed_frame (frame_in t)) start ++ listed_frame o) e

-- octets that are a frame, with a good header
pub record IsGood (gate : Gate) (raw : List ℕ) : Type 0 where
  pub frame : Frame
  pub octets : raw ≡ frame_octets frame
  pub sized : IsSized frame
  pub let_in : LetsIn gate frame

good_by : (gate : Gate) (h body : List ℕ) (k : Option Kind) → kind_of h ≡ k → IsSome k → length h ≡ 8 → size_of h ≡ 8 + length body → header_fault gate h ≡ None
    → IsGood gate (h ++ body)
good_by gate h body None named some len size good = absurd cc
good_by gate h body (Some k) named some len size good =
    let made = header_frame h body k len named size in
    record {
      frame = frame_by k h body;
      octets = made.0;
      sized = made.1;
      let_in = let_in-from_fault gate (frame_by k h body) made.1
          (ap (header_fault gate) (sym made.0) ∙ (fault_front gate h body (omega arith) ∙ good));
    }

pub good_raw : (gate : Gate) (raw : List ℕ) → IsRawFrame raw → header_fault gate raw ≡ None → IsGood gate raw
good_raw gate raw r good =
    let h : List ℕ = take 8 raw in
    let body : List ℕ = drop 8 raw in
    let parts : h ++ body ≡ raw = take-append-drop 8 raw in
    let len : length h ≡ 8 = length-take-le 8 raw r.header in
    let size : size_of h ≡ 8 + length body = sym (size_front h body (omega (arith, len)))
    ∙ (ap size_of parts ∙ (r.size ∙ omega (arith, length-drop 8 raw, r.header))) in
    let fault : header_fault gate h ≡ None = sym (fault_front gate h body (omega (arith, len))) ∙ (ap (header_fault gate) parts ∙ good) in
    subst (λ (t : List ℕ). IsGood gate t) parts (good_by gate h body (kind_of h) refl (good_header gate h fault).0 len size fault)

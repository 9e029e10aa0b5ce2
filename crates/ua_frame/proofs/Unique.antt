-- A stream has one reading.
use Rattle.std.proofs.Common.{◌≡◌, ℕ, ◌+◌, ◌⊎◌, inl, inr, List, [], ◌∷◌, ◌++◌, Bool, false, true, Option, Some, None}
use Rattle.std.proofs.Common.{length, take, drop, refl, sym, ◌∙◌, ap, subst, arith, append_assoc, append-nil, length-append}
use Rattle.std.proofs.lemmas.List.{take_at, drop_at, drop-drop, append_cancel_left}
use Rattle.ua_wire.specs.Number.{number_octets}
use Rattle.ua_wire.proofs.Readers.{some_is}
use Rattle.ua_wire.proofs.NumbersRead.{length-number_octets}
use Rattle.ua_frame.specs.declared.frame.Frame.{Frame}
use Rattle.ua_frame.specs.declared.gate.Gate.{Gate}
use Rattle.ua_frame.specs.declared.kind.Kind.{Kind}
use Rattle.ua_frame.specs.After.{AllFrom, AllAfter}
use Rattle.ua_frame.specs.Frames.{frame_size, frame_octets, frames_octets, IsSized, LetsIn, kind_of, flag_of, size_of, header_fault, header_code, IsPartial}
use Rattle.ua_frame.specs.Run.{Rules, refusal, Fits, End, Going, Stopped, Over, WrongHeader, WrongFrame, EndsIn, Run}
use Rattle.ua_frame.specs.Laws.{IsSame}
use Rattle.ua_frame.proofs.Fronts.{behind_first, fault_front, length-frame_octets, size_of-frame_more, kind_of-frame, flag_of-frame, fault-from_let_in}

-- ---- octets begin with one frame

pub body_of-frame : (f : Frame) → drop 8 (frame_octets f) ≡ f.body
unfolding frame_octets
body_of-frame f =
    sym (drop-drop 4 4 (frame_octets f))
    ∙ (ap (drop 4) (behind_first f.kind f.flag (number_octets 4 (frame_size f) ++ f.body))
    ∙ drop_at (number_octets 4 (frame_size f)) f.body 4 (length-number_octets 4 (frame_size f)))

same_fields : (k k' : Kind) (flag flag' : ℕ) (body body' : List ℕ) → k ≡ k' → flag ≡ flag' → body ≡ body'
    → ◌≡◌ {A = Frame} (record { kind = k; flag = flag; body = body }) (record { kind = k'; flag = flag'; body = body' })
same_fields k k' flag flag' body body' p q r = cc

-- frames of the same octets are one
pub frame-from_octets : (f g : Frame) → frame_octets f ≡ frame_octets g → f ≡ g
frame-from_octets f g e =
    same_fields f.kind g.kind f.flag g.flag f.body g.body
    (some_is f.kind g.kind (sym (kind_of-frame f) ∙ (ap kind_of e ∙ kind_of-frame g)))
    (sym (flag_of-frame f) ∙ (ap flag_of e ∙ flag_of-frame g))
    (sym (body_of-frame f) ∙ (ap (drop 8) e ∙ body_of-frame g))

pub one_frame : (f g : Frame) (x y : List ℕ) → IsSized f → IsSized g → frame_octets f ++ x ≡ frame_octets g ++ y → (f ≡ g) × (x ≡ y)
one_frame f g x y p q e =
    let size : frame_size f ≡ frame_size g = sym (size_of-frame_more f x p) ∙ (ap size_of e ∙ size_of-frame_more g y q) in
    let len : length (frame_octets f) ≡ length (frame_octets g) = length-frame_octets f ∙ (size ∙ sym (length-frame_octets g)) in
    let same : frame_octets f ≡ frame_octets g = sym (take_at (frame_octets f) x (length (frame_octets g)) len)
    ∙ (ap (take (length (frame_octets g))) e ∙ take_at (frame_octets g) y (length (frame_octets g)) refl) in
    (frame-from_octets f g same, append_cancel_left (frame_octets g) x y (ap (λ (t : List ℕ). t ++ x) (sym same) ∙ e))

-- ---- where a frame begins that a gate lets in

pub frame_more_fault : (gate : Gate) (f : Frame) (more : List ℕ) → IsSized f → LetsIn gate f → header_fault gate (frame_octets f ++ more) ≡ None
frame_more_fault gate f more p l = fault_front gate (frame_octets f) more (omega (arith, length-frame_octets f)) ∙ fault-from_let_in gate f p l

pub frame_more_length : (f : Frame) (more : List ℕ) → length (frame_octets f ++ more) ≡ frame_size f + length more
frame_more_length f more = omega (arith, length-append (frame_octets f) more, length-frame_octets f)

no_part : (gate : Gate) (f : Frame) (more : List ℕ) → IsSized f → IsPartial gate (frame_octets f ++ more) → ⊥
no_part gate f more p (inl short) = omega (arith, frame_more_length f more)
no_part gate f more p (inr part) = omega (arith, part.1, frame_more_length f more, size_of-frame_more f more p)

some_not_none : {A : Type 0} (o : Option A) (a : A) → o ≡ Some a → o ≡ None → ⊥
some_not_none o a e n = let c : Some a ≡ None = sym e ∙ n in cc

not_both : (b : Bool) → b ≡ false → b ≡ true → ⊥
not_both b f t = let c : false ≡ true = sym f ∙ t in cc

no_end : {E X : Type 0} (R : Rules E X) (before : List Frame) (x : List ℕ) (end : End X) (g : Frame) (more : List ℕ) → Fits R before g
    → x ≡ frame_octets g ++ more → EndsIn R before x end → ⊥
no_end R before x Going g more fits e ends = no_part (R.gate before) g more fits.sized (subst (λ (t : List ℕ). IsPartial (R.gate before) t) e ends.1)
no_end R before x Over g more fits e ends = not_both (R.over before) fits.goes_on ends
no_end R before x (Stopped why) g more fits e (goes_on, inl w) =
    some_not_none (header_fault (R.gate before) x) w.fault w.fault_is (ap (header_fault (R.gate before)) e
    ∙ frame_more_fault (R.gate before) g more fits.sized fits.let_in)
no_end R before x (Stopped why) g more fits e (goes_on, inr w) =
    let same = (one_frame w.frame g w.more more w.sized fits.sized (sym w.parts ∙ e)).0 in
    some_not_none (refusal R before w.frame) why w.refused (ap (refusal R before) same ∙ fits.accepted)

-- ---- how it goes on after the same frames

no_part_wrong : {E X : Type 0} (R : Rules E X) (fs : List Frame) (x : List ℕ) (why : X) → IsPartial (R.gate fs) x
    → (WrongHeader R fs x why ⊎ WrongFrame R fs x why) → ⊥
no_part_wrong R fs x why (inl short) (inl w) = omega (arith, w.whole)
no_part_wrong R fs x why (inr part) (inl w) = some_not_none (header_fault (R.gate fs) x) w.fault w.fault_is part.0
no_part_wrong R fs x why part (inr w) = no_part (R.gate fs) w.frame w.more w.sized (subst (λ (t : List ℕ). IsPartial (R.gate fs) t) w.parts part)

wrong_frame_good : {E X : Type 0} (R : Rules E X) (fs : List Frame) (x : List ℕ) (why : X) (w : WrongFrame R fs x why) → header_fault (R.gate fs) x ≡ None
wrong_frame_good R fs x why w = ap (header_fault (R.gate fs)) w.parts ∙ frame_more_fault (R.gate fs) w.frame w.more w.sized w.let_in

one_wrong : {E X : Type 0} (R : Rules E X) (fs : List Frame) (x : List ℕ) (c d : X) → (WrongHeader R fs x c ⊎ WrongFrame R fs x c)
    → (WrongHeader R fs x d ⊎ WrongFrame R fs x d) → c ≡ d
one_wrong R fs x c d (inl v) (inl w) =
    let same : v.fault ≡ w.fault = some_is v.fault w.fault (sym v.fault_is ∙ w.fault_is) in
    let code : v.code ≡ w.code = some_is v.code w.code (sym v.code_is ∙ (ap header_code same ∙ w.code_is)) in
    sym v.why_is ∙ (ap R.of_header code ∙ w.why_is)
one_wrong R fs x c d (inl v) (inr w) = absurd (some_not_none (header_fault (R.gate fs) x) v.fault v.fault_is (wrong_frame_good R fs x d w))
one_wrong R fs x c d (inr v) (inl w) = absurd (some_not_none (header_fault (R.gate fs) x) w.fault w.fault_is (wrong_frame_good R fs x c v))
one_wrong R fs x c d (inr v) (inr w) =
    let same = (one_frame v.frame w.frame v.more w.more v.sized w.sized (sym v.parts ∙ w.parts)).0 in
    some_is c d (sym v.refused ∙ (ap (refusal R fs) same ∙ w.refused))

one_end : {E X : Type 0} (R : Rules E X) (fs : List Frame) (x : List ℕ) (e d : End X) → EndsIn R fs x e → EndsIn R fs x d → e ≡ d
one_end R fs x Going Going p q = refl
one_end R fs x Going (Stopped c) p q = absurd (no_part_wrong R fs x c p.1 q.1)
one_end R fs x Going Over p q = absurd (not_both (R.over fs) p.0 q)
one_end R fs x (Stopped c) Going p q = absurd (no_part_wrong R fs x c q.1 p.1)
one_end R fs x (Stopped c) (Stopped d) p q = ap Stopped (one_wrong R fs x c d p.1 q.1)
one_end R fs x (Stopped c) Over p q = absurd (not_both (R.over fs) p.0 q)
one_end R fs x Over Going p q = absurd (not_both (R.over fs) q.0 p)
one_end R fs x Over (Stopped d) p q = absurd (not_both (R.over fs) q.0 p)
one_end R fs x Over Over p q = refl

-- ---- frame by frame

frames_octets-cons : (f : Frame) (fs : List Frame) → frames_octets (f ∷ fs) ≡ frame_octets f ++ frames_octets fs
unfolding frames_octets
frames_octets-cons f fs = refl

pub front_frame : (f : Frame) (fs : List Frame) (x : List ℕ) → frames_octets (f ∷ fs) ++ x ≡ frame_octets f ++ (frames_octets fs ++ x)
front_frame f fs x = ap (λ (t : List ℕ). t ++ x) (frames_octets-cons f fs) ∙ append_assoc (frame_octets f) (frames_octets fs) x

pub front_none : (x : List ℕ) → frames_octets [] ++ x ≡ x
unfolding frames_octets
front_none x = refl

same_more : {X : Type 0} (f g : Frame) (fs gs : List Frame) (x y : List ℕ) (e d : End X) → f ≡ g → IsSame fs gs x y e d → IsSame (f ∷ fs) (g ∷ gs) x y e d
same_more f g fs gs x y e d p s = let frames = s.frames in record { frames = cc; rests = s.rests; ends = s.ends }

unique_from : {E X : Type 0} (R : Rules E X) (start fs gs : List Frame) (x y : List ℕ) (e d : End X) → frames_octets fs ++ x ≡ frames_octets gs ++ y
    → AllFrom (Fits R) start fs → AllFrom (Fits R) start gs → EndsIn R (start ++ fs) x e → EndsIn R (start ++ gs) y d → IsSame fs gs x y e d
unique_from R start [] [] x y e d o p q r s =
    let same : x ≡ y = sym (front_none x) ∙ (o ∙ front_none y) in
    record { frames = refl; rests = same; ends = one_end R (start ++ []) y e d (subst (λ (t : List ℕ). EndsIn R (start ++ []) t e) same r) s }
unique_from R start [] (g ∷ gs) x y e d o p q r s =
    absurd (no_end R start x e g (frames_octets gs ++ y) q.0 (sym (front_none x) ∙ (o ∙ front_frame g gs y)) (rw append-nil at r))
unique_from R start (f ∷ fs) [] x y e d o p q r s =
    absurd (no_end R start y d f (frames_octets fs ++ x) p.0 (sym (front_none y) ∙ (sym o ∙ front_frame f fs x)) (rw append-nil at s))
unique_from R start (f ∷ fs) (g ∷ gs) x y e d o p q r s =
    let one = one_frame f g (frames_octets fs ++ x) (frames_octets gs ++ y) p.0.sized q.0.sized (sym (front_frame f fs x) ∙ (o ∙ front_frame g gs y)) in
    let q' : AllFrom (Fits R) (start ++ f ∷ []) gs = subst (λ (h : Frame). AllFrom (Fits R) (start ++ h ∷ []) gs) (sym one.0) q.1 in
    let s' : EndsIn R ((start ++ f ∷ []) ++ gs) y d = subst (λ (t : List Frame). EndsIn R t y d) (ap (λ (h : Frame). start ++ h ∷ gs) (sym one.0)
    ∙ sym (append_assoc start (f ∷ []) gs)) s in
    let r' : EndsIn R ((start ++ f ∷ []) ++ fs) x e = subst (λ (t : List Frame). EndsIn R t x e) (sym (append_assoc start (f ∷ []) fs)) r in
    same_more f g fs gs x y e d one.0 (unique_from R (start ++ f ∷ []) fs gs x y e d one.1 p.1 q' r' s')

-- a stream has one reading
pub unique : {E X : Type 0} (R : Rules E X) (o : List ℕ) (fs gs : List Frame) (x y : List ℕ) (e d : End X) → Run R o fs x e → Run R o gs y d
    → IsSame fs gs x y e d
unfolding AllAfter
unique R o fs gs x y e d r s = unique_from R [] fs gs x y e d (sym r.whole ∙ s.whole) r.good s.good r.ends s.ends

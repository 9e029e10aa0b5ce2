-- A frame that lies whole in one fragment.
use Rattle.std.proofs.Common.{◌≡◌, ℕ, ◌+◌, ◌≤◌, inr, List, [], ◌++◌, IsSome, Option, Some, None, false, length, take, drop, refl, sym, ◌∙◌, ap, subst, arith}
use Rattle.std.proofs.Common.{take-append-drop}
use Rattle.std.specs.Option.{is_some}
use Rattle.std.proofs.lemmas.List.{length-take-le}
use Rattle.ua_frame.specs.declared.fault.FrameFault.{FrameFault}
use Rattle.ua_frame.specs.declared.fault.FrameFault.TheVariants.{OutOfMemory}
use Rattle.ua_frame.specs.declared.frame.Frame.{Frame}
use Rattle.ua_frame.specs.declared.gate.Gate.{Gate}
use Rattle.ua_frame.specs.declared.kind.Kind.{Kind}
use Rattle.ua_frame.specs.declared.unfinished.Unfinished.{Unfinished}
use Rattle.ua_frame.specs.Frames.{frame_octets, IsSized, kind_of, size_of, header_fault, IsRawFrame}
use Rattle.ua_frame.specs.Unfinished.{octets_of, IsIncompleteFrame, BeginsWhole, Completes, Fails}
use Rattle.ua_frame.proofs.Fronts.{kind_front, size_front, fault_front, let_in-from_fault}
use Rattle.ua_frame.proofs.Parts.{good_header}

-- ---- what the first n octets say is what all say

size_take : (o : List ℕ) (n : ℕ) → 8 ≤ length (take n o) → size_of (take n o) ≡ size_of o
size_take o n l = sym (size_front (take n o) (drop n o) l) ∙ ap size_of (take-append-drop n o)

kind_take : (o : List ℕ) (n : ℕ) → 8 ≤ length (take n o) → kind_of (take n o) ≡ kind_of o
kind_take o n l = sym (kind_front (take n o) (drop n o) l) ∙ ap kind_of (take-append-drop n o)

fault_take : (gate : Gate) (o : List ℕ) (n : ℕ) → 8 ≤ length (take n o) → header_fault gate (take n o) ≡ header_fault gate o
fault_take gate o n l = sym (fault_front gate (take n o) (drop n o) l) ∙ ap (header_fault gate) (take-append-drop n o)

eight_taken : (o : List ℕ) → 8 ≤ length o → 8 ≤ length (take 8 o)
eight_taken o l = omega (arith, length-take-le 8 o l)

-- ---- a fragment begins with a frame

pub no_fault : (found : Option FrameFault) → is_some found ≡ false → found ≡ None
no_fault None e = refl
no_fault (Some fault) e = absurd cc

pub begins_whole : (gate : Gate) (piece : List ℕ) (n : ℕ) → 8 ≤ length piece → n ≤ length piece → header_fault gate (take 8 piece) ≡ None
    → n ≡ size_of (take 8 piece) → BeginsWhole gate piece n
begins_whole gate piece n eight within good size =
    let len : length (take n piece) ≡ n = length-take-le n piece within in
    let least : 8 ≤ length (take n piece) = omega (arith, len, size, (good_header gate (take 8 piece) good).1) in
    let head = eight_taken piece eight in
    record {
      within = within;
      raw = record { header = least; size = size_take piece n least ∙ (sym (size_take piece 8 head) ∙ (sym size ∙ sym len)) };
      good = fault_take gate piece n least ∙ (sym (fault_take gate piece 8 head) ∙ good);
    }

-- its header
pub header_size : (o h body : List ℕ) → IsRawFrame o → h ≡ take 8 o → length body + 8 ≡ length o → size_of h ≡ 8 + length body
header_size o h body raw front len = ap size_of front ∙ (size_take o 8 (eight_taken o raw.header) ∙ (raw.size ∙ omega (arith, len)))

pub header_kind : (o h : List ℕ) → IsRawFrame o → h ≡ take 8 o → IsSome (kind_of o) → IsSome (kind_of h)
header_kind o h raw front known = subst (λ (k : Option Kind). IsSome k) (sym (ap kind_of front ∙ kind_take o 8 (eight_taken o raw.header))) known

-- ---- with nothing held

pub nothing_held : (u : Unfinished) → IsIncompleteFrame u → u.have ≡ 0 → octets_of u ≡ []
nothing_held u kept zero = ap (λ (k : ℕ). take k u.header ++ u.body.items) zero ∙ kept.short (omega (arith, zero))

pub whole_completes : (u : Unfinished) → IsIncompleteFrame u → u.have ≡ 0 → (piece : List ℕ) (n : ℕ) → BeginsWhole u.gate piece n
    → (f : Frame) → take n piece ≡ frame_octets f → IsSized f → Completes u.gate (octets_of u) piece n f
whole_completes u kept zero piece n begins f octets sized = record {
  some = omega (arith, begins.raw.header, length-take-le n piece begins.within);
  within = begins.within;
  octets = ap (λ (t : List ℕ). t ++ take n piece) (nothing_held u kept zero) ∙ octets;
  sized = sized;
  let_in = let_in-from_fault u.gate f sized (ap (header_fault u.gate) (sym octets) ∙ begins.good);
}

pub whole_starves : (u : Unfinished) → IsIncompleteFrame u → u.have ≡ 0 → (piece : List ℕ) (n : ℕ) → BeginsWhole u.gate piece n
    → Fails u.gate (octets_of u ++ piece) OutOfMemory
whole_starves u kept zero piece n begins =
    let all : octets_of u ++ piece ≡ piece = ap (λ (t : List ℕ). t ++ piece) (nothing_held u kept zero) in
    record {
      header = omega (arith, ap length all, begins.raw.header, length-take-le n piece begins.within, begins.within);
      why = inr (refl, ap (header_fault u.gate) all ∙ (sym (fault_take u.gate piece n begins.raw.header) ∙ begins.good));
    }

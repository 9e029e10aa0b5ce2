-- What a piece makes of the octets of a frame that isn't whole yet.
use Rattle.std.proofs.Common.{◌≡◌, ℕ, ◌+◌, ◌-◌, ◌<◌, ◌≤◌, ◌⊎◌, inl, inr, max, min, List, [], ◌++◌, nat_lt, IsSome, Option, Some, None, Ok}
use Rattle.std.proofs.Common.{length, take, drop, refl, sym, ◌∙◌, ap, subst, arith, append_assoc, append-nil, length-append, take-append-drop}
use Rattle.std.proofs.Math.Seq.{take-add}
use Rattle.std.proofs.lemmas.Bool.{ltb-false, cases_lt}
use Rattle.std.proofs.lemmas.List.{take_all, length-take-le, length-take, length-drop, take_rest}
use Rattle.ua_frame.specs.declared.fault.FrameFault.{FrameFault}
use Rattle.ua_frame.specs.declared.fault.FrameFault.TheVariants.{OutOfMemory}
use Rattle.ua_frame.specs.declared.frame.Frame.{Frame}
use Rattle.ua_frame.specs.declared.gate.Gate.{Gate}
use Rattle.ua_frame.specs.declared.kind.Kind.{Kind}
use Rattle.ua_frame.specs.declared.kind.Kind.TheVariants.{Hel, Ack, Msg, Opn, Clo}
use Rattle.ua_frame.specs.declared.kind.Kind.TheVariants as kind
use Rattle.ua_frame.specs.Kinds.{least_size, has_flag, lets_in}
use Rattle.ua_frame.specs.Frames.{frame_octets, IsSized, kind_of, flag_of, size_of, header_fault, IsPartial}
use Rattle.ua_frame.specs.declared.unfinished.Unfinished.{Unfinished}
use Rattle.ua_frame.specs.Unfinished.{octets_of, IsIncompleteFrame, Completes, Fails, Makes}
use Rattle.ua_frame.proofs.Fronts.{fault_by, fault_front, size_front, by_tests, let_in-from_fault}

-- ---- a good header names a kind, and a size above a header's

least_above : (k : Kind) → 8 < least_size k
least_above Hel = omega arith
least_above Ack = omega arith
least_above kind.Err = omega arith
least_above Msg = omega arith
least_above Opn = omega arith
least_above Clo = omega arith

good_words : (gate : Gate) (k : Option Kind) (flag size : ℕ) → fault_by gate k flag size ≡ None → IsSome k × (8 < size)
good_words gate None flag size e = absurd cc
good_words gate (Some k) flag size e =
    let t = by_tests (has_flag k flag) (lets_in gate k) (nat_lt gate.largest size) (nat_lt size (least_size k)) e in
    (refl, omega (arith, ltb-false size (least_size k) t.3, least_above k))

pub good_header : (gate : Gate) (h : List ℕ) → header_fault gate h ≡ None → IsSome (kind_of h) × (8 < size_of h)
unfolding header_fault
good_header gate h e = good_words gate (kind_of h) (flag_of h) (size_of h) e

-- ---- behind a whole header

module _ (gate : Gate) (h body piece : List ℕ) (have : ℕ) (eight : length h ≡ 8) (whole : have ≡ 8) (good : header_fault gate h ≡ None) where
  all_of : take have h ≡ h
  all_of = take_all have h (omega arith)

  pub fault_behind : header_fault gate ((take have h ++ body) ++ piece) ≡ None
  fault_behind =
      ap (λ (t : List ℕ). header_fault gate ((t ++ body) ++ piece)) all_of
      ∙ (ap (header_fault gate) (append_assoc h body piece) ∙ (fault_front gate h (body ++ piece) (omega arith) ∙ good))

  pub size_behind : size_of ((take have h ++ body) ++ piece) ≡ size_of h
  size_behind =
      ap (λ (t : List ℕ). size_of ((t ++ body) ++ piece)) all_of ∙ (ap size_of (append_assoc h body piece) ∙ size_front h (body ++ piece) (omega arith))

  pub length_behind : length ((take have h ++ body) ++ piece) ≡ 8 + length body + length piece
  length_behind = omega (arith, length-append (take have h ++ body) piece, length-append (take have h) body, ap length all_of)

  pub starved : Fails gate ((take have h ++ body) ++ piece) OutOfMemory
  starved = record { header = omega (arith, length_behind); why = inr (refl, fault_behind) }

  module _ (n : ℕ) (count : n ≡ min (size_of h - 8 - length body) (length piece)) (part : 8 + length body < size_of h) (new : List ℕ)
      (added : new ≡ body ++ take n piece) where
    length_new : length new ≡ length body + n
    length_new = ap length added ∙ omega (arith, length-append body (take n piece), length-take-le n piece (omega arith))

    pub goes_on : length new < size_of h - 8 → (n ≡ length piece) × (take have h ++ new ≡ (take have h ++ body) ++ piece)
        × IsPartial gate ((take have h ++ body) ++ piece)
    goes_on short =
        let n_is : n ≡ length piece = omega (arith, length_new) in
        let all : take n piece ≡ piece = take_all n piece (omega arith) in (
          n_is,
          ap (λ (t : List ℕ). take have h ++ t) (added ∙ ap (λ (t : List ℕ). body ++ t) all) ∙ sym (append_assoc (take have h) body piece),
          inr (fault_behind, omega (arith, length_behind, size_behind, length_new)),
        )

    pub completes : (f : Frame) → size_of h - 8 ≤ length new → h ++ new ≡ frame_octets f → IsSized f → Completes gate (take have h ++ body) piece n f
    completes f enough octets sized =
        let joined : (take have h ++ body) ++ take n piece ≡ frame_octets f = ap (λ (t : List ℕ). (t ++ body) ++ take n piece) all_of
        ∙ (append_assoc h body (take n piece) ∙ (ap (λ (t : List ℕ). h ++ t) (sym added) ∙ octets)) in
        record {
          some = omega (arith, length_new);
          within = omega arith;
          octets = joined;
          sized = sized;
          let_in = let_in-from_fault gate f sized (ap (header_fault gate) (sym octets) ∙ (fault_front gate h new (omega arith) ∙ good));
        }

-- ---- at a header

module _ (h h' body piece : List ℕ) (have n : ℕ) (eight : length h ≡ 8) (eight' : length h' ≡ 8) (none : body ≡ []) (below : have < 8)
    (count : n ≡ min (length h - have) (length piece)) (filled : take (have + n) h' ≡ take have h ++ take n piece) (reached : 8 ≤ have + n) where
  reaches : have + n ≡ 8
  reaches = omega arith

  header_is : h' ≡ take have h ++ take n piece
  header_is = sym (take_all (have + n) h' (omega (arith, reaches))) ∙ filled

  pub behind_header : (take have h ++ body) ++ piece ≡ h' ++ drop n piece
  behind_header =
      ap (λ (t : List ℕ). (take have h ++ t) ++ piece) none
      ∙ (ap (λ (t : List ℕ). t ++ piece) (append-nil (take have h))
      ∙ (ap (λ (t : List ℕ). take have h ++ t) (sym (take-append-drop n piece))
      ∙ (sym (append_assoc (take have h) (take n piece) (drop n piece)) ∙ ap (λ (t : List ℕ). t ++ drop n piece) (sym header_is))))

  pub refused : (gate : Gate) (fault : FrameFault) → header_fault gate h' ≡ Some fault → Fails gate ((take have h ++ body) ++ piece) fault
  refused gate fault e = record {
    header = omega (arith, ap length behind_header, length-append h' (drop n piece));
    why = inl (ap (header_fault gate) behind_header ∙ (fault_front gate h' (drop n piece) (omega arith) ∙ e));
  }

-- ---- what is made of the rest of a piece is what is made of the piece

module _ (gate : Gate) (old mid piece : List ℕ) (n : ℕ) (within : n ≤ length piece) (mid_is : mid ≡ old ++ take n piece) where
  pub whole_behind : mid ++ take (length piece - n) (drop n piece) ≡ old ++ piece
  whole_behind =
      ap (λ (t : List ℕ). mid ++ t) (take_rest piece n)
      ∙ (ap (λ (t : List ℕ). t ++ drop n piece) mid_is
      ∙ (append_assoc old (take n piece) (drop n piece) ∙ ap (λ (t : List ℕ). old ++ t) (take-append-drop n piece)))

  length_rest : length (take (length piece - n) (drop n piece)) ≡ length piece - n
  length_rest = ap length (take_rest piece n) ∙ length-drop n piece

  makes_more : (m : ℕ) (frame : Option Frame) (new : List ℕ) → Makes gate mid (take (length piece - n) (drop n piece)) (Ok (m, frame)) new
      → Makes gate old piece (Ok (n + m, frame)) new
  makes_more m None new h = (omega (arith, h.0, length_rest), h.1 ∙ whole_behind, subst (λ (t : List ℕ). IsPartial gate t) whole_behind h.2)
  makes_more m (Some f) new h = (
    record {
      some = omega (arith, h.0.some);
      within = omega (arith, h.0.within, length_rest);
      octets =
          ap (λ (t : List ℕ). old ++ t) (take-add n m piece)
          ∙ (sym (append_assoc old (take n piece) (take m (drop n piece)))
          ∙ (ap (λ (t : List ℕ). t ++ take m (drop n piece)) (sym mid_is) ∙ (ap (λ (t : List ℕ). mid ++ take m t) (sym (take_rest piece n)) ∙ h.0.octets)));
      sized = h.0.sized;
      let_in = h.0.let_in;
    },
    h.1,
  )

  pub makes_behind : (gate' : Gate) → gate' ≡ gate → (m : ℕ) (frame : Option Frame) (new : List ℕ)
      → Makes gate' mid (take (length piece - n) (drop n piece)) (Ok (m, frame)) new → Makes gate old piece (Ok (n + m, frame)) new
  makes_behind gate' same m frame new h =
      makes_more m frame new (subst (λ (g : Gate). Makes g mid (take (length piece - n) (drop n piece)) (Ok (m, frame)) new) same h)

-- ---- what is held is bounded

size_within : (gate : Gate) (k : Option Kind) (flag size : ℕ) → fault_by gate k flag size ≡ None → size ≤ gate.largest
size_within gate None flag size e = absurd cc
size_within gate (Some k) flag size e =
    let t = by_tests (has_flag k flag) (lets_in gate k) (nat_lt gate.largest size) (nat_lt size (least_size k)) e in
    ltb-false gate.largest size t.2

good_size : (gate : Gate) (h : List ℕ) → header_fault gate h ≡ None → size_of h ≤ gate.largest
unfolding header_fault
good_size gate h e = size_within gate (kind_of h) (flag_of h) (size_of h) e

kept_by : (u : Unfinished) → IsIncompleteFrame u → ((u.have < 8) ⊎ (8 ≤ u.have)) → length (octets_of u) < max 8 u.gate.largest
kept_by u k (inl less) = omega (arith, length-append (take u.have u.header) u.body.items, ap length (k.short less), length-take u.have u.header, k.eight)
kept_by u k (inr whole) =
    let is : u.have ≡ 8 = omega (arith, k.fits, whole) in
    omega (arith, length-append (take u.have u.header) u.body.items, length-take u.have u.header, k.eight, k.part is, good_size u.gate u.header (k.good is))

pub kept_below : (u : Unfinished) → IsIncompleteFrame u → length (octets_of u) < max 8 u.gate.largest
kept_below u k = kept_by u k (cases_lt u.have 8)

pub held_below : (u : Unfinished) (gate : Gate) (n : ℕ) → IsIncompleteFrame u → u.gate ≡ gate → n ≡ length (octets_of u) → n < max 8 gate.largest
held_below u gate n k same count = omega (arith, kept_below u k, ap (λ (g : Gate). g.largest) same, count)

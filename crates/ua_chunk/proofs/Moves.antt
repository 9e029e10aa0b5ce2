-- Splitting a body into chunks within its own bytes.
use Rattle.std.proofs.Common.{◌≡◌, ℕ, zero, suc, ◌+◌, ◌-◌, ◌*◌, ◌/◌, ◌%◌, ◌<◌, ◌≤◌, Bool, true, false, cond, eqb, List, [], ◌++◌, refl}
use Rattle.std.proofs.Common.{sym, ◌∙◌, ap, subst, arith, length, take, drop, length-append, length-drop, append_assoc}
use Rattle.std.proofs.lemmas.Bool.{eqb-true, eqb-false}
use Rattle.std.proofs.lemmas.List.{append-nil, length-take-le, drop-take, drop_all}
use Rattle.std.proofs.lemmas.List.Edits.{paste_all}
use Rattle.std.proofs.lemmas.Nat.{div-add-mod', mod_below}
use Rattle.std.proofs.lemmas.Slice.{put_mid-paste}
use borrow.Rule.Slice.PartMut.{put_mid}
use lib.Seq.{take-take, drop-drop, take-add, take-append-le, drop-append_seam}
use Rattle.ua_frame.specs.Frames.{frame_octets}
use Rattle.ua_chunk.specs.declared.flag.Flag.{Flag}
use Rattle.ua_chunk.specs.declared.flag.Flag.TheVariants.{F, C}
use Rattle.ua_chunk.specs.declared.lane.Lane.{Lane}
use Rattle.ua_chunk.specs.Cutting.{pieces, chunk_of, chunks_of, chunks_octets, front_octets, number_after}
use Rattle.ua_chunk.specs.Layout.{frame_of}
use Rattle.ua_chunk.proofs.Pieces.{pieces_more, pieces_last, numbered_more, numbered_last, framed, chunks_octets-cons, chunks_octets-one}
use Rattle.ua_chunk.specs.InPlace.{MovedUp, PlacedBehind, number_behind}
use Rattle.ua_chunk.specs.Sequence.{next_number}

-- ---- parts of bytes

-- a part of bytes within a front that is the same
pub same_part : (at n k : ℕ) (now old : List ℕ) → at + n ≤ k → take k now ≡ take k old → take n (drop at now) ≡ take n (drop at old)
same_part at n k now old le e =
    sym (drop-take at n now)
    ∙ ap (λ (t : List ℕ). drop at t) (sym (take-take (at + n) k now le) ∙ ap (λ (t : List ℕ). take (at + n) t) e ∙ take-take (at + n) k old le)
    ∙ drop-take at n old

same_less : (j k : ℕ) (now old : List ℕ) → j ≤ k → take k now ≡ take k old → take j now ≡ take j old
same_less j k now old le e = sym (take-take j k now le) ∙ ap (λ (t : List ℕ). take j t) e ∙ take-take j k old le

front_of : (k : ℕ) (now rest : List ℕ) → k ≤ length now → take k (take k now ++ rest) ≡ take k now
front_of k now rest le = take-append-le k (take k now) rest (omega (arith, length-take-le k now le)) ∙ take-take k k now (omega arith)

rest_of : (k : ℕ) (now rest : List ℕ) → k ≤ length now → drop k (take k now ++ rest) ≡ rest
rest_of k now rest le = subst (λ (n : ℕ). drop n (take k now ++ rest) ≡ rest) (length-take-le k now le) (drop-append_seam (take k now) rest)

-- bytes in place of as many others
record Pasted (at n : ℕ) (block now new : List ℕ) : Type 0 where
  long : length block ≡ n
  within : at + n ≤ length now
  parts : new ≡ take at now ++ (block ++ drop (at + n) now)

pasted_len : (at n : ℕ) (block now new : List ℕ) → Pasted at n block now new → length new ≡ length now
pasted_len at n block now new p =
    ap length p.parts
    ∙ omega (
      arith,
      p.long,
      p.within,
      length-append (take at now) (block ++ drop (at + n) now),
      length-append block (drop (at + n) now),
      length-take-le at now (omega (arith, p.within)),
      length-drop (at + n) now,
    )

pasted_front : (at n : ℕ) (block now new : List ℕ) → Pasted at n block now new → take at new ≡ take at now
pasted_front at n block now new p = ap (λ (t : List ℕ). take at t) p.parts ∙ front_of at now (block ++ drop (at + n) now) (omega (arith, p.within))

pasted_back : (at n : ℕ) (block now new : List ℕ) → Pasted at n block now new → drop at new ≡ block ++ drop (at + n) now
pasted_back at n block now new p = ap (λ (t : List ℕ). drop at t) p.parts ∙ rest_of at now (block ++ drop (at + n) now) (omega (arith, p.within))

-- a part that is written over, as it stands after a call that has borrowed it
pub put_is : (at n k : ℕ) (now block : List ℕ) → n ≡ k → n ≡ length block → put_mid at k now block ≡ take at now ++ (block ++ drop (at + n) now)
put_is at n k now block e l = put_mid-paste at k now block block n refl e l ∙ paste_all now at block n l

pub part_long : (at n : ℕ) (now : List ℕ) → at + n ≤ length now → length (take n (drop at now)) ≡ n
part_long at n now le = length-take-le n (drop at now) (omega (arith, length-drop at now))

-- ---- pieces that move up

pub moved_more : (old now new block : List ℕ) (end gap before at n : ℕ) → MovedUp old end gap before now → before ≡ at + n → before ≤ end
    → end + gap ≤ length old → block ≡ take n (drop at now)
    → new ≡ take (at + gap) now ++ (block ++ drop ((at + gap) + n) now)
    → MovedUp old end gap at new
moved_more old now new block end gap before at n m is le fits b e =
    let front : take (before + gap) now ≡ take (before + gap) old = m.front in
    let same : block ≡ take n (drop at old) = b ∙ same_part at n (before + gap) now old (omega (arith, is)) front in
    let long : length (take n (drop at now)) ≡ n = part_long at n now (omega (arith, is, fits, le, m.len)) in
    let p : Pasted (at + gap) n block now new = record { long = ap length b ∙ long; within = omega (arith, is, fits, le, m.len); parts = e } in
    let place : at + gap + n ≡ before + gap = omega (arith, is) in
    let all : n + (end - before) ≡ end - at = omega (arith, is, le) in
    record {
      len = pasted_len (at + gap) n block now new p ∙ m.len;
      front = pasted_front (at + gap) n block now new p ∙ same_less (at + gap) (before + gap) now old (omega (arith, is)) front;
      back =
          pasted_back (at + gap) n block now new p
          ∙ ap (λ (k : ℕ). block ++ drop k now) place
          ∙ ap (λ (t : List ℕ). block ++ t) m.back
          ∙ sym (append_assoc block (take (end - before) (drop before old)) (drop (end + gap) old))
          ∙ ap (λ (t : List ℕ). t ++ drop (end + gap) old)
          (ap (λ (t : List ℕ). t ++ take (end - before) (drop before old)) same
          ∙ ap (λ (k : ℕ). take n (drop at old) ++ take (end - before) (drop k old)) is
          ∙ ap (λ (t : List ℕ). take n (drop at old) ++ take (end - before) t) (sym (drop-drop n at old))
          ∙ sym (take-add n (end - before) (drop at old))
          ∙ ap (λ (k : ℕ). take k (drop at old)) all);
    }

pub moved_none : (old : List ℕ) (end gap : ℕ) → MovedUp old end gap end old
moved_none old end gap =
    let none : end - end ≡ 0 = omega arith in
    record { len = refl; front = refl; back = ap (λ (n : ℕ). take n (drop end old) ++ drop (end + gap) old) (sym none) }

pub moved_few : (old new block : List ℕ) (start end gap : ℕ) → start ≤ end → end + gap ≤ length old → block ≡ take (end - start) (drop start old)
    → new ≡ take (start + gap) old ++ (block ++ drop ((start + gap) + (end - start)) old)
    → MovedUp old end gap start new
moved_few old new block start end gap le fits b e =
    moved_more old old new block end gap end start (end - start) (moved_none old end gap) (omega arith) (omega arith) fits b e

-- ---- chunks that are placed

pub last_low : (len room : ℕ) → 0 < len → (len - 1) / room * room < len
last_low len room some = omega (arith, div-add-mod' (len - 1) room)

pub last_high : (len room : ℕ) → 0 < len → 0 < room → len ≤ (len - 1) / room * room + room
last_high len room some pos = omega (arith, div-add-mod' (len - 1) room, mod_below (len - 1) room pos)

one_added : (m room k : ℕ) → k ≡ m → k * room + room ≡ suc m * room
one_added m room k e = ap (λ (j : ℕ). j * room + room) e ∙ omega arith

-- the pieces before one, and that one
pub one_less : (left room : ℕ) → 0 < left → (left - 1) * room + room ≡ left * room
one_less zero room some = absurd (omega arith)
one_less (suc m) room some = one_added m room (suc m - 1) (omega arith)

pub record IsPlaced (head : List ℕ) (start end gap : ℕ) (old new : List ℕ) : Type 0 where
  pub len : length new ≡ length old
  pub front : take start new ≡ take start old
  pub back : drop (start + (gap - 24)) new ≡ head ++ (take (end - start) (drop start old) ++ drop (end + gap) old)

pub placed : (start end gap place : ℕ) (old mid new head : List ℕ) → start ≤ end → 24 ≤ gap → end + gap ≤ length old → place ≡ start + (gap - 24)
    → length mid ≡ length old → take (start + gap) mid ≡ take (start + gap) old
    → drop (start + gap) mid ≡ take (end - start) (drop start old) ++ drop (end + gap) old
    → length head ≡ 24 → new ≡ take place mid ++ (head ++ drop (place + 24) mid)
    → IsPlaced head start end gap old new
placed start end gap place old mid new head order least fits at len front back long e =
    let p : Pasted place 24 head mid new = record { long = long; within = omega arith; parts = e } in
    let seam : place + 24 ≡ start + gap = omega arith in
    record {
      len = pasted_len place 24 head mid new p ∙ len;
      front =
          same_less start place new mid (omega arith) (pasted_front place 24 head mid new p)
          ∙ same_less start (start + gap) mid old (omega arith) front;
      back =
          ap (λ (k : ℕ). drop k new) (sym at)
          ∙ pasted_back place 24 head mid new p
          ∙ ap (λ (k : ℕ). head ++ drop k mid) seam
          ∙ ap (λ (t : List ℕ). head ++ t) back;
    }

-- the headers of a chunk, its body and what follows begin with its frame
placed_frame : (lane : Lane) (flag : Flag) (size s id : ℕ) (head piece rest : List ℕ) → head ≡ front_octets lane flag size s id → size ≡ 24 + length piece
    → head ++ (piece ++ rest) ≡ frame_octets (frame_of (chunk_of lane flag s id piece)) ++ rest
placed_frame lane flag size s id head piece rest h is =
    sym (append_assoc head piece rest)
    ∙ ap (λ (t : List ℕ). t ++ rest) (ap (λ (t : List ℕ). t ++ piece) h ∙ framed lane flag size s id piece is)

pub placed_first : (lane : Lane) (id from len last number size : ℕ) (head old new : List ℕ) → last * lane.room < len → len ≤ last * lane.room + lane.room
    → length old ≡ len + 24 * (last + 1) → number ≡ number_behind from last
    → head ≡ front_octets lane F size number id → size ≡ 24 + (len - last * lane.room)
    → IsPlaced head (last * lane.room) len (24 * (last + 1)) old new
    → PlacedBehind lane id from (number_behind from (last + 1)) (take len old) (length old) last new
placed_first lane id from len last number size head old new low high count n h is p =
    let k = last * lane.room in
    let body = take len old in
    let long : length body ≡ len = length-take-le len old (omega arith) in
    let rest = drop k body in
    let rest_long : length rest ≡ len - k = omega (arith, long, length-drop k body) in
    let whole : k + (len - k) ≡ len = omega arith in
    let piece : take (len - k) (drop k old) ≡ rest = sym (drop-take k (len - k) old) ∙ ap (λ (j : ℕ). drop k (take j old)) whole in
    let gap : k + (24 * (last + 1) - 24) ≡ k + 24 * last = omega arith in
    let on : last + 1 ≡ suc last = omega arith in
    let nothing : drop (len + 24 * (last + 1)) old ≡ [] = drop_all (len + 24 * (last + 1)) old (omega arith) in
    record {
      len = p.len;
      inside = omega arith;
      front = p.front ∙ sym (take-take k len old (omega arith));
      back =
          ap (λ (j : ℕ). drop j new) (sym gap)
          ∙ p.back
          ∙ placed_frame lane F size number id head (take (len - k) (drop k old)) (drop (len + 24 * (last + 1)) old) h
          (is ∙ sym (ap (λ (j : ℕ). 24 + j) (part_long k (len - k) old (omega arith))))
          ∙ ap (λ (t : List ℕ). frame_octets (frame_of (chunk_of lane F number id (take (len - k) (drop k old)))) ++ t) nothing
          ∙ append-nil (frame_octets (frame_of (chunk_of lane F number id (take (len - k) (drop k old)))))
          ∙ ap (λ (t : List ℕ). frame_octets (frame_of (chunk_of lane F number id t))) piece
          ∙ ap (λ (m : ℕ). frame_octets (frame_of (chunk_of lane F m id rest))) n
          ∙ sym (chunks_octets-one (chunk_of lane F (number_behind from last) id rest))
          ∙ sym (ap chunks_octets (numbered_last lane (number_behind from last) id rest (omega arith) (omega arith)));
      after = ap (number_after (number_behind from last)) (pieces_last lane.room rest (omega arith) (omega arith)) ∙ sym (ap (number_behind from) on);
    }

placed_next : (lane : Lane) (id from next size left : ℕ) (body old new : List ℕ) → 0 < lane.room
    → PlacedBehind lane id from next body size (suc left) old → suc left * lane.room ≡ left * lane.room + lane.room
    → length new ≡ length old → take (left * lane.room) new ≡ take (left * lane.room) old
    → drop (left * lane.room + 24 * left) new
    ≡ frame_octets (frame_of (chunk_of lane C (number_behind from left) id (take lane.room (drop (left * lane.room) old))))
    ++ drop (suc left * lane.room + 24 * suc left) old
    → PlacedBehind lane id from next body size left new
placed_next lane id from next size left body old new pos p step len front back =
    let room = lane.room in
    let k = left * room in
    let s = number_behind from left in
    let rest = drop k body in
    let inside : suc left * room < length body = p.inside in
    let more : room < length rest = omega (arith, length-drop k body) in
    let piece : take room (drop k old) ≡ take room rest = same_part k room (suc left * room) old body (omega arith) p.front in
    let behind : drop (suc left * room) body ≡ drop room rest = ap (λ (j : ℕ). drop j body) step ∙ sym (drop-drop room k body) in
    let frame = frame_octets (frame_of (chunk_of lane C s id (take room rest))) in
    record {
      len = len ∙ p.len;
      inside = omega arith;
      front = front ∙ same_less k (suc left * room) old body (omega arith) p.front;
      back =
          back
          ∙ ap (λ (t : List ℕ). frame_octets (frame_of (chunk_of lane C s id t)) ++ drop (suc left * room + 24 * suc left) old) piece
          ∙ ap (λ (t : List ℕ). frame ++ t) p.back
          ∙ ap (λ (t : List ℕ). frame ++ chunks_octets (chunks_of lane t (next_number s) id)) behind
          ∙ sym (chunks_octets-cons (chunk_of lane C s id (take room rest)) (chunks_of lane (drop room rest) (next_number s) id))
          ∙ sym (ap chunks_octets (numbered_more lane s id rest pos more));
      after =
          ap (number_after s) (pieces_more room rest pos more)
          ∙ ap (λ (t : List ℕ). number_after (next_number s) (pieces room t)) (sym behind)
          ∙ p.after;
    }

pub placed_more : (lane : Lane) (id from next size n left number long : ℕ) (body head old new : List ℕ) → 0 < lane.room → n ≡ suc left
    → PlacedBehind lane id from next body size n old → number ≡ number_behind from left
    → head ≡ front_octets lane C long number id → long ≡ 24 + lane.room → length body ≤ size
    → IsPlaced head (left * lane.room) (left * lane.room + lane.room) (24 * (left + 1)) old new
    → PlacedBehind lane id from next body size left new
placed_more lane id from next size n left number long body head old new pos is p m h sized short q =
    let room = lane.room in
    let k = left * room in
    let step : suc left * room ≡ k + room = omega arith in
    let p2 : PlacedBehind lane id from next body size (suc left) old = subst (λ (j : ℕ). PlacedBehind lane id from next body size j old) is p in
    let fits : k + (k + room - k) ≤ length old = omega (arith, step, p2.inside, p2.len, short) in
    let gap : k + (24 * (left + 1) - 24) ≡ k + 24 * left = omega arith in
    let one : k + room - k ≡ room = omega arith in
    let end : k + room + 24 * (left + 1) ≡ suc left * room + 24 * suc left = omega arith in
    placed_next lane id from next size left body old new pos p2 step q.len q.front
    (ap (λ (j : ℕ). drop j new) (sym gap)
    ∙ q.back
    ∙ placed_frame lane C long number id head (take (k + room - k) (drop k old)) (drop (k + room + 24 * (left + 1)) old) h
    (sized ∙ sym (ap (λ (j : ℕ). 24 + j) (part_long k (k + room - k) old fits ∙ one)))
    ∙ ap (λ (j : ℕ). frame_octets (frame_of (chunk_of lane C number id (take j (drop k old)))) ++ drop (k + room + 24 * (left + 1)) old) one
    ∙ ap (λ (j : ℕ). frame_octets (frame_of (chunk_of lane C j id (take room (drop k old)))) ++ drop (k + room + 24 * (left + 1)) old) m
    ∙ ap (λ (j : ℕ). frame_octets (frame_of (chunk_of lane C (number_behind from left) id (take room (drop k old)))) ++ drop j old) end)

pub record AllPlaced (lane : Lane) (id from next : ℕ) (body octets : List ℕ) : Type 0 where
  pub chunks : octets ≡ chunks_octets (chunks_of lane body from id)
  pub after : number_after from (pieces lane.room body) ≡ next

placed_none : (lane : Lane) (id from next size start place : ℕ) (body octets : List ℕ) → start ≡ 0 → place ≡ 0
    → drop place octets ≡ chunks_octets (chunks_of lane (drop start body) from id)
    → number_after from (pieces lane.room (drop start body)) ≡ next → AllPlaced lane id from next body octets
placed_none lane id from next size start place body octets s p b a = record {
  chunks =
      ap (λ (j : ℕ). drop j octets) (sym p) ∙ b
      ∙ ap (λ (j : ℕ). chunks_octets (chunks_of lane (drop j body) from id)) s;
  after = ap (λ (j : ℕ). number_after from (pieces lane.room (drop j body))) (sym s) ∙ a;
}

pub placed_all : (lane : Lane) (id from next size left : ℕ) (body octets : List ℕ) → PlacedBehind lane id from next body size left octets → left ≡ 0
    → AllPlaced lane id from next body octets
placed_all lane id from next size left body octets p is =
    let q : PlacedBehind lane id from next body size 0 octets = subst (λ (j : ℕ). PlacedBehind lane id from next body size j octets) is p in
    placed_none lane id from next size (0 * lane.room) (0 * lane.room + 24 * 0) body octets (omega arith) (omega arith) q.back q.after

-- ---- numbers

next_by : (t : Bool) (x q r q2 r2 : ℕ) → eqb (r + 1) 4294966272 ≡ t → 4294966272 * q + r ≡ x → r < 4294966272 → 4294966272 * q2 + r2 ≡ x + 1
    → r2 < 4294966272 → cond t 1 (r + 1 + 1) ≡ r2 + 1
next_by true x q r q2 r2 e d l d2 l2 = let same : r + 1 ≡ 4294966272 = eqb-true (r + 1) 4294966272 e in omega arith
next_by false x q r q2 r2 e d l d2 l2 = let other : r + 1 ≡ 4294966272 → ⊥ = eqb-false (r + 1) 4294966272 e in omega arith

first_by : (t : Bool) (s q r : ℕ) → eqb s 4294966272 ≡ t → s ≤ 4294966272 → 4294966272 * q + r ≡ s → r < 4294966272 → cond t 1 (s + 1) ≡ r + 1
first_by true s q r e h d l = let same : s ≡ 4294966272 = eqb-true s 4294966272 e in omega arith
first_by false s q r e h d l = let other : s ≡ 4294966272 → ⊥ = eqb-false s 4294966272 e in omega arith

-- the number behind so many others, counted at once
pub number_behind-is : (s k : ℕ) → s ≤ 4294966272 → number_behind s (suc k) ≡ (s + k) % 4294966272 + 1
number_behind-is s zero h =
    first_by (eqb s 4294966272) s ((s + 0) / 4294966272) ((s + 0) % 4294966272) refl h (omega arith) (omega arith)
number_behind-is s (suc k) h =
    ap next_number (number_behind-is s k h)
    ∙ next_by (eqb ((s + k) % 4294966272 + 1) 4294966272) (s + k) ((s + k) / 4294966272) ((s + k) % 4294966272)
    ((s + suc k) / 4294966272) ((s + suc k) % 4294966272) refl (omega arith) (omega arith) (omega arith) (omega arith)

pub number_behind-of : (s k : ℕ) → s ≤ 4294966272 → 0 < k → (s + (k - 1)) % 4294966272 + 1 ≡ number_behind s k
number_behind-of s zero h pos = absurd (omega arith)
number_behind-of s (suc k) h pos = let e : suc k - 1 ≡ k = omega arith in ap (λ (m : ℕ). (s + m) % 4294966272 + 1) e ∙ sym (number_behind-is s k h)

pub behind_some : (s k : ℕ) → s ≤ 4294966272 → 0 < k → (0 < number_behind s k) × (number_behind s k ≤ 4294966272)
behind_some s k h pos =
    subst (λ (m : ℕ). (0 < m) × (m ≤ 4294966272)) (number_behind-of s k h pos) (omega arith, omega arith)

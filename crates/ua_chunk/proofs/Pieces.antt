-- Cutting a body into pieces.
use Rattle.std.proofs.Common.{◌≡◌, ℕ, zero, suc, ◌+◌, ◌-◌, ◌*◌, ◌<◌, ◌≤◌, Bool, true, false, cond, not, ◌&&◌, eqb, ltb, List, [], ◌∷◌, ◌++◌, refl}
use Rattle.std.proofs.Common.{sym, ◌∙◌, ap, subst, arith, length, take, drop, length-append, length-drop, append_assoc, append-nil, take-append-drop}
use Rattle.std.proofs.lemmas.Bool.{ltb-true, ltb-false, lt-ltb, le-ltb, eqb-false, cond-true, cond-false}
use Rattle.std.proofs.lemmas.List.{length-take-le}
use Rattle.std.specs.List.{flat_map}
use Rattle.ua_wire.specs.Format.{Extends}
use Rattle.ua_wire.specs.Number.{number_octets}
use Rattle.ua_wire.proofs.NumbersRead.{length-number_octets}
use Rattle.ua_frame.specs.Frames.{frame_octets, frames_octets}
use Rattle.ua_chunk.specs.declared.chunk.Chunk.{Chunk}
use Rattle.ua_chunk.specs.declared.flag.Flag.{Flag}
use Rattle.ua_chunk.specs.declared.flag.Flag.TheVariants.{F, C}
use Rattle.ua_chunk.specs.declared.lane.Lane.{Lane}
use Rattle.ua_chunk.specs.Cutting.{AreFull, pieces, pieces_in, flag_before, chunk_of, numbered, chunks_of, chunks_octets, front_octets, number_after, CutSoFar}
use Rattle.ua_chunk.specs.Flag.{flag_octet}
use Rattle.ua_chunk.specs.Layout.{frame_of, token_header, sequence_header}
use Rattle.ua_chunk.specs.Refusal.{passes}
use Rattle.ua_chunk.specs.Sequence.{next_number}

-- ---- pieces

same_step : (t : Bool) (x b : List ℕ) (ps qs : List (List ℕ)) → (t ≡ true → ps ≡ qs) → cond t (x ∷ ps) (b ∷ []) ≡ cond t (x ∷ qs) (b ∷ [])
same_step true x b ps qs h = ap (λ t. x ∷ t) (h refl)
same_step false x b ps qs h = refl

same_pieces : (n m k : ℕ) (b : List ℕ) → 0 < k → 0 < length b → length b ≤ n → length b ≤ m → pieces_in n k b ≡ pieces_in m k b
same_pieces zero m k b pos some le le' = absurd (omega arith)
same_pieces (suc n) zero k b pos some le le' = absurd (omega arith)
same_pieces (suc n) (suc m) k b pos some le le' =
    same_step (ltb k (length b)) (take k b) b (pieces_in n k (drop k b)) (pieces_in m k (drop k b))
    (λ t.
    let more : k < length b = ltb-true k (length b) t in
    same_pieces n m k (drop k b) pos (omega (arith, length-drop k b)) (omega (arith, length-drop k b)) (omega (arith, length-drop k b)))

pub pieces_more : (k : ℕ) (b : List ℕ) → 0 < k → k < length b → pieces k b ≡ take k b ∷ pieces k (drop k b)
unfolding pieces
pieces_more k [] pos more = absurd (omega arith)
pieces_more k (x ∷ b) pos more =
    cond-true (ltb k (length (x ∷ b))) (take k (x ∷ b) ∷ pieces_in (length b) k (drop k (x ∷ b))) ((x ∷ b) ∷ []) (lt-ltb k (length (x ∷ b)) more)
    ∙ ap (λ t. take k (x ∷ b) ∷ t) (same_pieces (length b) (length (drop k (x ∷ b))) k (drop k (x ∷ b)) pos (omega (arith, length-drop k (x ∷ b)))
    (omega (arith, length-drop k (x ∷ b))) (omega arith))

pub pieces_last : (k : ℕ) (b : List ℕ) → 0 < length b → length b ≤ k → pieces k b ≡ b ∷ []
unfolding pieces
pieces_last k [] some last = absurd (omega arith)
pieces_last k (x ∷ b) some last =
    cond-false (ltb k (length (x ∷ b))) (take k (x ∷ b) ∷ pieces_in (length b) k (drop k (x ∷ b))) ((x ∷ b) ∷ []) (le-ltb k (length (x ∷ b)) last)

joined_step : (t : Bool) (x b : List ℕ) (ps : List (List ℕ)) → (t ≡ true → x ++ flat_map (λ p. p) ps ≡ b) → flat_map (λ p. p) (cond t (x ∷ ps) (b ∷ [])) ≡ b
joined_step true x b ps h = h refl
joined_step false x b ps h = append-nil b

joined_in : (n k : ℕ) (b : List ℕ) → 0 < k → length b ≤ n → 0 < length b → flat_map (λ p. p) (pieces_in n k b) ≡ b
joined_in zero k b pos le some = absurd (omega arith)
joined_in (suc n) k b pos le some =
    joined_step (ltb k (length b)) (take k b) b (pieces_in n k (drop k b))
    (λ t.
    let more : k < length b = ltb-true k (length b) t in
    ap (λ u. take k b ++ u) (joined_in n k (drop k b) pos (omega (arith, length-drop k b)) (omega (arith, length-drop k b))) ∙ take-append-drop k b)

pub joined_pieces : (k : ℕ) (b : List ℕ) → 0 < k → 0 < length b → flat_map (λ p. p) (pieces k b) ≡ b
unfolding pieces
joined_pieces k b pos some = joined_in (length b) k b pos (omega arith) some

full_more : (k : ℕ) (x : List ℕ) (ps : List (List ℕ)) → length x ≡ k → AreFull k ps → AreFull k (x ∷ ps)
full_more k x [] e h = absurd h
full_more k x (q ∷ ps) e h = (e, h)

full_step : (t : Bool) (k : ℕ) (x b : List ℕ) (ps : List (List ℕ)) → ltb k (length b) ≡ t → 0 < length b → (t ≡ true → (length x ≡ k) × AreFull k ps)
    → AreFull k (cond t (x ∷ ps) (b ∷ []))
full_step true k x b ps e some h = let g = h refl in full_more k x ps g.0 g.1
full_step false k x b ps e some h = (some, ltb-false k (length b) e)

full_in : (n k : ℕ) (b : List ℕ) → 0 < k → length b ≤ n → 0 < length b → AreFull k (pieces_in n k b)
full_in zero k b pos le some = absurd (omega arith)
full_in (suc n) k b pos le some =
    full_step (ltb k (length b)) k (take k b) b (pieces_in n k (drop k b)) refl some
    (λ t.
    let more : k < length b = ltb-true k (length b) t in
    (length-take-le k b (omega arith), full_in n k (drop k b) pos (omega (arith, length-drop k b)) (omega (arith, length-drop k b))))

pub full_pieces : (k : ℕ) (b : List ℕ) → 0 < k → 0 < length b → AreFull k (pieces k b)
unfolding pieces
full_pieces k b pos some = full_in (length b) k b pos (omega arith) some

-- ---- how many

-- so many pieces of k octets pass a limit just where the octets pass as many
record Counted (limit k count len : ℕ) : Type 0 where
  above : limit * k < len → limit < count
  below : len ≤ limit * k → count ≤ limit

counted_more : (l k count len : ℕ) → k < len → Counted l k count (len - k) → Counted (suc l) k (suc count) len
counted_more l k count len more c = record {
  above = λ h. let g : l < count = c.above (omega arith) in omega arith;
  below = λ h. let g : count ≤ l = c.below (omega arith) in omega arith;
}

counted_none : (k count len : ℕ) → 0 < len → 0 < count → Counted 0 k count len
counted_none k count len some one = record { above = λ h. one; below = λ h. absurd (omega arith) }

counted_one : (l k len : ℕ) → 0 < len → len ≤ k → Counted (suc l) k 1 len
counted_one l k len some last = record { above = λ h. absurd (omega arith); below = λ h. omega arith }

counted_step : (t : Bool) (limit k : ℕ) (x b : List ℕ) (ps : List (List ℕ)) → 0 < length b → ltb k (length b) ≡ t
    → ((l : ℕ) → t ≡ true → Counted l k (length ps) (length b - k)) → Counted limit k (length (cond t (x ∷ ps) (b ∷ []))) (length b)
counted_step true zero k x b ps some e h = counted_none k (suc (length ps)) (length b) some (omega arith)
counted_step true (suc l) k x b ps some e h = counted_more l k (length ps) (length b) (ltb-true k (length b) e) (h l refl)
counted_step false zero k x b ps some e h = counted_none k 1 (length b) some (omega arith)
counted_step false (suc l) k x b ps some e h = counted_one l k (length b) some (ltb-false k (length b) e)

counted_in : (n limit k : ℕ) (b : List ℕ) → 0 < k → length b ≤ n → 0 < length b → Counted limit k (length (pieces_in n k b)) (length b)
counted_in zero limit k b pos le some = absurd (omega arith)
counted_in (suc n) limit k b pos le some =
    counted_step (ltb k (length b)) limit k (take k b) b (pieces_in n k (drop k b)) some refl
    (λ l t.
    let more : k < length b = ltb-true k (length b) t in
    subst (λ (m : ℕ). Counted l k (length (pieces_in n k (drop k b))) m) (length-drop k b)
    (counted_in n l k (drop k b) pos (omega (arith, length-drop k b)) (omega (arith, length-drop k b))))

same_test : (t : Bool) (a b c d : ℕ) → ltb c d ≡ t → (c < d → a < b) → (d ≤ c → b ≤ a) → ltb a b ≡ ltb c d
same_test true a b c d e f g = lt-ltb a b (f (ltb-true c d e)) ∙ sym e
same_test false a b c d e f g = le-ltb a b (g (ltb-false c d e)) ∙ sym e

some_more : (limit k : ℕ) (b : List ℕ) → 0 < k → 0 < length b → passes limit (length (pieces k b)) ≡ (not (eqb limit 0) && ltb (limit * k) (length b))
unfolding pieces
some_more limit k b pos some =
    let c = counted_in (length b) limit k b pos (omega arith) some in
    ap (λ t. not (eqb limit 0) && t) (same_test (ltb (limit * k) (length b)) limit (length (pieces_in (length b) k b)) (limit * k)
    (length b) refl c.above c.below)

no_pieces : (k : ℕ) → pieces k [] ≡ []
unfolding pieces
no_pieces k = refl

none_more : (b : Bool) (n : ℕ) → (b && ltb n 0) ≡ false
none_more true n = grind arith
none_more false n = refl

-- whether octets, of which there are so many, have more pieces than a limit
pub more_pieces : (limit k len : ℕ) (b : List ℕ) → 0 < k → length b ≡ len → passes limit (length (pieces k b)) ≡ (not (eqb limit 0) && ltb (limit * k) len)
more_pieces limit k len [] pos is =
    ap (λ (ps : List (List ℕ)). passes limit (length ps)) (no_pieces k)
    ∙ (none_more (not (eqb limit 0)) limit ∙ (sym (none_more (not (eqb limit 0)) (limit * k)) ∙ ap (λ (n : ℕ). not (eqb limit 0) && ltb (limit * k) n) is))
more_pieces limit k len (x ∷ b) pos is = some_more limit k (x ∷ b) pos (omega arith) ∙ ap (λ (n : ℕ). not (eqb limit 0) && ltb (limit * k) n) is

-- ---- chunks

flag_of_some : (t : Bool) (x b : List ℕ) (ps : List (List ℕ)) → flag_before (cond t (x ∷ ps) (b ∷ [])) ≡ C
flag_of_some true x b ps = refl
flag_of_some false x b ps = refl

flag_more : (k : ℕ) (b : List ℕ) → 0 < length b → flag_before (pieces k b) ≡ C
unfolding pieces
flag_more k [] some = absurd (omega arith)
flag_more k (x ∷ b) some = flag_of_some (ltb k (length (x ∷ b))) (take k (x ∷ b)) (x ∷ b) (pieces_in (length b) k (drop k (x ∷ b)))

pub numbered_more : (lane : Lane) (s id : ℕ) (b : List ℕ) → 0 < lane.room → lane.room < length b
    → chunks_of lane b s id ≡ chunk_of lane C s id (take lane.room b) ∷ chunks_of lane (drop lane.room b) (next_number s) id
numbered_more lane s id b pos more =
    ap (numbered lane s id) (pieces_more lane.room b pos more)
    ∙ ap (λ f. chunk_of lane f s id (take lane.room b) ∷ chunks_of lane (drop lane.room b) (next_number s) id)
    (flag_more lane.room (drop lane.room b) (omega (arith, length-drop lane.room b)))

pub numbered_last : (lane : Lane) (s id : ℕ) (b : List ℕ) → 0 < length b → length b ≤ lane.room → chunks_of lane b s id ≡ chunk_of lane F s id b ∷ []
numbered_last lane s id b some last = ap (numbered lane s id) (pieces_last lane.room b some last)

-- ---- octets

numbers_length : (n m : ℕ) → length (number_octets 4 n ++ number_octets 4 m) ≡ 8
numbers_length n m = omega (arith, length-append (number_octets 4 n) (number_octets 4 m), length-number_octets 4 n, length-number_octets 4 m)

-- the headers and the body of a chunk are its frame
pub framed : (lane : Lane) (flag : Flag) (size s id : ℕ) (piece : List ℕ) → size ≡ 24 + length piece
    → front_octets lane flag size s id ++ piece ≡ frame_octets (frame_of (chunk_of lane flag s id piece))
unfolding frame_octets
framed lane flag size s id piece e =
    let token = token_header.canonical (lane.channel, lane.token) in
    let numbers = sequence_header.canonical (s, id) in
    let same : size ≡ 8 + length (token ++ (numbers ++ piece)) =
    omega (arith, e, length-append token (numbers ++ piece), length-append numbers piece, numbers_length lane.channel lane.token, numbers_length s id) in
    ap (λ (t : List ℕ). 77 ∷ 83 ∷ 71 ∷ flag_octet flag ∷ t)
    (append_assoc (number_octets 4 size) (token ++ numbers) piece
    ∙ ap (λ (t : List ℕ). number_octets 4 size ++ t) (append_assoc token numbers piece)
    ∙ ap (λ (m : ℕ). number_octets 4 m ++ (token ++ (numbers ++ piece))) same)

pub chunk_appended : (lane : Lane) (flag : Flag) (size s id : ℕ) (old middle new piece : List ℕ) → size ≡ 24 + length piece
    → middle ≡ old ++ front_octets lane flag size s id → new ≡ middle ++ piece
    → new ≡ old ++ frame_octets (frame_of (chunk_of lane flag s id piece))
chunk_appended lane flag size s id old middle new piece e f g =
    g ∙ ap (λ (t : List ℕ). t ++ piece) f ∙ append_assoc old (front_octets lane flag size s id) piece
    ∙ ap (λ (t : List ℕ). old ++ t) (framed lane flag size s id piece e)

pub chunks_octets-cons : (c : Chunk) (cs : List Chunk) → chunks_octets (c ∷ cs) ≡ frame_octets (frame_of c) ++ chunks_octets cs
unfolding frames_octets
chunks_octets-cons c cs = refl

pub chunks_octets-one : (c : Chunk) → chunks_octets (c ∷ []) ≡ frame_octets (frame_of c)
unfolding frames_octets
chunks_octets-one c = append-nil (frame_octets (frame_of c))

-- ---- the loop

pub extends_then : (a b c : List ℕ) → Extends a b → Extends b c → Extends a c
extends_then a b c e f = record { more = e.more ++ f.more; parts = f.parts ∙ ap (λ (t : List ℕ). t ++ f.more) e.parts ∙ append_assoc a e.more f.more }

next_small_by : (t : Bool) (n : ℕ) → eqb n 4294966272 ≡ t → n ≤ 4294966272 → cond t 1 (n + 1) ≤ 4294966272
next_small_by true n e h = omega arith
next_small_by false n e h = let other : n ≡ 4294966272 → ⊥ = eqb-false n 4294966272 e in omega arith

pub next_small : (n : ℕ) → n ≤ 4294966272 → next_number n ≤ 4294966272
next_small n h = next_small_by (eqb n 4294966272) n refl h

pub cut_more : (lane : Lane) (id from number next : ℕ) (body before rest left out new : List ℕ) → CutSoFar lane id body from before rest number out
    → 0 < lane.room → lane.room < length rest
    → new ≡ out ++ frame_octets (frame_of (chunk_of lane C number id (take lane.room rest))) → next ≡ next_number number → left ≡ drop lane.room rest
    → CutSoFar lane id body from before left next new
cut_more lane id from number next body before rest left out new s pos more e n l =
    let frame = frame_octets (frame_of (chunk_of lane C number id (take lane.room rest))) in
    let tail : List ℕ → ℕ → List ℕ = λ (b : List ℕ) (m : ℕ). chunks_octets (chunks_of lane b m id) in
    let rest_is : tail rest number ≡ frame ++ tail (drop lane.room rest) (next_number number) =
    ap chunks_octets (numbered_more lane number id rest pos more)
    ∙ chunks_octets-cons (chunk_of lane C number id (take lane.room rest)) (chunks_of lane (drop lane.room rest) (next_number number) id) in
    record {
      parts =
          ap (λ (t : List ℕ). t ++ tail left next) e
          ∙ append_assoc out frame (tail left next)
          ∙ ap (λ (t : List ℕ). out ++ (frame ++ tail t next)) l
          ∙ ap (λ (m : ℕ). out ++ (frame ++ tail (drop lane.room rest) m)) n
          ∙ ap (λ (t : List ℕ). out ++ t) (sym rest_is)
          ∙ s.parts;
      after =
          ap (λ (m : ℕ). number_after m (pieces lane.room left)) n
          ∙ ap (λ (t : List ℕ). number_after (next_number number) (pieces lane.room t)) l
          ∙ sym (ap (number_after number) (pieces_more lane.room rest pos more))
          ∙ s.after;
      some = subst (λ (t : List ℕ). 0 < length t) (sym l) (omega (arith, length-drop lane.room rest));
      small = subst (λ (m : ℕ). m ≤ 4294966272) (sym n) (next_small number s.small);
      extends = extends_then before out new s.extends (record { more = frame; parts = e });
    }

pub record IsCut (lane : Lane) (id from : ℕ) (body before new : List ℕ) (next : ℕ) : Type 0 where
  pub octets : new ≡ before ++ chunks_octets (chunks_of lane body from id)
  pub after : next ≡ number_after from (pieces lane.room body)

pub cut_last : (lane : Lane) (id from number next : ℕ) (body before rest out new : List ℕ) → CutSoFar lane id body from before rest number out
    → length rest ≤ lane.room
    → new ≡ out ++ frame_octets (frame_of (chunk_of lane F number id rest)) → next ≡ next_number number → IsCut lane id from body before new next
cut_last lane id from number next body before rest out new s last e n = record {
  octets =
      e
      ∙ ap (λ (t : List ℕ). out ++ t)
      (sym (ap chunks_octets (numbered_last lane number id rest s.some last) ∙ chunks_octets-one (chunk_of lane F number id rest)))
      ∙ s.parts;
  after = n ∙ sym (ap (number_after number) (pieces_last lane.room rest s.some last)) ∙ s.after;
}

-- What is held of unfinished messages within a limit.
use Rattle.std.proofs.Common.{◌≡◌, ℕ, zero, suc, ◌+◌, ◌*◌, ◌≤◌, ◌<◌, Bool, true, false, not, ◌&&◌}
use Rattle.std.proofs.Common.{eqb, ltb, List, [], ◌∷◌, ◌++◌, refl, sym, ◌∙◌, ap, arith, length, map}
use Rattle.std.proofs.lemmas.Bool.{le-ltb, ltb-false, ne_eqb, eqb-true}
use Rattle.std.proofs.lemmas.List.Sums.{sum_by-cons}
use Rattle.std.specs.List.{concat, sum_by}
use Rattle.ua_chunk.specs.declared.assembler.Assembler.{Assembler}
use Rattle.ua_chunk.specs.declared.chunk.Chunk.{Chunk}
use Rattle.ua_chunk.specs.declared.pending.Pending.{Pending}
use Rattle.ua_chunk.specs.Assembling.{Stands}
use Rattle.ua_chunk.specs.Kept.{kept}
use Rattle.ua_chunk.specs.Pending.{octets_in}
use Rattle.ua_chunk.specs.declared.flag.Flag.{Flag}
use Rattle.ua_chunk.specs.declared.flag.Flag.TheVariants.{F, C, A}
use Rattle.ua_chunk.specs.Flag.{is_more_flag, is_abort_flag}
use Rattle.ua_chunk.specs.Gathered.{is_of, is_more, unfinished, gathered, joined}
use Rattle.ua_chunk.specs.Open.{open_ids, open_octets}
use Rattle.ua_chunk.specs.Refusal.{passes, OpenWithin}
use Rattle.ua_chunk.proofs.KeptMessages.{concat_bodies}
use Rattle.ua_chunk.proofs.OneMore.{unfinished_other, unfinished_end, unfinished_more}

fewer_by : (t : Bool) (limit m n : ℕ) → eqb limit 0 ≡ t → m ≤ n → (not t && ltb limit n) ≡ false → (not t && ltb limit m) ≡ false
fewer_by true limit m n e h k = refl
fewer_by false limit m n e h k = le-ltb limit m (omega (arith, ltb-false limit n k))

-- what is no more than what fits fits
pub fewer : (limit m n : ℕ) → m ≤ n → passes limit n ≡ false → passes limit m ≡ false
fewer limit m n h k = fewer_by (eqb limit 0) limit m n refl h k

pub none_within : (limit : ℕ) → passes limit 0 ≡ false
none_within limit = none_by (eqb limit 0) limit
  where
    none_by : (t : Bool) (limit : ℕ) → (not t && ltb limit 0) ≡ false
    none_by true limit = refl
    none_by false limit = le-ltb limit 0 (omega arith)

counted_by : (f : Flag) (b : Bool) → is_more_flag f ≡ true → (not (is_abort_flag f) && b) ≡ false → b ≡ false
counted_by F b m e = absurd cc
counted_by C b m e = e
counted_by A b m e = absurd cc

within_one : (of more : Bool) (octets id : ℕ) (cs : List Chunk) (c : Chunk) → is_of id c ≡ of → is_more c ≡ more → OpenWithin octets cs
    → (not (is_abort_flag c.flag) && passes octets (length (joined (gathered cs c)))) ≡ false
    → passes octets (length (joined (unfinished id (cs ++ c ∷ [])))) ≡ false
within_one false more octets id cs c e m w fits = ap (λ us. passes octets (length (joined us))) (unfinished_other id cs c e) ∙ w id
within_one true false octets id cs c e m w fits = ap (λ us. passes octets (length (joined us))) (unfinished_end id cs c e m) ∙ none_within octets
within_one true true octets id cs c e m w fits =
    let same : c.request ≡ id = eqb-true c.request id e in
    ap (λ us. passes octets (length (joined us))) (unfinished_more id cs c e m ∙ ap (λ k. unfinished k cs ++ c ∷ []) (sym same))
    ∙ counted_by c.flag (passes octets (length (joined (gathered cs c)))) m fits

-- a chunk whose message fits leaves what fits
pub within_push : (octets : ℕ) (cs : List Chunk) (c : Chunk) → OpenWithin octets cs
    → (not (is_abort_flag c.flag) && passes octets (length (joined (gathered cs c)))) ≡ false → OpenWithin octets (cs ++ c ∷ [])
within_push octets cs c w fits id = within_one (is_of id c) (is_more c) octets id cs c refl refl w fits

-- ---- the sum

sum_small : (f : ℕ → ℕ) (m : ℕ) (xs : List ℕ) → ((x : ℕ) → f x ≤ m) → (n : ℕ) → length xs ≤ n → sum_by f xs ≤ n * m
sum_small f m [] h n le = omega arith
sum_small f m (x ∷ xs) h zero le = absurd (omega arith)
sum_small f m (x ∷ xs) h (suc n) le =
    let one = h x in
    let others = sum_small f m xs h n (omega arith) in
    omega (arith, sum_by-cons f x xs)

fits_in : (octets n : ℕ) → 0 < octets → passes octets n ≡ false → n ≤ octets
fits_in octets n some fits =
    let limited : eqb octets 0 ≡ false = ne_eqb octets 0 (λ e. absurd (omega arith)) in
    ltb-false octets n (sym (ap (λ b. not b && ltb octets n) limited) ∙ fits)

pub bounded : (octets : ℕ) (cs : List Chunk) → 0 < octets → OpenWithin octets cs → length (open_ids cs) ≤ 4 → open_octets cs ≤ 4 * octets
bounded octets cs some w few = sum_small (λ id. length (joined (unfinished id cs))) octets (open_ids cs)
    (λ id. fits_in octets (length (joined (unfinished id cs))) some (w id)) 4 few

octets_kept : (f : ℕ → List Chunk) (ids : List ℕ) → octets_in (map (λ id. kept id (f id)) ids) ≡ sum_by (λ id. length (joined (f id))) ids
octets_kept f [] = refl
octets_kept f (id ∷ ids) =
    sum_by-cons (λ (m : Pending). length (concat m.message)) (kept id (f id)) (map (λ id. kept id (f id)) ids)
    ∙ ap (λ (t : List ℕ). length t + octets_in (map (λ id. kept id (f id)) ids)) (concat_bodies (f id))
    ∙ ap (λ n. length (joined (f id)) + n) (octets_kept f ids)
    ∙ sym (sum_by-cons (λ id. length (joined (f id))) id ids)

-- what an assembler holds
pub held_is : (a : Assembler) (cs : List Chunk) (held : ℕ) → held ≡ octets_in a.pending → Stands a cs → held ≡ open_octets cs
held_is a cs held e s = e ∙ ap octets_in s.unfinished ∙ octets_kept (λ id. unfinished id cs) (open_ids cs)

-- what an assembler holds is bounded
pub held_bounded : (a : Assembler) (cs : List Chunk) (held : ℕ) → held ≡ octets_in a.pending → Stands a cs → 0 < a.octets → held ≤ 4 * a.octets
held_bounded a cs held e s some = omega (arith, held_is a cs held e s, bounded a.octets cs some s.within s.few)

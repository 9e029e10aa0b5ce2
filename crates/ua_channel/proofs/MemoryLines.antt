-- What a line over memory hands out.
use Rattle.std.proofs.Common.{◌≡◌, ℕ, ◌+◌, ◌-◌, ◌≤◌, ◌<◌, List, [], ◌∷◌, ◌++◌, length, take, drop}
use Rattle.std.proofs.Common.{min, Bool, true, false, cond, Result, Ok, Err, rules, ◌%◌, refl, sym, ◌∙◌, ap, subst, arith}
use Rattle.std.proofs.lemmas.List.{nil_from_length, length-drop, take-append-drop, drop-drop, length-take-le}
use Rattle.std.proofs.Math.Seq.{take-append_seam}
use Rattle.ua_channel.specs.Line.{Traffic, one_more}
use Rattle.ua_channel.specs.MemoryLine.{Pace, Memory, within_limit, fails_next, moves}
use Rattle.ua_channel.specs.declared.line.LineFault.{LineFault}
use Rattle.ua_channel.specs.declared.line.LineFault.TheVariants.{Failed}

pub handed : (octets buffer : List ℕ) (read n : ℕ) → read + n ≤ length octets → drop read octets ≡ take n (take n (drop read octets) ++ drop n buffer)
    ++ drop (read + n) octets
handed octets buffer read n h =
    let c = drop read octets in
    let few : n ≤ length c = let l = length-drop read octets in omega (arith, l, h) in
    let seam : take n (take n c ++ drop n buffer) ≡ take n c = subst (λ (k : ℕ). take k (take n c ++ drop n buffer) ≡ take n c) (length-take-le n c few)
    (take-append_seam (take n c) (drop n buffer)) in
    sym (take-append-drop n c) ∙ (ap (λ (t : List ℕ). take n c ++ t) (drop-drop n read octets) ∙ ap (λ (t : List ℕ). t ++ drop (read + n) octets) (sym seam))

none_within : (limits : List ℕ) (n : ℕ) → within_limit limits n ≡ 0 → n ≡ 0
none_within [] n h = h
none_within (most ∷ limits) n h = omega (arith, h)

moved_by : (fails : Bool) (k n : ℕ) → Ok k ≡ cond fails (Err Failed) (Ok n) → k ≡ n
moved_by true k n h = absurd cc
moved_by false k n h = cc

pub none_moved : (pace : Pace) (octets : List ℕ) (read room k : ℕ) → Ok k ≡ moves pace (min (length octets - read) room) → k ≡ 0 → 0 < room
    → drop read octets ≡ []
none_moved pace octets read room k h z r =
    let n = min (length octets - read) room in
    let is = moved_by (fails_next pace.fails) k (within_limit pace.limits n) h in
    let least : within_limit pace.limits n ≡ 0 = cc in
    let none = none_within pace.limits n least in
    let l = length-drop read octets in
    nil_from_length (drop read octets) (omega (arith, none, r, l))

-- ---- the calls of a line

pub only_fault : (f : LineFault) → f ≡ Failed
only_fault Failed = refl

-- how many bytes a read moves, by how many are to come
pub read_paced : (l : Memory) (octets : List ℕ) (inside : Pace) (room len read count : ℕ) (outcome : Result ℕ LineFault) → l.reads ≡ inside
    → l.traffic.coming ≡ drop read octets → len ≡ length octets → count ≡ min (len - read) room → outcome ≡ moves inside count
    → outcome ≡ moves l.reads (min (length l.traffic.coming) room)
read_paced l octets inside room len read count outcome paced from is counted by =
    by
    ∙ ap (moves inside) (counted ∙ ap (λ (n : ℕ). min n room) (ap (λ (n : ℕ). n - read) is ∙ sym (length-drop read octets) ∙ sym (ap length from)))
    ∙ ap (λ (p : Pace). moves p (min (length l.traffic.coming) room)) (sym paced)

some_within : (limits : List ℕ) (n : ℕ) → 0 < n → 0 < within_limit limits n
some_within [] n h = h
some_within (most ∷ limits) n h = omega (arith, h)

-- a call that moves bytes moves some where there are any
pub some_moved : (pace : Pace) (k n : ℕ) → Ok k ≡ moves pace n → 0 < n → 0 < k
some_moved pace k n h some =
    subst (λ (m : ℕ). 0 < m) (sym (moved_by (fails_next pace.fails) k (within_limit pace.limits n) h)) (some_within pace.limits n some)

-- what is to come is this, and this was written
abbrev pub traffic_with : List ℕ → List ℕ → Traffic
traffic_with coming written = record { coming = λ (more : List ℕ). coming; written = written }

-- a count in 64 bits that wraps
pub wrapped : (n : ℕ) → n < 18446744073709551616 → (n + 1) % 18446744073709551616 ≡ one_more n
wrapped n h = search rules

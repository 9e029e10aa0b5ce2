-- What becomes of the octets of a line that gathers.
use Rattle.std.specs.Prelude.{◌≡◌, ℕ, ◌+◌, ◌-◌, List, ◌++◌, length, take, drop, option_map, Option, Some, None, Ok}
use Rattle.std.proofs.Common.{sym, ◌∙◌, ap, subst, append_assoc, drop-drop, length-drop, take-append-drop}
use Rattle.std.proofs.Math.Seq.{take-length}
use Rattle.ua_channel.specs.Line.{WriteTakes, Traffic, IfTrafficKnown}
use Rattle.ua_tcp.specs.Lines.{behind_gathered}

-- functions that agree everywhere are one
everywhere : (f g : List ℕ → List ℕ) → ((x : List ℕ) → f x ≡ g x) → f ≡ g
everywhere f g h = λ i x. h x i

same-traffic : (f g : List ℕ → List ℕ) (u v : List ℕ) → f ≡ g → u ≡ v
    → ◌≡◌ {A = Traffic} (record { coming = f; written = u }) (record { coming = g; written = v })
same-traffic f g u v p q = λ i. record { coming = p i; written = q i }

-- ---- some of what is gathered goes out

parts-went : (n : ℕ) (gathered more : List ℕ) → take n gathered ++ (drop n gathered ++ more) ≡ gathered ++ more
parts-went n gathered more = sym (append_assoc (take n gathered) (drop n gathered) more) ∙ ap (λ (o : List ℕ). o ++ more) (take-append-drop n gathered)

pub went : (n : ℕ) (gathered : List ℕ) (before after : Option Traffic) → IfTrafficKnown (WriteTakes (Ok n) gathered) before after
    → option_map (behind_gathered (drop n gathered)) after ≡ option_map (behind_gathered gathered) before
went n gathered (Some b) (Some a) h =
    ap (λ (t : Traffic). Some t) (same-traffic (λ more. a.coming (drop n gathered ++ more)) (λ more. b.coming (gathered ++ more)) (a.written ++ drop n gathered)
    (b.written ++ gathered)
    (everywhere (λ more. a.coming (drop n gathered ++ more)) (λ more. b.coming (gathered ++ more)) (λ more. h.1 (drop n gathered ++ more)
    ∙ ap b.coming (parts-went n gathered more)))
    (ap (λ (o : List ℕ). o ++ drop n gathered) h.0
    ∙ (append_assoc b.written (take n gathered) (drop n gathered) ∙ ap (λ (o : List ℕ). b.written ++ o) (take-append-drop n gathered))))
went n gathered (Some b) None h = absurd h
went n gathered None a h = ap (option_map (behind_gathered (drop n gathered))) h

-- what stands behind the first items
all-behind : (gone : ℕ) (items : List ℕ) → take (length items - gone) (drop gone items) ≡ drop gone items
all-behind gone items = ap (λ (k : ℕ). take k (drop gone items)) (sym (length-drop gone items)) ∙ take-length (drop gone items)

pub went-on : (n gone : ℕ) (gathered items : List ℕ) (before after first : Option Traffic) → items ≡ gathered
    → IfTrafficKnown (WriteTakes (Ok n) (take (length items - gone) (drop gone items))) before after
    → option_map (behind_gathered (drop gone gathered)) before ≡ first → option_map (behind_gathered (drop (gone + n) gathered)) after ≡ first
went-on n gone gathered items before after first is h so_far =
    let rest = all-behind gone items ∙ ap (drop gone) is in
    ap (λ (o : List ℕ). option_map (behind_gathered o) after) (sym (drop-drop n gone gathered))
    ∙ (went n (drop gone gathered) before after (subst (λ (o : List ℕ). IfTrafficKnown (WriteTakes (Ok n) o) before after) rest h) ∙ so_far)

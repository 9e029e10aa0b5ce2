-- The timestamps of a list, one after the other.
use Rattle.std.proofs.Common.{◌≡◌, ℕ, ◌+◌, ◌-◌, ◌≤◌, ◌<◌, List, [], ◌∷◌, length, get_or, take, drop, refl, sym, ◌∙◌, ap, arith}
use Rattle.std.proofs.lemmas.List.{drop-drop, length-drop, take_all}
use Rattle.std.specs.Prelude.{ℤ, pos}
use Rattle.ua_channel.specs.Moments.{first_moment, behind_moment}

-- what is left of a list behind a place
pub left : (items list now : List ℤ) (place : ℕ) → list ≡ items → drop place items ≡ now → take (length list - place) (drop place list) ≡ now
left items list now place same is =
    take_all (length list - place) (drop place list) (omega (arith, length-drop place list)) ∙ ap (drop place) same ∙ is

pub none_left : (now : List ℤ) → length now < 1 → (pos 0 ≡ first_moment now) × (now ≡ behind_moment now)
none_left [] h = (refl, refl)
none_left (m ∷ ms) h = absurd (omega (arith, h))

pub first_left : (now : List ℤ) → 1 ≤ length now → get_or now 0 (pos 0) ≡ first_moment now
first_left [] h = absurd (omega (arith, h))
first_left (m ∷ ms) h = refl

pub one_stays : (now : List ℤ) → 1 ≤ length now → length now < 2 → now ≡ behind_moment now
one_stays [] h g = refl
one_stays (m ∷ []) h g = refl
one_stays (m ∷ (n ∷ ms)) h g = absurd (omega (arith, g))

rest_left : (now : List ℤ) → 2 ≤ length now → drop 1 now ≡ behind_moment now
rest_left [] h = absurd (omega (arith, h))
rest_left (m ∷ []) h = absurd (omega (arith, h))
rest_left (m ∷ (n ∷ ms)) h = refl

pub next_left : (items now : List ℤ) (place : ℕ) → drop place items ≡ now → 2 ≤ length now → drop (place + 1) items ≡ behind_moment now
next_left items now place is h = sym (drop-drop 1 place items) ∙ ap (drop 1) is ∙ rest_left now h

use Rattle.std.proofs.Common.{◌≡◌, ℕ, ◌+◌, ◌-◌, ◌≤◌, List, length, take, drop, sym, ◌∙◌, ap, subst, arith}
use Rattle.std.proofs.lemmas.List.{drop-take, length-take, drop-drop}
use Rattle.ua_client.proofs.piece.Piece.skip.Goals as goal

-- what is left behind the first of what was left
skipped : (xs : List ℕ) (s e n : ℕ) → n ≤ e - s → take (e - (s + n)) (drop (s + n) xs) ≡ drop n (take (e - s) (drop s xs))
skipped xs s e n few =
    ap (λ (k : ℕ). take k (drop (s + n) xs)) (rest s e n)
    ∙ (ap (take ((e - s) - n)) (sym (drop-drop n s xs))
    ∙ (sym (drop-take n ((e - s) - n) (drop s xs)) ∙ ap (λ (k : ℕ). drop n (take k (drop s xs))) (whole (e - s) n few)))
  where
    rest : (a b k : ℕ) → b - (a + k) ≡ (b - a) - k
    rest a b k = omega arith

    whole : (d k : ℕ) → k ≤ d → k + (d - k) ≡ d
    whole d k h = omega (arith, h)

fits : (xs : List ℕ) (d n : ℕ) → n ≤ length (take d xs) → n ≤ d
fits xs d n h = let l = length-take d xs in omega (arith, l, h)

pub returns : goal.returns
returns c =
    let i = c.self.inside in
    let few : c.args.count ≤ length (take (i.end - i.start) (drop i.start i.octets.items)) =
    subst (λ (xs : List ℕ). c.args.count ≤ length xs) (sym c.self.view_is) c.requires in
    skipped i.octets.items i.start i.end c.args.count (fits (drop i.start i.octets.items) (i.end - i.start) c.args.count few)
    ∙ ap (drop c.args.count) c.self.view_is

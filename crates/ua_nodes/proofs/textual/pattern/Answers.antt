use Rattle.std.proofs.Common.{◌≡◌, ◌≢◌, ◌++◌, ◌∷◌, List, ℕ, slice_index, codes, sym, ◌∙◌, ap, lit<, eq-eqb, true≢false}
use Rattle.ua_nodes.proofs.Parsed.{pattern_parsed, pattern_small}
use Rattle.ua_nodes.proofs.textual.pattern.Goals as goal

parts_of : (c : goal.After-ok) → c.args.text.now ≡ codes "0x" ++ c.in_ok-hex.hex.now
parts_of c = let h = c.in_ok-hex.ensures.cases in h.1.1 ∙ ap (λ (t : List ℕ). 48 ∷ 120 ∷ t) (sym h.2)

pub returns-clause-value : goal.returns-clause-value
returns-clause-value c =
    let byte = c.starts_with.ensures.byte (lit< tt) (lit< tt) (λ w o x. x) in
    let ne : slice_index c.in_ok-hex.hex.now 0 ≢ 43 = λ e. true≢false (sym (eq-eqb (slice_index c.in_ok-hex.hex.now 0) 43 e) ∙ sym byte
    ∙ c.if-starts_with.false) in
    c.ok.ensures.value ∙ pattern_parsed c.args.digits c.args.text.now c.in_ok-hex.hex.now c.from_str_radix.result (parts_of c) c.if-hex-digits.false c.requires
    ne c.from_str_radix.ensures.value

pub returns-clause-small : goal.returns-clause-small
returns-clause-small c = rw (returns-clause-value c) (pattern_small c.args.digits c.args.text.now c.in_ok-hex.hex.now (parts_of c) c.if-hex-digits.false)

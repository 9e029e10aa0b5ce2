use Rattle.std.proofs.Common.{◌≡◌, ◌++◌, List, ℕ, string_bytes, encode_utf8, encode_utf8_all, sym, ap, ◌∙◌, map-id, append-nil, append_assoc}
use Rattle.std.proofs.lemmas.Iterator.{YieldsList-from_chars}
use Rattle.std.proofs.lemmas.Iterator.Consumers.{YieldsList-end}
use Rattle.std.proofs.lemmas.Str.{encodes-append, encodes-chars}
use Rattle.ua_texts.proofs.Shows.{shown-nil, shown-append}
use Rattle.ua_texts.specs.Shown.{shown}
use Rattle.ua_texts.proofs.text.push_text.Goals as goal

-- one character more
shown_more : (start done more out : List ℕ) (c : ℕ) → done ≡ start ++ shown out → more ≡ done ++ shown (encode_utf8 c)
    → more ≡ start ++ shown (out ++ encode_utf8 c)
shown_more start done more out c e h = h ∙ ap (λ t. t ++ shown (encode_utf8 c)) e ∙ append_assoc start (shown out) (shown (encode_utf8 c))
    ∙ ap (λ t. start ++ t) (sym (shown-append out (encode_utf8 c)))

pub loop-c-init : goal.loop-c-init
loop-c-init c = sym (ap (λ t. string_bytes c.args.out.now ++ t) shown-nil ∙ append-nil (string_bytes c.args.out.now))

pub loop-c-preserved : goal.loop-c-preserved
loop-c-preserved c = rw (encodes-append, append-nil (encode_utf8 c.in-Some.c))
    (shown_more _ _ _ (encode_utf8_all c.loop-c.yielded) c.in-Some.c c.loop-c.invariant c.in_ok-push_char.ensures)

pub returns : goal.returns
returns c =
    let done = YieldsList-end (YieldsList-from_chars c.args.text.now c.utf8.text cc) c.loop-c.yielded _ c.loop-c.yielded_by _ _ c.in-None.is
    c.next.ensures.steps in
    c.loop-c.invariant ∙ ap (λ cs. string_bytes c.args.out.now ++ shown (encode_utf8_all cs)) (sym (map-id c.loop-c.yielded) ∙ done.0)
    ∙ ap (λ t. string_bytes c.args.out.now ++ shown t) (encodes-chars c.args.text.now c.utf8.text)

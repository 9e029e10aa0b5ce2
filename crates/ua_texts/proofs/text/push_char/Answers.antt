use Rattle.std.proofs.Common.{◌≡◌, ℕ, List, Result, Ok, Err, OnOk, is_ok, arith, true, sym, ◌∙◌, if◌then◌else◌}
use Rattle.ua_texts.proofs.Codes.{octet_output}
use Rattle.ua_texts.proofs.Shows.{control-small, shown-backslash, shown-control, shown-plain}
use Rattle.ua_texts.proofs.text.push_char.Goals as goal

-- what a text grows by, where it grows
grows : {E : Type 0} (r : Result (Unit {0}) E) (new old grown : List ℕ) → new ≡ (if is_ok r then grown else old) → OnOk r (new ≡ grown)
grows (Ok x) new old grown h = h
grows (Err e) new old grown h = tt

pub returns-then-c-eq92 : goal.returns-then-c-eq92
returns-then-c-eq92 c = rw (c.if-c-eq92.true, shown-backslash) (grows _ _ _ _ c.push_str.ensures.bytes)

pub returns-else-is_ascii_control : goal.returns-else-is_ascii_control
returns-else-is_ascii_control c = rw (shown-plain c.args.c c.if-c-eq92.false (sym c.is_ascii_control.ensures.value ∙ c.if-is_ascii_control.false))
    (grows _ _ _ _ c.push.ensures.bytes)

pub returns-then-is_ascii_control : goal.returns-then-is_ascii_control
returns-then-is_ascii_control c =
    let control : _ ≡ true = sym c.is_ascii_control.ensures.value ∙ c.if-is_ascii_control.true in
    let two = octet_output c.in_radix.result c.laid_out.result c.args.c c.in_radix.ensures c.laid_out.ensures (omega (arith, control-small c.args.c control)) in
    rw (shown-control c.args.c control) (rw two at c.write.ensures.bytes)

use Rattle.std.proofs.Common.{length, lit<, arith, nat_eq}
use Rattle.std.proofs.lemmas.Iterator.Consumers.{YieldsList-turn, YieldsList-end}
use Rattle.std.proofs.lemmas.Iterator.Splits.{YieldsList-from_str_split}
use Rattle.std.proofs.lemmas.List.{length_push}
use Rattle.std.specs.List.{slice_split}
use Rattle.ua_answers.specs.PlainRead.{exact_element}
use Rattle.ua_answers.proofs.ExactRows.{texts_next, texts_all}
use Rattle.ua_answers.proofs.plain_read.push_exact_elements.Goals as goal

pub loop-element-preserved : goal.loop-element-preserved
loop-element-preserved c =
    let at = c.loop-element in
    let t = YieldsList-turn (YieldsList-from_str_split 44 c.args.text.now (lit< tt) (cc) (cc) (cc)) at.yielded _ at.yielded_by _ _ c.in-Some.element
    c.in-Some.is c.next.ensures.steps in (
      (let long = length_push at.yielded c.in-Some.element in let was = at.invariant.0 in omega arith),
      texts_next (exact_element c.args.kind) (slice_split (λ b. nat_eq b 44) c.args.text.now) at.index (length at.yielded) c.in-Some.element.now _ _ _
          at.invariant.0 t at.invariant.1 c.in_ok-push_exact_item.ensures,
    )

pub returns : goal.returns
returns c =
    let at = c.loop-element in
    let t = YieldsList-end (YieldsList-from_str_split 44 c.args.text.now (lit< tt) (cc) (cc) (cc)) at.yielded _ at.yielded_by _ _ c.in-None.is
    c.next.ensures.steps in
    texts_all (exact_element c.args.kind) (slice_split (λ b. nat_eq b 44) c.args.text.now) at.index (length at.yielded) _ _ at.invariant.0 t.1 at.invariant.1

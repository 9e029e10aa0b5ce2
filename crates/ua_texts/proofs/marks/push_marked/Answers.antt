use Rattle.std.proofs.Common.{◌++◌, string_bytes, sym, ap, ◌∙◌, map-id}
use Rattle.std.proofs.lemmas.Iterator.{YieldsList-from_chars}
use Rattle.std.proofs.lemmas.Iterator.Consumers.{YieldsList-end}
use Rattle.std.specs.List.{flat_map}
use Rattle.ua_texts.specs.Marks.{marked, marked_char}
use Rattle.ua_texts.proofs.marks.push_marked.Goals as goal

pub returns : goal.returns
unfolding marked
returns c =
    let done = YieldsList-end (YieldsList-from_chars c.args.text.now c.utf8.text cc) c.loop-c.yielded _ c.loop-c.yielded_by _ _ c.in-None.is
    c.next.ensures.steps in
    c.loop-c.invariant ∙ ap (λ cs. string_bytes c.args.out.now ++ flat_map (marked_char c.args.marks) cs) (sym (map-id c.loop-c.yielded) ∙ done.0)

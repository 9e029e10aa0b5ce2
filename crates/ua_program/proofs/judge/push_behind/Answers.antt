use Rattle.std.proofs.Common.{◌++◌, ◌∙◌, ℕ, List, ap, append-nil, sym}
use Rattle.std.specs.Prelude.{string_bytes}
use Rattle.std.specs.List.{flat_map}
use Rattle.std.proofs.lemmas.Iterator.Consumers.{YieldsList-end}
use Rattle.std.proofs.lemmas.Iterator.Splits.{YieldsList-from_lines}
use Rattle.ua_program.proofs.PrintedSides.{behind_kept, line_behind}
use Rattle.ua_program.proofs.judge.push_behind.Goals as goal

pub loop-line-init : goal.loop-line-init
loop-line-init c = sym (append-nil (string_bytes c.args.out.now))

pub loop-line-preserved : goal.loop-line-preserved
loop-line-preserved c =
    behind_kept c.args.front.now (string_bytes c.args.out.now) (string_bytes c.loop-line.out) _ c.loop-line.yielded c.in-Some.line c.loop-line.invariant
    c.in_ok-push_line_behind.ensures

pub returns : goal.returns
returns c =
    let at = c.loop-line in
    let end = YieldsList-end (YieldsList-from_lines c.args.lines.now cc) at.yielded _ at.yielded_by _ _ c.in-None.is c.next.ensures.steps in
    at.invariant ∙ ap (λ (t : List (List ℕ)). string_bytes c.args.out.now ++ flat_map (line_behind c.args.front.now) t) end.0

use Rattle.std.proofs.Common.{◌∙◌, ap, lit<, map}
use Rattle.std.proofs.lemmas.Iterator.Consumers.{YieldsList-end}
use Rattle.std.proofs.lemmas.Iterator.Splits.{YieldsList-from_str_split}
use Rattle.std.specs.List.{flat_map}
use Rattle.std.specs.Str.Lines.{strip_carriage_return}
use Rattle.ua_answers.specs.PlainLines.{exact_line}
use Rattle.ua_answers.proofs.ExactLines.{flat_of, map_twice}
use Rattle.ua_answers.proofs.plain_lines.exact_lines.Goals as goal

pub returns : goal.returns
returns c =
    let at = c.loop-line in
    let t = YieldsList-end (YieldsList-from_str_split 10 c.args.text.now (lit< tt) (cc) (cc) (cc)) at.yielded _ at.yielded_by _ _ c.in-None.is
    c.next.ensures.steps in
    at.invariant ∙ flat_of exact_line (λ line. strip_carriage_return line.now) at.yielded
    ∙ ap (flat_map exact_line) (map_twice strip_carriage_return (λ line. line.now) at.yielded ∙ ap (map strip_carriage_return) t.0)

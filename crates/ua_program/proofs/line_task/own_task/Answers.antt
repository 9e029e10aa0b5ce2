use Rattle.std.proofs.Common.{◌≡◌, ◌∙◌, ◌∷◌, List, ℕ, Some, codes, lit<, ap, rules}
use Rattle.ua_nodes.proofs.Pieces.{pieces, pieces_once}
use Rattle.ua_program.proofs.LineTasks.{pause_given}
use Rattle.ua_program.proofs.line_task.own_task.Goals as goal

pub returns-in-Some-sleep-default : goal.returns-in-Some-sleep-default
returns-in-Some-sleep-default c =
    let word = c.in-Some-sleep-default.field-0-0 in
    let time = c.in-Some-sleep-default.time in
    let h : pieces 9 c.args.words.now ≡ word.now ∷ pieces 9 time.now = pieces_once 9 c.args.words.now (Some (word, time))
    (lit< tt) c.in-Some-sleep-default.ensures.cases in
    let is : word.now ≡ codes "sleep" = search rules in
    pause_given c.args.words.now time.now c.sleep_of.result (h ∙ ap (λ (w : List ℕ). w ∷ pieces 9 time.now) is) c.sleep_of.ensures

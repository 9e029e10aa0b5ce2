use Rattle.std.proofs.Common.{◌≡◌, ◌∷◌, [], ◌∙◌, lit<}
use Rattle.ua_nodes.proofs.Pieces.{pieces, pieces_once}
use Rattle.ua_nodes.proofs.Ranges.{range_cut, range_whole}
use Rattle.ua_nodes.proofs.range.IndexRange.parse.Goals as goal

pub returns-in-Some : goal.returns-in-Some
returns-in-Some c =
    let h = pieces_once 58 c.args.text.now c.split_once.result (lit< tt) c.split_once.ensures.cases in
    let cut : pieces 58 c.args.text.now ≡ c.in-Some.first.now ∷ pieces 58 c.in-Some.last.now = rw c.in-Some.is at h in
    c.between.ensures ∙ range_cut c.args.text.now c.in-Some.first.now c.in-Some.last.now cut

pub returns-in-None : goal.returns-in-None
returns-in-None c =
    let h = pieces_once 58 c.args.text.now c.split_once.result (lit< tt) c.split_once.ensures.cases in
    let whole : pieces 58 c.args.text.now ≡ c.args.text.now ∷ [] = rw c.in-None.is at h in
    c.single.ensures ∙ range_whole c.args.text.now whole

use Rattle.ua_fields.proofs.Behind.{text_line}
use Rattle.ua_fields.proofs.leaves.push_text_line.Goals as goal

pub returns : goal.returns
returns g c =
    text_line c.push_str.result c.args.place.style c.args.place.margin.now c.args.place.path.now _ _ _ _ (g.T.Text.leaf c.args.value.now)
    c.in_ok-push_start.ensures c.in_ok-push_text.ensures c.push_str.ensures.bytes

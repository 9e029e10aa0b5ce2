use Rattle.std.proofs.lemmas.Iterator.Consumers.{nth_from_yields_List}
use Rattle.std.proofs.lemmas.Iterator.Splits.{YieldsList-from_lines}
use Rattle.ua_pair.specs.Encodings.{encodings}
use Rattle.ua_pair.proofs.encoding.name_at.Goals as goal

pub returns : goal.returns
unfolding encodings
returns c = nth_from_yields_List c.nth.result _ c.args.place c.nth.ensures.ran (YieldsList-from_lines _ c.lines.ensures.rest)

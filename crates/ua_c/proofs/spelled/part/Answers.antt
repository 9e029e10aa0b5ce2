use Rattle.std.proofs.Common.{lit<}
use Rattle.std.proofs.lemmas.Str.Pattern.{split_parts}
use Rattle.ua_c.proofs.spelled.part.Goals as goal

-- the two sides
pub returns : goal.returns
returns c = split_parts 32 c.args.text.now c.split_once.result c.split_once.ensures.cases (lit< tt)

use Rattle.std.proofs.lemmas.Str.Pattern.{strip_prefix_char}
use Rattle.ua_program.proofs.turns.digits_behind.Goals as goal

pub returns : goal.returns
returns c = strip_prefix_char c.args.first c.args.line.now c.strip_prefix.result c.strip_prefix.ensures.cases c.requires

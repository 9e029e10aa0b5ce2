use Rattle.std.proofs.Common.{lit<}
use Rattle.std.proofs.lemmas.Str.Pattern.{strip_suffix_char}
use Rattle.ua_program.proofs.LineTasks.{bare_of}
use Rattle.ua_program.proofs.line_task.bare.Goals as goal

pub returns : goal.returns
returns c =
    let h = strip_suffix_char 10 c.args.line.now c.strip_suffix.result c.strip_suffix.ensures.cases (lit< tt) in
    bare_of c.args.line c.unwrap_or.result c.strip_suffix.result _ h c.unwrap_or.ensures c.without_return.ensures

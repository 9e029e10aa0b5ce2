use Rattle.std.proofs.Common.{ap, ◌∙◌, lit<, List, ℕ}
use Rattle.std.proofs.lemmas.Str.Pattern.{strip_suffix_char}
use denote.Ref.{Bor}
use Rattle.ua_nodes.proofs.Files.{without_end}
use Rattle.ua_nodes.proofs.node_file.without_return.Goals as goal

pub returns : goal.returns
returns c =
    let h = strip_suffix_char 13 c.args.line.now c.strip_suffix.result c.strip_suffix.ensures.cases (lit< tt) in
    ap (λ (b : Bor (List ℕ)). b.now) c.unwrap_or.ensures ∙ without_end c.args.line c.strip_suffix.result h

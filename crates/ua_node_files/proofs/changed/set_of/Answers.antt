use Rattle.std.specs.BTreeSet.{IsFromIterResult}
use Rattle.std.proofs.lemmas.Iterator.{YieldsList-from_slice}
use Rattle.std.proofs.lemmas.Iterator.Adapters.{fact_from_collect}
use Rattle.std.proofs.lemmas.Iterator.Consumers.{YieldsList-from_copied}
use Rattle.ua_node_files.proofs.Changing.{set_has, str_cmp}
use Rattle.ua_node_files.proofs.changed.set_of.Goals as goal

pub returns : goal.returns
returns c =
    set_has _ c.args.lines.now (fact_from_collect (λ lines known. IsFromIterResult str_cmp lines known) _ c.collect.ensures.ran
    (YieldsList-from_copied (YieldsList-from_slice c.args.lines.now cc)))

use Rattle.ua_channel_laws.proofs.CutChunks.{cut_alone, cut_merged, cut_sent}
use Rattle.ua_channel_laws.proofs.merge_laws.cut_bodies_merge.Goals as goal

pub returns-clause-merged : goal.returns-clause-merged
returns-clause-merged c = cut_merged

pub returns-clause-parts : goal.returns-clause-parts
returns-clause-parts c = cut_sent

pub returns-clause-alone : goal.returns-clause-alone
returns-clause-alone c = λ limits lane body number id room w.
    let a = cut_alone limits lane body number id room w in
    (a.message, a.request_is, a.cut, a.merged)

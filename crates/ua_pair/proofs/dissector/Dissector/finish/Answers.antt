use Rattle.ua_pair.proofs.Dissections.{ends_added}
use Rattle.ua_pair.proofs.dissector.Dissector.finish.Goals as goal

pub returns-clause-last : goal.returns-clause-last
returns-clause-last c = λ options octets told s.
    ends_added c.push_str.result options octets told _ _ _ _ _ (c.in_ok-push_last.ensures.last options octets told s) c.new-line.ensures.bytes c.deref.ensures
    c.push_str.ensures.bytes

use Rattle.ua_headline.proofs.Honest.{starts}
use Rattle.ua_headline.proofs.records.begins.Goals as goal

pub returns : goal.returns
returns c = starts c.starts_with.result c.args.octets.now c.args.prefix.now c.starts_with.ensures.value

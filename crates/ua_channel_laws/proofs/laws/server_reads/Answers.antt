use Rattle.ua_frame.proofs.FirstWrongs.{first_of_stop, stop_of_first}
use Rattle.ua_frame.proofs.Readings.{reading}
use Rattle.ua_frame.proofs.Unique.{unique}
use Rattle.ua_channel.specs.ServerRules.{server_rules}
use Rattle.ua_channel_laws.proofs.laws.server_reads.Goals as goal

pub returns-clause-some : goal.returns-clause-some
returns-clause-some c = λ limits channel. reading (server_rules limits channel)

pub returns-clause-one : goal.returns-clause-one
returns-clause-one c = λ limits channel. unique (server_rules limits channel)

pub returns-clause-first_wrong : goal.returns-clause-first_wrong
returns-clause-first_wrong c = λ limits channel octets frames rest code framed.
    (first_of_stop (server_rules limits channel) octets frames rest code framed, stop_of_first (server_rules limits channel) octets frames rest code framed)

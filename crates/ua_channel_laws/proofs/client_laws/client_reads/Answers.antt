use Rattle.ua_frame.proofs.FirstWrongs.{first_of_stop, stop_of_first}
use Rattle.ua_frame.proofs.Readings.{reading}
use Rattle.ua_frame.proofs.Unique.{unique}
use Rattle.ua_channel.specs.ClientTable.{client_rules}
use Rattle.ua_channel_laws.proofs.client_laws.client_reads.Goals as goal

pub returns-clause-some : goal.returns-clause-some
returns-clause-some c = λ limits asks. reading (client_rules limits asks)

pub returns-clause-one : goal.returns-clause-one
returns-clause-one c = λ limits asks. unique (client_rules limits asks)

pub returns-clause-first_wrong : goal.returns-clause-first_wrong
returns-clause-first_wrong c = λ limits asks octets frames rest why framed.
    (first_of_stop (client_rules limits asks) octets frames rest why framed, stop_of_first (client_rules limits asks) octets frames rest why framed)

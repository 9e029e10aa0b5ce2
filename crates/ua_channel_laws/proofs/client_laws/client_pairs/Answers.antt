use Rattle.ua_channel_laws.proofs.PairedCalls.{pairs_once, pairs_no_other}
use Rattle.ua_channel_laws.proofs.client_laws.client_pairs.Goals as goal

pub returns-clause-once : goal.returns-clause-once
returns-clause-once c = pairs_once

pub returns-clause-no_other : goal.returns-clause-no_other
returns-clause-no_other c = pairs_no_other

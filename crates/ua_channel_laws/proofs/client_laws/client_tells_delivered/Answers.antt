use Rattle.ua_channel_laws.proofs.PairedCalls.{tells_delivered}
use Rattle.ua_channel_laws.proofs.client_laws.client_tells_delivered.Goals as goal

pub returns : goal.returns
returns c = tells_delivered

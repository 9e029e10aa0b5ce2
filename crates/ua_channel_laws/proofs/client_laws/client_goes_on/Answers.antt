use Rattle.ua_channel_laws.proofs.ClientReadsOnce.{goes_behind}
use Rattle.ua_channel_laws.proofs.client_laws.client_goes_on.Goals as goal

pub returns : goal.returns
returns c = goes_behind

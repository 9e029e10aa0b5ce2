use Rattle.ua_channel_laws.proofs.AskedBefore.{reads_earlier}
use Rattle.ua_channel_laws.proofs.asking_laws.client_asks_earlier.Goals as goal

pub returns : goal.returns
returns c = reads_earlier

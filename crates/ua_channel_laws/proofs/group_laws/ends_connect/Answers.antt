use Rattle.ua_channel_laws.proofs.Connected.{connected_first}
use Rattle.ua_channel_laws.proofs.group_laws.ends_connect.Goals as goal

pub returns : goal.returns
returns c = connected_first

use Rattle.ua_channel_laws.proofs.Connected.{connected_rounds}
use Rattle.ua_channel_laws.proofs.group_laws.rounds_reach_both_ends.Goals as goal

pub returns : goal.returns
returns c = λ server client url channel up told asks down heard at rounds on k are.
    connected_rounds server client url channel on up told asks down heard at rounds k are

use Rattle.ua_channel_laws.proofs.ServerConversing.{continues, converses, has_ended, none_wrong}
use Rattle.ua_channel_laws.proofs.laws.server_converses.Goals as goal

pub returns-clause-frames : goal.returns-clause-frames
returns-clause-frames c = converses

pub returns-clause-going : goal.returns-clause-going
returns-clause-going c = continues

pub returns-clause-over : goal.returns-clause-over
returns-clause-over c = has_ended

pub returns-clause-none_wrong : goal.returns-clause-none_wrong
returns-clause-none_wrong c = none_wrong

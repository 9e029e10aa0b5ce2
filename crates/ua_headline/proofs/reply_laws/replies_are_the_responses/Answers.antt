use Rattle.ua_headline.proofs.AsAnswered.{all_given, each_after, itself}
use Rattle.ua_headline.proofs.reply_laws.replies_are_the_responses.Goals as goal

pub returns-clause-itself : goal.returns-clause-itself
returns-clause-itself c = λ s moment m id reply sound dated fits. itself s moment m id reply sound dated fits

pub returns-clause-read : goal.returns-clause-read
returns-clause-read c = λ back s moments n requests sound dated fits. all_given back s moments n requests sound dated fits

pub returns-clause-after : goal.returns-clause-after
returns-clause-after c = λ e before requests replies can sound fits h. each_after e can sound before requests replies fits h

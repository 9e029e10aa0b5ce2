use Rattle.ua_client.proofs.Idle.{idle-standing}
use Rattle.ua_client.proofs.Renewings.{opened-settled}
use Rattle.ua_client.proofs.Settled.{answered-settled, later-settled, none-pending, settled-lane}
use Rattle.ua_client.proofs.laws.clients_are_settled.Goals as goal

pub returns-clause-opened : goal.returns-clause-opened
returns-clause-opened c = opened-settled c.client_goes_on.ensures

pub returns-clause-answered : goal.returns-clause-answered
returns-clause-answered c = answered-settled

pub returns-clause-later : goal.returns-clause-later
returns-clause-later c = later-settled

pub returns-clause-none_pending : goal.returns-clause-none_pending
returns-clause-none_pending c = λ x s at settled. none-pending x s at settled c.client_tells_delivered.ensures

pub returns-clause-lane : goal.returns-clause-lane
returns-clause-lane c = settled-lane

pub returns-clause-idle : goal.returns-clause-idle
returns-clause-idle c = λ x s stands at. idle-standing c.client_tells_delivered.ensures x s stands at

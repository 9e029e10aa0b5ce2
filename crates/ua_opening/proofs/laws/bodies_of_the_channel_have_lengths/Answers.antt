use Rattle.ua_opening.proofs.Lengths.{open_request_length, open_response_length, close_request_length}
use Rattle.ua_opening.proofs.laws.bodies_of_the_channel_have_lengths.Goals as goal

pub returns-clause-request : goal.returns-clause-request
returns-clause-request c = open_request_length

pub returns-clause-response : goal.returns-clause-response
returns-clause-response c = open_response_length

pub returns-clause-close : goal.returns-clause-close
returns-clause-close c = close_request_length

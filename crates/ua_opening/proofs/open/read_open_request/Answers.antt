use Rattle.ua_opening.specs.SecureChannel.{open_request}
use Rattle.ua_opening.proofs.SecureChannelLawful.{lawful_open_request}
use Rattle.ua_opening.specs.Message.{message}
use Rattle.ua_opening.proofs.BodyRead.{read_answers}
use Rattle.ua_opening.proofs.MessagesLawful.{lawful_message}
use Rattle.ua_opening.proofs.open.read_open_request.Goals as goal

pub returns-clause-read : goal.returns-clause-read
returns-clause-read g c = read_answers (message 446 open_request) (lawful_message 446 lawful_open_request) (g.S.Source.octets c.args.src.now)
    c.read_message.result c.read_message.ensures.found c.read_message.ensures.none

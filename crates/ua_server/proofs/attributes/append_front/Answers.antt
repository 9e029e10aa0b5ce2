use Rattle.std.proofs.Common.{◌∙◌}
use Rattle.ua_server.proofs.GoodHeader.{read_front}
use Rattle.ua_server.proofs.attributes.append_front.Goals as goal

pub returns-clause-ok : goal.returns-clause-ok
returns-clause-ok c = c.in_ok-extend_from_slice.ensures.items ∙ read_front c.args.out.now.items

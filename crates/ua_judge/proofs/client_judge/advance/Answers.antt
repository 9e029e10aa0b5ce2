use Rattle.std.proofs.Common.{◌∙◌}
use Rattle.ua_judge.proofs.ServerTakes.{advances_by, goes_at, within_piece}
use Rattle.ua_judge.proofs.client_judge.advance.Goals as goal

pub returns-clause-takes : goal.returns-clause-takes
returns-clause-takes c = λ limits channel octets s.
    let g = goes_at limits channel c.args.server.now octets s in
    advances_by limits channel _ _ _ c.advance.new.self c.args.piece.now octets c.advance.result.size c.advance.result.outcome g.0
    (c.advance.ensures.limits ∙ s.limits_are) (c.advance.ensures.channel ∙ s.channel_is) (c.advance.ensures.answers octets g.0 g.1)

pub returns-clause-within : goal.returns-clause-within
returns-clause-within c = within_piece c.args.piece.now c.advance.result.size c.advance.result.outcome c.advance.ensures.progress

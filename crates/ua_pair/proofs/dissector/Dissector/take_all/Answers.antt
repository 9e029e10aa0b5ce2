use Rattle.ua_pair.proofs.Dissections.{piece_added}
use Rattle.ua_pair.proofs.dissector.Dissector.take_all.Goals as goal

pub returns-clause-takes : goal.returns-clause-takes
returns-clause-takes c =
    piece_added c.push_str.result c.args.self.now c.push_piece-2.new.self c.args.piece.now _ _ _ _ _ c.in_ok-push_piece.ensures.takes c.new-text.ensures.bytes
    c.deref.ensures c.push_str.ensures.bytes

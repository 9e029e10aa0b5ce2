use Rattle.ua_channel.specs.inside.ClientParts.{IsTakenWith, chunk_token_reasons, known_reasons}
use Rattle.ua_channel.proofs.ClientChunks.{judged_behind, stops_among}
use Rattle.ua_channel.proofs.client.talking.Talking.on_chunk.Goals as goal

pub returns-in-Ok : goal.returns-in-Ok
returns-in-Ok c = λ cs s once.
    judged_behind (chunk_token_reasons c.args.self.now c.args.chunk) (known_reasons c.args.self.now cs c.args.chunk)
    (IsTakenWith c.args.self.now cs c.args.chunk c.on_known.new.self) (IsTakenWith c.args.self.now cs c.args.chunk c.on_known.new.self) c.on_known.result
    c.in-Ok.ensures.0 (λ e w. w) (c.on_known.ensures cs s once)

pub returns-in-Err : goal.returns-in-Err
returns-in-Err c = λ cs s once. stops_among (chunk_token_reasons c.args.self.now c.args.chunk) (known_reasons c.args.self.now cs c.args.chunk) c.in-Err.fault
    c.in-Err.ensures

use Rattle.std.proofs.Common.{true}
use Rattle.ua_texts.proofs.Codes.{padded_output}
use Rattle.ua_texts.proofs.text.push_code.Goals as goal

pub returns : goal.returns
returns c = rw (padded_output true 8 _ _ c.args.status.code c.in_radix.ensures c.laid_out.ensures) at c.write.ensures.bytes

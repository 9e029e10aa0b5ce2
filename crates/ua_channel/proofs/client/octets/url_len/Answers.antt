use Rattle.std.proofs.Common.{sym}
use Rattle.ua_channel.proofs.ClientFrames.{short_some}
use Rattle.ua_channel.proofs.client.octets.url_len.Goals as goal

pub returns-in-Some-clause-short : goal.returns-in-Some-clause-short
returns-in-Some-clause-short c = short_some c.args.url.now c.in-Some.url.now c.requires (sym c.in-Some.ensures.text)

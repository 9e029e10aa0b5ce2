use Rattle.ua_texts.proofs.Codes.{octet_output}
use Rattle.ua_texts.proofs.text.push_escaped_octet.Goals as goal

pub returns : goal.returns
returns c = rw (octet_output _ _ c.args.octet c.in_radix.ensures c.laid_out.ensures c.ranges.octet.fits) at c.write.ensures.bytes

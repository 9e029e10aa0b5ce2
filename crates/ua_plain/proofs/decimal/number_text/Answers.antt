use Rattle.std.proofs.Common.{true, false}
use Rattle.ua_plain.proofs.Decimals.{number_named, number_laid_out}
use Rattle.ua_plain.proofs.decimal.number_text.Goals as goal

pub returns-in-inf : goal.returns-in-inf
returns-in-inf g c = record { form = rw c.text_of.ensures (number_named _ _ _ _ c.format.result.now false c.in-inf.is c.format.ensures.parses) }

pub returns-in-text : goal.returns-in-text
returns-in-text g c = record { form = rw c.text_of-in-text.ensures (number_named _ _ _ _ c.format.result.now true c.in-text.is c.format.ensures.parses) }

pub returns-in_default : goal.returns-in_default
returns-in_default g c =
    record {
      form = rw c.text_of-in_default.ensures (number_laid_out _ _ _ _ c.format.result.now c.requires c.in_default.not-inf c.in_default.not-text
          c.format.ensures.parses c.format.ensures.layout c.format.ensures.word);
    }

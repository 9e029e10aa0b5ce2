-- The table of encodings is in the order of its numbers.
use Rattle.std.proofs.Common.{◌≡◌, true, refl}
use Rattle.ua_texts.specs.Names.{rises_from}
use Rattle.ua_pair.specs.Encodings.{encodings}

-- by computation: each number stands in one row
pub encodings_rise : rises_from 0 encodings ≡ true
unfolding rises_from encodings
encodings_rise = refl

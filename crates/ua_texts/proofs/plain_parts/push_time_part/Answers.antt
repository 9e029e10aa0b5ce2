use Rattle.std.proofs.Common.{refl}
use Rattle.ua_texts.specs.PlainParts.{IsMomentPart, IsTimePart}
use Rattle.ua_texts.proofs.PlainAdds.{adds_then}
use Rattle.ua_texts.proofs.plain_parts.push_time_part.Goals as goal

pub returns : goal.returns
returns c =
    adds_then c.push_picoseconds_part.result _ _ _ _ (IsMomentPart c.args.name.now c.args.moment) (IsTimePart c.args.name.now c.args.moment c.args.picoseconds)
    c.in_ok-push_moment_part.ensures c.push_picoseconds_part.ensures (λ t h. (t, refl, h))

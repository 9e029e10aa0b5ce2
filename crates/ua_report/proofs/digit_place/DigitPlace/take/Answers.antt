use Rattle.ua_report.proofs.Places.{place_behind}
use Rattle.ua_report.proofs.digit_place.DigitPlace.take.Goals as goal

pub returns : goal.returns
returns c = λ text at. place_behind text c.args.piece.now c.args.self.now c.advance.new.self c.advance.ensures.kept c.advance.ensures.next at

use Rattle.ua_frame.proofs.Readers.{answers_by}
use Rattle.ua_frame.proofs.reader.FrameReader.take.Goals as goal

pub returns-clause-stands : goal.returns-clause-stands
returns-clause-stands c = λ octets frames s. answers_by c.args.self.now c.advance.new.self c.args.piece.now c.advance.result octets frames c.advance.ensures s

use Rattle.std.proofs.Common.{◌≡◌, ◌++◌, sym, ap, subst, List, ℕ, String, Global}
use Rattle.std.specs.Prelude.{string_bytes}
use Rattle.ua_pair.specs.Dissecting.{TellsMore}
use Rattle.ua_report.specs.declared.hex_pieces.HexPieces.{HexPieces}
use Rattle.ua_program.proofs.Readings.{as_digits, digit_piece, plain_piece, tells_so}
use Rattle.ua_program.proofs.dissect.push_piece.Goals.{then-asked+in_ok-octets+in_ok-take, else-asked+in_ok-take-2}
use Rattle.ua_program.proofs.dissect.push_piece.Goals as goal

pub returns-clause-lines : goal.returns-clause-lines
returns-clause-lines c = λ content told s.
    let hex = c.args.asked.now.hex in
    let options = c.args.asked.now.options in
    let half = c.args.digits.now.half in
    let piece = c.args.piece.now in
    elim c.if-asked.branch [
      | then-asked+in_ok-octets+in_ok-take w ↦
          let more = w.in_ok-octets.octets.items in
          tells_so hex options c.if-asked.digits.half w.take.new.self.half c.if-asked.dissector w.take-then-asked.new.self (content ++ piece)
          (s.octets ++ more) told
          (string_bytes c.args.text.now) (string_bytes c.if-asked.text) (string_bytes w.take-then-asked.new.out)
          (ap (λ (d : HexPieces). d.half) w.digits-is) w.dissector-is (ap (λ (t : String Global). string_bytes t) w.text-is)
          (digit_piece hex w.take.new.self.half (content ++ piece) (s.octets ++ more) w.if-asked.true
          (w.in_ok-octets.ensures.octets content s.octets (as_digits hex half content s.octets w.if-asked.true s.holds)))
          (subst (λ (o : List ℕ). TellsMore w.take-then-asked.new.self options (s.octets ++ o) told (string_bytes c.args.text.now)
          (string_bytes w.take-then-asked.new.out)) w.as_slice.ensures.value
          (w.in_ok-take.ensures.told options s.octets told s.stands))
      | else-asked+in_ok-take-2 w ↦
          tells_so hex options c.if-asked.digits.half c.args.digits.now.half c.if-asked.dissector w.take-else-asked.new.self (content ++ piece)
          (s.octets ++ piece) told
          (string_bytes c.args.text.now) (string_bytes c.if-asked.text) (string_bytes w.take-else-asked.new.out)
          (ap (λ (d : HexPieces). d.half) w.digits-is) w.dissector-is (ap (λ (t : String Global). string_bytes t) w.text-is)
          (plain_piece hex half half content s.octets piece w.if-asked.false s.holds)
          (w.in_ok-take-2.ensures.told options s.octets told s.stands)
    ]

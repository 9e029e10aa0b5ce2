use Rattle.std.proofs.Common.{◌≡◌, ◌⊎◌, ◌++◌, inl, inr, ℕ, List, refl, sym, ◌∙◌, ap}
use Rattle.std.proofs.lemmas.Result.{IfOk-weaker, IfErr-weaker}
use Rattle.hex.specs.Hex.{decode_of}
use Rattle.ua_report.specs.Digits.{HexSoFar, IsNeverHex}
use Rattle.ua_report.proofs.HexParts.{hex_more, hex_never}
use Rattle.ua_report.proofs.hex_pieces.HexPieces.take.Goals as goal

pub returns-clause-octets : goal.returns-clause-octets
returns-clause-octets c = λ content octets s.
    IfOk-weaker c.decode_digits.result _ _
    (λ more decoded. hex_more c.args.self.now.half c.split_half-self.result content c.args.piece.now octets more.items c.in_ok-digits.digits.items
    c.split_half-self.new.digits.items
    s c.in_ok-digits.ensures c.split_half-self.ensures.parts (ap decode_of (sym c.as_slice.ensures.value) ∙ decoded))
    c.decode_digits.ensures.octets

pub returns-clause-faults : goal.returns-clause-faults
returns-clause-faults c = λ content octets s.
    IfErr-weaker c.decode_digits.result _ _
    (λ fault why. elim why [
      | inl memory ↦ inl memory
      | inr refused ↦
          inr (
            refused.0,
            hex_never c.args.self.now.half c.split_half-self.result content c.args.piece.now octets c.in_ok-digits.digits.items
                c.split_half-self.new.digits.items
                s c.in_ok-digits.ensures c.split_half-self.ensures.parts c.split_half-self.ensures.pairs
                (λ y e. refused.1 y (ap decode_of c.as_slice.ensures.value ∙ e)),
          )
    ])
    c.decode_digits.ensures.faults

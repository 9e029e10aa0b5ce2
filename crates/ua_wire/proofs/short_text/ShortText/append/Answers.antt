use Rattle.std.proofs.Common.{ap, sym, ◌∙◌, ◌++◌, List, ℕ, arith}
use Rattle.ua_wire.proofs.NumbersRead.{little_bytes-is}
use Rattle.ua_wire.specs.Number.{number_octets}
use Rattle.ua_wire.proofs.ShortWritten.{counted_written}
use Rattle.ua_wire.proofs.short_text.ShortText.append.Goals as goal

pub returns-clause-ok : goal.returns-clause-ok
returns-clause-ok c =
    c.in_ok-extend_from_slice.ensures.items
    ∙ ap (λ (t : List ℕ). c.args.out.now.items ++ t)
    (counted_written c.self.inside.len c.write_u32.new.buf _ c.copy_from_slice.new.self c.args.self.now c.self.inside.octets
    (c.write_u32.ensures ∙ little_bytes-is 4 c.from.result ∙ ap (number_octets 4) c.from.ensures) (omega arith) c.copy_from_slice.ensures.after (omega arith)
    (sym c.self.view_is))

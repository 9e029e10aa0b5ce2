use Rattle.std.proofs.Common.{ℕ, string_bytes, subst, sym}
use Rattle.std.specs.String.Boundary.{IsSplitPoint}
use Rattle.ua_pair.proofs.CutBacks.{cut_back, on_err}
use Rattle.ua_pair.proofs.stream.dissect.Goals as goal

pub truncate-requires : goal.truncate-requires
truncate-requires c = λ fits.
    subst (λ (n : ℕ). IsSplitPoint (string_bytes c.push_lines-added.new.out) n) (sym c.len-len.ensures)
    (cut_back c.args.out.now c.push_lines-added.new.out (on_err c.push_lines-added.result c.if-is_err.ensures.value c.push_lines-added.ensures.err))

use Rattle.std.proofs.Common.{ℕ, ◌*◌, Bool, not, ◌&&◌, ltb, sym, ◌∙◌, ap}
use Rattle.std.proofs.lemmas.Bool.{ne_eqb}
use Rattle.ua_chunk.proofs.Pieces.{more_pieces}
use Rattle.ua_chunk.proofs.lane.has_more_pieces.Goals as goal

pub returns-then-limit-ne0 : goal.returns-then-limit-ne0
returns-then-limit-ne0 c = λ body is.
    ap (λ (m : ℕ). ltb (m * c.from-then-limit-ne0.result) c.args.len) c.from.ensures
    ∙ ap (λ (m : ℕ). ltb (c.args.limit * m) c.args.len) c.from-then-limit-ne0.ensures
    ∙ sym (ap (λ (b : Bool). not b && ltb (c.args.limit * c.args.room) c.args.len) (ne_eqb c.args.limit 0 c.if-limit-ne0.true))
    ∙ sym (more_pieces c.args.limit c.args.room c.args.len body c.requires is)

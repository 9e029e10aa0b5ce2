use Rattle.std.proofs.Common.{◌≡◌, ℕ, ◌↔◌, length, Option, None, sym, ◌∙◌, ap, subst}
use Rattle.ua_chunk.specs.Cutting.{cut_refusal, limit_of, least, most_octets, IsAtMost}
use Rattle.ua_chunk.proofs.MostOctets.{most_is}
use Rattle.ua_chunk.proofs.lane.Lane.most_octets.Goals as goal

pub returns-clause-most : goal.returns-clause-most
unfolding most_octets
returns-clause-most c =
    c.least.ensures
    ∙ ap (λ (o : Option ℕ). least o c.limit_of-chunks.result) c.limit_of-octets.ensures
    ∙ ap (λ (o : Option ℕ). least (limit_of c.args.self.now.octets 1) o) c.limit_of-chunks.ensures

pub returns-clause-cut : goal.returns-clause-cut
returns-clause-cut c = λ body pos.
    subst (λ (o : Option ℕ). (cut_refusal c.args.self.now body ≡ None) ↔ IsAtMost (length body) o) (sym (returns-clause-most c))
    (most_is c.args.self.now body pos)

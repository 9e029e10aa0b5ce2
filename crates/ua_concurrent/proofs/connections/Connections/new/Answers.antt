use Rattle.std.proofs.Common.{[], ℕ, None, Option, List, subst, sym, ap, ◌∙◌, arith}
use Rattle.std.specs.Prelude.{replicate}
use Rattle.ua_concurrent.specs.Standing.{StandTogether}
use Rattle.ua_concurrent.specs.Talk.{Talk}
use Rattle.ua_concurrent.proofs.Together.{together_none}
use Rattle.ua_concurrent.proofs.connections.Connections.new.Goals as goal

pub returns-clause-free : goal.returns-clause-free
returns-clause-free g c = c.places.invariant ∙ ap (λ (n : ℕ). replicate n None) (omega (arith, c.places-test.false, c.places.auto.counter-end))

pub returns-clause-stand : goal.returns-clause-stand
returns-clause-stand g c = λ first.
    subst (λ (all : List (Option (Talk _))). StandTogether g.S.Socket.seen [] first first 0 all) (sym c.places.invariant)
    (together_none g.S.Socket.seen first c.places.counter)

use Rattle.std.proofs.Common.{refl}
use Rattle.ua_pair.specs.declared.dissector.State.TheVariants as state
use Rattle.ua_pair.proofs.Dissections.{stands_first}
use Rattle.ua_pair.proofs.dissector.Dissector.new.Goals as goal

pub returns : goal.returns
returns c =
    stands_first (record { alloc = c.args.alloc; state = state.Going; reader = c.new.result; teller = c.new-2.result; place = 0 }) c.args.options
    refl c.new.ensures c.new-2.ensures.stands c.new-2.ensures.options refl

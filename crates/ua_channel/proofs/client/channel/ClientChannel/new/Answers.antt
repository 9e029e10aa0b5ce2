use Rattle.std.proofs.Common.{refl, ◌∙◌, ap}
use Rattle.ua_frame.specs.declared.gate.Gate.{Gate}
use Rattle.ua_frame.specs.declared.kind.Kind.TheVariants as kind
use Rattle.ua_frame.specs.Kinds.{gate_with}
use Rattle.ua_channel.proofs.ClientStands.{stands_first}
use Rattle.ua_channel.proofs.client.channel.ClientChannel.new.Goals as goal

pub returns-clause-stands : goal.returns-clause-stands
returns-clause-stands c =
    stands_first _ c.taking-gate.result c.new-2.ensures
    (c.taking-gate.ensures ∙ ap (λ (g : Gate). gate_with g kind.Err) (c.taking.ensures ∙ ap (λ (g : Gate). gate_with g kind.Ack) c.new.ensures)) refl refl

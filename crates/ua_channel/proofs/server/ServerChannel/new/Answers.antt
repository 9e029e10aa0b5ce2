use Rattle.std.proofs.Common.{refl, ap, ◌∙◌}
use Rattle.ua_frame.specs.declared.gate.Gate.{Gate}
use Rattle.ua_frame.specs.Reader.{open_reader}
use Rattle.std.proofs.Common.{[]}
use Rattle.ua_channel.proofs.Starts.{stands_first, goes_first}
use Rattle.ua_channel.proofs.server.ServerChannel.new.Goals as goal

pub returns-clause-stands : goal.returns-clause-stands
returns-clause-stands c = stands_first _ (c.new.ensures ∙ ap (λ (g : Gate). open_reader g []) c.hello_gate.ensures) refl refl

pub returns-clause-goes : goal.returns-clause-goes
returns-clause-goes c = goes_first _ (stands_first _ (c.new.ensures ∙ ap (λ (g : Gate). open_reader g []) c.hello_gate.ensures) refl refl)

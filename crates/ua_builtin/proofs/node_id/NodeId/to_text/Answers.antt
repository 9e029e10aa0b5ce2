use Rattle.std.proofs.Common.{◌++◌, List, ℕ, ap, ◌∙◌, arith}
use Rattle.ua_builtin.specs.NodeText.{identifier_text}
use Rattle.ua_builtin.proofs.Texts.{node_names}
use Rattle.ua_builtin.proofs.node_id.NodeId.to_text.Goals as goal

pub returns-clause-names : goal.returns-clause-names
returns-clause-names c =
    node_names c.args.self.now _ (omega arith)
    (c.in_ok-append_text.ensures.text ∙ ap (λ (t : List ℕ). t ++ identifier_text c.args.self.now.identifier) c.in_ok-text.ensures)
    c.in_ok-append_text.ensures.names

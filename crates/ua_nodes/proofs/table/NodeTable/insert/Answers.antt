use Rattle.std.proofs.Common.{◌≡◌, ◌++◌, ◌∷◌, [], List, false, Option, None, Some, refl, sym, ◌∙◌, ap, subst}
use Rattle.std.specs.Option.{is_some}
use Rattle.indexmap.specs.IndexMap.{get}
use Rattle.indexmap.proofs.CallerLemmas.{insert_entry-new}
use Rattle.ua_builtin.specs.declared.node_id.NodeId.{NodeId}
use Rattle.ua_nodes.specs.declared.node.Variable.{Variable}
use Rattle.ua_nodes.specs.Sound.{AreNodesSound}
use Rattle.ua_nodes.specs.Table.{same_id, variable_of}
use Rattle.ua_nodes.proofs.SoundWrite.{sound_with}
use Rattle.ua_nodes.proofs.table.NodeTable.insert.Goals as goal

none_is : (o : Option Variable) → false ≡ is_some o → o ≡ None
none_is None e = refl
none_is (Some v) e = absurd cc

pub returns-clause-ok : goal.returns-clause-ok
returns-clause-ok c =
    let m = c.self.inside.nodes in
    let parts = c.into_parts-id.result in
    let e = c.into_parts-id.ensures in
    let absent : get same_id m c.args.node.id ≡ None = none_is (get same_id m c.args.node.id) c.if-contains_key.ensures in
    let none : get same_id m parts.0 ≡ None = ap (λ (p : NodeId × Variable). get same_id m p.0) e ∙ absent in
    c.in_ok-before.ensures.entries
    ∙ insert_entry-new same_id m parts.0 parts.1 none
    ∙ ap (λ (es : List (NodeId × Variable)). es ++ (parts.0, parts.1) ∷ []) c.self.view_is
    ∙ ap (λ (p : NodeId × Variable). c.args.self.now ++ p ∷ []) e

pub returns-clause-sound : goal.returns-clause-sound
returns-clause-sound c = λ before node.
    subst AreNodesSound (sym (returns-clause-ok c)) (sound_with c.args.self.now c.args.node.id (variable_of c.args.node) before node)

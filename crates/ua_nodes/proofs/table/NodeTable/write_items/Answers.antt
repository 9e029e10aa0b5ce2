use Rattle.std.proofs.Common.{◌≡◌, ◌++◌, ◌∷◌, [], List, length, refl, sym, ap, ◌∙◌, append_assoc, arith, subst}
use Rattle.std.specs.Vec.Iter.{into_iter_items}
use Rattle.ua_builtin.specs.declared.status_code.StatusCode.{StatusCode}
use Rattle.ua_structures.specs.declared.attribute.WriteValue.{WriteValue}
use Rattle.ua_nodes.specs.Sound.{AreNodesSound}
use Rattle.ua_nodes.specs.Table.{Nodes, node_at}
use Rattle.ua_nodes.specs.Write.{after_write, write_answer, write_answers}
use Rattle.ua_nodes.proofs.SoundWrite.{write_sound}
use Rattle.ua_nodes.proofs.Writes.{after_first, after_nothing, answers_after}
use Rattle.ua_nodes.proofs.table.NodeTable.write_items.Goals as goal

nothing_left : {X : Type 0} (l : List X) → length l ≡ 0 → l ≡ []
nothing_left [] h = refl
nothing_left (x ∷ xs) h = absurd (omega arith)

one_more : (done new rest more : List StatusCode) (x y : StatusCode) → new ≡ done ++ y ∷ [] → y ≡ x → more ≡ rest → done ++ x ∷ rest ≡ new ++ more
one_more done new rest more x y e f g =
    ap (λ (t : StatusCode). done ++ t ∷ rest) (sym f) ∙ sym (append_assoc done (y ∷ []) rest)
    ∙ ap (λ (t : List StatusCode). t ++ rest) (sym e) ∙ ap (λ (t : List StatusCode). new ++ t) (sym g)

pub loop-item-preserved : goal.loop-item-preserved
loop-item-preserved c =
    let at = c.loop-item in
    let rest = into_iter_items c.next.new.self in
    let item = c.in-Some.item in
    let moment = c.args.moment in
    let steps : into_iter_items at.item-iterator ≡ item ∷ rest = c.in-Some.ensures.steps.0 in
    let w = c.write_item-status.ensures in (
      at.invariant.0 ∙ ap (λ (is : List WriteValue). after_write is moment at.self) steps ∙ after_first item rest moment at.self
          ∙ ap (λ (n : Nodes). after_write rest moment n) (sym w.nodes),
      at.invariant.1 ∙ ap (λ (is : List WriteValue). at.statuses.items ++ write_answers at.self is) steps
          ∙ one_more at.statuses.items c.push.new.self.items (write_answers at.self rest) (write_answers c.write_item-status.new.self rest)
          (write_answer (node_at at.self item.node_id) item) c.write_item-status.result c.in-Ok.ensures.items w.answer
          (ap (λ (n : Nodes). write_answers n rest) w.nodes ∙ answers_after item moment at.self rest),
      (let was = at.invariant.2 in let short = ap length steps in let len = c.in-Ok.ensures.len in let room = c.in-Ok.ensures.capacity in omega arith),
      (let was = at.invariant.3 in let gone = c.in-Some.ensures.steps.1 in let short = ap length steps in omega arith),
    )

pub returns-clause-nodes : goal.returns-clause-nodes
returns-clause-nodes c =
    let at = c.loop-item in
    let none = c.in-None.ensures.steps in
    let empty : into_iter_items at.item-iterator ≡ [] = nothing_left (into_iter_items at.item-iterator) (sym at.invariant.3 ∙ none.0) in
    sym (at.invariant.0 ∙ ap (λ (is : List WriteValue). after_write is c.args.moment at.self) empty ∙ after_nothing c.args.moment at.self)

pub returns-clause-sound : goal.returns-clause-sound
returns-clause-sound c = λ before.
    subst AreNodesSound (sym (returns-clause-nodes c)) (write_sound c.args.items.items c.args.moment c.args.self.now c.moment_is_encodable.ensures before)

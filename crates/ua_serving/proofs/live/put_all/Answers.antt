use Rattle.std.proofs.Common.{◌≡◌, ◌∷◌, [], List, length, refl, sym, ap, subst, ◌∙◌, map, arith}
use Rattle.std.specs.Vec.Iter.{into_iter_items}
use Rattle.ua_node_files.specs.Changed.{entry_of}
use Rattle.ua_nodes.specs.Sound.{AreNodesSound}
use Rattle.ua_nodes.specs.declared.node.Node.{Node}
use Rattle.ua_serving.proofs.Lives.{on_err, taken_all, taken_more, taken_some}
use Rattle.ua_serving.proofs.live.put_all.Goals as goal

nothing-left : {X : Type 0} (l : List X) → length l ≡ 0 → l ≡ []
nothing-left [] h = refl
nothing-left (x ∷ xs) h = absurd (omega arith)

pub loop-node-preserved : goal.loop-node-preserved
loop-node-preserved c =
    let at = c.loop-node in
    let rest = into_iter_items c.next.new.self in
    let node = c.in-Some.node in
    let steps : into_iter_items at.node-iterator ≡ node ∷ rest = c.in-Some.ensures.steps.0 in
    let sound : AreNodesSound (map entry_of (node ∷ rest)) = subst (λ (ns : List Node). AreNodesSound (map entry_of ns)) steps at.invariant.sound in
    record {
      taken = taken_more _ _ _ rest node _ _ _ steps at.invariant.taken c.in_ok-put.ensures.put;
      len = let was = at.invariant.len in let gone = c.in-Some.ensures.steps.1 in let short = ap length steps in omega arith;
      sound = sound.1;
    }

pub put-requires : goal.put-requires
put-requires c =
    let steps = c.in-Some.ensures.steps.0 in
    let sound = subst (λ (ns : List Node). AreNodesSound (map entry_of ns)) steps c.loop-node.invariant.sound in
    record { sound = sound.0 }

pub returns-in_err-put-clause-some : goal.returns-in_err-put-clause-some
returns-in_err-put-clause-some c = on_err _ _ (taken_some _ _ _ _ _ _ c.in_err-put.ensures.kept c.loop-node.invariant.taken)

pub returns-clause-all : goal.returns-clause-all
returns-clause-all c =
    let at = c.loop-node in
    let empty = nothing-left (into_iter_items at.node-iterator) (sym at.invariant.len ∙ c.in-None.ensures.steps.0) in
    taken_all _ _ _ _ _ empty at.invariant.taken

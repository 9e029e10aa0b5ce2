use Rattle.std.proofs.Common.{◌∙◌, Bor, List, ℕ, ap, map}
use Rattle.std.proofs.lemmas.Result.{IfOk-weaker}
use Rattle.ua_node_files.proofs.Changing.{by_texts, sound_so}
use Rattle.ua_node_files.proofs.changed.pick_changed.Goals as goal

-- what borrowed lines read
abbrev texts : List (Bor (List ℕ)) → List (List ℕ)
texts lines = map (λ (line : Bor (List ℕ)). line.now) lines

pub returns-clause-picked : goal.returns-clause-picked
returns-clause-picked c =
    IfOk-weaker c.copy_new.result _ _
    (λ changed e. e ∙ by_texts _ c.args.last.now c.args.text.now _ _ c.args.nodes.now c.in_ok-known.ensures (ap texts c.deref.ensures.value
    ∙ c.in_ok-before.ensures) (ap texts c.deref-2.ensures.value ∙ c.in_ok-lines.ensures))
    c.copy_new.ensures

pub returns-clause-sound : goal.returns-clause-sound
returns-clause-sound c =
    IfOk-weaker c.copy_new.result _ _
    (λ changed e. sound_so c.args.last.now c.args.text.now _ c.args.nodes.now c.requires
    (e ∙ by_texts _ c.args.last.now c.args.text.now _ _ c.args.nodes.now c.in_ok-known.ensures (ap texts c.deref.ensures.value ∙ c.in_ok-before.ensures)
    (ap texts c.deref-2.ensures.value ∙ c.in_ok-lines.ensures)))
    c.copy_new.ensures

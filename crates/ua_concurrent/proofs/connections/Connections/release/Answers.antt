use Rattle.std.proofs.Common.{rules, ◌≡◌, ◌<◌, true, Some, Option, length, refl, sym, ap, ◌∙◌, subst, slice_get, slice_set}
use Rattle.std.specs.Prelude.{is_some}
use Rattle.std.proofs.lemmas.Option.{slice_get_read}
use Rattle.ua_concurrent.specs.Standing.{StandTogether}
use Rattle.ua_concurrent.specs.Talk.{Talk, released_at}
use Rattle.ua_concurrent.proofs.Together.{none_over, over_within, released_there, some_kept, together_freed}
use Rattle.ua_concurrent.proofs.connections.Connections.release.Goals as goal

pub returns-then-not-is_over-clause-released : goal.returns-then-not-is_over-clause-released
returns-then-not-is_over-clause-released g c = none_over _ (sym c.is_over.ensures ∙ c.if-not-is_over.true)

pub index_mut-requires : goal.index_mut-requires
index_mut-requires g c =
    let less : c.args.place < length c.args.self.now.places.items = over_within c.args.self.now.places.items c.args.place (sym c.is_over.ensures
    ∙ c.if-not-is_over.false) in
    search rules

pub returns-in-Some-clause-released : goal.returns-in-Some-clause-released
returns-in-Some-clause-released g c =
    let places = c.args.self.now.places.items in
    let within = over_within places c.args.place (sym c.is_over.ensures ∙ c.if-not-is_over.false) in
    let here : slice_get places c.args.place ≡ Some (Some c.in-Some.conversation) =
    slice_get_read places _ c.args.place c.replace.result refl within (cc (c.replace.ensures.value, c.index_mut.ensures.value)) ∙ ap Some c.in-Some.is in
    c.release.ensures ∙ sym (released_there places c.args.place (Some c.in-Some.conversation) here)

-- its connection is over, so it is not kept
pub returns-in-Some-clause-kept : goal.returns-in-Some-clause-kept
returns-in-Some-clause-kept g c =
    let places = c.args.self.now.places.items in
    let over : is_some (released_at places c.args.place) ≡ true = sym c.is_over.ensures ∙ c.if-not-is_over.false in
    let within = over_within places c.args.place over in
    let here : slice_get places c.args.place ≡ Some (Some c.in-Some.conversation) =
    slice_get_read places _ c.args.place c.replace.result refl within (cc (c.replace.ensures.value, c.index_mut.ensures.value)) ∙ ap Some c.in-Some.is in
    some_kept _ c.release.result (ap is_some (c.release.ensures ∙ sym (released_there places c.args.place (Some c.in-Some.conversation) here)) ∙ over)

pub returns-in-Some-clause-stand : goal.returns-in-Some-clause-stand
returns-in-Some-clause-stand g c = λ es first now s.
    subst (λ (gone : Option (Talk _)). StandTogether g.S.Socket.seen es first now c.args.self.now.opened
    (slice_set c.args.self.now.places.items c.args.place gone)) (sym c.replace.ensures.after)
    (together_freed g.S.Socket.seen es first now c.args.self.now.opened c.args.place c.args.self.now.places.items s)

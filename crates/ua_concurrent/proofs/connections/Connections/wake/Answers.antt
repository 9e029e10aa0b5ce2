use Rattle.std.proofs.Common.{refl, ap, ◌∙◌, Some, arith, ◌<◌, length}
use Rattle.std.proofs.lemmas.Option.{slice_get_read}
use Rattle.ua_concurrent.specs.Seen.{Seen}
use Rattle.ua_concurrent.specs.Standing.{IsAt}
use Rattle.ua_concurrent.proofs.Together.{put_woken, together_woken}
use Rattle.ua_concurrent.proofs.connections.Connections.wake.Goals as goal

pub returns-in-Some-clause-stand : goal.returns-in-Some-clause-stand
returns-in-Some-clause-stand g c = λ es first now s.
    let places = c.args.self.now.places.items in
    let within : c.args.place < length places = omega (arith, c.if-place-len.true, c.len.ensures) in
    let here : IsAt places c.args.place c.in-Some.conversation =
    slice_get_read places _ c.args.place _ refl within c.index_mut.ensures.value ∙ ap Some c.in-Some.is in
    together_woken g.S.Socket.seen es first now c.args.self.now.opened c.args.place c.in-Some.conversation c.wake.new.self places within here
    c.wake.ensures.is (ap (λ (x : Seen). x.heard) c.wake.ensures.woken) s

pub returns-in-Some-clause-woke : goal.returns-in-Some-clause-woke
returns-in-Some-clause-woke g c =
    let places = c.args.self.now.places.items in
    let within : c.args.place < length places = omega (arith, c.if-place-len.true, c.len.ensures) in
    let here : IsAt places c.args.place c.in-Some.conversation =
    slice_get_read places _ c.args.place _ refl within c.index_mut.ensures.value ∙ ap Some c.in-Some.is in
    put_woken g.S.Socket.seen c.args.readiness places c.args.place c.in-Some.conversation c.wake.new.self within here c.wake.ensures

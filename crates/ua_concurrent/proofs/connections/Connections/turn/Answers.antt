use Rattle.std.proofs.Common.{Some, refl, ap, ◌∙◌}
use Rattle.std.proofs.lemmas.Option.{slice_get_read}
use Rattle.ua_concurrent.specs.Standing.{IsAt}
use Rattle.ua_concurrent.proofs.Together.{put_stand, put_turn}
use Rattle.ua_concurrent.proofs.connections.Connections.turn.Goals as goal

pub returns-in-Some-clause-turn : goal.returns-in-Some-clause-turn
returns-in-Some-clause-turn g c =
    let places = c.args.self.now.places.items in
    let here : IsAt places c.args.place c.in-Some.conversation =
    slice_get_read places _ c.args.place _ refl c.requires c.index_mut.ensures.value ∙ ap Some c.in-Some.is in
    put_turn g.S.Socket.seen places c.args.place c.in-Some.conversation c.turn.new.self c.requires here
    c.turn.ensures.turn

pub returns-in-Some-clause-stand : goal.returns-in-Some-clause-stand
returns-in-Some-clause-stand g c = λ es first s.
    let places = c.args.self.now.places.items in
    let here : IsAt places c.args.place c.in-Some.conversation =
    slice_get_read places _ c.args.place _ refl c.requires c.index_mut.ensures.value ∙ ap Some c.in-Some.is in
    put_stand g.S.Socket.seen g.A.Application.acts places c.args.place c.in-Some.conversation c.turn.new.self first
    (c.args.services.now, c.args.application.now) (c.turn.new.services, c.turn.new.application) c.args.self.now.opened
    c.requires here c.turn.ensures.turn.number_is (λ all. c.turn.ensures.went all first) es s

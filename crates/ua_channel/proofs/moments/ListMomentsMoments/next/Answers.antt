use Rattle.std.proofs.Common.{rules, arith, ◌≤◌, ◌<◌, ◌-◌, List, length, get_or, take, drop, w64, ◌∙◌, ap, subst}
use Rattle.std.specs.Prelude.{ℤ, pos}
use Rattle.std.proofs.lemmas.Int.{to_z-of_z}
use mir.Val.{SFits}
use Rattle.ua_channel.proofs.MomentLists.{left, none_left, first_left, one_stays, next_left}
use Rattle.ua_channel.proofs.moments.ListMomentsMoments.next.Goals as goal

pub returns-in-empty : goal.returns-in-empty
returns-in-empty c =
    none_left c.args.self.now (subst (λ (t : List ℤ). length t < 1) (left c.self.inside.moments.items c.deref.result.now c.args.self.now c.self.inside.place
    c.deref.ensures.value c.self.view_is) c.in-empty.len_below)

pub returns-in-len1 : goal.returns-in-len1
returns-in-len1 c =
    let list = c.deref.result.now in
    let place = c.self.inside.place in
    let is = left c.self.inside.moments.items list c.args.self.now place c.deref.ensures.value c.self.view_is in
    let some = subst (λ (t : List ℤ). 1 ≤ length t) is c.in-len1.len_at_least in
    let fits : SFits w64 (get_or (take (length list - place) (drop place list)) 0 (pos 0)) = search rules in (
      to_z-of_z w64 _ fits ∙ ap (λ (t : List ℤ). get_or t 0 (pos 0)) is ∙ first_left c.args.self.now some,
      one_stays c.args.self.now some (subst (λ (t : List ℤ). length t < 2) is c.in-len1.len_below),
    )

pub returns-in-len1-up : goal.returns-in-len1-up
returns-in-len1-up c =
    let list = c.deref.result.now in
    let place = c.self.inside.place in
    let is = left c.self.inside.moments.items list c.args.self.now place c.deref.ensures.value c.self.view_is in
    let more = subst (λ (t : List ℤ). 2 ≤ length t) is c.in-len1-up.len_at_least in
    let fits : SFits w64 (get_or (take (length list - place) (drop place list)) 0 (pos 0)) = search rules in (
      to_z-of_z w64 _ fits ∙ ap (λ (t : List ℤ). get_or t 0 (pos 0)) is ∙ first_left c.args.self.now (omega (arith, more)),
      next_left c.self.inside.moments.items c.args.self.now place c.self.view_is more,
    )

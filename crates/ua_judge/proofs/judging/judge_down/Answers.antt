use Rattle.std.proofs.Common.{◌≡◌, ◌∙◌, ℕ, List, length, map, drop, ap, subst}
use Rattle.std.proofs.lemmas.Result.{IfOk-weaker}
use Rattle.ua_judge.specs.Marks.{placed}
use Rattle.ua_judge.specs.Renumbered.{IsRenumbered}
use Rattle.ua_judge.specs.Verdicts.{IsServerVerdict}
use Rattle.ua_judge.specs.declared.field.Field.TheVariants.{Request}
use Rattle.ua_judge.specs.declared.named.Named.{Named}
use Rattle.ua_judge.proofs.judging.judge_down.Goals as goal

pub returns : goal.returns
returns c =
    let place = placed c.args.marks.now (length c.args.down.now) in
    let names : c.in_ok-names.names.items ≡ map place c.in_ok-requests.requests.items = c.in_ok-names.ensures ∙ ap (map place) c.as_slice.ensures.value in
    let later : c.later.result.now ≡ drop 1 (map place c.in_ok-requests.requests.items) = c.later.ensures ∙ ap (drop 1) (c.as_slice-3.ensures.value ∙ names) in
    IfOk-weaker c.judge_server.result _ _
    (λ verdict is. record {
      requests = c.in_ok-requests.requests.items;
      are = c.in_ok-requests.ensures;
      limits = c.in_ok-limits.limits;
      limits_are = c.in_ok-limits.ensures;
      octets = c.in_ok-octets.octets.items;
      renumbered = subst (λ (ns : List Named). IsRenumbered Request ns c.args.down.now c.in_ok-octets.octets.items) (c.as_slice-2.ensures.value
          ∙ names) c.in_ok-octets.ensures;
      is =
          subst (λ (ns : List Named). IsServerVerdict c.in_ok-limits.limits ns c.in_ok-octets.octets.items verdict) later
          (subst (λ (o : List ℕ). IsServerVerdict c.in_ok-limits.limits c.later.result.now o verdict) c.as_slice-4.ensures.value is);
    })
    c.judge_server.ensures

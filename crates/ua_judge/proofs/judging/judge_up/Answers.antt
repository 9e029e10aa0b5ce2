use Rattle.std.proofs.Common.{◌≡◌, ◌∙◌, ℕ, List, map, ap, subst}
use Rattle.std.proofs.lemmas.Result.{IfOk-weaker}
use Rattle.ua_judge.specs.Judged.{channel_of_openings, token_name}
use Rattle.ua_judge.specs.Renumbered.{IsRenumbered}
use Rattle.ua_judge.specs.Verdicts.{IsClientVerdict}
use Rattle.ua_judge.specs.declared.field.Field.TheVariants.{Token}
use Rattle.ua_judge.specs.declared.named.Named.{Named}
use Rattle.ua_judge.proofs.judging.judge_up.Goals as goal

pub returns : goal.returns
returns c =
    let names : c.in_ok-names.names.items ≡ map token_name c.in_ok-openings.openings.items = c.in_ok-names.ensures
    ∙ ap (map token_name) c.as_slice.ensures.value in
    let channel : c.channel_of-channel.result ≡ channel_of_openings c.in_ok-openings.openings.items = c.channel_of-channel.ensures
    ∙ ap channel_of_openings c.as_slice-3.ensures.value in
    IfOk-weaker c.judge_client.result _ _
    (λ verdict is. record {
      openings = c.in_ok-openings.openings.items;
      are = c.in_ok-openings.ensures;
      limits = c.in_ok-limits.limits;
      limits_are = c.in_ok-limits.ensures;
      octets = c.in_ok-octets.octets.items;
      renumbered = subst (λ (ns : List Named). IsRenumbered Token ns c.args.up.now c.in_ok-octets.octets.items) (c.as_slice-2.ensures.value
          ∙ names) c.in_ok-octets.ensures;
      is =
          subst (λ (n : ℕ). IsClientVerdict c.in_ok-limits.limits n c.in_ok-octets.octets.items verdict) channel
          (subst (λ (o : List ℕ). IsClientVerdict c.in_ok-limits.limits c.channel_of-channel.result o verdict) c.as_slice-4.ensures.value is);
    })
    c.judge_client.ensures

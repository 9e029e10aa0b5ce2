use Rattle.std.proofs.Common.{◌++◌, ◌∷◌, [], ℕ, length, true, refl, subst, sym}
use Rattle.ua_builtin.specs.Reasons.{first_reason}
use Rattle.ua_channel.specs.Asks.Asking.{Renewal}
use Rattle.ua_channel.specs.Client.{ClientStands}
use Rattle.ua_channel.specs.declared.client.channel.ClientChannel.{ClientChannel}
use Rattle.ua_judge.specs.Verdicts.{GoesOnAfter, asking_reasons}
use Rattle.ua_judge.proofs.ClientTakes.{judged_so}
use Rattle.ua_judge.proofs.server_judge.renew.Goals as goal

pub returns-in-Ok-clause-asks : goal.returns-in-Ok-clause-asks
returns-in-Ok-clause-asks c = λ requests asks octets s. record {
  frames = s.frames;
  rest = s.rest;
  stands =
      subst (λ (id : ℕ). ClientStands c.renew.new.self (asks ++ (length octets, Renewal id) ∷ []) octets s.frames s.rest)
      (c.in-Ok.ensures.renews asks octets s.frames s.rest s.stands).id_is (c.in-Ok.ensures.stands asks octets s.frames s.rest s.stands);
  fit = s.fit;
}

pub returns-in-Ok-clause-judged : goal.returns-in-Ok-clause-judged
returns-in-Ok-clause-judged c = λ requests asks octets s. (
  first_reason (asking_reasons true s.frames asks),
  (
    judged_so requests c.args.client.now _ asks octets true _ refl s refl,
    c.in-Ok.ensures.refuses asks
        octets s.frames s.rest s.stands,
  ),
)

pub returns-in-Err-clause-asks : goal.returns-in-Err-clause-asks
returns-in-Err-clause-asks c = λ requests asks octets s. subst (λ (x : ClientChannel). GoesOnAfter requests x asks octets) (sym c.in-Err.ensures.unchanged) s

pub returns-in-Err-clause-judged : goal.returns-in-Err-clause-judged
returns-in-Err-clause-judged c = λ requests asks octets s. (
  first_reason (asking_reasons true s.frames asks),
  (
    judged_so requests c.args.client.now _ asks octets true _ refl s refl,
    c.in-Err.ensures.refuses asks
        octets s.frames s.rest s.stands,
  ),
)

use Rattle.std.proofs.Common.{◌∷◌, [], List, ℕ, sym, refl, subst, Ok, Err}
use Rattle.ua_channel.specs.Client.{phase_of}
use Rattle.ua_client.specs.Sent.{AnswersBy, RefusesBy, group_refusal, place_by}
use Rattle.ua_client.specs.declared.fault.ClientFault.{ClientFault}
use Rattle.ua_client.proofs.Judging.{one-judged, refuses-at}
use Rattle.ua_client.proofs.group.judge_one.Goals as goal

pub returns-in-Ok-clause-judged : goal.returns-in-Ok-clause-judged
returns-in-Ok-clause-judged c = one-judged (phase_of c.args.channel.now) c.args.message.now (Ok c.in-Ok.body) c.in-Ok.ensures.judged

pub returns-in-Err-clause-judged : goal.returns-in-Err-clause-judged
returns-in-Err-clause-judged c =
    subst (λ (f : ClientFault). AnswersBy {A = List ℕ} (group_refusal (phase_of c.args.channel.now) 0 (c.args.message.now ∷ [])) (Err f))
    (sym c.fault_at.ensures.fault)
    (one-judged {A = List ℕ} (phase_of c.args.channel.now) c.args.message.now (Err c.in-Err.fault) c.in-Err.ensures.judged)

pub returns-in-Err-clause-place : goal.returns-in-Err-clause-place
returns-in-Err-clause-place c =
    subst (λ (n : ℕ). RefusesBy (phase_of c.args.channel.now) (c.args.message.now ∷ []) n c.fault_at.result.fault) (sym c.fault_at.ensures.request)
    (subst (λ (f : ClientFault). RefusesBy (phase_of c.args.channel.now) (c.args.message.now ∷ []) (place_by c.in-Err.fault 0) f)
    (sym c.fault_at.ensures.fault)
    (refuses-at (phase_of c.args.channel.now) (c.args.message.now ∷ []) 0 c.args.message.now c.in-Err.fault refl refl refl c.in-Err.ensures.judged))

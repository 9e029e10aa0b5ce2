use Rattle.std.proofs.Common.{rules, ◌≡◌, ◌≤◌, ◌++◌, ◌∷◌, [], ℕ, List, None, Err, sym, ◌∙◌, ap, subst, arith, length, take}
use Rattle.ua_channel.specs.Client.{phase_of}
use Rattle.std.proofs.lemmas.List.{length-append}
use Rattle.ua_client.specs.Sent.{AnswersBy, RefusesBy, bodies_of, place_by, request_refusal}
use Rattle.ua_client.specs.declared.fault.ClientFault.{ClientFault}
use Rattle.ua_client.proofs.Judging.{take-next, take-count, group-rest, group-more, bodies-next, refuses-at}
use Rattle.ua_client.proofs.group.judge_group.Goals as goal

pub returns-in-Err-clause-place : goal.returns-in-Err-clause-place
returns-in-Err-clause-place c =
    let at : c.len-place.result ≡ c.loop-message.message-index = omega (arith, c.len-place.ensures, c.loop-message.bodies.ok.0, c.loop-message.invariant.count)
    in
    let few : c.loop-message.message-index ≤ length c.args.requests.now = omega (arith, c.loop-message-test.true) in
    let place : c.fault_at.result.request ≡ place_by c.in-Err.fault c.loop-message.message-index = c.fault_at.ensures.request
    ∙ ap (place_by c.in-Err.fault) at in
    subst (λ (n : ℕ). RefusesBy (phase_of c.args.channel.now) c.args.requests.now n c.fault_at.result.fault) (sym place)
    (subst (λ (f : ClientFault). RefusesBy (phase_of c.args.channel.now) c.args.requests.now (place_by c.in-Err.fault c.loop-message.message-index) f)
    (sym c.fault_at.ensures.fault)
    (refuses-at (phase_of c.args.channel.now) c.args.requests.now c.loop-message.message-index c.message-item.result c.in-Err.fault
    (take-next c.args.requests.now c.loop-message.message-index c.message-item.result _ c.loop-message-test.true c.message-item.is)
    (take-count c.args.requests.now c.loop-message.message-index few) c.loop-message.invariant.none
    (subst (λ (n : ℕ). AnswersBy {A = Unit {0}} (request_refusal (phase_of c.args.channel.now) n c.message-item.result) (Err c.in-Err.fault)) at
    c.in-Err.ensures.judged)))

pub loop-message-preserved : goal.loop-message-preserved
loop-message-preserved c =
    let at : c.len-place.result ≡ c.loop-message.message-index = omega (arith, c.len-place.ensures, c.loop-message.bodies.ok.0, c.loop-message.invariant.count)
    in
    let few : c.loop-message.message-index ≤ length c.args.requests.now = omega (arith, c.loop-message-test.true) in
    let is = take-next c.args.requests.now c.loop-message.message-index c.message-item.result _ c.loop-message-test.true c.message-item.is in
    let free : request_refusal (phase_of c.args.channel.now) c.loop-message.message-index c.message-item.result ≡ None =
    subst (λ (n : ℕ). request_refusal (phase_of c.args.channel.now) n c.message-item.result ≡ None) at c.in-Ok.ensures.judged in
    let pushed : c.push.new.self.items ≡ c.loop-message.bodies.items ++ c.in-Ok.body ∷ [] = search rules in
    let count = ap length pushed in
    let sum = length-append c.loop-message.bodies.items (c.in-Ok.body ∷ []) in
    record {
      refusal = c.loop-message.invariant.refusal
          ∙ group-rest (phase_of c.args.channel.now) c.args.requests.now c.loop-message.message-index c.message-item.result _ c.loop-message-test.true
          c.message-item.is free;
      none = group-more (phase_of c.args.channel.now) c.args.requests.now c.loop-message.message-index c.message-item.result is
          (take-count c.args.requests.now c.loop-message.message-index few) c.loop-message.invariant.none free;
      bodies = pushed ∙ (ap (λ (bs : List (List ℕ)). bs ++ c.in-Ok.body ∷ []) c.loop-message.invariant.bodies
          ∙ (ap (λ (b : List ℕ). bodies_of (take c.loop-message.message-index c.args.requests.now) ++ b ∷ []) c.in-Ok.ensures.body
          ∙ (sym (bodies-next (take c.loop-message.message-index c.args.requests.now) c.message-item.result) ∙ ap bodies_of (sym is))));
      count = omega (arith, count, sum, c.loop-message.invariant.count);
    }

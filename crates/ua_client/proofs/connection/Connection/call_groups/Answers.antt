use Rattle.std.proofs.Common.{◌≡◌, ◌≤◌, ◌<◌, ◌+◌, Err, refl, sym, ◌∙◌, ap, subst, arith, length, take, drop}
use Rattle.std.specs.Prelude.{ℕ}
use Rattle.ua_client.specs.Hearing.{failures_behind}
use Rattle.ua_client.specs.declared.fault.ClientFault.{ClientFault}
use Rattle.ua_client.proofs.Grouping.{between, called-nothing, called-more, called-to, calls-broken, calls-all, split-at}
use Rattle.ua_client.proofs.Grouping.{group-some, group-few, length-between, all-taken, taken-count, group-full, more-behind}
use Rattle.ua_client.proofs.connection.Connection.call_groups.Goals as goal

pub loop-start-init : goal.loop-start-init
loop-start-init g c = record {
  within = omega arith;
  count = omega arith;
  called = called-nothing (0 < length c.args.requests.now) c.args.self.now (g.L.Line.traffic c.args.line.now) c.args.replies.now.items c.requires.settled;
  same = refl;
}

pub returns-in-Err-clause-calls : goal.returns-in-Err-clause-calls
returns-in-Err-clause-calls g c =
    let further = c.group_end-end.ensures.some in
    let on : c.loop-start.start ≤ c.group_end-end.result = omega (arith, further) in
    let within : c.loop-start.start ≤ length c.args.requests.now = c.loop-start.invariant.within in
    calls-broken (take c.loop-start.start c.args.requests.now) (between c.args.requests.now c.loop-start.start c.group_end-end.result) c.args.self.now
    c.loop-start.self c.call_group.new.self (g.L.Line.traffic c.args.line.now) (g.L.Line.traffic c.loop-start.line) (g.L.Line.traffic c.call_group.new.line)
    c.loop-start.reads c.call_group.new.reads c.args.replies.now.items c.loop-start.replies.items c.call_group.new.replies.items
    (group-some c.args.requests.now c.loop-start.start c.group_end-end.result further c.group_end-end.ensures.within)
    (group-few c.args.requests.now c.loop-start.start c.group_end-end.result on c.group_end-end.ensures.within c.group_end-end.ensures.few)
    (c.loop-start.start < length c.args.requests.now) c.loop-start-test.true c.clients_are_settled.ensures.idle c.loop-start.invariant.called
    c.args.requests.now (drop c.group_end-end.result c.args.requests.now) c.in-Err.calls c.behind.result
    (split-at c.args.requests.now c.loop-start.start c.group_end-end.result on)
    (λ more. group-full c.args.requests.now c.loop-start.start c.group_end-end.result on c.group_end-end.ensures.within c.group_end-end.ensures.full
    (more-behind c.args.requests.now c.group_end-end.result more))
    (c.behind.ensures.request ∙ ap (λ (n : ℕ). n + c.in-Err.calls.request) (sym (taken-count c.args.requests.now c.loop-start.start within)))
    c.behind.ensures.fault c.in-Err.ensures.calls

pub returns-in-Err-clause-failed : goal.returns-in-Err-clause-failed
returns-in-Err-clause-failed g c =
    subst (λ (f : ClientFault). g.L.Line.failures c.call_group.new.line ≡ failures_behind {A = Unit {0}} (g.L.Line.failures c.args.line.now) (Err f))
    (sym c.behind.ensures.fault)
    (subst (λ (n : ℕ). g.L.Line.failures c.call_group.new.line ≡ failures_behind {A = Unit {0}} n (Err c.in-Err.calls.fault)) c.loop-start.invariant.same
    c.in-Err.ensures.failed)

pub loop-start-preserved : goal.loop-start-preserved
loop-start-preserved g c =
    let further = c.group_end-end.ensures.some in
    let on : c.loop-start.start ≤ c.group_end-end.result = omega (arith, further) in
    let group = length-between c.args.requests.now c.loop-start.start c.group_end-end.result on c.group_end-end.ensures.within in
    let had = c.loop-start.invariant.count in
    let more = c.in-Ok.ensures.count in
    record {
      within = c.group_end-end.ensures.within;
      count = omega (arith, group, had, more, on);
      called = called-to c.args.requests.now c.loop-start.start c.group_end-end.result (c.group_end-end.result < length c.args.requests.now) c.args.self.now
          c.call_group.new.self (g.L.Line.traffic c.args.line.now) (g.L.Line.traffic c.call_group.new.line) c.call_group.new.reads c.args.replies.now.items
          c.call_group.new.replies.items on
          (called-more (take c.loop-start.start c.args.requests.now) (between c.args.requests.now c.loop-start.start c.group_end-end.result) c.args.self.now
          c.loop-start.self c.call_group.new.self (g.L.Line.traffic c.args.line.now) (g.L.Line.traffic c.loop-start.line)
          (g.L.Line.traffic c.call_group.new.line)
          c.loop-start.reads c.call_group.new.reads c.args.replies.now.items c.loop-start.replies.items c.call_group.new.replies.items
          (group-some c.args.requests.now c.loop-start.start c.group_end-end.result further c.group_end-end.ensures.within)
          (group-few c.args.requests.now c.loop-start.start c.group_end-end.result on c.group_end-end.ensures.within c.group_end-end.ensures.few)
          (c.loop-start.start < length c.args.requests.now) c.loop-start-test.true c.clients_are_settled.ensures.idle c.loop-start.invariant.called
          tt (c.group_end-end.result < length c.args.requests.now)
          (group-full c.args.requests.now c.loop-start.start c.group_end-end.result on c.group_end-end.ensures.within c.group_end-end.ensures.full)
          c.in-Ok.ensures.calls);
      same = c.in-Ok.ensures.failed ∙ c.loop-start.invariant.same;
    }

pub returns-clause-calls : goal.returns-clause-calls
returns-clause-calls g c =
    calls-all c.args.requests.now (take c.loop-start.start c.args.requests.now) (c.loop-start.start < length c.args.requests.now) c.args.self.now
    c.loop-start.self (g.L.Line.traffic c.args.line.now) (g.L.Line.traffic c.loop-start.line) c.loop-start.reads c.args.replies.now.items
    c.loop-start.replies.items tt
    c.loop-start.invariant.called (all-taken c.args.requests.now c.loop-start.start c.loop-start-test.false)

use Rattle.std.proofs.Common.{refl, arith}
use Rattle.ua_c.proofs.Connected.{steps_shared, steps_waiting}
use Rattle.ua_c.specs.declared.holding.Machine.TheVariants as machine
use Rattle.ua_c.proofs.shared.SharedNodes.step.Goals as goal

-- where octets wait
pub returns-then-len-gt0 : goal.returns-then-len-gt0
returns-then-len-gt0 c =
    let a = c.len.ensures in
    let b = c.if-len-gt0.true in
    λ others. steps_waiting _ _ (record { machine = machine.Nodes c.args.self.now; waiting = others }) _ c.args.piece.now c.args.moment c.only.result
    c.args.served.now c.args.self.now refl refl
    (omega (a, b, arith)) refl refl c.only.ensures

-- where nothing waits
pub returns : goal.returns
returns c =
    let by = c.step_telling-answer.ensures in
    λ others. steps_shared (record { machine = machine.Connection c.args.served.now; waiting = c.args.waiting.now }) _
    (record { machine = machine.Nodes c.args.self.now; waiting = others }) _ c.args.piece.now c.args.moment c.from_stored.result
    c.args.served.now (record { connection = c.step_telling-answer.new.self; written = c.from_stored.new.left }) c.args.self.now
    (record { services = c.step_telling-answer.new.services }) c.step_telling-answer.result c.step_telling-answer.new.written refl refl
    (λ some. let a = c.len.ensures in let b = c.if-len-gt0.false in omega (some, a, b, arith))
    (record {
      among = by.among;
      now = by.now;
      stores = by.stores;
      failed = by.failed;
      apart = by.apart;
      endpoint = by.endpoint;
      memory_limit = by.memory_limit;
      ids = by.ids;
      progress = by.progress;
      starved = by.starved;
      closed = by.closed;
      limits =
          by.limits;
      channel = by.channel;
    })
    refl refl c.from_stored.ensures.shows c.from_stored.ensures.stored

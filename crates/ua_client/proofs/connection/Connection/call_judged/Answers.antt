use Rattle.std.proofs.Common.{◌++◌, ◌<◌, length, Vec, Global, refl, sym, ◌∙◌, ap, subst}
use Rattle.std.specs.Prelude.{ℕ, List, []}
use Rattle.std.proofs.lemmas.Result.{err_from_is_err_and}
use Rattle.ua_channel.specs.Line.{IfTrafficKnown}
use Rattle.ua_services.specs.declared.request.Request.{Request}
use Rattle.ua_client.specs.Calls.{Collects, none_for}
use Rattle.ua_client.specs.Carried.{Carries, WritesFront}
use Rattle.ua_client.specs.Replies.{front_of}
use Rattle.ua_client.specs.declared.reply.Reply.{Reply}
use Rattle.ua_client.specs.declared.connection.Connection.{Connection}
use Rattle.ua_client.proofs.GroupCalls.{IsAsked, none-refused, group-unasked, memory-failures, group-unwritten}
use Rattle.ua_client.proofs.GroupCalls.{group-kept, kept-count, kept-fewer, kept-more}
use Rattle.ua_client.proofs.SlotsFilled.{slots-empty}
use Rattle.ua_client.proofs.connection.Connection.call_judged.Goals as goal

pub collect-waited-requires-clause-none : goal.collect-waited-requires-clause-none
collect-waited-requires-clause-none g c =
    c.behind-slots.ensures.none
    ∙ (slots-empty c.args.requests.now _ refl ∙ ap none_for (sym c.in_ok-asked.ensures.requests))

pub returns-in_err-make_room-clause-calls : goal.returns-in_err-make_room-clause-calls
returns-in_err-make_room-clause-calls g c =
    let p = err_from_is_err_and c.from_residual.result c.from_residual.ensures.1 in
    rw (p.1, p.2) (group-unasked c.args.requests.now c.args.self.now c.args.self.now (g.L.Line.traffic c.args.line.now) c.args.reads.now
    c.args.replies.now.items c.make_room.new.replies.items c.in_err-make_room.field-0.0
    c.in_err-make_room.ensures.same refl (record { limits = refl; url = refl }) c.in_err-make_room.ensures.err)

pub returns-in_err-make_room-clause-failed : goal.returns-in_err-make_room-clause-failed
returns-in_err-make_room-clause-failed g c =
    let p = err_from_is_err_and c.from_residual.result c.from_residual.ensures.1 in
    rw (p.1, p.2) (sym (memory-failures c.in_err-make_room.field-0.0 c.in_err-make_room.ensures.err (g.L.Line.failures c.args.line.now)))

pub returns-in_err-asked-clause-calls : goal.returns-in_err-asked-clause-calls
returns-in_err-asked-clause-calls g c =
    let p = err_from_is_err_and c.from_residual-in_err-asked.result c.from_residual-in_err-asked.ensures.1 in
    rw (p.1, p.2)
    (group-unasked c.args.requests.now c.args.self.now
    (record { alloc = c.args.self.now.alloc; channel = c.ask_group.new.channel; piece = c.args.self.now.piece })
    (g.L.Line.traffic c.args.line.now) c.args.reads.now c.args.replies.now.items c.make_room.new.replies.items c.in_err-asked.field-0.0
    c.in_ok-make_room.ensures.same refl c.in_err-asked.ensures.same c.in_err-asked.ensures.memory)

pub returns-in_err-asked-clause-failed : goal.returns-in_err-asked-clause-failed
returns-in_err-asked-clause-failed g c =
    let p = err_from_is_err_and c.from_residual-in_err-asked.result c.from_residual-in_err-asked.ensures.1 in
    rw (p.1, p.2) (sym (memory-failures c.in_err-asked.field-0.0 c.in_err-asked.ensures.memory (g.L.Line.failures c.args.line.now)))

pub returns-in_default-clause-calls : goal.returns-in_default-clause-calls
returns-in_default-clause-calls g c =
    let mid : Connection = record { alloc = c.args.self.now.alloc; channel = c.ask_group.new.channel; piece = c.args.self.now.piece } in
    let asked : IsAsked c.args.requests.now c.args.self.now mid c.in_ok-asked.asked.first c.in_ok-asked.asked.octets.items = record {
      bodies = c.args.bodies.now;
      bodies_are = c.requires.bodies;
      judged = none-refused c.args.requests.now c.requires.few c.args.self.now.channel c.requires.judged;
      piece = refl;
      same = c.in_ok-asked.ensures.same;
      some = c.requires.some;
      asks = c.in_ok-asked.ensures.asks;
    } in
    group-unwritten c.args.requests.now c.args.self.now mid c.in_ok-asked.asked.first c.in_ok-asked.asked.octets.items asked
    (g.L.Line.traffic c.args.line.now) (g.L.Line.traffic c.write_calls.new.line) c.args.reads.now c.args.replies.now.items c.make_room.new.replies.items
    c.in_ok-make_room.ensures.same (subst (λ (o : List ℕ). 0 < length o) c.deref.ensures.value c.in_default.ensures.some)
    (subst (λ (o : List ℕ). IfTrafficKnown (WritesFront o) (g.L.Line.traffic c.args.line.now)
    (g.L.Line.traffic c.write_calls.new.line)) c.deref.ensures.value c.in_default.ensures.written)

pub returns-clause-calls : goal.returns-clause-calls
returns-clause-calls g c =
    let mid : Connection = record { alloc = c.args.self.now.alloc; channel = c.ask_group.new.channel; piece = c.args.self.now.piece } in
    let asked : IsAsked c.args.requests.now c.args.self.now mid c.in_ok-asked.asked.first c.in_ok-asked.asked.octets.items = record {
      bodies = c.args.bodies.now;
      bodies_are = c.requires.bodies;
      judged = none-refused c.args.requests.now c.requires.few c.args.self.now.channel c.requires.judged;
      piece = refl;
      same = c.in_ok-asked.ensures.same;
      some = c.requires.some;
      asks = c.in_ok-asked.ensures.asks;
    } in
    group-kept c.args.requests.now c.args.self.now mid c.in_ok-asked.asked.first c.in_ok-asked.asked.octets.items asked
    c.calls_are_told_behind.ensures c.collect-waited.new.self (g.L.Line.traffic c.args.line.now) (g.L.Line.traffic c.write_calls.new.line)
    (g.L.Line.traffic c.collect-waited.new.line) c.args.reads.now c.collect-waited.new.reads
    (subst (λ (o : List ℕ). IfTrafficKnown (Carries [] o) (g.L.Line.traffic c.args.line.now) (g.L.Line.traffic c.write_calls.new.line))
    c.deref.ensures.value c.in-Ok.ensures.written)
    c.collect-waited.new.slots.slots c.args.replies.now.items c.replace.new.dest.items (ap (λ (v : Vec Reply Global). v.items) c.replace.ensures.after
    ∙ (c.into_replies.ensures
    ∙ ap (λ (rs : List Reply). rs ++ front_of c.collect-waited.new.slots.slots) (c.collect-waited.ensures.had ∙ (c.behind-slots.ensures.had
    ∙ (ap (λ (v : Vec Reply Global). v.items) c.replace-had.ensures.value ∙ c.in_ok-make_room.ensures.same))))) c.collect-waited.result
    (subst (λ (rs : List Request). Collects c.collect-waited.new.slots.slots rs c.in_ok-asked.asked.first mid c.collect-waited.new.self
    (g.L.Line.traffic c.write_calls.new.line) (g.L.Line.traffic c.collect-waited.new.line) c.args.reads.now c.collect-waited.new.reads
    c.collect-waited.result) c.in_ok-asked.ensures.requests c.collect-waited.ensures.collects)

pub returns-clause-more : goal.returns-clause-more
returns-clause-more g c = kept-more c.args.replies.now.items c.replace.new.dest.items c.collect-waited.new.slots.slots
    (ap (λ (v : Vec Reply Global). v.items) c.replace.ensures.after ∙ (c.into_replies.ensures
    ∙ ap (λ (rs : List Reply). rs ++ front_of c.collect-waited.new.slots.slots) (c.collect-waited.ensures.had ∙ (c.behind-slots.ensures.had
    ∙ (ap (λ (v : Vec Reply Global). v.items) c.replace-had.ensures.value ∙ c.in_ok-make_room.ensures.same)))))

pub returns-clause-count : goal.returns-clause-count
returns-clause-count g c =
    kept-count c.collect-waited.result c.args.replies.now.items c.replace.new.dest.items c.collect-waited.new.slots.slots _
    (ap (λ (v : Vec Reply Global). v.items) c.replace.ensures.after ∙ (c.into_replies.ensures
    ∙ ap (λ (rs : List Reply). rs ++ front_of c.collect-waited.new.slots.slots) (c.collect-waited.ensures.had ∙ (c.behind-slots.ensures.had
    ∙ (ap (λ (v : Vec Reply Global). v.items) c.replace-had.ensures.value ∙ c.in_ok-make_room.ensures.same))))) c.collect-waited.ensures.whole
    (c.collect-waited.ensures.count ∙ ap (λ (rs : List Request). length rs) c.in_ok-asked.ensures.requests)

pub returns-clause-missing : goal.returns-clause-missing
returns-clause-missing g c =
    kept-fewer c.collect-waited.result c.args.replies.now.items c.replace.new.dest.items c.collect-waited.new.slots.slots _
    (ap (λ (v : Vec Reply Global). v.items) c.replace.ensures.after ∙ (c.into_replies.ensures
    ∙ ap (λ (rs : List Reply). rs ++ front_of c.collect-waited.new.slots.slots) (c.collect-waited.ensures.had ∙ (c.behind-slots.ensures.had
    ∙ (ap (λ (v : Vec Reply Global). v.items) c.replace-had.ensures.value ∙ c.in_ok-make_room.ensures.same))))) c.collect-waited.ensures.missing
    (c.collect-waited.ensures.count ∙ ap (λ (rs : List Request). length rs) c.in_ok-asked.ensures.requests)

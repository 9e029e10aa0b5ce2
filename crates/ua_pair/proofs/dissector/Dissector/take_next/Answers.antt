use Rattle.std.proofs.Common.{List, ℕ, ◌≡◌, ◌<◌, ◌++◌, length, string_bytes, true, refl, rules, sym, ap, append-nil, ◌∙◌}
use Rattle.ua_frame.specs.Reader.{TakesFrame, TakesAll}
use Rattle.ua_pair.specs.Dissecting.{is_dissecting}
use Rattle.ua_pair.proofs.Dissections.{takes_frame, takes_part, takes_header}
use Rattle.ua_pair.proofs.dissector.Dissector.take_next.Goals as goal

pub tell-requires-clause-let_in : goal.tell-requires-clause-let_in
tell-requires-clause-let_in c = rw c.in-Ok-default-Some.field-0-1-is at c.in-Ok-default-Some.ensures.let_in

pub returns-in_ok-pending-in-Ok-default-Some-clause-taken : goal.returns-in_ok-pending-in-Ok-default-Some-clause-taken
returns-in_ok-pending-in-Ok-default-Some-clause-taken c = λ more pending.
    let goes : is_dissecting c.args.self.now.state ≡ true = sym c.goes_on.ensures ∙ c.if-not-goes_on.false in
    let taken : TakesFrame c.args.self.now.reader c.args.octets.now c.in-Ok-default-Some.size c.in-Ok-default-Some.frame c.take.new.self =
    rw c.in-Ok-default-Some.field-0-1-is at c.in-Ok-default-Some.ensures.takes in
    takes_frame c.args.self.now c.tell.new.self c.args.octets.now c.in-Ok-default-Some.size c.in-Ok-default-Some.frame c.take.new.self
    (string_bytes c.tell.new.lines ++ more)
    goes taken (λ options before g place. c.in_ok-pending-in-Ok-default-Some.ensures.told options before g place more pending)

pub returns-in-Ok-default-None-clause-taken : goal.returns-in-Ok-default-None-clause-taken
returns-in-Ok-default-None-clause-taken c = λ more none.
    let goes : is_dissecting c.args.self.now.state ≡ true = sym c.goes_on.ensures ∙ c.if-not-goes_on.false in
    let some : 0 < length c.args.octets.now = search rules in
    let taken : TakesAll c.args.self.now.reader c.args.octets.now c.in-Ok-default-None.size c.take.new.self =
    rw c.in-Ok-default-None.field-0-1-is at c.in-Ok-default-None.ensures.takes in
    takes_part c.args.self.now (record c.args.self.now { reader = c.take.new.self }) c.args.octets.now goes some c.take.new.self c.in-Ok-default-None.size _
    taken refl (ap (λ (t : List ℕ). string_bytes c.clear.new.self ++ t) none ∙ append-nil _ ∙ c.clear.ensures.bytes)

pub returns-in-Some-clause-taken : goal.returns-in-Some-clause-taken
returns-in-Some-clause-taken c = λ more none.
    let goes : is_dissecting c.args.self.now.state ≡ true = sym c.goes_on.ensures ∙ c.if-not-goes_on.false in
    let some : 0 < length c.args.octets.now = search rules in
    takes_header c.args.self.now c.stop.new.self c.args.octets.now goes some c.in-Err.fault c.take.new.self c.in-Some.code _
    c.in-Err.ensures.takes (sym c.in-Some.ensures)
    (record { state = c.stop.ensures.state; options_are = c.stop.ensures.options; nothing = c.stop.ensures.nothing }) c.stop.ensures.place
    (ap (λ (t : List ℕ). string_bytes c.clear.new.self ++ t) none ∙ append-nil _ ∙ c.clear.ensures.bytes)

use Rattle.std.proofs.Common.{List, subst, sym}
use Rattle.ua_exchange.specs.Exchanged.{IsRefusedFor}
use Rattle.ua_exchange.specs.Programs.{begun_over}
use Rattle.ua_exchange.specs.declared.turn.Turn.{Turn}
use Rattle.ua_exchange.specs.inside.Conversed.{IsConversed}
use Rattle.ua_exchange.specs.inside.Counting.{turns_before}
use Rattle.ua_exchange.proofs.Conversed.{accepted-turns, all-conversed, down-all, front-conversed, handed-all}
use Rattle.ua_exchange.proofs.Conversed.{refused-crowded, refused-turn, replies-all, served-fault, services-all, up-all}
use Rattle.ua_exchange.proofs.exchanging.exchange.Goals as goal

pub from_client-requires : goal.from_client-requires
from_client-requires c =
    let first = begun_over c.args.table in
    let k = subst (λ (ts : List Turn). IsConversed first c.args.moment ts c.in_ok-found.found) c.front-asked.ensures c.in_ok-found.ensures in
    served-fault first c.args.moment (turns_before c.find_crowded-crowded.result c.args.turns.now) c.in_ok-found.found c.in-Err.fault k c.in-Err.is

pub returns-in-Err-clause-refused : goal.returns-in-Err-clause-refused
returns-in-Err-clause-refused c =
    let found = c.find_crowded-crowded.result in
    let first = begun_over c.args.table in
    let k = subst (λ (ts : List Turn). IsConversed first c.args.moment ts c.in_ok-found.found) c.front-asked.ensures c.in_ok-found.ensures in
    subst (IsRefusedFor c.args.turns.now) (sym c.from_client.ensures)
    (refused-turn first c.args.moment c.args.turns.now found c.in_ok-found.found c.in-Err.fault c.find_crowded-crowded.ensures.found k c.in-Err.is)

pub returns-in-Some-clause-refused : goal.returns-in-Some-clause-refused
returns-in-Some-clause-refused c =
    let first = begun_over c.args.table in
    let k = front-conversed first c.args.moment c.args.turns.now c.front-asked.result.now c.find_crowded-crowded.result c.in-Some.place c.in_ok-found.found
    c.front-asked.ensures c.in-Some.is c.in_ok-found.ensures in
    refused-crowded first c.args.moment c.args.turns.now c.in-Some.place c.in_ok-found.found c.in_default.field-0 c.in-Some.ensures.found k c.in_default.is

-- where no renewal is refused for its tokens, all turns were taken
all_taken : (c : goal.In-Ended) → IsConversed (begun_over c.args.table) c.args.moment c.args.turns.now c.in_ok-found.found
all_taken c =
    all-conversed (begun_over c.args.table) c.args.moment c.args.turns.now c.front-asked.result.now c.find_crowded-crowded.result c.in_ok-found.found
    c.front-asked.ensures c.in_default-crowded.is c.in_ok-found.ensures

pub returns-clause-accepted : goal.returns-clause-accepted
returns-clause-accepted c =
    accepted-turns (begun_over c.args.table) c.args.moment c.args.turns.now c.in_ok-found.found (all_taken c) c.in_default.field-0 c.in_default.is
    c.in_default-crowded.ensures.found

pub returns-clause-up : goal.returns-clause-up
returns-clause-up c = up-all (begun_over c.args.table) c.args.moment c.args.turns.now c.in_ok-found.found (all_taken c) c.in_default.field-0 c.in_default.is

pub returns-clause-handed : goal.returns-clause-handed
returns-clause-handed c = handed-all (begun_over c.args.table) c.args.moment c.args.turns.now c.in_ok-found.found (all_taken c) c.in_default.field-0
    c.in_default.is

pub returns-clause-down : goal.returns-clause-down
returns-clause-down c = down-all (begun_over c.args.table) c.args.moment c.args.turns.now c.in_ok-found.found (all_taken c) c.in_default.field-0 c.in_default.is

pub returns-clause-replies : goal.returns-clause-replies
returns-clause-replies c = replies-all (begun_over c.args.table) c.args.moment c.args.turns.now c.in_ok-found.found (all_taken c) c.in_default.field-0
    c.in_default.is

pub returns-clause-services : goal.returns-clause-services
returns-clause-services c = services-all (begun_over c.args.table) c.args.moment c.args.turns.now c.in_ok-found.found (all_taken c) c.in_default.field-0
    c.in_default.is

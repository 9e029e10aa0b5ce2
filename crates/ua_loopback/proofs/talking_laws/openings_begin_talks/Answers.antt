use Rattle.std.proofs.Common.{Fits, FitsSigned, IsTrue, List, Option, rules, w32, w64, ℕ}
use Rattle.ua_wire.specs.Counted.{text}
use Rattle.ua_loopback.specs.Beginning.{Beginning}
use Rattle.ua_loopback.specs.Talking.{CanBegin}
use Rattle.ua_loopback.specs.inside.Talking.{CanOpenTo}
use Rattle.ua_loopback.proofs.Calling.{opens_fails, opens_stop, opens_talk}
use Rattle.ua_loopback.proofs.Fitting.{can_open_to}
use Rattle.ua_loopback.proofs.talking_laws.openings_begin_talks.Goals as goal

able : (c : goal.After-clients_are_settled) (b : Beginning) (url : Option (List ℕ)) → IsTrue (text.encodable url) → CanBegin b
    → CanOpenTo b c.args.limits url c.args.moment
able c b url fits can =
    let dated : FitsSigned w64 c.args.moment.ticks = search rules in
    let receive : Fits w32 c.args.limits.receive_buffer_size = search rules in
    let send : Fits w32 c.args.limits.send_buffer_size = search rules in
    let octets : Fits w32 c.args.limits.max_message_size = search rules in
    let chunks : Fits w32 c.args.limits.max_chunk_count = search rules in
    can_open_to b c.args.limits url c.args.moment can receive send octets chunks dated fits

pub returns-clause-begins : goal.returns-clause-begins
returns-clause-begins c = λ b url before after result fits can line opens.
    opens_talk c.args.limits url c.args.moment before after b (able c b url fits can) line c.clients_are_settled.ensures.opened result opens

pub returns-clause-fails : goal.returns-clause-fails
returns-clause-fails c = λ b url before after result fits can line short opens.
    opens_fails c.args.limits url c.args.moment before after b (able c b url fits can) line short result opens

pub returns-clause-stops : goal.returns-clause-stops
returns-clause-stops c = λ b url before after result fits can line short opens.
    opens_stop c.args.limits url c.args.moment before after b (able c b url fits can) line short result opens

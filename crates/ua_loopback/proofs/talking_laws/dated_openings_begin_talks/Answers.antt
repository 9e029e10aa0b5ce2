use Rattle.std.proofs.Common.{Fits, IsTrue, List, Option, rules, w32, ℕ}
use Rattle.ua_wire.specs.Counted.{text}
use Rattle.ua_builtin.specs.DateTime.{date_time}
use Rattle.ua_builtin.specs.declared.date_time.DateTime.{DateTime}
use Rattle.ua_loopback.specs.Beginning.{Beginning}
use Rattle.ua_loopback.specs.Talking.{CanBegin}
use Rattle.ua_loopback.specs.inside.Talking.{CanOpenTo}
use Rattle.ua_loopback.proofs.Calling.{opens_talk}
use Rattle.ua_loopback.proofs.Fitting.{can_open_at}
use Rattle.ua_loopback.proofs.talking_laws.dated_openings_begin_talks.Goals as goal

able : (c : goal.After-clients_are_settled) (b : Beginning) (url : Option (List ℕ)) (moment : DateTime) → IsTrue (date_time.encodable moment)
    → IsTrue (text.encodable url) → CanBegin b → CanOpenTo b c.args.limits url moment
able c b url moment dated fits can =
    let receive : Fits w32 c.args.limits.receive_buffer_size = search rules in
    let send : Fits w32 c.args.limits.send_buffer_size = search rules in
    let octets : Fits w32 c.args.limits.max_message_size = search rules in
    let chunks : Fits w32 c.args.limits.max_chunk_count = search rules in
    can_open_at b c.args.limits url moment can receive send octets chunks dated fits

pub returns : goal.returns
returns c = record {
  begins = λ b url moment before after result dated fits can line opens.
      opens_talk c.args.limits url moment before after b (able c b url moment dated fits can) line c.clients_are_settled.ensures.opened result opens;
}

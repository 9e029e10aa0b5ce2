use Rattle.std.proofs.Common.{rules, ◌≡◌}
use Rattle.ua_builtin.specs.NodeId.{node_id}
use Rattle.ua_builtin.specs.Status.{of_code}
use Rattle.ua_opening.specs.Message.{standard}
use Rattle.ua_opening.specs.Plain.{response_header_of}
use Rattle.ua_services.specs.declared.response.Response.TheVariants.{Read as ReadMessage}
use Rattle.ua_structures.specs.Plain.{read_response_of}
use Rattle.ua_server.specs.Attributes.{read_answers, values_given}
use Rattle.ua_server.proofs.ReadBody.{written_parts, written_within, written_some}
use Rattle.ua_server.proofs.services.Services.granted_body.Goals as goal

pub returns-clause-body : goal.returns-clause-body
returns-clause-body c =
    let header = response_header_of c.args.moment c.args.request.now.request_header.request_handle (of_code 0) in
    let stamps = c.unwrap_or-stamps.result in
    let items = c.unwrap_or-items.result.now in
    let nodes = c.self.inside.nodes in
    let id : c.append_front.new.out.items ≡ node_id.canonical (standard 634) = search rules in
    let adds = c.in_ok-append_good_read.ensures.ok in
    let parts = written_parts c.args.most header nodes items stamps c.args.moment c.append_front.new.out.items c.append_good_read.new.out.items id adds in
    let given : values_given c.args.self.now c.args.moment c.args.request.now
    ≡ ReadMessage (read_response_of header (read_answers nodes items stamps c.args.moment)) =
    search rules in
    rw given (written_within c.args.most header nodes items stamps c.args.moment parts.0 c.append_good_read.new.out.items parts.1 parts.2)

pub returns-clause-some : goal.returns-clause-some
returns-clause-some c =
    let header = response_header_of c.args.moment c.args.request.now.request_header.request_handle (of_code 0) in
    let stamps = c.unwrap_or-stamps.result in
    let nodes = c.self.inside.nodes in
    let items = c.unwrap_or-items.result.now in
    let id : c.append_front.new.out.items ≡ node_id.canonical (standard 634) = search rules in
    let adds = c.in_ok-append_good_read.ensures.ok in
    let parts = written_parts c.args.most header nodes items stamps c.args.moment c.append_front.new.out.items c.append_good_read.new.out.items id adds in
    rw parts.2 (written_some parts.0)

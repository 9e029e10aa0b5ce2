use Rattle.ua_diagnostic.specs.View.{diagnostic_fields_of}
use Rattle.ua_answers.specs.ObjectParts.{detail_members, diagnostic_members, id_members}
use Rattle.ua_answers.proofs.Tokens.{members_then}
use Rattle.ua_answers.proofs.object_parts.put_diagnostic_members.Goals as goal

pub returns : goal.returns
unfolding diagnostic_members
returns c =
    let fields = diagnostic_fields_of c.args.value.now in
    members_then c.put_details.result c.args.line.now c.put_ids.new.line c.put_details.new.line (id_members fields) (detail_members c.args.names fields)
    c.in_ok-put_ids.ensures c.put_details.ensures

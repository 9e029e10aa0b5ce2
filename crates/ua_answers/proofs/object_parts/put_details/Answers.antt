use Rattle.std.proofs.Common.{codes}
use Rattle.ua_answers.specs.ObjectParts.{code_member, text_member}
use Rattle.ua_answers.proofs.Tokens.{members_then}
use Rattle.ua_answers.proofs.object_parts.put_details.Goals as goal

pub returns : goal.returns
returns c =
    members_then c.put_code_member.result c.args.line.now c.put_text_member.new.line c.put_code_member.new.line
    (text_member (codes "additional_info") c.args.value.now.additional_info)
    (code_member c.args.names (codes "inner_status_code") c.args.value.now.inner_status_code) c.in_ok-put_text_member.ensures c.put_code_member.ensures

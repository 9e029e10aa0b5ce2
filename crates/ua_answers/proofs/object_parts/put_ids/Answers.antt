use Rattle.std.proofs.Common.{◌++◌, codes}
use Rattle.ua_answers.specs.ObjectParts.{number_member}
use Rattle.ua_answers.proofs.Tokens.{members_then}
use Rattle.ua_answers.proofs.object_parts.put_ids.Goals as goal

pub returns : goal.returns
returns c =
    let d = c.args.value.now in
    let r = c.put_number_member-4.result in
    let last = c.put_number_member-4.new.line in
    let ids = number_member (codes "symbolic_id") d.symbolic_id in
    let uris = number_member (codes "namespace_uri") d.namespace_uri in
    let locales = number_member (codes "locale") d.locale in
    let texts = number_member (codes "localized_text") d.localized_text in
    members_then r c.args.line.now c.put_number_member.new.line last ids (uris ++ (locales ++ texts)) c.in_ok-put_number_member.ensures
    (members_then r c.put_number_member.new.line c.put_number_member-2.new.line last uris (locales ++ texts) c.in_ok-put_number_member-2.ensures
    (members_then r c.put_number_member-2.new.line c.put_number_member-3.new.line last locales texts c.in_ok-put_number_member-3.ensures
    c.put_number_member-4.ensures))

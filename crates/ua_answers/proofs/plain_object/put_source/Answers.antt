use Rattle.std.proofs.Common.{codes}
use Rattle.ua_answers.proofs.PlainTokens.{times_put}
use Rattle.ua_answers.proofs.plain_object.put_source.Goals as goal

pub returns : goal.returns
returns c =
    let d = c.args.value.now in
    times_put c.put_count_member.result (codes "source") (codes "source_picoseconds") d.source_timestamp d.source_picoseconds c.args.line.now
    c.put_moment_member.new.line
    c.put_count_member.new.line c.in_ok-put_moment_member.ensures c.put_count_member.ensures

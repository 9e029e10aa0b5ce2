use Rattle.ua_variant.specs.View.{data_fields_of}
use Rattle.ua_answers.proofs.PlainTokens.{data_put}
use Rattle.ua_answers.proofs.plain_object.put_data_members.Goals as goal

pub returns : goal.returns
returns c =
    data_put c.put_server.result c.args.names (data_fields_of c.args.value.now) c.args.line.now c.put_code_member.new.line c.put_source.new.line
    c.put_server.new.line c.in_ok-put_code_member.ensures c.in_ok-put_source.ensures c.put_server.ensures

use Rattle.std.specs.List.{concat}
use Rattle.ua_fields.specs.Bodies.{message_kind}
use Rattle.ua_pair.specs.Told.{AreFieldsOf, IsHeaderOf}
use Rattle.ua_pair.proofs.PendingLines.{fields_then_header}
use Rattle.ua_pair.proofs.pending.push_message_fields.Goals as goal

pub returns : goal.returns
returns c =
    let options = c.args.options.now in
    let octets = concat c.args.message.now in
    fields_then_header c.push_header_if.result _ _ _ (AreFieldsOf options (message_kind options.side) octets) (IsHeaderOf options c.args.unsupported octets)
    c.in_ok-push_fields.ensures c.push_header_if.ensures

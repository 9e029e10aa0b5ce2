use Rattle.std.proofs.Common.{rules, ◌<◌, ◌≤◌, ◌^◌, length}
use Rattle.ua_server.specs.Attributes.{most_items}
use Rattle.ua_server.proofs.GoodHeader.{good_write_fits}
use Rattle.ua_server.proofs.services.Services.granted_write.Goals as goal

pub returns-clause-encodable : goal.returns-clause-encodable
returns-clause-encodable c =
    let codes = c.in_ok-write_items.field-0.items in
    let number : c.args.request.now.request_header.request_handle < 2 ^ 32 = search rules in
    let few : length codes ≤ most_items = search rules in
    good_write_fits c.args.moment c.args.request.now.request_header.request_handle codes c.moment_is_encodable.ensures number few
    c.in_ok-write_items.ensures.encodable

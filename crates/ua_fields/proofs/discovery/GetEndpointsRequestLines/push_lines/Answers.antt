-- The lines are those of its fields.
use Rattle.std.proofs.Common.{refl, string_bytes}
use Rattle.ua_fields.specs.Discovery.{get_endpoints_request_entries}
use Rattle.ua_fields.proofs.discovery.GetEndpointsRequestLines.push_lines.Goals as goal

pub returns : goal.returns
unfolding get_endpoints_request_entries
returns c = (
  string_bytes c.push_field.new.out,
  c.in_ok-push_field.ensures,
  (
    string_bytes c.push_field-2.new.out,
    c.in_ok-push_field-2.ensures,
    (string_bytes c.push_field-3.new.out, c.in_ok-push_field-3.ensures, (string_bytes c.push_field-4.new.out, c.in_ok-push_field-4.ensures, refl)),
  ),
)

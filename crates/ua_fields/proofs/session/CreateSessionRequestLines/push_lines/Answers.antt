-- The lines are those of its fields.
use Rattle.std.proofs.Common.{refl, string_bytes}
use Rattle.ua_fields.specs.Session.{create_session_request_entries}
use Rattle.ua_fields.proofs.session.CreateSessionRequestLines.push_lines.Goals as goal

pub returns : goal.returns
unfolding create_session_request_entries
returns c = (
  string_bytes c.push_field.new.out,
  c.in_ok-push_field.ensures,
  (
    string_bytes c.push_field-2.new.out,
    c.in_ok-push_field-2.ensures,
    (
      string_bytes c.push_field-3.new.out,
      c.in_ok-push_field-3.ensures,
      (
        string_bytes c.push_field-4.new.out,
        c.in_ok-push_field-4.ensures,
        (
          string_bytes c.push_field-5.new.out,
          c.in_ok-push_field-5.ensures,
          (
            string_bytes c.push_field-6.new.out,
            c.in_ok-push_field-6.ensures,
            (
              string_bytes c.push_field-7.new.out,
              c.in_ok-push_field-7.ensures,
              (string_bytes c.push_field-8.new.out, c.in_ok-push_field-8.ensures, (string_bytes c.push_field-9.new.out, c.in_ok-push_field-9.ensures, refl)),
            ),
          ),
        ),
      ),
    ),
  ),
)

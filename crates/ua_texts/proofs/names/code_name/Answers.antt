use Rattle.std.proofs.Common.{ℕ, ◌≤◌, ◌<◌, length, get_or, Ok, Err, sym, ◌∙◌}
use Rattle.std.proofs.lemmas.List.Sorted.{searched}
use Rattle.ua_texts.specs.StatusCodes.{status_codes}
use Rattle.ua_texts.proofs.Named.{codes_in, named_at, rising, table_rises, unnamed_between}
use Rattle.ua_texts.proofs.names.code_name.Goals as goal

codes_rise : (i j : ℕ) → i ≤ j → j < length (codes_in status_codes) → get_or (codes_in status_codes) i 0 ≤ get_or (codes_in status_codes) j 0
codes_rise = rising 0 status_codes table_rises

pub returns-in-Ok : goal.returns-in-Ok
returns-in-Ok c =
    let found = searched _ c.args.status.code (Ok c.in-Ok.place) c.in-Ok.ensures.position (rw c.known_codes.ensures codes_rise) in
    c.name_at.ensures
    ∙ sym (named_at 0 status_codes c.args.status.code table_rises c.in-Ok.place (rw c.known_codes.ensures at found.0) (rw c.known_codes.ensures at found.1))

pub returns-in-Err : goal.returns-in-Err
returns-in-Err c =
    let found = searched _ c.args.status.code (Err c.in-Err.field-0) c.in-Err.ensures.position (rw c.known_codes.ensures codes_rise) in
    sym (unnamed_between status_codes c.args.status.code c.in-Err.field-0 (rw c.known_codes.ensures at found.1) (rw c.known_codes.ensures at found.2))

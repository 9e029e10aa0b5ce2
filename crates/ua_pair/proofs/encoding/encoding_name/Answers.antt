use Rattle.std.proofs.Common.{ℕ, ◌≤◌, ◌<◌, length, get_or, Ok, Err, sym, ◌∙◌}
use Rattle.std.proofs.lemmas.List.Sorted.{searched}
use Rattle.ua_texts.proofs.Named.{codes_in, named_at, rising, unnamed_between}
use Rattle.ua_pair.specs.Encodings.{encodings}
use Rattle.ua_pair.proofs.EncodingTable.{encodings_rise}
use Rattle.ua_pair.proofs.encoding.encoding_name.Goals as goal

numbers_rise : (i j : ℕ) → i ≤ j → j < length (codes_in encodings) → get_or (codes_in encodings) i 0 ≤ get_or (codes_in encodings) j 0
numbers_rise = rising 0 encodings encodings_rise

pub returns-in-Ok : goal.returns-in-Ok
returns-in-Ok c =
    let found = searched _ c.args.number (Ok c.in-Ok.place) c.in-Ok.ensures.position (rw c.known_numbers.ensures numbers_rise) in
    c.name_at.ensures
    ∙ sym (named_at 0 encodings c.args.number encodings_rise c.in-Ok.place (rw c.known_numbers.ensures at found.0) (rw c.known_numbers.ensures at found.1))

pub returns-in-Err : goal.returns-in-Err
returns-in-Err c =
    let found = searched _ c.args.number (Err c.in-Err.field-0) c.in-Err.ensures.position (rw c.known_numbers.ensures numbers_rise) in
    sym (unnamed_between encodings c.args.number c.in-Err.field-0 (rw c.known_numbers.ensures at found.1) (rw c.known_numbers.ensures at found.2))

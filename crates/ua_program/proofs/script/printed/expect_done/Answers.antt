use Rattle.std.proofs.Common.{◌≡◌, [], None, Ok, append-nil, refl, rules, sym}
use Rattle.std.specs.List.{slice_get}
use Rattle.ua_program.specs.ScriptPrinted.{reply_told, said}
use Rattle.ua_program.proofs.script.printed.expect_done.Goals as goal

pub returns-in_default : goal.returns-in_default
returns-in_default c = λ people names text.
    let told : reply_told names None (slice_get c.args.replies.now c.args.place) ≡ Ok (said []) = search rules in
    (said [], [], told, sym (append-nil text), refl)

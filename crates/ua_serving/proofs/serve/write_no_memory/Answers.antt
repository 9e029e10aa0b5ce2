use Rattle.std.proofs.Common.{◌≡◌, ◌++◌, ℕ, List, subst, rules, append_assoc}
use Rattle.std.proofs.KnownBytes.{Appends-kept}
use Rattle.std.specs.Fmt.{decimal}
use Rattle.std.specs.Io.KnownBytes.{Appends}
use Rattle.std.specs.Prelude.{codes}
use Rattle.ua_serving.specs.Served.{connection_line, no_memory_text}
use Rattle.ua_serving.proofs.Serves.{at_any_ok}
use Rattle.ua_serving.proofs.serve.write_no_memory.Goals as goal

-- what is written
abbrev written : ℕ → List ℕ
written number = codes "connection " ++ decimal number ++ codes " NoMemory\n"

same_line : (number : ℕ) → written number ≡ connection_line number no_memory_text
unfolding connection_line
same_line number = search (rules, append_assoc)

pub returns : goal.returns
returns g c =
    at_any_ok c.flush.result
    (subst (λ t. Appends (g.O.Write.contents c.args.out.now) (g.O.Write.contents c.flush.new.self) t) (same_line c.args.number)
    (Appends-kept _ _ _ (written c.args.number) c.in_ok-write.ensures.bytes c.flush.ensures.bytes))

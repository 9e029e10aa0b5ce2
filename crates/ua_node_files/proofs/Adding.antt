-- Texts that grow by one part after the other.
use Rattle.std.proofs.Common.{◌≡◌, ℕ, Bool, true, cond, List, [], ◌∷◌, ◌++◌, Result, Ok, Err, OnOk, sym, ◌∙◌, ap, append_assoc, append-nil}
use Rattle.ua_nodes.specs.Table.{Nodes}
use Rattle.ua_node_files.specs.Standard.{StandardLine, added_line, lacks}

-- a part, and what a call adds behind it
pub then_more : {E : Type 0} (r : Result (Unit {0}) E) (old a rest one new : List ℕ) → one ≡ old ++ a → OnOk r (new ≡ one ++ rest)
    → OnOk r (new ≡ old ++ (a ++ rest))
then_more (Ok x) old a rest one new h k = k ∙ ap (λ (t : List ℕ). t ++ rest) h ∙ append_assoc old a rest
then_more (Err e) old a rest one new h k = tt

-- the last part, with nothing behind it
pub at_end : {E : Type 0} (r : Result (Unit {0}) E) (old a new : List ℕ) → OnOk r (new ≡ old ++ a) → OnOk r (new ≡ old ++ (a ++ []))
at_end (Ok x) old a new h = h ∙ ap (λ (t : List ℕ). old ++ t) (sym (append-nil a))
at_end (Err e) old a new h = tt

-- the same of another name of what is added
pub added_so : {E : Type 0} (r : Result (Unit {0}) E) (old a whole new : List ℕ) → a ≡ whole → OnOk r (new ≡ old ++ a) → OnOk r (new ≡ old ++ whole)
added_so (Ok x) old a whole new e h = h ∙ ap (λ (t : List ℕ). old ++ t) e
added_so (Err x) old a whole new e h = tt

-- the line of a node that is lacking
pub lacking : (nodes : Nodes) (line : StandardLine) → lacks nodes line.number ≡ true → 10 ∷ line.text ≡ added_line nodes line
lacking nodes line e = sym (ap (λ (t : Bool). cond t (10 ∷ line.text) []) e)

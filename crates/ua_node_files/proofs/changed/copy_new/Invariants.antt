use Rattle.std.proofs.Common.{◌≡◌, ◌++◌, Bool, Bor, List, ℕ, map}
use Rattle.std.specs.BTreeSet.{contains_by}
use Rattle.std.specs.Cmp.Lexicographic.{slice_cmp}
use Rattle.std.specs.Ordering.{nat_cmp}
use Rattle.ua_node_files.specs.Changed.{entry_of, nodes_of_new}
use Rattle.ua_node_files.proofs.Changing.{new_from}
use Rattle.ua_node_files.proofs.changed.copy_new.Given as goal

-- the copies so far, and the nodes of the new lines that are left, are those of all
abbrev pub invariant-loop-place : goal.invariant-loop-place
invariant-loop-place l =
    let is_known : List ℕ → Bool = λ line. contains_by (λ (k : Bor (List ℕ)). slice_cmp nat_cmp line k.now) l.known in
    let lines : List (List ℕ) = map (λ (k : Bor (List ℕ)). k.now) l.lines in
    map entry_of l.changed.items ++ new_from is_known lines l.nodes l.place ≡ nodes_of_new is_known lines l.nodes

use Rattle.std.proofs.Common.{◌≡◌, ◌++◌, length}
use Rattle.std.specs.Vec.Iter.{into_iter_items, into_iter_len}
use Rattle.ua_server.specs.Stored.{good_items}
use Rattle.ua_server.proofs.written.keep_good.Given as goal

-- what is kept so far, and what is good of the rest, is what is good of all
abbrev pub invariant-loop-item : goal.invariant-loop-item
invariant-loop-item l = (l.good.items ++ good_items (into_iter_items l.item-iterator) l.codes ≡ good_items l.fn.items.items l.results)
    × (into_iter_len l.item-iterator ≡ length (into_iter_items l.item-iterator))

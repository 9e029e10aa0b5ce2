use Rattle.std.proofs.Common.{◌<◌, Bor, List, ℕ, arith, length}
use Rattle.std.proofs.lemmas.List.{length-map}
use Rattle.ua_node_files.proofs.Changing.{from_end, got_at, turn_new}
use Rattle.ua_node_files.proofs.changed.copy_new.Goals as goal

-- what a borrowed line reads
abbrev now : Bor (List ℕ) → List ℕ
now line = line.now

pub loop-place-preserved : goal.loop-place-preserved
loop-place-preserved c =
    let less : c.loop-place.place < length c.args.lines.now = omega arith in
    let got = got_at c.args.lines.now c.loop-place.place c.get.result less c.get.ensures.lookup.1 c.get.ensures.lookup.2 in
    turn_new _ c.args.lines.now c.args.nodes.now c.loop-place.place _ _ _ _ _ _ less c.has_line-is_known.ensures got c.get_index.ensures
    c.in_ok-push_new.ensures c.loop-place.invariant

pub returns : goal.returns
returns c = from_end _ _ _ c.loop-place.place _ _ (omega (arith, length-map c.args.lines.now now)) c.loop-place.invariant

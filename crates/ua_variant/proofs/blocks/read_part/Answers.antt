use Rattle.std.proofs.Common.{◌≡◌, ◌<◌, ◌+◌, ◌∙◌, [], length, take, map, subst, ap, arith}
use Rattle.std.proofs.lemmas.List.{length-take-le}
use Rattle.ua_wire.proofs.Behind.{stays_behind}
use Rattle.ua_variant.specs.Blocks.{row_behind}
use Rattle.ua_variant.specs.Data.{leaf}
use Rattle.ua_variant.proofs.BlocksRead.{block_goes_on, block_short, leaves_at, skipped_front}
use Rattle.ua_variant.proofs.blocks.read_part.Goals as goal

pub returns-then-not-take_into-clause-exact : goal.returns-then-not-take_into-clause-exact
returns-then-not-take_into-clause-exact g c =
    λ more. block_short g.T.Leaf.kind c.args.count more (map leaf (map g.T.Leaf.as_leaf c.args.items.now.items)) (g.S.Source.octets c.args.src.now)
    c.requires.packed
    (subst (λ n. length (g.S.Source.octets c.args.src.now) < n) c.requires.whole c.if-not-take_into.ensures.0)

pub returns-in_err-push_values-2-clause-behind : goal.returns-in_err-push_values-2-clause-behind
returns-in_err-push_values-2-clause-behind g c = stays_behind _ _ (record { taken = c.take_into.new.out; parts = c.if-not-take_into.ensures })

pub returns-clause-exact : goal.returns-clause-exact
returns-clause-exact g c =
    let k = g.T.Leaf.kind in
    let f = g.T.Leaf.as_leaf in
    let n = c.args.count in
    let block = c.take_into.new.out in
    let same : length block ≡ length c.args.block.now = omega arith in
    λ more. ap (row_behind (map leaf (map f c.args.items.now.items)) (n + more) (leaves_at k)) c.if-not-take_into.ensures
    ∙ block_goes_on k n more (map leaf (map f c.args.items.now.items)) (map leaf (map f c.push_values-2.new.items.items)) block
    (g.S.Source.octets c.take_into.new.self) [] c.requires.packed (same ∙ c.requires.whole) c.in_ok-push_values-2.ensures.read

pub returns-clause-behind : goal.returns-clause-behind
returns-clause-behind g c = stays_behind _ _ (record { taken = c.take_into.new.out; parts = c.if-not-take_into.ensures })

pub returns-then-block-run-clause-exact : goal.returns-then-block-run-clause-exact
returns-then-block-run-clause-exact g c =
    let size = length c.args.block.now in
    let gone = skipped_front size c.front-run.result.now (g.S.Source.octets c.args.src.now) (g.S.Source.octets c.skip.new.self) c.skip.result
    (omega (arith, c.if-block-run.true)) c.front-run.ensures c.skip.ensures in
    λ more. ap (row_behind (map leaf (map g.T.Leaf.as_leaf c.args.items.now.items)) (c.args.count + more) (leaves_at g.T.Leaf.kind)) gone
    ∙ block_goes_on g.T.Leaf.kind c.args.count more (map leaf (map g.T.Leaf.as_leaf c.args.items.now.items))
    (map leaf (map g.T.Leaf.as_leaf c.push_values.new.items.items)) (take size c.front-run.result.now) (g.S.Source.octets c.skip.new.self) [] c.requires.packed
    (length-take-le size c.front-run.result.now (omega (arith, c.if-block-run.true)) ∙ c.requires.whole) c.in_ok-push_values.ensures.read

pub returns-then-block-run-clause-behind : goal.returns-then-block-run-clause-behind
returns-then-block-run-clause-behind g c =
    stays_behind _ _ (record {
      taken = take (length c.args.block.now) c.front-run.result.now;
      parts = skipped_front (length c.args.block.now) c.front-run.result.now (g.S.Source.octets c.args.src.now) (g.S.Source.octets c.skip.new.self)
          c.skip.result
          (omega (arith, c.if-block-run.true)) c.front-run.ensures c.skip.ensures;
    })

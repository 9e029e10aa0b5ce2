use Rattle.std.specs.List.{flat_map}
use Rattle.std.proofs.Common.{take}
use Rattle.ua_wire.proofs.Appends.{on_err, then_some}
use Rattle.ua_nodes.specs.Read.{result_octets}
use Rattle.ua_nodes.proofs.table.NodeTable.append_items.Goals as goal

pub returns-in_err-append_item-clause-err : goal.returns-in_err-append_item-clause-err
returns-in_err-append_item-clause-err c =
    on_err c.from_residual.result (then_some c.args.out.now.items c.loop-item.out.items c.append_item.new.out.items
    (flat_map (result_octets c.args.self.now c.args.stamps c.args.moment) (take c.loop-item.item-index c.args.items.now))
    c.loop-item.invariant.are c.in_err-append_item.ensures.err)

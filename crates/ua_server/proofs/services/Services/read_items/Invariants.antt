use Rattle.std.proofs.Common.{◌≡◌, take, length, true}
use Rattle.std.specs.List.{list_all}
use Rattle.ua_variant.specs.Formats.{data_value_format}
use Rattle.ua_server.specs.Attributes.{read_answers}
use Rattle.ua_server.proofs.services.Services.read_items.Given as goal

abbrev pub invariant-loop-item : goal.invariant-loop-item
invariant-loop-item l =
    (l.results.items ≡ read_answers l.self.nodes (take l.item-index l.items) l.stamps l.moment)
    × (length l.results.items ≡ l.item-index)
    × (list_all data_value_format.encodable l.results.items ≡ true)

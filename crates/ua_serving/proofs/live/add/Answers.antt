use Rattle.ua_nodes.specs.Table.{variable_of}
use Rattle.ua_serving.proofs.live.add.Goals as goal

pub insert-requires : goal.insert-requires
insert-requires c = record { sound = (c.a_node_is_sound_where_it_passes.ensures c.args.node.id (variable_of c.args.node)).1 c.requires.sound }

use Rattle.ua_nodes.proofs.SoundTest.{passes_is}
use Rattle.ua_nodes.proofs.laws.a_node_is_sound_where_it_passes.Goals as goal

pub returns : goal.returns
returns c = passes_is

-- The server's time, as its node CurrentTime tells it (OPC 10000-5, 6.3.3).
use Rattle.std.specs.Prelude.{None}
use Rattle.ua_builtin.specs.NodeId.{node}
use Rattle.ua_builtin.specs.declared.date_time.DateTime.{DateTime}
use Rattle.ua_builtin.specs.declared.node_id.Identifier.TheVariants.{Numeric}
use Rattle.ua_builtin.specs.declared.node_id.NodeId.{NodeId}
use Rattle.ua_nodes.specs.declared.set.Reading.{Reading}
use Rattle.ua_variant.specs.declared.values.Scalar.TheVariants.{DateTime as moment_of}
use Rattle.ua_variant.specs.declared.values.Variant.TheVariants.{One}

-- its NodeId: i=2258
abbrev pub current_time_id : NodeId
current_time_id = node 0 (Numeric 2258)

-- its value at a time: that time, which is its source timestamp too, and no status
abbrev pub current_time : DateTime → Reading
current_time moment = record { value = One (moment_of moment); status = None; source_time = moment; source_picoseconds = None }
